use Rattle.std.proofs.Common.{◌≡◌, ℕ, ◌+◌, ◌-◌, List, Some, None, length, take, drop, add-one, arith, length-drop}
use Rattle.std.proofs.Common.{rules, tests}
use Rattle.std.proofs.lemmas.Iterator.{IsFirst-from_position, YieldsList-from_slice}
use Rattle.std.proofs.lemmas.List.{take_all}
use Rattle.text.proofs.Cuts.{one_piece, none_free, pieces_at}
use Rattle.text.proofs.words.cut.Goals as goal

pub returns-in_err-at : goal.returns-in_err-at
returns-in_err-at c =
    let sep = c.args.sep in
    let w : List ℕ = c.args.text.now in
    let none = IsFirst-from_position _ _ None (λ x. x ≡ sep) (λ x. x ≡ sep → ⊥) c.in_err-at.ensures.ran
    (YieldsList-from_slice w cc) (λ x q k. search (rules, tests)) (λ x q k. search (rules, tests)) in
    record { is = rw c.from_residual.ensures (one_piece sep w (none_free sep w none)) }

pub returns : goal.returns
returns c =
    let sep = c.args.sep in
    let w : List ℕ = c.args.text.now in
    let at = c.in_ok-at.at in
    let first = IsFirst-from_position _ _ (Some at) (λ x. x ≡ sep) (λ x. x ≡ sep → ⊥) c.in_ok-at.ensures.ran
    (YieldsList-from_slice w cc) (λ x q k. search (rules, tests)) (λ x q k. search (rules, tests)) in
    let rest : take (length w - (at + 1)) (drop (at + 1) w) ≡ drop (at + 1) w =
    take_all _ _ (simp length-drop (omega arith)) in
    record { is = rw (rest, add-one) (pieces_at sep at w first.2 first.0 (first.1 0)) }
