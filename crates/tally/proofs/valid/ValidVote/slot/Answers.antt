use Rattle.std.proofs.Common.{◌≡◌, rules, refl, Ok, Err, Result, IsOk, sym, ap, ◌∙◌}
use Rattle.protocol.proofs.Ranges.{ranged}
use Rattle.tally.specs.Layout.{slot_in_range}
use Rattle.tally.specs.Valid.{valid_vote, vote_limits}
use Rattle.tally.proofs.Index.{slot_good}
use Rattle.tally.proofs.KindOf.{is_kind, no_kind}
use Rattle.tally.proofs.valid.ValidVote.slot.Goals as goal

is_ok : {A B : Type 0} (r : Result A B) → ((f : B) → r ≡ Err f → ⊥) → IsOk r
is_ok (Ok x) other = search rules
is_ok (Err f) other = absurd (other f refl)

pub unwrap-requires : goal.unwrap-requires
unwrap-requires c =
    let v = c.args.self in
    is_ok c.try_from.result
    (λ f e. no_kind _ f v.vote.kind (ranged (vote_limits v) (valid_vote v) v.in_range).kinds
    (sym c.try_from.ensures ∙ e))

pub invariant_of-result-2 : goal.invariant_of-result-2
invariant_of-result-2 c =
    let v = c.args.self in
    let kind = is_kind _ v.vote.kind c.unwrap.result (sym c.try_from.ensures ∙ c.unwrap.ensures) in
    record {
      in_range = ap (λ k. slot_in_range (vote_limits v) k v.vote.period v.vote.step) (sym kind)
          ∙ slot_good (vote_limits v) (valid_vote v) v.in_range;
    }
