use Rattle.std.proofs.Common.{◌≡◌, ◌+◌, ◌-◌, ◌/◌, ◌<◌, cond, eqb, length, [], ◌∷◌, get_or, sym, ap, ◌∙◌, arith}
use Rattle.values.specs.Digits.{number_of}
use Rattle.cells.specs.Cells.{value_at, listed}
use Rattle.cells.specs.Proposals.{seat}
use Rattle.cells.proofs.Best.{values, values_some, proposed_best}
use Rattle.cells.proofs.Chunks.{number_at, chunk_value}
use Rattle.cells.proofs.Written.{listed_some}
use Rattle.cells.proofs.proposals.proposed_for.Goals as goal

pub returns : goal.returns
returns c =
    let part = c.args.proposals.now in
    let p = c.args.period in
    let k = length part / 8 in
    let few : p - 1 < k = omega (arith, c.requires.proposals, c.requires.some, c.requires.few) in
    let seats = c.as_chunks.ensures.front in
    let flag : get_or (get_or c.as_chunks.result.0.now (p - 1) []) 0 0 ≡ get_or part (seat p) 0 =
    ap (λ s. get_or (get_or s (p - 1) []) 0 0) seats
    ∙ number_at 8 k (p - 1) 0 (seat p) part few (omega arith) (omega arith) in
    let value : number_of c.from.result.limbs ≡ value_at part (seat p + 2) =
    ap number_of c.from.ensures ∙ ap (λ s. value_at (get_or s (p - 1) []) 2) seats
    ∙ chunk_value 8 k (p - 1) 2 (seat p + 2) part few (omega arith) (omega arith) in
    record {
      is = λ os h.
          ap listed c.then_some.ensures ∙ listed_some _ c.from.result
          ∙ (λ i. cond (eqb (flag i) 0) [] (value i ∷ []))
          ∙ sym (values_some (eqb (get_or part (seat p) 0) 0) _)
          ∙ ap values (h p c.requires.some c.requires.few)
          ∙ proposed_best p os;
    }
