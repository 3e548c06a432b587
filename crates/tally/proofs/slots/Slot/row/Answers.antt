use Rattle.std.proofs.Common.{◌+◌, ◌-◌, ◌/◌, length, get_or, drop, [], ap, ◌∙◌, arith}
use Rattle.std.proofs.lemmas.List.{get_or-take, get_or-drop}
use Rattle.tally.specs.Votes.{heard_at}
use Rattle.tally.proofs.Entries.{chunk_heard}
use Rattle.tally.proofs.slots.Slot.row.Goals as goal

pub returns-clause-entries : goal.returns-clause-entries
returns-clause-entries c =
    let s = c.args.self in
    let part = s.heard.votes.now in
    let m = s.heard.limits.members in
    let first = c.first-first.result in
    λ i low.
    ap (λ e. heard_at e 0)
    (get_or-take (first + m - first) (drop first c.as_chunks.result.0.now) i [] (omega arith)
    ∙ get_or-drop first c.as_chunks.result.0.now i []
    ∙ ap (λ es. get_or es (first + i) []) c.as_chunks.ensures.front)
    ∙ chunk_heard part (length part / 8) (first + i)
    (omega (arith, low, s.heard.size, c.first-first.ensures.within))
    ∙ ap (λ n. heard_at part (n + i)) c.first-first.ensures.is
