use Rattle.std.proofs.Common.{◌≡◌, List, [], ◌∷◌, sym, refl, ap, ◌∙◌}
use Rattle.protocol.specs.Vote.{Vote}
use Rattle.wire.specs.Bytes.{votes_in}
use Rattle.wire.specs.Meaning.{vote_of}
use Rattle.wire.proofs.AnswerIn.{says_at}
use Rattle.wire.proofs.answers.read_says.Goals as goal

pub returns-in_ok-reaches-in-0 : goal.returns-in_ok-reaches-in-0
unfolding votes_in
returns-in_ok-reaches-in-0 c =
    let bs = c.args.bytes.now in
    let vs : List Vote = [] in
    let votes : vs ≡ votes_in 9 0 bs = refl in
    let count = sym c.in-0.is ∙ c.read_number.ensures.is in
    let long = c.in_ok-reaches-in-0.ensures.is in
    record { is = says_at bs 0 vs _ _ refl count long votes c.read_agreed.ensures.is }

pub returns-in_ok-reaches-in-1 : goal.returns-in_ok-reaches-in-1
unfolding votes_in
returns-in_ok-reaches-in-1 c =
    let bs = c.args.bytes.now in
    let vs : List Vote = vote_of c.read_vote-vote.result ∷ [] in
    let votes : vs ≡ votes_in 9 1 bs = ap (λ v. v ∷ []) c.read_vote-vote.ensures.is in
    let count = sym c.in-1.is ∙ c.read_number.ensures.is in
    let long = c.in_ok-reaches-in-1.ensures.is in
    record { is = says_at bs 1 vs _ _ refl count long votes c.read_agreed-in-1.ensures.is }

pub returns-in_ok-reaches-in-2 : goal.returns-in_ok-reaches-in-2
unfolding votes_in
returns-in_ok-reaches-in-2 c =
    let bs = c.args.bytes.now in
    let vs : List Vote = vote_of c.read_vote-first.result ∷ vote_of c.read_vote-second.result ∷ [] in
    let votes : vs ≡ votes_in 9 2 bs =
    λ i. c.read_vote-first.ensures.is i ∷ c.read_vote-second.ensures.is i ∷ [] in
    let count = sym c.in-2.is ∙ c.read_number.ensures.is in
    let long = c.in_ok-reaches-in-2.ensures.is in
    record { is = says_at bs 2 vs _ _ refl count long votes c.read_agreed-in-2.ensures.is }
