use Rattle.std.proofs.Common.{rules, MatchOption, Option, Some, None, eqb, sym, ◌∙◌}
use Rattle.std.proofs.lemmas.Bool.{and_right}
use Rattle.tally.proofs.Heard.{not_heard}
use Rattle.wire.specs.Meaning.{vote_of}
use Rattle.moves.specs.Stands.{lim}
use Rattle.member.proofs.looks.has_said.Goals as goal

both : {V : Type 0} {A C R : Type 0} {B D : V → Type 0} (o : Option V) → MatchOption o A B → MatchOption o C D →
    (A → C → R) → ((v : V) → B v → D v → R) → R
both None a c f g = f a c
both (Some v) b d f g = g v b d

pub returns-then-vote-member : goal.returns-then-vote-member
returns-then-vote-member c = record {
  is = λ m h.
      both c.new.result c.new.ensures.is c.is_some_and.ensures
      (λ bad none.
      none
      ∙ sym (and_right (eqb c.args.vote.from m.me) _
      (not_heard (lim c.args.member) (vote_of c.args.vote) m.votes h.votes.in_range bad)))
      (λ v range e. search rules);
}
