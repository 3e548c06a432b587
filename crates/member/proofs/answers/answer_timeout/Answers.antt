use Rattle.std.proofs.Common.{◌≡◌, ℕ, ◌≤◌, List, refl, ap, ◌∙◌, subst, subst₂, arith}
use Rattle.moves.specs.Events.{Ready}
use Rattle.moves.specs.Stands.{lim}
use Rattle.moves.specs.declared.state.Member.{Member}
use Rattle.moves.specs.declared.state.WithTime.{WithTime}
use Rattle.protocol.specs.Member.{timeout, place, does}
use Rattle.wire.specs.Meaning.{said_of}
use Rattle.moves.specs.Events.{Did, KeptParts}
use Rattle.moves.specs.Moves.{Same}
use Rattle.moves.specs.Stands.{Stands}
use Rattle.member.proofs.Deciding.{time_refused, time_taken, refuse, done}
use Rattle.member.proofs.answers.answer_timeout.Goals as goal

pub returns-in_default : goal.returns-in_default
unfolding place
returns-in_default c =
    let x : Member = c.args.member in
    record {
      is = λ m header stands ready.
          refuse x c.args.memory.now m timeout 4 _
          (time_refused (lim x) m (λ k. refl) ready.open_minded
          (λ h. c.in_default.ensures.is (omega (arith, h.0, stands.step), omega (arith, h.1, stands.period)))) refl
          header stands;
    }

pub returns : goal.returns
returns c =
    let x : Member = c.args.member in
    let y : Member = c.on_timeout-said.result.0 in
    let t : WithTime = c.in-Some.member in
    let mem : List ℕ = c.args.memory.now in
    let mid : List ℕ = c.on_timeout-said.new.memory in
    let same : t.member ≡ x = c.in-Some.ensures.is in
    record {
      is = λ m header stands ready.
          let did : Did y mid (said_of c.on_timeout-said.result.1) (does (lim x) m timeout) =
          subst (λ (z : Member). Stands z mem m → Ready (lim z) m →
          Did y mid (said_of c.on_timeout-said.result.1) (does (lim z) m timeout))
          same (c.on_timeout-said.ensures.is m) stands ready in
          done x y mem mid c.says.new.memory m timeout c.says.result _
          (time_taken (lim x) m (λ k. refl) ready.open_minded
          (subst₂ (λ (z : Member) (s : ℕ). s ≤ z.limits.steps) same (ap (λ (z : Member). z.step) same ∙ stands.step)
          t.few_steps)
          (subst₂ (λ (z : Member) (p : ℕ). p ≤ z.limits.periods) same
          (ap (λ (z : Member). z.period) same ∙ stands.period) t.few_periods))
          (subst (λ (z : Member). Same z y) same c.on_timeout-said.ensures.same) header
          (subst (λ (z : Member). KeptParts (lim z) mem mid) same c.on_timeout-said.ensures.only) (omega arith) did
          c.says.ensures.is c.says.ensures.carries c.says.ensures.only;
    }
