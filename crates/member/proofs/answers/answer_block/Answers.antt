use Rattle.std.proofs.Common.{◌≡◌, ℕ, List, length, sym, refl, ap, ◌∙◌, subst, arith}
use Rattle.moves.specs.Stands.{lim}
use Rattle.moves.specs.declared.state.Member.{Member}
use Rattle.protocol.specs.Member.{Event, got_block, is_in, place}
use Rattle.values.specs.declared.value.Value.{Value}
use Rattle.values.specs.Values.{value_of}
use Rattle.values.proofs.Limbs.{value_below}
use Rattle.wire.specs.declared.answers.Answer.TheVariants.{Refused}
use Rattle.wire.specs.declared.answers.Refusal.TheVariants.{NoMoreBlocks}
use Rattle.cells.proofs.Here.{length-blocks}
use Rattle.member.specs.Answered.{Answered}
use Rattle.moves.specs.Moves.{OfMember}
use Rattle.moves.specs.Parts.{part, of_blocks}
use Rattle.moves.specs.Stands.{Stands}
use Rattle.member.proofs.Deciding.{block_refused, block_taken, refuse, done}
use Rattle.member.proofs.answers.answer_block.Goals as goal

-- as many blocks as the member counts
counted : (x : Member) (mem : List ℕ) (m : OfMember) → Stands x mem m → length m.blocks ≡ x.blocks
counted x mem m h = ap length (sym h.blocks) ∙ length-blocks (part of_blocks (lim x) mem) x.blocks

pub returns-in_default : goal.returns-in_default
unfolding place
returns-in_default c =
    let x : Member = c.args.member in
    let v : Value = c.args.value in
    let full = c.in_default.ensures.is in
    let mem : List ℕ = c.args.memory.now in
    let e : Event = got_block (value_of v) in
    record {
      is = λ m header stands ready.
          subst (λ (new : List ℕ). Answered x mem new m e (Refused NoMoreBlocks 0)) (sym full.1)
          (refuse x mem m e 5 (Refused NoMoreBlocks 0)
          (block_refused (lim x) m (λ k. refl) ready.open_minded (value_of v) (value_below v.limbs v.four v.fit)
          (ap (is_in (value_of v)) (sym stands.blocks) ∙ full.0.0)
          (omega (arith, counted x mem m stands, full.0.1))) refl header stands);
    }

pub returns : goal.returns
returns c =
    let x : Member = c.args.member in
    let y : Member = c.in-Some.after in
    let v : Value = c.args.value in
    let mid : List ℕ = c.on_block.new.memory in
    let room = c.in-Some.ensures.is in
    record {
      is = λ m header stands ready.
          done x y c.args.memory.now mid c.says.new.memory m (got_block (value_of v)) c.says.result _
          (block_taken (lim x) m (λ k. refl) ready.open_minded (value_of v) (value_below v.limbs v.four v.fit)
          (λ h. omega (
            arith,
            counted x c.args.memory.now m stands,
            room.0
                (ap (is_in (value_of v)) stands.blocks ∙ h),
          )))
          c.in-Some.ensures.same header c.on_block.ensures.only (omega arith) (room.1 m stands ready)
          c.says.ensures.is c.says.ensures.carries c.says.ensures.only;
    }
