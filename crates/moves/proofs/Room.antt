-- Room for blocks.
use Rattle.std.proofs.Common.{◌≡◌, ℕ, suc, ◌-◌, ◌≤◌, false, List, length, Some, None, Option, sym, ap, ◌∙◌, arith}
use borrow.Rule.Slice.PartMut.{put_mid, put_same}
use Rattle.std.specs.List.{between}
use Rattle.std.proofs.lemmas.Bool.{cond-false}
use Rattle.protocol.specs.Vote.{Limits}
use Rattle.protocol.specs.Member.{is_in, add_block}
use Rattle.cells.specs.Blocks.{blocks_in, Added}
use Rattle.cells.proofs.Here.{length-blocks}
use Rattle.moves.specs.Parts.{proposals_end, blocks_end, part, of_blocks, PutBlock}
use Rattle.moves.proofs.Regions.{Written}

-- one that was not there is one more
one_more : (x : ℕ) (after before : List ℕ) (n m : ℕ) → blocks_in after m ≡ add_block x (blocks_in before n) →
    is_in x (blocks_in before n) ≡ false → m ≡ suc n
one_more x after before n m e absent =
    sym (length-blocks after m) ∙ ap length (e ∙ cond-false _ _ _ absent) ∙ ap suc (length-blocks before n)

-- the blocks' part written anew by adding a block to it
module _ (l : Limits) (n x : ℕ) (mem ys : List ℕ) (s e : ℕ) (start : s ≡ proposals_end l) (end : e ≡ blocks_end l)
    (sized : length ys ≡ e - s) (put : Written of_blocks l mem ys s e) where
  pub put_block : (r : Option ℕ) → Added x n (between s e mem) ys r → PutBlock l n x mem (put_mid s (e - s) mem ys) r
  put_block (Some m) added =
      let is : blocks_in ys m ≡ add_block x (blocks_in (part of_blocks l mem) n) =
      added.0 ∙ ap (λ (xs : List ℕ). add_block x (blocks_in xs n)) put.was in
      let few : m ≤ l.blocks = omega (arith, added.1, sized, start, end) in (
        ap (λ (xs : List ℕ). blocks_in xs m) put.here ∙ is,
        (few, λ absent. omega (arith, few, one_more x ys (part of_blocks l mem) n m is absent)),
      )
  put_block None full = (
    (
      sym (ap (λ (xs : List ℕ). is_in x (blocks_in xs n)) put.was) ∙ full.0,
      omega (arith, full.1.0, sized, start, end, ap length full.1.1),
    ),
    ap (put_mid s (e - s) mem) full.1.1 ∙ put_same s (e - s) mem,
  )
