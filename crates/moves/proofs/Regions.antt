-- A part of memory written anew, and the other parts.
use Rattle.std.proofs.Common.{◌≡◌, ℕ, ◌-◌, ◌≤◌, List, length, take, drop, sym, ap, ◌∙◌, subst, ap₂, arith}
use borrow.Rule.Slice.PartMut.{put_mid}
use Rattle.std.specs.List.{between}
use Rattle.std.proofs.lemmas.Slice.{between_is, take-put_mid_below, drop-put_mid, between-put_mid}
use Rattle.std.proofs.lemmas.Bool.{true≢false}
use Rattle.protocol.specs.Vote.{Limits}
use Rattle.moves.specs.Parts.{Part, part, of_header, of_votes, of_proposals, of_blocks, of_rest, votes_end}
use Rattle.moves.specs.Parts.{proposals_end}
use Rattle.moves.specs.Parts.{blocks_end, OnlyIn}

-- the numbers from s up to e written anew
module _ (mem ys : List ℕ) (s e : ℕ) (forward : s ≤ e) (within : e ≤ length mem) (sized : length ys ≡ e - s) where
  abbrev new : List ℕ
  new = put_mid s (e - s) mem ys

  pub put_here : (n m : ℕ) → s ≡ n → e ≡ m → between n m new ≡ ys
  put_here n m h k =
      subst (λ (x : ℕ). between x m new ≡ ys) h
      (subst (λ (x : ℕ). between s x new ≡ ys) k (between-put_mid s (e - s) mem ys e (omega arith) sized))

  put_before : (i j : ℕ) → j ≤ s → between i j new ≡ between i j mem
  put_before i j h =
      between_is new i j
      ∙ ap (drop i) (take-put_mid_below s (e - s) mem ys j h (omega arith))
      ∙ sym (between_is mem i j)

  put_rest : (i : ℕ) → e ≤ i → drop i new ≡ drop i mem
  put_rest i h = drop-put_mid s (e - s) mem ys i (omega arith) (omega arith) sized

  put_after : (i j : ℕ) → e ≤ i → between i j new ≡ between i j mem
  put_after i j h = ap (take (j - i)) (put_rest i h)

  module _ (l : Limits) where
    pub put_votes : s ≡ 64 → e ≡ votes_end l → OnlyIn of_votes l mem new
    put_votes h k of_header tt' = put_before 0 64 (omega arith)
    put_votes h k of_votes same = absurd (true≢false same)
    put_votes h k of_proposals tt' = put_after (votes_end l) (proposals_end l) (omega arith)
    put_votes h k of_blocks tt' = put_after (proposals_end l) (blocks_end l) (omega arith)
    put_votes h k of_rest tt' = put_rest (blocks_end l) (omega arith)

    pub put_proposals : s ≡ votes_end l → e ≡ proposals_end l → OnlyIn of_proposals l mem new
    put_proposals h k of_header tt' = put_before 0 64 (omega arith)
    put_proposals h k of_votes tt' = put_before 64 (votes_end l) (omega arith)
    put_proposals h k of_proposals same = absurd (true≢false same)
    put_proposals h k of_blocks tt' = put_after (proposals_end l) (blocks_end l) (omega arith)
    put_proposals h k of_rest tt' = put_rest (blocks_end l) (omega arith)

    pub put_blocks : s ≡ proposals_end l → e ≡ blocks_end l → OnlyIn of_blocks l mem new
    put_blocks h k of_header tt' = put_before 0 64 (omega arith)
    put_blocks h k of_votes tt' = put_before 64 (votes_end l) (omega arith)
    put_blocks h k of_proposals tt' = put_before (votes_end l) (proposals_end l) (omega arith)
    put_blocks h k of_blocks same = absurd (true≢false same)
    put_blocks h k of_rest tt' = put_rest (blocks_end l) (omega arith)

-- one of the parts written anew: it is what was written, and the others are as they were
pub record Written (p : Part) (l : Limits) (mem ys : List ℕ) (s e : ℕ) : Type 0 where
  pub was : between s e mem ≡ part p l mem
  pub here : part p l (put_mid s (e - s) mem ys) ≡ ys
  pub only : OnlyIn p l mem (put_mid s (e - s) mem ys)

module _ (l : Limits) (mem ys : List ℕ) (s e : ℕ) (within : e ≤ length mem) (sized : length ys ≡ e - s) where
  was_between : (n m : ℕ) → s ≡ n → e ≡ m → between s e mem ≡ between n m mem
  was_between n m start end = ap₂ (λ (i j : ℕ). between i j mem) start end

  pub written-votes : s ≡ 64 → e ≡ votes_end l → Written of_votes l mem ys s e
  written-votes start end = record {
    was = was_between 64 (votes_end l) start end;
    here = put_here mem ys s e (omega arith) within sized 64 (votes_end l) start end;
    only = put_votes mem ys s e (omega arith) within sized l start end;
  }

  pub written-proposals : s ≡ votes_end l → e ≡ proposals_end l → Written of_proposals l mem ys s e
  written-proposals start end = record {
    was = was_between (votes_end l) (proposals_end l) start end;
    here = put_here mem ys s e (omega arith) within sized (votes_end l) (proposals_end l) start end;
    only = put_proposals mem ys s e (omega arith) within sized l start end;
  }

  pub written-blocks : s ≡ proposals_end l → e ≡ blocks_end l → Written of_blocks l mem ys s e
  written-blocks start end = record {
    was = was_between (proposals_end l) (blocks_end l) start end;
    here = put_here mem ys s e (omega arith) within sized (proposals_end l) (blocks_end l) start end;
    only = put_blocks mem ys s e (omega arith) within sized l start end;
  }
