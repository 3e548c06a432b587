-- Counting the numbers that pass a test.
use Rattle.std.proofs.Common.{◌≡◌, ℕ, zero, suc, false, refl, arith}
use Rattle.protocol.specs.Network.{how_many}

pub how_many-none : (n : ℕ) → how_many n (λ i. false) ≡ 0
unfolding how_many
how_many-none zero = refl
how_many-none (suc n) = let h : _ = how_many-none n in omega arith
