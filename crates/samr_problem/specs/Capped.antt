-- Lengths as the program holds them: up to 2^64 - 1.
use Rattle.std.specs.Prelude.{ℕ, ◌-◌, ◌^◌, ◌<◌, min, unsigned_abs}
use Rattle.samr_box.specs.declared.vector.IVec.{IVec}
use Rattle.samr_problem.specs.declared.lengths.Lengths.{Lengths}

abbrev pub capped : ℕ → ℕ
capped n = min n (2 ^ 64 - 1)

unfoldable pub capped_lengths : Lengths → Lengths
capped_lengths l = record { i = capped l.i; j = capped l.j; k = capped l.k }

-- each number is below that
pub record AreSmall (v : IVec) : Type 0 where
  pub i : unsigned_abs v.i < 2 ^ 64 - 1
  pub j : unsigned_abs v.j < 2 ^ 64 - 1
  pub k : unsigned_abs v.k < 2 ^ 64 - 1
