-- The quotas of all ranks add up.
use Rattle.std.proofs.Common.{◌≡◌, ℕ, zero, suc, ◌+◌, ◌*◌, ◌/◌, ◌<◌, ◌≤◌, ap, ◌∙◌, arith, add-one}
use Rattle.std.proofs.Math.Nat.{mul-le-mul_left, mul-div_cancel, div-mul-le_self, le-div_iff_mul-le}
use Rattle.samr_bits.specs.Sums.{sum_below}
use Rattle.samr_load.specs.Balanced.{quota_of}

div_le : (a c n : ℕ) → 0 < n → a ≤ c → a / n ≤ c / n
div_le a c n some h =
    let part : a / n * n ≤ c = omega (arith, div-mul-le_self a n, h) in
    (le-div_iff_mul-le some).1 part

pub quotas_below : (cells ranks : ℕ) → 0 < ranks → (n : ℕ) → sum_below (quota_of cells ranks) n ≡ cells * n / ranks
quotas_below cells ranks some zero =
    let none : 0 ≡ 0 / ranks = omega arith in
    let product : cells * 0 ≡ 0 = omega arith in
    rw product none
quotas_below cells ranks some (suc n) =
    let step = div_le (cells * n) (cells * (n + 1)) ranks some (mul-le-mul_left cells (omega arith)) in
    let last : cells * (n + 1) / ranks ≡ cells * suc n / ranks = ap (λ k. cells * k / ranks) (add-one n) in
    omega (arith, quotas_below cells ranks some n, step, last)

pub quotas_all : (cells ranks : ℕ) → 0 < ranks → sum_below (quota_of cells ranks) ranks ≡ cells
quotas_all cells ranks some = quotas_below cells ranks some ranks ∙ mul-div_cancel cells some
