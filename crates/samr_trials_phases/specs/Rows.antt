-- The letters of each stage: the first of three ranks tells the second a number.
use Rattle.std.specs.Prelude.{◌≡◌, ◌≢◌, ℕ, zero, suc, ◌<◌, List, [], ◌∷◌, Bool, true, cond, nat_eq, nat_lt, Option, Some, None, is_some, IsTrue, refl}
use Rattle.std.proofs.Common.{arith}
use Rattle.std.proofs.lemmas.Bool.{false≢true}

unfoldable pub row : ℕ → ℕ → ℕ → Option ℕ
row number zero (suc zero) = Some number
row number from to = None

-- and the third visits no stage
unfoldable pub visits : ℕ → Bool
visits rank = nat_lt rank 2

-- who tells and who is told
pub record IsTold (from to : ℕ) : Type 0 where
  pub from_first : from ≡ 0
  pub to_second : to ≡ 1

pub is_told : (number from to : ℕ) → IsTrue (is_some (row number from to)) → IsTold from to
unfolding row
is_told number zero (suc zero) there = record { from_first = refl; to_second = refl }
is_told number zero zero there = absurd (false≢true there)
is_told number zero (suc (suc to)) there = absurd (false≢true there)
is_told number (suc from) to there = absurd (false≢true there)

pub visitors : (number from to : ℕ) → IsTrue (is_some (row number from to)) → ((from < 3) × (visits from ≡ true)) × ((to < 3) × (visits to ≡ true))
unfolding row visits
visitors number zero (suc zero) there = ((omega arith, refl), (omega arith, refl))
visitors number zero zero there = absurd (false≢true there)
visitors number zero (suc (suc to)) there = absurd (false≢true there)
visitors number (suc from) to there = absurd (false≢true there)

pub row_between : (number from to : ℕ) → IsTrue (is_some (row number from to)) → (from < 3) × (to < 3) × (from ≢ to)
row_between number from to there =
    let is = is_told number from to there in
    (omega (arith, is.from_first), omega (arith, is.to_second), λ same. omega (arith, is.from_first, is.to_second, same))

pub one_weighs : 0 < 1
one_weighs = omega arith
