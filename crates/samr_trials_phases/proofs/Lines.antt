-- What each rank tells and hears at a stage.
use Rattle.std.proofs.Common.{◌≡◌, ℕ, zero, suc, List, [], ◌∷◌, refl, sym, subst, arith}
use Rattle.std.specs.Prelude.{sum_by}
use Rattle.samr_stage.specs.Row.{told, heard, column, along}
use Rattle.samr_trials_phases.specs.Rows.{row}

pub tells : (number rank : ℕ) → rank ≡ 0 → (1, number) ∷ [] ≡ told (row number rank) 3
unfolding along row
tells number zero first = refl
tells number (suc rank) first = absurd (omega (arith, first))

pub is_quiet : (number rank : ℕ) → (rank ≡ 0 → ⊥) → [] ≡ told (row number rank) 3
unfolding along row
is_quiet number zero not_first = absurd (not_first refl)
is_quiet number (suc rank) not_first = refl

pub hears : (number rank : ℕ) → rank ≡ 1 → 1 ≡ sum_by (λ held. 1) (heard (column (row number) rank) 3)
unfolding along row
hears number zero second = absurd (omega (arith, second))
hears number (suc zero) second = refl
hears number (suc (suc rank)) second = absurd (omega (arith, second))

pub hears_none : (number rank : ℕ) → (rank ≡ 1 → ⊥) → 0 ≡ sum_by (λ held. 1) (heard (column (row number) rank) 3)
unfolding along row
hears_none number zero not_second = refl
hears_none number (suc zero) not_second = absurd (not_second refl)
hears_none number (suc (suc rank)) not_second = refl
