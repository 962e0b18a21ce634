-- All boxes and cells that ranks tell of, and those of one level.
use Rattle.std.proofs.Common.{◌≡◌, ℕ, ◌+◌, ◌<◌, ◌≤◌, ◌^◌, refl, ap, inl, inr, arith, length, get_or, List, [], ◌∷◌, sum_by}
use Rattle.std.proofs.lemmas.Bool.{cases_lt, ltb-true}
use Rattle.std.specs.Prelude.{nat_lt, true}
use Rattle.std.proofs.lemmas.List.{get_or_past}
use Rattle.std.proofs.lemmas.List.Sums.{sum_by-cons, sum_by-le-sum_by, get_or-le-sum_by}
use Rattle.samr_box.specs.Corners.{cells_of}
use Rattle.samr_level.specs.Refs.{Owned}
use Rattle.samr_sched.specs.PlanRows.{capped}
use Rattle.samr_report.specs.declared.rows.LevelRows.{LevelRows}
use Rattle.samr_report.specs.declared.rows.StepRows.{StepRows}
use Rattle.samr_report.specs.declared.rows.RankRows.{RankRows}
use Rattle.samr_report.specs.RankRows.{no_level_rows, no_step_rows, step_told, level_told}
use Rattle.samr_report.specs.Bounds.{AreCountable, weight, level_weight, step_weight, rank_weight}

pub one_more : (cells n m : ℕ) → n ≡ capped cells → m ≡ capped (n + 1) → m ≡ capped (cells + 1)
one_more cells n m is then = omega arith

-- one of a list, or what stands for none, weighs no more than all
one_of : {X : Type 0} (f : X → ℕ) (xs : List X) (i : ℕ) (d : X) → f d ≡ 0 → f (get_or xs i d) ≤ sum_by f xs
one_of f xs i d none = elim (cases_lt i (length xs)) [
  | inl less ↦ get_or-le-sum_by f xs i d less
  | inr past ↦ let e = ap f (get_or_past xs i d past) in omega (arith, e, none)
]

level_in : (t l : ℕ) (q : RankRows) → level_weight (level_told t l q) ≤ rank_weight q
level_in t l q =
    let level = one_of (λ (v : LevelRows). level_weight v) (step_told t q).mesh l no_level_rows refl in
    let step = one_of (λ (s : StepRows). step_weight s) q.steps t no_step_rows refl in
    omega (arith, level, step)

-- boxes, and cells, weigh no more than both
boxes_in : (bs : List Owned) → length bs ≤ sum_by (λ b. weight b) bs
boxes_in [] = omega arith
boxes_in (b ∷ bs) = omega (arith, boxes_in bs, sum_by-cons (λ (b : Owned). weight b) b bs)

cells_within : (b : Owned) → cells_of b.bx ≤ weight b
cells_within b = omega arith

pub light_sum : (n sum : ℕ) → n ≡ capped sum → nat_lt n 9223372036854775808 ≡ true → sum < 2 ^ 63
light_sum n sum is light = let less = ltb-true n 9223372036854775808 light in omega (arith, is, less)

pub light_rows : (rows : List RankRows) → sum_by (λ q. rank_weight q) rows < 2 ^ 63 → AreCountable rows
light_rows rows few = record {
  boxes = λ t l.
      let all = sum_by-le-sum_by (λ (q : RankRows). length (level_told t l q).boxes) (λ (q : RankRows). rank_weight q) rows
      (λ q. let a = boxes_in (level_told t l q).boxes in let b = level_in t l q in omega (arith, a, b)) in
      omega (arith, all, few);
  cells = λ t l.
      let all = sum_by-le-sum_by (λ (q : RankRows). sum_by (λ b. cells_of b.bx) (level_told t l q).boxes) (λ (q : RankRows). rank_weight q) rows
      (λ q.
      let a = sum_by-le-sum_by (λ (b : Owned). cells_of b.bx) (λ (b : Owned). weight b) (level_told t l q).boxes (λ b. cells_within b) in
      let b = level_in t l q in
      omega (arith, a, b)) in
      omega (arith, all, few);
}
