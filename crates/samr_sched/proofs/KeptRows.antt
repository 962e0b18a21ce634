-- Lists of rows of which those with cells are kept, and numbered lists made from numbered lists.
use Rattle.std.proofs.Common.{◌≡◌, ℕ, ◌+◌, refl, sym, ap, ◌∙◌, inl, inr}
use Rattle.std.proofs.lemmas.Bool.{cond-false}
use Rattle.std.specs.Prelude.{Bool, true, false, cond, List, [], ◌∷◌, ◌++◌, map, filter}
use Rattle.std.specs.List.{flat_map, enumerate_from}
use Rattle.samr_box.specs.declared.vector.IVec.{IVec}
use Rattle.samr_box.specs.Corners.{Corners, grown}
use Rattle.samr_box.specs.Space.{Space}
use Rattle.samr_box.specs.Lists.{Member}
use Rattle.samr_level.specs.Refs.{Owned, Link}
use Rattle.samr_level.proofs.Steps.{filter_append}
use Rattle.samr_sched.specs.declared.plan.Request.{Request}
use Rattle.samr_sched.specs.declared.plan.FieldPlan.{FieldPlan}
use Rattle.samr_sched.specs.declared.row.Row.{Row}
use Rattle.samr_sched.specs.PlanRows.{has_cells, asked_edges, copy_by, coarse_by, outside_by, field_rows_by}

pub filter_three : {X : Type 0} (p : X → Bool) (xs ys zs : List X) → filter p (xs ++ ys ++ zs) ≡ filter p xs ++ filter p ys ++ filter p zs
filter_three {X} p xs ys zs = filter_append p (xs ++ ys) zs ∙ ap (λ (l : List X). l ++ filter p zs) (filter_append p xs ys)

-- what is left out before has nothing to keep
pub kept_same : {X Y : Type 0} (has : Y → Bool) (keep : X → Bool) (g h : X → Y) (xs : List X) → ((x : X) → Member x xs → keep x ≡ true → g x ≡ h x)
    → ((x : X) → Member x xs → keep x ≡ false → has (h x) ≡ false) → filter has (map g (filter keep xs)) ≡ filter has (map h xs)
kept_same has keep g h [] same none = refl
kept_same {X} {Y} has keep g h (x ∷ xs) same none =
    by_test (keep x) refl (kept_same has keep g h xs (λ y m. same y (inr m)) (λ y m. none y (inr m)))
  where
    by_test : (t : Bool) → keep x ≡ t → filter has (map g (filter keep xs)) ≡ filter has (map h xs)
        → filter has (map g (cond t (x ∷ filter keep xs) (filter keep xs))) ≡ cond (has (h x)) (h x ∷ filter has (map h xs)) (filter has (map h xs))
    by_test true e rest =
        ap (λ (y : Y). cond (has y) (y ∷ filter has (map g (filter keep xs))) (filter has (map g (filter keep xs)))) (same x (inl refl) e)
        ∙ ap (λ (l : List Y). cond (has (h x)) (h x ∷ l) l) rest
    by_test false e rest =
        rest ∙ sym (cond-false (has (h x)) (h x ∷ filter has (map h xs)) (filter has (map h xs)) (none x (inl refl) e))

pub flat_map_map : {X Y Z : Type 0} (g : Y → List Z) (f : X → Y) (k : X → List Z) (xs : List X) → ((x : X) → Member x xs → g (f x) ≡ k x)
    → flat_map g (map f xs) ≡ flat_map k xs
flat_map_map g f k [] same = refl
flat_map_map {X} {Y} {Z} g f k (x ∷ xs) same =
    ap (λ (l : List Z). l ++ flat_map g (map f xs)) (same x (inl refl)) ∙ ap (λ (l : List Z). k x ++ l) (flat_map_map g f k xs (λ y m. same y (inr m)))

-- a list made from a numbered list has the same numbers
pub numbered_again : {X Y Z : Type 0} (g : ℕ × Y → List Z) (f : ℕ × X → Y) (k : ℕ × X → List Z) (n : ℕ) (xs : List X)
    → ((p : ℕ × X) → Member p (enumerate_from n xs) → g (p.0, f p) ≡ k p)
    → flat_map g (enumerate_from n (map f (enumerate_from n xs))) ≡ flat_map k (enumerate_from n xs)
numbered_again g f k n [] same = refl
numbered_again {X} {Y} {Z} g f k n (x ∷ xs) same =
    ap (λ (l : List Z). l ++ flat_map g (enumerate_from (n + 1) (map f (enumerate_from (n + 1) xs)))) (same (n, x) (inl refl))
    ∙ ap (λ (l : List Z). k (n, x) ++ l) (numbered_again g f k (n + 1) xs (λ p m. same p (inr m)))

-- the rows of a field from what its function found
pub rows_made : (frame below : Space) (step : IVec) (base : Owned) (field : ℕ) (p : FieldPlan) (bx wide : Corners) (copied : List Link) (near : List Row)
    (asked : List Request) (edges edges1 : List Link) (rest : List Corners) (coarse coarse1 joined : List Row) (inside : List Corners) (beyond : Row)
    (all all1 kept : List Row)
    → bx ≡ base.bx → wide ≡ grown bx p.width → copied ≡ p.copies → near ≡ map (λ e. copy_by frame field base wide e) copied
    → asked ≡ p.asked → edges ≡ asked_edges asked → rest ≡ p.rest → edges1 ≡ edges
    → coarse ≡ map (λ e. coarse_by below step field base rest e) edges1 → coarse1 ≡ coarse → joined ≡ near ++ coarse1
    → inside ≡ p.inside → beyond ≡ outside_by field base wide inside → all ≡ joined ++ beyond ∷ [] → all1 ≡ all
    → kept ≡ filter (λ row. has_cells row) all1
    → kept ≡ field_rows_by frame below step base field p
unfolding field_rows_by
rows_made frame below step base field p bx wide copied near asked edges edges1 rest coarse coarse1 joined inside beyond all all1 kept b w c n a e r e1 d d1 j i o l l1 k =
    rw (k, l1, l, o, i, j, d1, d, e1, r, e, a, n, c, w, b) refl
