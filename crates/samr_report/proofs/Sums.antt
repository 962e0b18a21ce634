-- Sums of sums, and the last step at which a mesh is told.
use Rattle.std.proofs.Common.{◌≡◌, ◌∙◌, ℕ, zero, suc, ◌+◌, ◌-◌, ◌*◌, ◌/◌, ◌%◌, ◌<◌, ◌≤◌, Bool, true, false, refl, ap, sym, inl, inr, arith, List, [], ◌∷◌, sum_by, nat_lt, if◌then◌else◌, ◌&&◌, ◌||◌, ◌==◌}
use Rattle.std.proofs.Math.Nat.{mul-add-mod_self_left, mod-eq_of_lt}
use Rattle.std.proofs.lemmas.Bool.{eq-eqb}
use Rattle.std.proofs.lemmas.Bool.Decides.{nat_tests}
use Rattle.std.proofs.lemmas.List.Sums.{sum_by-cons}
use Rattle.samr_box.specs.Lists.{Member}
use Rattle.samr_level.specs.Refs.{Owned}
use Rattle.samr_problem.specs.Fields.{Fields}
use Rattle.samr_problem.specs.Problems.{IsProblem}
use Rattle.samr_mesh.specs.Meshes.{is_due}
use Rattle.samr_hierarchy.specs.Meshes.{AreMeshes}
use Rattle.samr_report.specs.Report.{is_told}
use Rattle.samr_report.specs.Summaries.{last_told}

pub sum_same : {X : Type 0} (f g : X → ℕ) (xs : List X) → ((x : X) → Member x xs → f x ≡ g x) → sum_by f xs ≡ sum_by g xs
sum_same f g [] same = refl
sum_same f g (x ∷ xs) same =
    let here = same x (inl refl) in
    let rest = sum_same f g xs (λ y m. same y (inr m)) in
    sum_by-cons f x xs ∙ ap (λ n. n + sum_by f xs) here ∙ ap (λ n. g x + n) rest ∙ sym (sum_by-cons g x xs)

pub sum_plus : {X : Type 0} (f g : X → ℕ) (xs : List X) → sum_by (λ x. f x + g x) xs ≡ sum_by f xs + sum_by g xs
sum_plus f g [] = refl
sum_plus f g (x ∷ xs) =
    let all = sum_by-cons (λ x. f x + g x) x xs in
    let left = sum_by-cons f x xs in
    let right = sum_by-cons g x xs in
    let rest = sum_plus f g xs in
    omega (arith, all, left, right, rest)

pub sum_none : {X : Type 0} (xs : List X) → sum_by (λ x. 0) xs ≡ 0
sum_none [] = refl
sum_none {X} (x ∷ xs) = let all = sum_by-cons {X = X} (λ x. 0) x xs in let rest = sum_none xs in omega (arith, all, rest)

pub sum_swap : {X Y : Type 0} (f : X → Y → ℕ) (xs : List X) (ys : List Y) → sum_by (λ x. sum_by (λ y. f x y) ys) xs ≡ sum_by (λ y. sum_by (λ x. f x y) xs) ys
sum_swap f [] ys = sym (sum_none ys)
sum_swap f (x ∷ xs) ys =
    sum_by-cons (λ x. sum_by (λ y. f x y) ys) x xs ∙ ap (λ n. sum_by (λ y. f x y) ys + n) (sum_swap f xs ys)
    ∙ sym (sum_plus (λ y. f x y) (λ y. sum_by (λ x. f x y) xs) ys)
    ∙ sum_same (λ y. f x y + sum_by (λ x. f x y) xs) (λ y. sum_by (λ x. f x y) (x ∷ xs)) ys (λ y m. sym (sum_by-cons (λ x. f x y) x xs))

-- the last step that a number divides, at most so far
divided : (t g : ℕ) → 0 < g → (t - t % g) % g ≡ 0
divided t g some =
    let e : t - t % g ≡ g * (t / g) + 0 = omega arith in
    ap (λ n. n % g) e ∙ mul-add-mod_self_left g (t / g) 0 ∙ mod-eq_of_lt some

between : (t g k : ℕ) → 0 < g → suc ((t - t % g) + k) ≤ t → (suc ((t - t % g) + k)) % g ≡ suc k
between t g k some most =
    let below : t % g < g = omega arith in
    let e : suc ((t - t % g) + k) ≡ g * (t / g) + suc k = omega arith in
    let small : suc k < g = omega arith in
    ap (λ n. n % g) e ∙ mul-add-mod_self_left g (t / g) (suc k) ∙ mod-eq_of_lt small

-- a mesh is told then, and no regrid is due after it
by_levels : (p : Fields) (many : Bool) → nat_lt 1 p.levels ≡ many → 0 < p.regrid → is_told p (if many then p.steps - p.steps % p.regrid else 0) ≡ true
by_levels p true is some =
    let e = eq-eqb ((p.steps - p.steps % p.regrid) % p.regrid) 0 (divided p.steps p.regrid some) in
    due_told ((p.steps - p.steps % p.regrid) == 0) (nat_lt 1 p.levels) ((p.steps - p.steps % p.regrid) % p.regrid == 0) is e
  where
    due_told : (a b c : Bool) → b ≡ true → c ≡ true → (a || (b && c)) ≡ true
    due_told true b c is e = refl
    due_told false true true is e = refl
    due_told false true false is e = cc
    due_told false false c is e = cc
by_levels p false is some = refl

pub told_then : (p : Fields) → IsProblem p → is_told p (last_told p) ≡ true
told_then p is = by_levels p (nat_lt 1 p.levels) refl is.regrid.above

not_zero : (n k : ℕ) → n ≡ suc k → (n == 0) ≡ false
not_zero n k e = grind (arith, nat_tests)

none_due : (p : Fields) (many : Bool) (k : ℕ) → nat_lt 1 p.levels ≡ many → 0 < p.regrid → suc ((if many then p.steps - p.steps % p.regrid else 0) + k) ≤ p.steps
    → is_due p (suc ((if many then p.steps - p.steps % p.regrid else 0) + k)) ≡ false
none_due p true k is some most =
    let e = between p.steps p.regrid k some most in
    not_due (nat_lt 1 p.levels) (suc ((p.steps - p.steps % p.regrid) + k) % p.regrid) k e
  where
    not_due : (b : Bool) (n k : ℕ) → n ≡ suc k → (b && (n == 0)) ≡ false
    not_due true n k e = not_zero n k e
    not_due false n k e = refl
none_due p false k is some most = ap (λ (b : Bool). b && (suc (0 + k) % p.regrid == 0)) is

pub kept_since : (p : Fields) (ranks : ℕ) (mesh : ℕ → List (List Owned)) → IsProblem p → AreMeshes p ranks mesh → (k : ℕ) → last_told p + k ≤ p.steps
    → mesh (last_told p + k) ≡ mesh (last_told p)
kept_since p ranks mesh is are zero most = let e : last_told p + 0 ≡ last_told p = omega arith in ap mesh e
kept_since p ranks mesh is are (suc k) most =
    let e : last_told p + suc k ≡ suc (last_told p + k) = omega arith in
    let last : suc (last_told p + k) ≤ p.steps = omega (arith, most, e) in
    ap mesh e ∙ are.kept (last_told p + k) (none_due p (nat_lt 1 p.levels) k refl is.regrid.above last) ∙ kept_since p ranks mesh is are k (omega (arith, last))

told_before : (many : Bool) (t g : ℕ) → (if many then t - t % g else 0) ≤ t
told_before true t g = omega arith
told_before false t g = omega arith

pub last_within : (p : Fields) → last_told p ≤ p.steps
last_within p = told_before (nat_lt 1 p.levels) p.steps p.regrid

pub kept_last : (p : Fields) (ranks : ℕ) (mesh : ℕ → List (List Owned)) → IsProblem p → AreMeshes p ranks mesh → mesh (last_told p) ≡ mesh p.steps
kept_last p ranks mesh is are =
    let most = last_within p in
    let e : last_told p + (p.steps - last_told p) ≡ p.steps = omega (arith, most) in
    sym (kept_since p ranks mesh is are (p.steps - last_told p) (omega (arith, e))) ∙ ap mesh e
