-- The place of the first field that fails a test.
use Rattle.std.proofs.Common.{◌≡◌, ◌∙◌, sym, refl, ap, ℕ, ◌+◌, Bool, true, false, cond, not, List, [], ◌∷◌, map, filter, Option, Some, None, option_map}
use Rattle.std.specs.List.{enumerate_from, position_from}
use Rattle.samr_box.specs.declared.vector.IVec.{IVec}
use Rattle.samr_problem.specs.declared.field.Field.{Field}
use Rattle.samr_problem.specs.Faults.{is_nested, ghost_name, unnested}
use Rattle.samr_problem.specs.Refusals.{first, refusal_at, refusals}
use Rattle.samr_problem.proofs.Firsts.{first_map}

place_cond : {X : Type 0} (b : Bool) (n : ℕ) (x : X) (rest : List (ℕ × X)) (o : Option ℕ) → option_map (λ e. e.0) (first rest) ≡ o
    → option_map (λ (e : ℕ × X). e.0) (first (cond b ((n, x) ∷ rest) rest)) ≡ cond b (Some n) o
place_cond true n x rest o same = refl
place_cond false n x rest o same = same

first_place : {X : Type 0} (test : X → Bool) (n : ℕ) (xs : List X)
    → option_map (λ (e : ℕ × X). e.0) (first (filter (λ (e : ℕ × X). test e.1) (enumerate_from n xs))) ≡ position_from test n xs
first_place test n [] = refl
first_place {X} test n (x ∷ xs) = place_cond (test x) n x (filter (λ (e : ℕ × X). test e.1) (enumerate_from (n + 1) xs)) (position_from test (n + 1) xs) (first_place test (n + 1) xs)

twice : {A B C : Type 0} (g : B → C) (f : A → B) (o : Option A) → option_map (λ x. g (f x)) o ≡ option_map g (option_map f o)
twice g f None = refl
twice g f (Some x) = refl

pub first_unnested : (ratios : List IVec) (nest : IVec) (fields : List Field)
    → first (refusals 8 (unnested ratios nest fields)) ≡ option_map (λ n. refusal_at 8 (ghost_name n)) (position_from (λ f. not (is_nested ratios nest f)) 0 fields)
unfolding unnested
first_unnested ratios nest fields =
    let test : Field → Bool = λ f. not (is_nested ratios nest f) in
    let hits : List (ℕ × Field) = filter (λ e. test e.1) (enumerate_from 0 fields) in
    first_map (refusal_at 8) (map (λ (e : ℕ × Field). ghost_name e.0) hits)
    ∙ ap (option_map (refusal_at 8)) (first_map (λ (e : ℕ × Field). ghost_name e.0) hits)
    ∙ ap (option_map (refusal_at 8)) (twice ghost_name (λ (e : ℕ × Field). e.0) (first hits))
    ∙ ap (λ o. option_map (refusal_at 8) (option_map ghost_name o)) (first_place test 0 fields)
    ∙ sym (twice (refusal_at 8) ghost_name (position_from test 0 fields))
