-- The first of a list that was made from others.
use Rattle.std.proofs.Common.{◌≡◌, Bool, true, false, cond, List, [], ◌∷◌, ◌++◌, map, filter, Option, Some, option_map, refl}
use Rattle.std.specs.List.{find}
use Rattle.samr_problem.specs.Findings.{or_else}
use Rattle.samr_problem.specs.Refusals.{first}

pub first_map : {A B : Type 0} (f : A → B) (xs : List A) → first (map f xs) ≡ option_map f (first xs)
first_map f [] = refl
first_map f (x ∷ xs) = refl

first_cond : {A : Type 0} (b : Bool) (x : A) (xs : List A) (o : Option A) → first xs ≡ o → first (cond b (x ∷ xs) xs) ≡ cond b (Some x) o
first_cond true x xs o same = refl
first_cond false x xs o same = same

pub first_filter : {A : Type 0} (test : A → Bool) (xs : List A) → first (filter test xs) ≡ find test xs
first_filter test [] = refl
first_filter test (x ∷ xs) = first_cond (test x) x (filter test xs) (find test xs) (first_filter test xs)

cond_map : {A B : Type 0} (f : A → B) (b : Bool) (x : A) (o : Option A) (p : Option B) → p ≡ option_map f o → cond b (Some (f x)) p ≡ option_map f (cond b (Some x) o)
cond_map f true x o p same = refl
cond_map f false x o p same = same

pub find_map : {A B : Type 0} (test : B → Bool) (f : A → B) (xs : List A) → find test (map f xs) ≡ option_map f (find (λ x. test (f x)) xs)
find_map test f [] = refl
find_map test f (x ∷ xs) = cond_map f (test (f x)) x (find (λ y. test (f y)) xs) (find test (map f xs)) (find_map test f xs)

-- the first of one list behind another
pub first_append : {A : Type 0} (xs ys : List A) → first (xs ++ ys) ≡ or_else (first xs) (first ys)
first_append [] ys = refl
first_append (x ∷ xs) ys = refl
