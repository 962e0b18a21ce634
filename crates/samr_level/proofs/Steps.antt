-- Steps of loops that go through a list and add to another.
use Rattle.std.proofs.Common.{◌≡◌, ℕ, ◌+◌, ◌<◌, refl, sym, ap, ◌∙◌, length, get_or, take, append_assoc}
use Rattle.std.proofs.lemmas.Bool.{cond-true, cond-false}
use Rattle.std.proofs.lemmas.List.Concat.{flat_map-append}
use Rattle.std.specs.Prelude.{Bool, true, false, List, [], ◌∷◌, ◌++◌, map, filter, cond}
use Rattle.std.specs.List.{flat_map}
use Rattle.samr_boxlist.proofs.Steps.{take_step}

append_nil : {X : Type 0} (xs : List X) → xs ++ [] ≡ xs
append_nil [] = refl
append_nil (x ∷ xs) = ap (λ l. x ∷ l) (append_nil xs)

pub map_append : {X Y : Type 0} (f : X → Y) (xs ys : List X) → map f (xs ++ ys) ≡ map f xs ++ map f ys
map_append f [] ys = refl
map_append f (x ∷ xs) ys = ap (λ l. f x ∷ l) (map_append f xs ys)

pub filter_append : {X : Type 0} (p : X → Bool) (xs ys : List X) → filter p (xs ++ ys) ≡ filter p xs ++ filter p ys
filter_append p [] ys = refl
filter_append {X} p (x ∷ xs) ys = by_test (p x) (filter_append p xs ys)
  where
    by_test : (t : Bool) → filter p (xs ++ ys) ≡ filter p xs ++ filter p ys
        → cond t (x ∷ filter p (xs ++ ys)) (filter p (xs ++ ys)) ≡ cond t (x ∷ filter p xs) (filter p xs) ++ filter p ys
    by_test true e = ap (λ l. x ∷ l) e
    by_test false e = e

module _ {X : Type 0} (xs : List X) (i : ℕ) (x : X) (more : i < length xs) (is : x ≡ get_or xs i x) where
  pub flat_map_on : {Y : Type 0} (f : X → List Y) (before out out' : List Y)
      → out ≡ before ++ flat_map f (take i xs) → out' ≡ out ++ f x → out' ≡ before ++ flat_map f (take (i + 1) xs)
  flat_map_on f before out out' p q =
      q ∙ ap (λ l. l ++ f x) p ∙ append_assoc before (flat_map f (take i xs)) (f x)
      ∙ ap (λ l. before ++ (flat_map f (take i xs) ++ l)) (sym (append_nil (f x)))
      ∙ ap (λ l. before ++ l) (sym (flat_map-append f (take i xs) (x ∷ [])))
      ∙ ap (λ l. before ++ flat_map f l) (sym (take_step xs i x more is))

  pub map_on : {Y : Type 0} (f : X → Y) (before out out' : List Y)
      → out ≡ before ++ map f (take i xs) → out' ≡ out ++ f x ∷ [] → out' ≡ before ++ map f (take (i + 1) xs)
  map_on f before out out' p q =
      q ∙ ap (λ l. l ++ f x ∷ []) p ∙ append_assoc before (map f (take i xs)) (f x ∷ [])
      ∙ ap (λ l. before ++ l) (sym (map_append f (take i xs) (x ∷ [])))
      ∙ ap (λ l. before ++ map f l) (sym (take_step xs i x more is))

  -- the members made from a list that pass a test, one more or none
  picked : {Y : Type 0} (p : Y → Bool) (f : X → Y) → filter p (map f (take (i + 1) xs)) ≡ filter p (map f (take i xs)) ++ filter p (f x ∷ [])
  picked p f =
      ap (λ l. filter p (map f l)) (take_step xs i x more is)
      ∙ ap (filter p) (map_append f (take i xs) (x ∷ []))
      ∙ filter_append p (map f (take i xs)) (f x ∷ [])

  pub picked_on : {Y : Type 0} (p : Y → Bool) (f : X → Y) (before out out' : List Y)
      → out ≡ before ++ filter p (map f (take i xs)) → p (f x) ≡ true → out' ≡ out ++ f x ∷ [] → out' ≡ before ++ filter p (map f (take (i + 1) xs))
  picked_on p f before out out' so_far t step =
      step ∙ ap (λ l. l ++ f x ∷ []) so_far ∙ append_assoc before (filter p (map f (take i xs))) (f x ∷ [])
      ∙ ap (λ l. before ++ (filter p (map f (take i xs)) ++ l)) (sym (cond-true (p (f x)) (f x ∷ []) [] t))
      ∙ ap (λ l. before ++ l) (sym (picked p f))

  pub picked_off : {Y : Type 0} (p : Y → Bool) (f : X → Y) (before out out' : List Y)
      → out ≡ before ++ filter p (map f (take i xs)) → p (f x) ≡ false → out' ≡ out → out' ≡ before ++ filter p (map f (take (i + 1) xs))
  picked_off p f before out out' so_far t step =
      step ∙ so_far
      ∙ ap (λ l. before ++ l)
      (sym (picked p f ∙ ap (λ l. filter p (map f (take i xs)) ++ l) (cond-false (p (f x)) (f x ∷ []) [] t) ∙ append_nil (filter p (map f (take i xs)))))
