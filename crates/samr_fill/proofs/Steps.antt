-- Steps of loops over numbered lists.
use Rattle.std.proofs.Common.{◌≡◌, ℕ, zero, suc, ◌+◌, ◌<◌, ◌≤◌, refl, sym, ap, ◌∙◌, length, get_or, take, drop, arith, append_assoc}
use Rattle.std.proofs.lemmas.List.{take_more, take_all, length-take-le}
use Rattle.std.proofs.lemmas.List.Concat.{flat_map-append}
use Rattle.std.proofs.lemmas.List.Elements.{filter_map-append}
use Rattle.std.specs.Prelude.{List, [], ◌∷◌, ◌++◌, Option, Some, None}
use Rattle.std.specs.List.{flat_map, filter_map, cons_option, enumerate_from}
use Rattle.std.specs.Option.{option_to_list}
use Rattle.samr_fill.specs.Sending.{for_some, then_some}

append_nil : {X : Type 0} (xs : List X) → xs ++ [] ≡ xs
append_nil [] = refl
append_nil {X} (x ∷ xs) = ap (λ (l : List X). x ∷ l) (append_nil xs)

enumerate-append : {X : Type 0} (n : ℕ) (xs : List X) (x : X) → enumerate_from n (xs ++ x ∷ []) ≡ enumerate_from n xs ++ (n + length xs, x) ∷ []
enumerate-append {X} n [] x = ap (λ (k : ℕ). (k, x) ∷ []) (omega arith)
enumerate-append {X} n (y ∷ ys) x =
    ap (λ (l : List (ℕ × X)). (n, y) ∷ l)
    (enumerate-append (n + 1) ys x ∙ ap (λ (k : ℕ). enumerate_from (n + 1) ys ++ (k, x) ∷ []) (regroup (length ys)))
  where
    regroup : (m : ℕ) → n + 1 + m ≡ n + suc m
    regroup m = omega arith

module _ {X : Type 0} (xs : List X) (i : ℕ) (x : X) (more : i < length xs) (is : x ≡ get_or xs i x) where
  pub numbered_more : enumerate_from 0 (take (i + 1) xs) ≡ enumerate_from 0 (take i xs) ++ (i, x) ∷ []
  numbered_more =
      ap (enumerate_from 0) (take_more xs i x more ∙ ap (λ (v : X). take i xs ++ v ∷ []) (sym is))
      ∙ enumerate-append 0 (take i xs) x
      ∙ ap (λ (k : ℕ). enumerate_from 0 (take i xs) ++ (k, x) ∷ []) (let e = length-take-le i xs (omega (arith, more)) in omega (arith, e))

  -- one more member of a numbered list gives its items
  pub numbered_step : {Y : Type 0} (f : ℕ × X → List Y) (before now next : List Y)
      → now ≡ before ++ flat_map f (enumerate_from 0 (take i xs)) → next ≡ now ++ f (i, x)
      → next ≡ before ++ flat_map f (enumerate_from 0 (take (i + 1) xs))
  numbered_step {Y} f before now next so_far step =
      step ∙ ap (λ (l : List Y). l ++ f (i, x)) so_far
      ∙ append_assoc before (flat_map f (enumerate_from 0 (take i xs))) (f (i, x))
      ∙ ap (λ (l : List Y). before ++ l)
      (ap (λ (l : List Y). flat_map f (enumerate_from 0 (take i xs)) ++ l) (sym (append_nil (f (i, x))))
      ∙ sym (flat_map-append f (enumerate_from 0 (take i xs)) ((i, x) ∷ []))
      ∙ ap (flat_map f) (sym numbered_more))

single : {X Y : Type 0} (h : X → Option Y) (x : X) → filter_map h (x ∷ []) ≡ option_to_list (h x)
single {X} {Y} h x = by_case (h x)
  where
    by_case : (o : Option Y) → cons_option o [] ≡ option_to_list o
    by_case None = refl
    by_case (Some y) = refl

-- one more member gives an item, or none
pub filter_map_more : {X Y : Type 0} (xs : List X) (i : ℕ) (x : X) → i < length xs → x ≡ get_or xs i x → (h : X → Option Y) (before now next : List Y)
    → now ≡ before ++ filter_map h (take i xs) → (o : Option Y) → o ≡ h x → next ≡ now ++ option_to_list o
    → next ≡ before ++ filter_map h (take (i + 1) xs)
filter_map_more {X} {Y} xs i x more is h before now next so_far o same step =
    step ∙ ap (λ (v : Option Y). now ++ option_to_list v) same
    ∙ ap (λ (l : List Y). l ++ option_to_list (h x)) so_far
    ∙ append_assoc before (filter_map h (take i xs)) (option_to_list (h x))
    ∙ ap (λ (l : List Y). before ++ l)
    (ap (λ (l : List Y). filter_map h (take i xs) ++ l) (sym (single h x))
    ∙ sym (filter_map-append h (take i xs) (x ∷ []))
    ∙ ap (filter_map h) (sym (take_more xs i x more ∙ ap (λ (v : X). take i xs ++ v ∷ []) (sym is))))

-- nothing is added for an option that has nothing
pub nothing_more : {X Y : Type 0} (o : Option X) (f : X → List Y) (out : List Y) → o ≡ None → out ≡ out ++ for_some o f
nothing_more {X} {Y} o f out e = sym (append_nil out) ∙ ap (λ (v : Option X). out ++ for_some v f) (sym e)

-- one more member at the end of a list that gives items
pub bodies_more : {X Y : Type 0} (f : X → List Y) (before : List Y) (xs : List X) (x : X) (now next : List Y) → now ≡ before ++ flat_map f xs → next ≡ now ++ f x
    → next ≡ before ++ flat_map f (xs ++ x ∷ [])
bodies_more {X} {Y} f before xs x now next so_far step =
    step ∙ ap (λ (l : List Y). l ++ f x) so_far
    ∙ append_assoc before (flat_map f xs) (f x)
    ∙ ap (λ (l : List Y). before ++ l)
    (ap (λ (l : List Y). flat_map f xs ++ l) (sym (append_nil (f x))) ∙ sym (flat_map-append f xs (x ∷ [])))
