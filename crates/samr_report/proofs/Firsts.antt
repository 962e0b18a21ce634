-- The first value that there is in a list.
use Rattle.std.proofs.Common.{◌≡◌, ℕ, ◌+◌, ◌<◌, ◌≤◌, ◌++◌, Some, None, refl, sym, ap, ◌∙◌, arith, length, get_or, drop, take, take_all, append_assoc, append-nil, zero, suc}
use Rattle.std.proofs.lemmas.List.{take_more, drop_all}
use Rattle.std.proofs.lemmas.Simd.{map-map}
use Rattle.std.proofs.lemmas.List.Concat.{flat_map-append}
use Rattle.std.proofs.lemmas.List.Folds.{flat_map-map}
use Rattle.std.specs.List.{flat_map, range_with_len, enumerate_from}
use Rattle.std.specs.Prelude.{List, [], ◌∷◌, map, Option}
use Rattle.samr_report.specs.RankRows.{first_some}

drop_here : {X : Type 0} (xs : List X) (i : ℕ) (x : X) → i < length xs → x ≡ get_or xs i x → drop i xs ≡ x ∷ drop (i + 1) xs
drop_here [] i x less is = absurd (omega (arith, less))
drop_here (y ∷ ys) zero x less is = ap (λ z. z ∷ ys) (sym is)
drop_here {X} (y ∷ ys) (suc i) x less is =
    let e : i + 1 + 1 ≡ suc (i + 1) = omega arith in
    let d : suc i + 1 ≡ suc (i + 1) = omega arith in
    drop_here ys i x (omega (arith, less)) is ∙ ap (λ (n : ℕ). x ∷ drop n (y ∷ ys)) (sym d)

module _ {X : Type 0} (f : X → Option ℕ) (xs : List X) (i : ℕ) (x : X) (less : i < length xs) (is : x ≡ get_or xs i x) where
  pub some_here : (v : ℕ) → f x ≡ Some v → first_some (map f xs) ≡ first_some (map f (drop i xs)) → Some v ≡ first_some (map f xs)
  some_here v e before = sym (before ∙ ap (λ (l : List X). first_some (map f l)) (drop_here xs i x less is) ∙ ap (λ (o : Option ℕ). first_some (o ∷ map f (drop (i + 1) xs))) e)

  pub none_here : f x ≡ None → first_some (map f xs) ≡ first_some (map f (drop i xs)) → first_some (map f xs) ≡ first_some (map f (drop (i + 1) xs))
  none_here e before = before ∙ ap (λ (l : List X). first_some (map f l)) (drop_here xs i x less is) ∙ ap (λ (o : Option ℕ). first_some (o ∷ map f (drop (i + 1) xs))) e

-- a loop that appends what each item gives
pub appended_more : {X Y : Type 0} (f : X → List Y) (xs : List X) (i : ℕ) (x : X) (old before now : List Y) → i < length xs → x ≡ get_or xs i x
    → before ≡ old ++ flat_map f (take i xs) → now ≡ before ++ f x → now ≡ old ++ flat_map f (take (i + 1) xs)
appended_more f xs i x old before now less is inv step =
    step ∙ ap (λ t. t ++ f x) inv ∙ append_assoc old (flat_map f (take i xs)) (f x)
    ∙ ap (λ y. old ++ (flat_map f (take i xs) ++ f y)) is
    ∙ ap (λ t. old ++ t) (sym (ap (flat_map f) (take_more xs i x less) ∙ flat_map-append f (take i xs) (get_or xs i x ∷ []) ∙ ap (λ t. flat_map f (take i xs) ++ t) (append-nil (f (get_or xs i x)))))

pub appended_end : {X Y : Type 0} (f : X → List Y) (xs : List X) (i : ℕ) (old now : List Y) → length xs ≤ i → now ≡ old ++ flat_map f (take i xs) → now ≡ old ++ flat_map f xs
appended_end f xs i old now most is = is ∙ ap (λ l. old ++ flat_map f l) (take_all i xs most)

-- the same where the code looks at each item through `of`
pub seen_more : {X Y Z : Type 0} (g : Y → List Z) (of : X → Y) (xs : List X) (i : ℕ) (x : X) (piece old before now : List Z) → i < length xs → x ≡ get_or xs i x
    → before ≡ old ++ flat_map (λ x. g (of x)) (take i xs) → now ≡ before ++ piece → piece ≡ g (of x) → now ≡ old ++ flat_map (λ x. g (of x)) (take (i + 1) xs)
seen_more g of xs i x piece old before now less is inv step same = appended_more (λ x. g (of x)) xs i x old before now less is inv (step ∙ ap (λ v. before ++ v) same)

pub seen_end : {X Y Z : Type 0} (g : Y → List Z) (of : X → Y) (xs : List X) (i : ℕ) (old now : List Z) → length xs ≤ i → now ≡ old ++ flat_map (λ x. g (of x)) (take i xs)
    → now ≡ old ++ flat_map g (map (λ x. of x) xs)
seen_end g of xs i old now most is = appended_end (λ x. g (of x)) xs i old now most is ∙ ap (λ v. old ++ v) (sym (flat_map-map g of xs))

-- what stands at the numbers of a list alone
pub numbers_alone : {X Z : Type 0} (g : ℕ → List Z) (a : ℕ) (xs : List X) → flat_map (λ e. g e.0) (enumerate_from a xs) ≡ flat_map g (range_with_len a (length xs))
numbers_alone g a [] = refl
numbers_alone g a (x ∷ xs) = ap (λ v. g a ++ v) (numbers_alone g (a + 1) xs)

-- what the code finds first where it looks at each item through `of`, and what it finds at the end
pub seen_first : {X Y : Type 0} (g : Y → Option ℕ) (of : X → Y) (xs : List X) (i : ℕ) (x : X) (v : ℕ) → i < length xs → x ≡ get_or xs i x → g (of x) ≡ Some v
    → first_some (map (λ x. g (of x)) xs) ≡ first_some (map (λ x. g (of x)) (drop i xs)) → Some v ≡ first_some (map g (map (λ x. of x) xs))
seen_first g of xs i x v less is e so_far = some_here (λ x. g (of x)) xs i x less is v e so_far ∙ ap first_some (sym (map-map g of xs))

pub seen_none : {X Y : Type 0} (g : Y → Option ℕ) (of : X → Y) (xs : List X) (i : ℕ) → length xs ≤ i
    → first_some (map (λ x. g (of x)) xs) ≡ first_some (map (λ x. g (of x)) (drop i xs)) → None ≡ first_some (map g (map (λ x. of x) xs))
seen_none {X} g of xs i most so_far =
    sym (so_far ∙ ap (λ (l : List X). first_some (map (λ x. g (of x)) l)) (drop_all i xs most)) ∙ ap first_some (sym (map-map g of xs))
