-- Steps of loops that push what they find for each number or item.
use Rattle.std.proofs.Common.{◌≡◌, ℕ, zero, suc, ◌+◌, ◌<◌, ◌≤◌, ap, sym, ◌∙◌, arith, inl, inr, take, map, length, get_or, slice_get, Some, ◌++◌}
use Rattle.std.proofs.lemmas.List.{take_more, map_more, map_push, length-take-le}
use Rattle.std.proofs.lemmas.List.FromFn.{map-range_with_len_more}
use Rattle.std.specs.Prelude.{List, [], ◌∷◌}
use Rattle.std.specs.List.{range_with_len, enumerate_from}
use Rattle.samr_box.specs.Lists.{Member}

-- what is made of the next number
pub one_more : {X : Type 0} (of : ℕ → X) (rank : ℕ) (old new : List X) (x : X) → old ≡ map of (range_with_len 0 rank) → new ≡ old ++ x ∷ [] → x ≡ of rank
    → new ≡ map of (range_with_len 0 (rank + 1))
one_more {X} of rank old new x e f g =
    f ∙ ap (λ (l : List X). l ++ x ∷ []) e ∙ ap (λ (p : X). map of (range_with_len 0 rank) ++ p ∷ []) g ∙ sym (map-range_with_len_more of 0 rank rank (omega arith))

-- the next item itself
pub one_taken : {X : Type 0} (xs : List X) (i : ℕ) (x y : X) (old new : List X) → i < length xs → x ≡ get_or xs i x → y ≡ x → old ≡ take i xs → new ≡ old ++ y ∷ [] → new ≡ take (i + 1) xs
one_taken {X} xs i x y old new below is same before after =
    after ∙ ap (λ (l : List X). l ++ y ∷ []) before ∙ ap (λ (v : X). take i xs ++ v ∷ []) (same ∙ is) ∙ sym (take_more xs i x below)

-- what is made of the next item
pub one_made : {X Y : Type 0} (of : X → Y) (xs : List X) (i : ℕ) (x : X) (y : Y) (old new : List Y) → i < length xs → x ≡ get_or xs i x → y ≡ of x
    → old ≡ map of (take i xs) → new ≡ old ++ y ∷ [] → new ≡ map of (take (i + 1) xs)
one_made {X} {Y} of xs i x y old new below is made before after =
    after
    ∙ ap (λ (l : List Y). l ++ y ∷ []) before
    ∙ ap (λ (v : Y). map of (take i xs) ++ v ∷ []) (made ∙ ap of is)
    ∙ sym (map_more of xs i x below)

-- what stands at a place is a member
pub item_at : {X : Type 0} (xs : List X) (i : ℕ) (x : X) → slice_get xs i ≡ Some x → Member x xs
item_at [] i x e = cc
item_at (y ∷ ys) zero x e = inl cc
item_at (y ∷ ys) (suc i) x e = inr (item_at ys i x e)

-- one more member of a numbered list
enumerated : {X : Type 0} (n : ℕ) (xs : List X) (x : X) → enumerate_from n (xs ++ x ∷ []) ≡ enumerate_from n xs ++ (n + length xs, x) ∷ []
enumerated n [] x = ap (λ (k : ℕ). (k, x) ∷ []) (omega arith)
enumerated {X} n (y ∷ xs) x =
    ap (λ (l : List (ℕ × X)). (n, y) ∷ l)
    (enumerated (n + 1) xs x ∙ ap (λ (k : ℕ). enumerate_from (n + 1) xs ++ (k, x) ∷ []) (omega arith))

-- what is made of the next numbered item
pub numbered_more : {X Y : Type 0} (f : ℕ × X → Y) (xs : List X) (i : ℕ) (x : X) → i < length xs → x ≡ get_or xs i x
    → map f (enumerate_from 0 (take (i + 1) xs)) ≡ map f (enumerate_from 0 (take i xs)) ++ f (i, x) ∷ []
numbered_more {X} {Y} f xs i x below here =
    ap (λ (l : List X). map f (enumerate_from 0 l)) (take_more xs i x below ∙ ap (λ (y : X). take i xs ++ y ∷ []) (sym here))
    ∙ ap (map f) (enumerated 0 (take i xs) x)
    ∙ map_push f (enumerate_from 0 (take i xs)) (0 + length (take i xs), x)
    ∙ ap (λ (k : ℕ). map f (enumerate_from 0 (take i xs)) ++ f (k, x) ∷ []) (counted xs i below)
  where
    counted : (ys : List X) (k : ℕ) → k < length ys → 0 + length (take k ys) ≡ k
    counted ys k h = let below : k ≤ length ys = omega (arith, h) in omega (arith, length-take-le k ys below)
