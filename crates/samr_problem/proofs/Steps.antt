-- The steps of loops that make a list or look through one.
use Rattle.std.proofs.Common.{◌≡◌, ◌∙◌, sym, refl, ap, ℕ, zero, suc, ◌+◌, ◌<◌, Bool, true, false, ◌||◌, List, [], ◌∷◌, ◌++◌, map, take, length, get_or, arith}
use Rattle.std.proofs.lemmas.List.{take_more, map-append}
use Rattle.std.proofs.lemmas.List.FromFn.{map-range_with_len_more}
use Rattle.std.specs.List.{list_any, range_with_len}

-- one more number
pub range_step : {X : Type 0} (f : ℕ → X) (n : ℕ) (before now : List X) (x : X) → now ≡ before ++ x ∷ [] → before ≡ map f (range_with_len 0 n) → x ≡ f n
    → now ≡ map f (range_with_len 0 (n + 1))
range_step f n before now x step so_far is = rw (step, so_far, is) (sym (map-range_with_len_more f 0 n n (omega arith)))

-- one more item
pub map_step : {X Y : Type 0} (f : X → Y) (xs : List X) (n : ℕ) (d : X) (before now : List Y) (y : Y) → n < length xs
    → now ≡ before ++ y ∷ [] → before ≡ map f (take n xs) → y ≡ f (get_or xs n d) → now ≡ map f (take (n + 1) xs)
map_step f xs n d before now y below step so_far is =
    rw (step, so_far, is) (sym (ap (map f) (take_more xs n d below) ∙ map-append f (take n xs) (get_or xs n d ∷ [])))

pub or_true : (a b : Bool) → b ≡ true → (a || b) ≡ true
or_true true b there = refl
or_true false b there = there

-- an item that passes
pub any_found : {X Y : Type 0} (test : Y → Bool) (f : X → Y) (xs : List X) (n : ℕ) (x : X) → n < length xs → x ≡ get_or xs n x → test (f x) ≡ true
    → list_any test (map f xs) ≡ true
any_found test f [] n x below is passes = absurd (omega arith)
any_found test f (y ∷ ys) zero x below is passes = rw (ap (λ z. test (f z)) (sym is) ∙ passes) refl
any_found test f (y ∷ ys) (suc n) x below is passes = or_true (test (f y)) (list_any test (map f ys)) (any_found test f ys n x (omega arith) is passes)
