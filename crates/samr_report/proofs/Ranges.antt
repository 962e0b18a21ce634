-- Lists made from the numbers below a bound, one number more.
use Rattle.std.proofs.Common.{◌≡◌, ℕ, zero, suc, ◌+◌, List, [], ◌∷◌, ◌++◌, ap, arith, append-nil, append_assoc, add-one, ◌∙◌}
use Rattle.std.specs.List.{range_with_len, flat_map}
use Rattle.std.proofs.lemmas.List.Concat.{flat_map-append}

range_more : (a n : ℕ) → range_with_len a (suc n) ≡ range_with_len a n ++ (a + n) ∷ []
range_more a zero = ap (λ (k : ℕ). k ∷ []) (omega arith)
range_more a (suc n) =
    ap (λ (xs : List ℕ). a ∷ xs) (range_more (a + 1) n ∙ ap (λ (k : ℕ). range_with_len (a + 1) n ++ k ∷ []) (omega arith))

pub flat_map_range_more : {X : Type 0} (f : ℕ → List X) (n : ℕ) → flat_map f (range_with_len 0 (n + 1)) ≡ flat_map f (range_with_len 0 n) ++ f n
flat_map_range_more {X} f n =
    ap (λ (k : ℕ). flat_map f (range_with_len 0 k)) (add-one n)
    ∙ ap (flat_map f) (range_more 0 n)
    ∙ flat_map-append f (range_with_len 0 n) ((0 + n) ∷ [])
    ∙ ap (λ (xs : List X). flat_map f (range_with_len 0 n) ++ xs) (append-nil (f (0 + n)) ∙ ap f (omega arith))

-- a loop's step that appends the next members
pub one_more_appended : {X : Type 0} (f : ℕ → List X) (n : ℕ) (before now next : List X)
    → next ≡ now ++ f n → now ≡ before ++ flat_map f (range_with_len 0 n)
    → next ≡ before ++ flat_map f (range_with_len 0 (n + 1))
one_more_appended f n before now next step so_far = rw (step, so_far, append_assoc, flat_map_range_more f n)
