-- Loops over the places of an axis.
use Rattle.std.proofs.Common.{◌≡◌, ℕ, zero, suc, ◌+◌, ◌*◌, ◌<◌, ◌≤◌, ◌^◌, Bool, true, false, cond, List, [], ◌∷◌, ◌++◌, length, get_or, map, refl, ap, sym, ◌∙◌, arith, add-one, append-nil}
use Rattle.std.specs.Prelude.{filter, nat_eq}
use Rattle.std.specs.List.{range_with_len, fold, prefix_len}
use Rattle.std.proofs.lemmas.List.Elements.{filter-append}
use Rattle.std.proofs.lemmas.List.Sums.{fold_push, prefix_len_is}
use Rattle.std.proofs.lemmas.Nat.{mul-lt}

pub range_more : (a n : ℕ) → range_with_len a (suc n) ≡ range_with_len a n ++ (a + n) ∷ []
range_more a zero = ap (λ (k : ℕ). k ∷ []) (let e : a ≡ a + 0 = omega arith in e)
range_more a (suc n) =
    ap (λ (xs : List ℕ). a ∷ xs) (range_more (a + 1) n ∙ ap (λ (k : ℕ). range_with_len (a + 1) n ++ k ∷ []) (let e : a + 1 + n ≡ a + suc n = omega arith in e))

filter_range_more : (p : ℕ → Bool) (n : ℕ) → filter p (range_with_len 0 (n + 1)) ≡ filter p (range_with_len 0 n) ++ cond (p n) (n ∷ []) []
filter_range_more p n =
    let same : 0 + n ≡ n = omega arith in
    ap (λ (k : ℕ). filter p (range_with_len 0 k)) (add-one n)
    ∙ ap (filter p) (range_more 0 n ∙ ap (λ (k : ℕ). range_with_len 0 n ++ k ∷ []) same)
    ∙ filter-append p (range_with_len 0 n) (n ∷ [])

-- a fold over the places that pass a test: one place more
pub fold_passing : {A : Type 0} (p : ℕ → Bool) (f : A → ℕ → A) (a now next : A) (n : ℕ) → now ≡ fold f a (filter p (range_with_len 0 n)) → next ≡ cond (p n) (f now n) now
    → next ≡ fold f a (filter p (range_with_len 0 (n + 1)))
fold_passing p f a now next n so_far step =
    step ∙ by_test (p n) ∙ ap (fold f a) (sym (filter_range_more p n))
  where
    by_test : (b : Bool) → cond b (f now n) now ≡ fold f a (filter p (range_with_len 0 n) ++ cond b (n ∷ []) [])
    by_test true = ap (λ v. f v n) so_far ∙ sym (fold_push f a (filter p (range_with_len 0 n)) n)
    by_test false = so_far ∙ ap (fold f a) (sym (append-nil (filter p (range_with_len 0 n))))

-- a fold over what is made of them
pub fold_map : {A X : Type 0} (f : A → X → A) (g : ℕ → X) (a : A) (xs : List ℕ) → fold f a (map g xs) ≡ fold (λ v n. f v (g n)) a xs
fold_map f g a [] = refl
fold_map f g a (x ∷ xs) = fold_map f g (f a (g x)) xs

pub fold_made : {A X : Type 0} (p : ℕ → Bool) (f : A → X → A) (g : ℕ → X) (a now next : A) (n : ℕ) → now ≡ fold f a (map g (filter p (range_with_len 0 n))) → next ≡ cond (p n) (f now (g n)) now
    → next ≡ fold f a (map g (filter p (range_with_len 0 (n + 1))))
fold_made p f g a now next n so_far step =
    fold_passing p (λ v k. f v (g k)) a now next n (so_far ∙ fold_map f g a (filter p (range_with_len 0 n))) step
    ∙ sym (fold_map f g a (filter p (range_with_len 0 (n + 1))))

-- the first planes without a tag
pub leading_is : (s : List ℕ) (n : ℕ) → n ≤ length s → ((k : ℕ) → k < n → get_or s k 0 ≡ 0) → (n < length s → nat_eq (get_or s n 0) 0 ≡ false) → n ≡ prefix_len (λ v. nat_eq v 0) s
leading_is s n h zeros stop = sym (prefix_len_is (λ v. nat_eq v 0) s n 0 h (λ k p. ap (λ v. nat_eq v 0) (zeros k p)) stop)

-- a product of four numbers of 32 bits
pub product_fits : (e i j k : ℕ) → e < 2 ^ 32 → i < 2 ^ 32 → j < 2 ^ 32 → k < 2 ^ 32 → e * (i * j * k) < 2 ^ 128
product_fits e i j k p q r s =
    let plane : i * j < 2 ^ 32 * 2 ^ 32 = mul-lt i j (2 ^ 32) (2 ^ 32) q r in
    let cells : i * j * k < 2 ^ 32 * 2 ^ 32 * 2 ^ 32 = mul-lt (i * j) k (2 ^ 32 * 2 ^ 32) (2 ^ 32) plane s in
    mul-lt e (i * j * k) (2 ^ 32) (2 ^ 32 * 2 ^ 32 * 2 ^ 32) p cells
