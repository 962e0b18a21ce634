-- Places of numbered lists.
use Rattle.std.proofs.Common.{◌≡◌, ℕ, zero, suc, ◌+◌, ◌<◌, length, get_or, refl, sym, ap, ◌∙◌, subst, inl, inr, arith, add-one}
use Rattle.std.proofs.lemmas.Option.{slice_get-get_or}
use Rattle.std.specs.Prelude.{List, [], ◌∷◌, map, Option, Some, None, slice_get}
use Rattle.std.specs.List.{enumerate_from}
use Rattle.std.specs.Option.{option_map}
use Rattle.samr_box.specs.Lists.{Member}

pub some_same : {X : Type 0} {x y : X} → Some x ≡ Some y → x ≡ y
some_same e = cc

pub none_some : {X : Type 0} {x : X} → None ≡ Some x → ⊥
none_some e = cc

pub numbered_at : {X : Type 0} (k : ℕ) (xs : List X) (f : ℕ × X) → Member f (enumerate_from k xs) → (i : ℕ) × (f.0 ≡ k + i) × (slice_get xs i ≡ Some f.1)
numbered_at k [] f m = absurd m
numbered_at {X} k (x ∷ xs) f (inl e) = (0, ap (λ (p : ℕ × X). p.0) e ∙ rest k, ap (λ (p : ℕ × X). Some p.1) (sym e))
  where
    rest : (k : ℕ) → k ≡ k + 0
    rest k = omega arith
numbered_at {X} k (x ∷ xs) f (inr m) =
    let r = numbered_at (k + 1) xs f m in
    let n = r.1 in
    (suc r.0, omega (arith, n), r.2)

pub numbered_has : {X : Type 0} (k : ℕ) (xs : List X) (i : ℕ) (x : X) → slice_get xs i ≡ Some x → Member (k + i, x) (enumerate_from k xs)
numbered_has k [] i x e = absurd (none_some e)
numbered_has {X} k (y ∷ xs) zero x e = inl (ap (λ (n : ℕ). (n, x)) (rest k) ∙ ap (λ (v : X). (k, v)) (some_same (sym e)))
  where
    rest : (k : ℕ) → k + 0 ≡ k
    rest k = omega arith
numbered_has {X} k (y ∷ xs) (suc i) x e =
    let P : ℕ → Type 0 = λ n. Member (n, x) (enumerate_from (k + 1) xs) in
    inr (subst P (next k i) (numbered_has (k + 1) xs i x e))
  where
    next : (k i : ℕ) → k + 1 + i ≡ k + suc i
    next k i = omega arith

pub slice_get_map : {X Y : Type 0} (f : X → Y) (xs : List X) (i : ℕ) → slice_get (map f xs) i ≡ option_map f (slice_get xs i)
slice_get_map f [] i = refl
slice_get_map f (x ∷ xs) zero = refl
slice_get_map f (x ∷ xs) (suc i) = slice_get_map f xs i

pub get_member : {X : Type 0} (xs : List X) (i : ℕ) (x : X) → slice_get xs i ≡ Some x → Member x xs
get_member [] i x e = absurd (none_some e)
get_member (y ∷ xs) zero x e = inl (some_same (sym e))
get_member (y ∷ xs) (suc i) x e = inr (get_member xs i x e)

pub at_member : {X : Type 0} (xs : List X) (i : ℕ) (x : X) → i < length xs → x ≡ get_or xs i x → Member x xs
at_member {X} xs i x more is = get_member xs i x (slice_get-get_or xs i x more ∙ ap (λ (v : X). Some v) (sym is))
