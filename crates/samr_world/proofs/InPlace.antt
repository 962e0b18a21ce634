-- Elements by their places, where one was replaced or taken out.
use Rattle.std.proofs.Common.{◌≡◌, ◌≢◌, ℕ, zero, suc, ◌<◌, List, [], ◌∷◌, ◌++◌, length, refl, sym, ap, arith, ◌⊎◌, inl, inr, All, Some, slice_get, set, take, drop, get_or, map, subst}
use Rattle.std.specs.List.{remove}
use Rattle.std.proofs.lemmas.List.Elements.{All-append, All-take, All-drop}
use Rattle.std.proofs.lemmas.Option.{slice_get_read}

pub get_set_cases : {X : Type 0} (xs : List X) (i j : ℕ) (v t : X) → slice_get (set xs i v) j ≡ Some t → ((j ≡ i) × (t ≡ v)) ⊎ ((j ≢ i) × (slice_get xs j ≡ Some t))
get_set_cases [] i j v t got = cc
get_set_cases (x ∷ xs) zero zero v t got = inl (refl, cc)
get_set_cases (x ∷ xs) zero (suc j) v t got = inr (λ e. absurd (omega arith), got)
get_set_cases (x ∷ xs) (suc i) zero v t got = inr (λ e. absurd (omega arith), got)
get_set_cases (x ∷ xs) (suc i) (suc j) v t got = elim (get_set_cases xs i j v t got) [
  | inl same ↦ inl (ap suc same.0, same.1)
  | inr other ↦ inr (λ e. other.0 (omega arith), other.1)
]

pub get_set_same : {X : Type 0} (xs : List X) (i : ℕ) (v s : X) → slice_get xs i ≡ Some s → slice_get (set xs i v) i ≡ Some v
get_set_same [] i v s got = cc
get_set_same (x ∷ xs) zero v s got = refl
get_set_same (x ∷ xs) (suc i) v s got = get_set_same xs i v s got

pub get_set_other : {X : Type 0} (xs : List X) (i j : ℕ) (v s : X) → j ≢ i → slice_get xs j ≡ Some s → slice_get (set xs i v) j ≡ Some s
get_set_other [] i j v s other got = got
get_set_other (x ∷ xs) zero zero v s other got = absurd (other refl)
get_set_other (x ∷ xs) zero (suc j) v s other got = got
get_set_other (x ∷ xs) (suc i) zero v s other got = got
get_set_other (x ∷ xs) (suc i) (suc j) v s other got = get_set_other xs i j v s (λ e. other (ap suc e)) got

pub All-remove : {X : Type 0} (P : X → Type 0) (xs : List X) (i : ℕ) → All P xs → All P (remove xs i)
All-remove P xs i all = All-append P (take i xs) (drop (suc i) xs) (All-take P i xs all) (All-drop P (suc i) xs all)

pub All-get : {X : Type 0} (P : X → Type 0) (xs : List X) (i : ℕ) (x : X) → slice_get xs i ≡ Some x → All P xs → P x
All-get P [] i x got all = cc
All-get P (y ∷ ys) zero x got all = let same : y ≡ x = cc in rw (sym same) (all 0 y (omega arith))
All-get P (y ∷ ys) (suc i) x got all = All-get P ys i x got (λ k d within. all (suc k) d (omega arith))

pub get_read : {X : Type 0} (xs : List X) (i k n : ℕ) (x : X) → i ≡ k → n ≡ length xs → i < n → x ≡ get_or xs i x → slice_get xs k ≡ Some x
get_read xs i k n x same len below read = let K : ℕ → Type 0 = λ j. slice_get xs j ≡ Some x in subst K same (slice_get_read xs n i x len below read)

pub get_item : {X : Type 0} (xs ys : List X) (i : ℕ) (x : X) → ys ≡ xs → i < length ys → x ≡ get_or ys i x → slice_get xs i ≡ Some x
get_item {X} xs ys i x same below read = let K : List X → Type 0 = λ zs. slice_get zs i ≡ Some x in subst K same (slice_get_read ys (length ys) i x refl below read)

pub All-read : {X : Type 0} (P : X → Type 0) (xs : List X) (i n : ℕ) (x : X) → i < n → n ≡ length xs → x ≡ get_or xs i x → All P xs → P x
All-read P xs i n x below count read all = subst P (sym read) (all i x (omega arith))

pub get_middle : {X : Type 0} (xs : List X) (x : X) (ys : List X) → slice_get (xs ++ x ∷ ys) (length xs) ≡ Some x
get_middle [] x ys = refl
get_middle (z ∷ xs) x ys = get_middle xs x ys

pub get_map : {X Y : Type 0} (f : X → Y) (xs : List X) (i : ℕ) (y : Y) → slice_get (map f xs) i ≡ Some y → (x : X) × (slice_get xs i ≡ Some x) × (f x ≡ y)
get_map f [] i y got = cc
get_map f (x ∷ xs) zero y got = (x, refl, cc)
get_map f (x ∷ xs) (suc i) y got = get_map f xs i y got
