-- Counts that stop at the greatest number, and steps of loops that count.
use Rattle.std.proofs.Common.{◌≡◌, ◌∙◌, ap, sym, refl, ℕ, zero, suc, ◌+◌, ◌*◌, ◌<◌, ◌≤◌, ◌-◌, ◌^◌, min, List, [], ◌∷◌, ◌++◌, take, length, get_or, inl, inr, arith}
use Rattle.std.proofs.Math.Nat.{mul-le-mul_left, mul-le-mul_right}
use Rattle.std.proofs.lemmas.Bool.{cases_lt}
use Rattle.std.proofs.lemmas.List.Sums.{sum_by_push}
use Rattle.std.proofs.lemmas.Int.{ints}
use Rattle.std.proofs.lemmas.List.Concat.{flat_map-append}
use Rattle.std.specs.Prelude.{sum_by, pos}
use Rattle.std.specs.List.{flat_map, enumerate_from}
use Rattle.samr_box.specs.declared.vector.IVec.{IVec}
use Rattle.samr_box.specs.Vector.{alike, plus, minus, times, IsRatio, FitsVector, InRange}
use Rattle.samr_level.proofs.Reaches.{bounded-times, bounded-ratio, bounded-last_child, FitsVector-bounded}
use Rattle.samr_boxlist.proofs.Steps.{take_step}
use Rattle.samr_sched.specs.PlanRows.{capped}
use Rattle.samr_sched.proofs.Plain.{enumerate_push, taken}

-- a factor that stops at a bound does not change a product that does
pub capped_product : (m p c : ℕ) → min (min p m * c) m ≡ min (p * c) m
capped_product m p zero = let none : min p m * 0 ≡ p * 0 = omega arith in ap (λ x. min x m) none
capped_product m p (suc d) = elim (cases_lt m p) [
  | inl over ↦
      let stops : min p m ≡ m = omega arith in
      let one : 1 ≤ suc d = omega arith in
      let low : m * 1 ≤ m * suc d = mul-le-mul_left m one in
      let less : m ≤ p = omega arith in
      let more : m * suc d ≤ p * suc d = mul-le-mul_right (suc d) less in
      rw stops (omega (arith, low, more))
  | inr within ↦ let same : min p m ≡ p = omega arith in rw same refl
]

capped_more : (m s n : ℕ) → min (min s m + min n m) m ≡ min (s + n) m
capped_more m s n = omega arith

-- one member more
pub sum_step : {X : Type 0} (f : X → ℕ) (xs : List X) (i : ℕ) (x : X) (before one after : ℕ) → i < length xs → x ≡ get_or xs i x
    → before ≡ capped (sum_by f (take i xs)) → one ≡ capped (f x) → after ≡ capped (before + one) → after ≡ capped (sum_by f (take (i + 1) xs))
sum_step f xs i x before one after more is b o a =
    a ∙ ap (λ n. capped (n + one)) b ∙ ap (λ n. capped (capped (sum_by f (take i xs)) + n)) o
    ∙ capped_more (2 ^ 64 - 1) (sum_by f (take i xs)) (f x)
    ∙ ap capped (sym (sum_by_push f (take i xs) x))
    ∙ ap (λ l. capped (sum_by f l)) (sym (take_step xs i x more is))

append_nil : {X : Type 0} (xs : List X) → xs ++ [] ≡ xs
append_nil [] = refl
append_nil {X} (x ∷ xs) = ap (λ (l : List X). x ∷ l) (append_nil xs)

pub numbered_flat : {X Y : Type 0} (f : ℕ × X → List Y) (xs : List X) (i : ℕ) (x : X) (out some out' : List Y) → i < length xs → x ≡ get_or xs i x
    → out ≡ flat_map f (enumerate_from 0 (take i xs)) → some ≡ f (i, x) → out' ≡ out ++ some → out' ≡ flat_map f (enumerate_from 0 (take (i + 1) xs))
numbered_flat {X} {Y} f xs i x out some out' more is so_far made step =
    let first = take i xs in
    let number : i ≡ 0 + length first = let e = taken i xs more in omega (arith, e) in
    step ∙ ap (λ (l : List Y). l ++ some) so_far
    ∙ ap (λ (l : List Y). flat_map f (enumerate_from 0 first) ++ l) (made ∙ sym (append_nil (f (i, x))))
    ∙ ap (λ (k : ℕ). flat_map f (enumerate_from 0 first) ++ (f (k, x) ++ [])) number
    ∙ sym (flat_map-append f (enumerate_from 0 first) ((0 + length first, x) ∷ []))
    ∙ ap (flat_map f) (sym (enumerate_push 0 first x))
    ∙ ap (λ (l : List X). flat_map f (enumerate_from 0 l)) (sym (take_step xs i x more is))

-- the corners of a refined box on the way
pub product_fits : {x r : IVec} → InRange x → IsRatio r → FitsVector (times x r)
product_fits h q = FitsVector-bounded (pos 274877906944) (omega (arith, ints)) (bounded-times (pos 1073741824) (omega (arith, ints)) h q)

pub rest_fits : {r : IVec} → IsRatio r → FitsVector (minus r (alike (pos 1)))
rest_fits q = FitsVector-bounded (pos 256) (omega (arith, ints)) (bounded-ratio q)

pub last_fits : {x r : IVec} → InRange x → IsRatio r → FitsVector (plus (times x r) (minus r (alike (pos 1))))
last_fits h q = FitsVector-bounded (pos 274877907200) (omega (arith, ints)) (bounded-last_child h q)
