-- Laws of sums over the numbers below a bound.
use Rattle.std.proofs.Common.{◌≡◌, ℕ, zero, suc, ◌+◌, ◌-◌, ◌*◌, ◌<◌, ◌≤◌, refl, ap, sym, ◌∙◌, arith, add-one}
use Rattle.samr_bits.specs.Sums.{sum_below}

-- one number more
pub sum_more : (f : ℕ → ℕ) (n : ℕ) → sum_below f (n + 1) ≡ sum_below f n + f n
sum_more f n = ap (sum_below f) (add-one n)

pub sum_one : (f : ℕ → ℕ) → sum_below f 1 ≡ f 0
sum_one f = omega arith

-- equal terms, and terms that are at most as great
pub sum_ext : (f g : ℕ → ℕ) (n : ℕ) → ((c : ℕ) → c < n → f c ≡ g c) → sum_below f n ≡ sum_below g n
sum_ext f g zero h = refl
sum_ext f g (suc n) h = omega (arith, sum_ext f g n (λ c p. h c (omega arith)), h n (omega arith))

pub sum_le : (f g : ℕ → ℕ) (n : ℕ) → ((c : ℕ) → c < n → f c ≤ g c) → sum_below f n ≤ sum_below g n
sum_le f g zero h = omega arith
sum_le f g (suc n) h = omega (arith, sum_le f g n (λ c p. h c (omega arith)), h n (omega arith))

pub sum_most : (f : ℕ → ℕ) (n m : ℕ) → ((c : ℕ) → c < n → f c ≤ m) → sum_below f n ≤ n * m
sum_most f zero m h = omega arith
sum_most f (suc n) m h = omega (arith, sum_most f n m (λ c p. h c (omega arith)), h n (omega arith))

pub sum_none : (f : ℕ → ℕ) (n : ℕ) → ((c : ℕ) → c < n → f c ≡ 0) → sum_below f n ≡ 0
sum_none f zero h = refl
sum_none f (suc n) h = omega (arith, sum_none f n (λ c p. h c (omega arith)), h n (omega arith))

-- terms that are sums
pub sum_plus : (f g : ℕ → ℕ) (n : ℕ) → sum_below (λ c. f c + g c) n ≡ sum_below f n + sum_below g n
sum_plus f g zero = refl
sum_plus f g (suc n) = omega (arith, sum_plus f g n)

-- the first terms and the rest
pub sum_append : (f : ℕ → ℕ) (m n : ℕ) → sum_below f (m + n) ≡ sum_below f m + sum_below (λ c. f (m + c)) n
sum_append f m zero = omega (arith, ap (sum_below f) (let e : m + 0 ≡ m = omega arith in e))
sum_append f m (suc n) =
    let e : m + suc n ≡ suc (m + n) = omega arith in
    omega (arith, ap (sum_below f) e, sum_append f m n)

-- sums of sums, in either order
pub sum_swap : (f : ℕ → ℕ → ℕ) (m n : ℕ) → sum_below (λ a. sum_below (λ b. f a b) n) m ≡ sum_below (λ b. sum_below (λ a. f a b) m) n
sum_swap f zero n = sym (sum_none (λ b. 0) n (λ b h. refl))
sum_swap f (suc m) n =
    ap (λ s. s + sum_below (λ b. f m b) n) (sum_swap f m n) ∙ sym (sum_plus (λ b. sum_below (λ a. f a b) m) (λ b. f m b) n)

-- the first terms, and a term, are at most the whole
pub sum_front : (f : ℕ → ℕ) (m n : ℕ) → m ≤ n → sum_below f m ≤ sum_below f n
sum_front f m n h =
    let e : m + (n - m) ≡ n = omega arith in
    omega (arith, ap (sum_below f) e, sum_append f m (n - m))

pub sum_member : (f : ℕ → ℕ) (n c : ℕ) → c < n → f c ≤ sum_below f n
sum_member f n c h = omega (arith, sum_front f (c + 1) n (omega arith), sum_more f c)
