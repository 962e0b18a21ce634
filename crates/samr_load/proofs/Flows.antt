-- What goes from each rank of the tree to its parent, or the other way: at each rank, what comes in goes out.
use Rattle.std.proofs.Common.{◌≡◌, ℕ, zero, suc, ◌+◌, ◌-◌, ◌*◌, ◌/◌, ◌<◌, ◌≤◌, ap, inl, inr, arith}
use Rattle.std.proofs.lemmas.Bool.{cases_lt, cases_eq}
use Rattle.samr_bits.specs.Sums.{sum_below}
use Rattle.samr_bits.proofs.Sums.{sum_ext, sum_none, sum_plus, sum_append, sum_front, sum_more}

-- each rank but the root is one child of one rank
pub sum_children : (g : ℕ → ℕ) (n : ℕ) → sum_below (λ r. g (2 * r + 1) + g (2 * r + 2)) n + g 0 ≡ sum_below g (2 * n + 1)
sum_children g zero = omega arith
sum_children g (suc n) =
    let all : 2 * suc n + 1 ≡ suc (suc (2 * n + 1)) = omega arith in
    let last : suc (2 * n + 1) ≡ 2 * n + 2 = omega arith in
    omega (arith, sum_children g n, ap (sum_below g) all, ap g last)

-- a rank's h is its o and what its children have of g; it is its k and its own g
pub record IsFlow (n : ℕ) (o k g h : ℕ → ℕ) : Type 0 where
  pub in_all : (r : ℕ) → r < n → h r ≡ o r + (g (2 * r + 1) + g (2 * r + 2))
  pub out_all : (r : ℕ) → r < n → h r ≡ k r + g r
  pub beyond : (r : ℕ) → n ≤ r → g r ≡ 0

module _ (n : ℕ) (o k g h : ℕ → ℕ) (f : IsFlow n o k g h) where
  children_again : sum_below (λ r. g (2 * r + 1) + g (2 * r + 2)) n + g 0 ≡ sum_below g n
  children_again =
      let all : 2 * n + 1 ≡ n + (n + 1) = omega arith in
      let none = sum_none (λ c. g (n + c)) (n + 1) (λ c p. f.beyond (n + c) (omega arith)) in
      omega (arith, sum_children g n, ap (sum_below g) all, sum_append g n (n + 1), none)

  pub flow : sum_below o n ≡ sum_below k n + g 0
  flow =
      let incoming = sum_ext h (λ r. o r + (g (2 * r + 1) + g (2 * r + 2))) n f.in_all in
      let outgoing = sum_ext h (λ r. k r + g r) n f.out_all in
      omega (arith, incoming, outgoing, sum_plus o (λ r. g (2 * r + 1) + g (2 * r + 2)) n, sum_plus k g n, children_again)

  part_of_parent : (r : ℕ) → 0 < r → r < n → g r ≤ h ((r - 1) / 2)
  part_of_parent r some inside =
      let p = (r - 1) / 2 in
      let above : p < n = omega arith in
      elim (cases_eq r (2 * p + 1)) [
        | inl first ↦ omega (arith, f.in_all p above, ap g first)
        | inr other ↦
            let second : r ≡ 2 * p + 2 = not_first r some other in
            omega (arith, f.in_all p above, ap g second)
      ]
    where
      not_first : (r : ℕ) → 0 < r → (r ≡ 2 * ((r - 1) / 2) + 1 → ⊥) → r ≡ 2 * ((r - 1) / 2) + 2
      not_first r some other = omega (arith, other)

  within : (most r : ℕ) → r ≤ most → r < n → h r ≤ sum_below k (r + 1) + g 0
  within zero r small inside =
      let root : r ≡ 0 = omega arith in
      omega (arith, f.out_all r inside, sum_more k r, ap g root)
  within (suc most) r small inside = elim (cases_lt 0 r) [
    | inl some ↦
        let above : (r - 1) / 2 + 1 ≤ r = omega arith in
        omega (
          arith,
          within most ((r - 1) / 2) (omega arith) (omega arith),
          part_of_parent r some inside,
          f.out_all r inside,
          sum_front k ((r - 1) / 2 + 1) r above,
          sum_more k r,
        )
    | inr none ↦ within most r (omega arith) inside
  ]

  -- no rank has more than all
  pub no_more : (r : ℕ) → r < n → h r ≤ sum_below o n
  no_more r inside = omega (arith, within r r (omega arith) inside, sum_front k (r + 1) n (omega arith), flow)
