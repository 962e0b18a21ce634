-- Depths in the tree: a rank is one step deeper than its parent, and no less deep than the ranks before it.
use Rattle.std.proofs.Common.{◌≡◌, ℕ, zero, suc, ◌+◌, ◌-◌, ◌*◌, ◌/◌, ◌<◌, ◌≤◌, true, false, ltb, nat_eq, nat_lt, Some, None, refl, ap, ◌∙◌, arith, inl, inr}
use Rattle.std.proofs.lemmas.Bool.{cases_eq, cases_lt, lt-ltb, le-ltb, eq-eqb, ne_eqb}
use Rattle.samr_tree.specs.Tree.{parent, steps_up, depth, told_down}

-- so many steps as its number are enough for a rank
enough : (most other rank : ℕ) → rank ≤ most → rank ≤ other → steps_up most rank ≡ steps_up other rank
enough zero zero rank below under = refl
enough zero (suc other) rank below under = let root : ltb 0 rank ≡ false = le-ltb 0 rank below in rw root refl
enough (suc most) zero rank below under = let root : ltb 0 rank ≡ false = le-ltb 0 rank under in rw root refl
enough (suc most) (suc other) rank below under = elim (cases_lt 0 rank) [
  | inl above ↦
      let test : ltb 0 rank ≡ true = lt-ltb 0 rank above in
      let rest = enough most other ((rank - 1) / 2) (omega arith) (omega arith) in
      rw test (ap (λ n. n + 1) rest)
  | inr root ↦ let test : ltb 0 rank ≡ false = le-ltb 0 rank root in rw test refl
]

pub depth_root : depth 0 ≡ 0
unfolding depth
depth_root = refl

pub depth_up : (rank : ℕ) → 0 < rank → depth rank ≡ depth ((rank - 1) / 2) + 1
unfolding depth
depth_up zero above = absurd (omega arith)
depth_up (suc r) above =
    let test : ltb 0 (suc r) ≡ true = lt-ltb 0 (suc r) above in
    let rest = enough r ((suc r - 1) / 2) ((suc r - 1) / 2) (omega arith) (omega arith) in
    rw test (ap (λ n. n + 1) rest)

depth_above : (most rank : ℕ) → rank ≤ most → depth rank ≤ rank
depth_above zero rank below = let root : rank ≡ 0 = omega arith in rw root (omega (arith, depth_root))
depth_above (suc most) rank below = elim (cases_lt 0 rank) [
  | inl above ↦
      let rest = depth_above most ((rank - 1) / 2) (omega arith) in
      omega (arith, depth_up rank above, rest)
  | inr root ↦ let none : rank ≡ 0 = omega arith in rw none (omega (arith, depth_root))
]

-- a rank is no deeper than its number
pub depth-le : (rank : ℕ) → depth rank ≤ rank
depth-le rank = depth_above rank rank (omega arith)

rising_within : (most rank other : ℕ) → other ≤ most → rank ≤ other → depth rank ≤ depth other
rising_within zero rank other within below =
    let same : rank ≡ other = omega arith in rw same (omega arith)
rising_within (suc most) rank other within below = elim (cases_lt 0 rank) [
  | inl above ↦
      let rest = rising_within most ((rank - 1) / 2) ((other - 1) / 2) (omega arith) (omega arith) in
      let there : 0 < other = omega arith in
      omega (arith, depth_up rank above, depth_up other there, rest)
  | inr root ↦ let none : rank ≡ 0 = omega arith in rw none (omega (arith, depth_root))
]

-- the depths of later ranks are no less
pub depth_rising : (rank other : ℕ) → rank ≤ other → depth rank ≤ depth other
depth_rising rank other below = rising_within other rank other (omega arith) below

-- the first child of a rank is one step deeper
pub depth_first : (rank : ℕ) → depth (2 * rank + 1) ≡ depth rank + 1
depth_first rank =
    let parent : (2 * rank + 1 - 1) / 2 ≡ rank = omega arith in depth_up (2 * rank + 1) (omega arith) ∙ ap (λ r. depth r + 1) parent

-- what a parent says of a rank
pub parent-some : (rank above : ℕ) → Some above ≡ parent rank → (0 < rank) × (above ≡ (rank - 1) / 2)
parent-some rank above is = elim (cases_lt 0 rank) [
  | inl below ↦
      let test : ltb 0 rank ≡ true = lt-ltb 0 rank below in
      let there : Some above ≡ Some ((rank - 1) / 2) = rw test at is in (below, cc)
  | inr root ↦ let test : ltb 0 rank ≡ false = le-ltb 0 rank root in let there : Some above ≡ None = rw test at is in cc
]

pub parent-none : (rank : ℕ) → None ≡ parent rank → rank ≡ 0
parent-none rank is = elim (cases_lt 0 rank) [
  | inl below ↦
      let test : ltb 0 rank ≡ true = lt-ltb 0 rank below in
      let there : None ≡ Some ((rank - 1) / 2) = rw test at is in cc
  | inr root ↦ omega arith
]

-- a rank's turn to be told, one round before its depth
pub told_at : (ranks round rank : ℕ) → 0 < rank → rank < ranks → nat_eq (depth rank - 1) round ≡ told_down ranks round rank
told_at ranks round rank above within =
    let below : nat_lt 0 rank ≡ true = lt-ltb 0 rank above in
    let inside : nat_lt rank ranks ≡ true = lt-ltb rank ranks within in
    let deep = depth_up rank above in
    elim (cases_eq (depth rank) (round + 1)) [
      | inl same ↦
          let left : nat_eq (depth rank - 1) round ≡ true = eq-eqb _ _ (omega arith) in
          let right : nat_eq (depth rank) (round + 1) ≡ true = eq-eqb _ _ same in rw (left, below, inside, right) refl
      | inr other ↦
          let left : nat_eq (depth rank - 1) round ≡ false = ne_eqb _ _ (λ e. other (omega arith)) in
          let right : nat_eq (depth rank) (round + 1) ≡ false = ne_eqb _ _ other in rw (left, below, inside, right) refl
    ]
