-- In how many members of a list a cell lies.
use Rattle.std.proofs.Common.{◌≡◌, ℕ, ◌+◌, ◌<◌, refl, sym, ap, ◌∙◌, inl, inr, arith}
use Rattle.std.proofs.lemmas.Bool.{or_cases, or_left, or_right, and_from, and_parts, false_from_ne_true, false≢true}
use Rattle.std.proofs.lemmas.List.Sums.{sum_by-cons, sum_by-append}
use Rattle.std.proofs.lemmas.List.Folds.{list_any-append}
use Rattle.std.proofs.lemmas.List.Sorted.{sum_by-IsPermutation}
use Rattle.std.specs.Prelude.{Bool, true, false, cond, ◌&&◌, ◌||◌, List, [], ◌∷◌, ◌++◌, Option, Some, None, IsPermutation, IsSomeAnd, IsTrue, ◌↔◌, ◌⊎◌}
use Rattle.std.specs.List.{flat_map, filter_map, cons_option}
use Rattle.std.specs.Option.{option_to_list}
use Rattle.samr_box.specs.declared.vector.IVec.{IVec}
use Rattle.samr_box.specs.Vector.{Within}
use Rattle.samr_box.specs.Corners.{Corners, Holds, holds, met}
use Rattle.samr_box.specs.Lists.{Member}
use Rattle.samr_box.proofs.CellSets.{holds-from, Holds-test, met-cells}
use Rattle.samr_boxlist.specs.Covers.{cover, held, IsNear}

-- 1 where the test holds
abbrev pub one : Bool → ℕ
one t = cond t 1 0

-- two tests that imply each other give the same answer
pub same_test : (s t : Bool) → (s ≡ true → t ≡ true) → (t ≡ true → s ≡ true) → s ≡ t
same_test true t f g = sym (f refl)
same_test false true f g = g refl
same_test false false f g = refl

pub and_true : (t : Bool) → (t && true) ≡ t
and_true true = refl
and_true false = refl

pub and_false : (t : Bool) → (t && false) ≡ false
and_false true = refl
and_false false = refl

module _ (x : IVec) where
  pub cover-cons : (b : Corners) (bs : List Corners) → cover x (b ∷ bs) ≡ one (holds b x) + cover x bs
  cover-cons b bs = sum_by-cons (λ m. one (holds m x)) b bs

  pub cover-append : (bs cs : List Corners) → cover x (bs ++ cs) ≡ cover x bs + cover x cs
  cover-append bs cs = sum_by-append (λ m. one (holds m x)) bs cs

  pub cover-single : (b : Corners) → cover x (b ∷ []) ≡ one (holds b x)
  cover-single b = omega (arith, cover-cons b [])

  pub cover-permutation : (bs cs : List Corners) → IsPermutation bs cs → cover x cs ≡ cover x bs
  cover-permutation bs cs h = sum_by-IsPermutation (λ m. one (holds m x)) bs cs h

  -- a member has the cell exactly where it lies in at least one
  pub held-cover : (bs : List Corners) → held x bs ≡ true → 0 < cover x bs
  held-cover [] t = absurd (false≢true t)
  held-cover (b ∷ bs) t =
      elim (or_cases (holds b x) (held x bs) t) [
        | inl here ↦ let e = cover-cons b bs in let h = ap one here in omega (arith, e, h)
        | inr later ↦ let e = cover-cons b bs in let h = held-cover bs later in omega (arith, e, h)
      ]

  pub cover-held : (bs : List Corners) → 0 < cover x bs → held x bs ≡ true
  cover-held [] h = absurd (omega arith)
  cover-held (b ∷ bs) h = by_head (λ p. cover-held bs p) (holds b x) refl
    where
      by_head : (0 < cover x bs → held x bs ≡ true) → (t : Bool) → holds b x ≡ t → held x (b ∷ bs) ≡ true
      by_head tail true e = or_left (holds b x) (held x bs) e
      by_head tail false e =
          let c = cover-cons b bs in
          let z = ap one e in
          or_right (holds b x) (held x bs) (tail (omega (arith, c, z, h)))

  -- a list in place of each member, in which the cell lies as often as in the member, or not at all
  pub cover-flat_map : (gone : Bool) (f : Corners → List Corners) (list : List Corners)
      → ((a : Corners) → Member a list → cover x (f a) ≡ cond gone 0 (one (holds a x)))
      → cover x (flat_map f list) ≡ cond gone 0 (cover x list)
  cover-flat_map true f [] each = refl
  cover-flat_map false f [] each = refl
  cover-flat_map true f (a ∷ list) each =
      let here : cover x (f a) ≡ 0 = each a (inl refl) in
      let rest : cover x (flat_map f list) ≡ 0 = cover-flat_map true f list (λ m p. each m (inr p)) in
      omega (arith, cover-append (f a) (flat_map f list), here, rest)
  cover-flat_map false f (a ∷ list) each =
      let here : cover x (f a) ≡ one (holds a x) = each a (inl refl) in
      let rest : cover x (flat_map f list) ≡ cover x list = cover-flat_map false f list (λ m p. each m (inr p)) in
      omega (arith, cover-append (f a) (flat_map f list), here, rest, cover-cons a list)

  -- one box, or none, that has the cell exactly where a test holds
  pub cover-option : (o : Option Corners) (t : Bool) → (IsSomeAnd o (λ s. Holds s x) ↔ (t ≡ true)) → cover x (option_to_list o) ≡ one t
  cover-option None t h = sym (ap one (false_from_ne_true t (λ e. h.1 e)))
  cover-option (Some s) t h =
      cover-single s ∙ ap one (same_test (holds s x) t (λ e. h.0 (Holds-test e)) (λ e. holds-from (h.1 e)))

  pub cover-met : (a b : Corners) → cover x (option_to_list (met a b)) ≡ one (holds a x && holds b x)
  cover-met a b =
      let h = met-cells a b x in
      cover-option (met a b) (holds a x && holds b x) (
        λ p. let q = h.0 p in and_from (holds a x) (holds b x) (holds-from q.0) (holds-from q.1),
        λ t. let p = and_parts (holds a x) (holds b x) t in h.1 (Holds-test p.0, Holds-test p.1),
      )

  cover-cons_option : (o : Option Corners) (bs : List Corners) → cover x (cons_option o bs) ≡ cover x (option_to_list o) + cover x bs
  cover-cons_option None bs = omega arith
  cover-cons_option (Some b) bs = omega (arith, cover-cons b bs, cover-single b)

  pub cover-intersect : (list : List Corners) (b : Corners) → cover x (filter_map (λ a. met a b) list) ≡ cond (holds b x) (cover x list) 0
  cover-intersect list b = in_list (holds b x) refl list
    where
      in_list : (t : Bool) → holds b x ≡ t → (as' : List Corners) → cover x (filter_map (λ a. met a b) as') ≡ cond t (cover x as') 0
      in_list true e [] = refl
      in_list false e [] = refl
      in_list true e (a ∷ rest) =
          let here : cover x (option_to_list (met a b)) ≡ one (holds a x && true) = rw e at (cover-met a b) in
          let none = and_true (holds a x) in
          omega (arith, cover-cons_option (met a b) (filter_map (λ m. met m b) rest), in_list true e rest, cover-cons a rest, here, ap one none)
      in_list false e (a ∷ rest) =
          let here : cover x (option_to_list (met a b)) ≡ one (holds a x && false) = rw e at (cover-met a b) in
          let none = and_false (holds a x) in
          omega (arith, cover-cons_option (met a b) (filter_map (λ m. met m b) rest), in_list false e rest, here, ap one none)

-- cells near a list, with one more member
module _ (x : IVec) where
  held-append : (bs cs : List Corners) → held x (bs ++ cs) ≡ (held x bs || held x cs)
  held-append bs cs = list_any-append (λ b. holds b x) bs cs

  pub held-left : (bs cs : List Corners) → held x bs ≡ true → held x (bs ++ cs) ≡ true
  held-left bs cs t = held-append bs cs ∙ or_left (held x bs) (held x cs) t

  pub held-last : (bs : List Corners) (b : Corners) → holds b x ≡ true → held x (bs ++ b ∷ []) ≡ true
  held-last bs b t = held-append bs (b ∷ []) ∙ or_right (held x bs) (held x (b ∷ [])) (or_left (holds b x) false t)

  pub held-cases : (bs : List Corners) (b : Corners) → held x (bs ++ b ∷ []) ≡ true → (held x bs ≡ true) ⊎ (holds b x ≡ true)
  held-cases bs b t =
      elim (or_cases (held x bs) (held x (b ∷ [])) (sym (held-append bs (b ∷ [])) ∙ t)) [
        | inl p ↦ inl p
        | inr q ↦ elim (or_cases (holds b x) false q) [ inl h ↦ inr h | inr f ↦ absurd (false≢true f) ]
      ]

pub near_step : (w x : IVec) (list wider : List Corners) (a g : Corners)
    → IsTrue (held x wider) ↔ IsNear w x list → Holds g x ↔ ((y : IVec) × Holds a y × Within w y x)
    → IsTrue (held x (wider ++ g ∷ [])) ↔ IsNear w x (list ++ a ∷ [])
near_step w x list wider a g before here = (
  λ t. elim (held-cases x wider g t) [
    | inl p ↦ let n = before.0 p in (n.0, held-left n.0 list (a ∷ []) n.1, n.2)
    | inr q ↦ let n = here.0 (Holds-test q) in (n.0, held-last n.0 list a (holds-from n.1), n.2)
  ],
  λ n. elim (held-cases n.0 list a n.1) [
    | inl p ↦ held-left x wider (g ∷ []) (before.1 (n.0, p, n.2))
    | inr q ↦ held-last x wider g (holds-from (here.1 (n.0, Holds-test q, n.2)))
  ],
)
