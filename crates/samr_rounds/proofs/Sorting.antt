-- Sorted lists: what they have, what becomes of them, and that a sort of std gives them.
use Rattle.std.proofs.Common.{◌≡◌, ℕ, suc, ◌<◌, ◌≤◌, refl, sym, ap, subst, ◌∙◌, inl, inr, arith, map, filter, length, not}
use Rattle.std.proofs.lemmas.Bool.{cond_both, cond-true, cond-false, false≢true}
use Rattle.std.proofs.lemmas.List.Sorted.{sorted_far, ranks_by}
use Rattle.std.specs.Prelude.{Bool, true, false, cond, ◌&&◌, List, [], ◌∷◌}
use Rattle.std.specs.List.{slice_index_or}
use Rattle.std.specs.List.Sorted.{IsSortedBy, IsStableBy, ties}
use Rattle.std.specs.Cmp.{IsStrictWeakOrder}
use Rattle.samr_box.specs.Corners.{Corners}
use Rattle.samr_box.specs.Lists.{Member}
use Rattle.samr_box.proofs.Members.{Member-filter, Member-from_filter, contains_from_member}
use Rattle.samr_box.proofs.Totals.{corner_total}
use Rattle.samr_rounds.specs.Sorted.{put_in, sorted, corner_less}

-- the members are the same
module _ {X : Type 0} (less : X → X → Bool) where
  Member-put_in : (z x : X) (ys : List X) → Member z (x ∷ ys) → Member z (put_in less x ys)
  Member-put_in z x [] m = m
  Member-put_in z x (y ∷ ys) m =
      cond_both (less y x) (y ∷ put_in less x ys) (x ∷ y ∷ ys) (λ l. Member z l)
      (λ _. elim m [
        | inl e ↦ inr (Member-put_in z x ys (inl e))
        | inr later ↦ elim later [ inl e ↦ inl e | inr k ↦ inr (Member-put_in z x ys (inr k)) ]
      ])
      (λ _. m)

  Member-from_put_in : (z x : X) (ys : List X) → Member z (put_in less x ys) → Member z (x ∷ ys)
  Member-from_put_in z x [] = λ m. m
  Member-from_put_in z x (y ∷ ys) =
      cond_both (less y x) (y ∷ put_in less x ys) (x ∷ y ∷ ys) (λ l. Member z l → Member z (x ∷ y ∷ ys))
      (λ _ m. elim m [
        | inl e ↦ inr (inl e)
        | inr later ↦ elim (Member-from_put_in z x ys later) [ inl e ↦ inl e | inr k ↦ inr (inr k) ]
      ])
      (λ _ m. m)

  pub Member-sorted : (z : X) (xs : List X) → Member z xs → Member z (sorted less xs)
  unfolding sorted
  Member-sorted z [] m = m
  Member-sorted z (x ∷ xs) (inl e) = Member-put_in z x (sorted less xs) (inl e)
  Member-sorted z (x ∷ xs) (inr m) = Member-put_in z x (sorted less xs) (inr (Member-sorted z xs m))

  pub Member-from_sorted : (z : X) (xs : List X) → Member z (sorted less xs) → Member z xs
  unfolding sorted
  Member-from_sorted z [] m = m
  Member-from_sorted z (x ∷ xs) m = elim (Member-from_put_in z x (sorted less xs) m) [ inl e ↦ inl e | inr k ↦ inr (Member-from_sorted z xs k) ]

-- a map that keeps the order
module _ {X Y : Type 0} (f : X → Y) (less : Y → Y → Bool) where
  abbrev by_image : X → X → Bool
  by_image a b = less (f a) (f b)

  map-put_in : (x : X) (ys : List X) → map f (put_in by_image x ys) ≡ put_in less (f x) (map f ys)
  map-put_in x [] = refl
  map-put_in x (y ∷ ys) = by (less (f y) (f x)) (map-put_in x ys)
    where
      by : (t : Bool) → map f (put_in by_image x ys) ≡ put_in less (f x) (map f ys)
          → map f (cond t (y ∷ put_in by_image x ys) (x ∷ y ∷ ys)) ≡ cond t (f y ∷ put_in less (f x) (map f ys)) (f x ∷ f y ∷ map f ys)
      by true e = ap (λ l. f y ∷ l) e
      by false e = refl

  pub map-sorted : (xs : List X) → map f (sorted by_image xs) ≡ sorted less (map f xs)
  unfolding sorted
  map-sorted [] = refl
  map-sorted (x ∷ xs) = map-put_in x (sorted by_image xs) ∙ ap (put_in less (f x)) (map-sorted xs)

-- no member is less than one before it
unfoldable pub Rises : {X : Type 0} → (X → X → Bool) → List X → Type 0
Rises less [] = Unit {0}
Rises {X} less (x ∷ xs) = ((z : X) → Member z xs → less z x ≡ false) × Rises less xs

module _ {X : Type 0} (less : X → X → Bool) (o : IsStrictWeakOrder less) where
  put_in_rises : (x : X) (ys : List X) → Rises less ys → Rises less (put_in less x ys)
  unfolding Rises
  put_in_rises x [] h = (λ z m. absurd m, tt)
  put_in_rises x (y ∷ ys) h =
      cond_both (less y x) (y ∷ put_in less x ys) (x ∷ y ∷ ys) (λ l. Rises less l)
      (λ t. (
        λ z m. elim (Member-from_put_in less z x ys m) [
          | inl e ↦ subst (λ v. less v y ≡ false) (sym e) (o.one_way y x t)
          | inr k ↦ h.0 z k
        ],
        put_in_rises x ys h.1,
      ))
      (λ t. (
        λ z m. elim m [
          | inl e ↦ subst (λ v. less v x ≡ false) (sym e) t
          | inr k ↦ o.chain z y x (h.0 z k) t
        ],
        h,
      ))

  pub sorted_rises : (xs : List X) → Rises less (sorted less xs)
  unfolding sorted Rises
  sorted_rises [] = tt
  sorted_rises (x ∷ xs) = put_in_rises x (sorted less xs) (sorted_rises xs)

  put_first : (x : X) (ys : List X) → ((z : X) → Member z ys → less z x ≡ false) → put_in less x ys ≡ x ∷ ys
  put_first x [] h = refl
  put_first x (y ∷ ys) h = cond-false (less y x) (y ∷ put_in less x ys) (x ∷ y ∷ ys) (h y (inl refl))

  -- a sorted list with fewer members
  module _ (p : X → Bool) where
    left_out : (x : X) (ys : List X) → p x ≡ false → filter p (put_in less x ys) ≡ filter p ys
    left_out x [] e = cond-false (p x) (x ∷ []) [] e
    left_out x (y ∷ ys) e =
        cond_both (less y x) (y ∷ put_in less x ys) (x ∷ y ∷ ys) (λ l. filter p l ≡ filter p (y ∷ ys))
        (λ _. ap (λ l. cond (p y) (y ∷ l) l) (left_out x ys e))
        (λ _. cond-false (p x) (x ∷ filter p (y ∷ ys)) (filter p (y ∷ ys)) e)

    kept_by : (x y : X) (ys : List X) (v : Bool) → less y x ≡ true → filter p (put_in less x ys) ≡ put_in less x (filter p ys)
        → cond v (y ∷ filter p (put_in less x ys)) (filter p (put_in less x ys)) ≡ put_in less x (cond v (y ∷ filter p ys) (filter p ys))
    kept_by x y ys true t rest =
        ap (λ l. y ∷ l) rest ∙ sym (cond-true (less y x) (y ∷ put_in less x (filter p ys)) (x ∷ y ∷ filter p ys) t)
    kept_by x y ys false t rest = rest

    kept : (x : X) (ys : List X) → p x ≡ true → Rises less ys → filter p (put_in less x ys) ≡ put_in less x (filter p ys)
    unfolding Rises
    kept x [] e h = cond-true (p x) (x ∷ []) [] e
    kept x (y ∷ ys) e h =
        cond_both (less y x) (y ∷ put_in less x ys) (x ∷ y ∷ ys) (λ l. filter p l ≡ put_in less x (filter p (y ∷ ys)))
        (λ t. kept_by x y ys (p y) t (kept x ys e h.1))
        (λ t.
        cond-true (p x) (x ∷ filter p (y ∷ ys)) (filter p (y ∷ ys)) e
        ∙ sym (put_first x (filter p (y ∷ ys))
        (λ z m. elim (Member-from_filter p z (y ∷ ys) m).0 [
          | inl here ↦ subst (λ v. less v x ≡ false) (sym here) t
          | inr k ↦ o.chain z y x (h.0 z k) t
        ])))

    filter_by : (x : X) (xs : List X) (v : Bool) → p x ≡ v → filter p (sorted less xs) ≡ sorted less (filter p xs)
        → filter p (put_in less x (sorted less xs)) ≡ sorted less (cond v (x ∷ filter p xs) (filter p xs))
    unfolding sorted
    filter_by x xs true e rest = kept x (sorted less xs) e (sorted_rises xs) ∙ ap (put_in less x) rest
    filter_by x xs false e rest = left_out x (sorted less xs) e ∙ rest

    pub filter-sorted : (xs : List X) → filter p (sorted less xs) ≡ sorted less (filter p xs)
    unfolding sorted
    filter-sorted [] = refl
    filter-sorted (x ∷ xs) = filter_by x xs (p x) refl (filter-sorted xs)

  -- members of one place stand as they stood
  all_level : (xs : List X) → ((y z : X) → Member y xs → Member z xs → less z y ≡ false) → sorted less xs ≡ xs
  unfolding sorted
  all_level [] h = refl
  all_level (x ∷ xs) h =
      ap (put_in less x) (all_level xs (λ y z m n. h y z (inr m) (inr n)))
      ∙ put_first x xs (λ z m. h x z (inl refl) (inr m))

  tie_parts : (a b : Bool) → (not a && not b) ≡ true → (a ≡ false) × (b ≡ false)
  tie_parts true b e = absurd (false≢true e)
  tie_parts false true e = absurd (false≢true e)
  tie_parts false false e = (refl, refl)

  are_ties : (x y : X) → less x y ≡ false → less y x ≡ false → ties less x y ≡ true
  are_ties x y e f = ap (λ (b : Bool). not b && not (less y x)) e ∙ ap not f

  not_less_itself : (x : X) → less x x ≡ false
  not_less_itself x = by (less x x) refl
    where
      by : (v : Bool) → less x x ≡ v → less x x ≡ false
      by true e = o.one_way x x e
      by false e = e

  ties_stay : (x : X) (xs : List X) → filter (ties less x) (sorted less xs) ≡ filter (ties less x) xs
  ties_stay x xs =
      filter-sorted (ties less x) xs
      ∙ all_level (filter (ties less x) xs)
      (λ y z m n.
      let a = tie_parts (less x y) (less y x) (Member-from_filter (ties less x) y xs m).1 in
      let b = tie_parts (less x z) (less z x) (Member-from_filter (ties less x) z xs n).1 in
      o.chain z x y b.1 a.0)

  -- a list that rises is told by this
  head_of : (x : X) (xs : List X) → Member x (filter (ties less x) (x ∷ xs))
  head_of x xs = Member-filter (ties less x) x (x ∷ xs) (inl refl) (are_ties x x (not_less_itself x) (not_less_itself x))

  cons_head : (x y : X) (xs ys : List X) → x ∷ xs ≡ y ∷ ys → x ≡ y
  cons_head x y xs ys e = cc

  cons_tail : (x : X) (xs ys : List X) → x ∷ xs ≡ x ∷ ys → xs ≡ ys
  cons_tail x xs ys e = cc

  same_tail : (x : X) (xs ys : List X) (v : Bool) → cond v (x ∷ xs) xs ≡ cond v (x ∷ ys) ys → xs ≡ ys
  same_tail x xs ys true e = cons_tail x xs ys e
  same_tail x xs ys false e = e

  same_heads : (x y : X) (xs ys : List X) → Rises less (x ∷ xs) → Rises less (y ∷ ys) → filter (ties less x) (x ∷ xs) ≡ filter (ties less x) (y ∷ ys)
      → Member x (y ∷ ys) → Member y (x ∷ xs) → x ≡ y
  unfolding Rises
  same_heads x y xs ys h k e (inl here) n = here
  same_heads x y xs ys h k e (inr m) (inl here) = sym here
  same_heads x y xs ys h k e (inr m) (inr n) =
      let first = are_ties x x (not_less_itself x) (not_less_itself x) in
      let second = are_ties x y (k.0 x m) (h.0 y n) in
      cons_head x y (filter (ties less x) xs) (filter (ties less x) ys)
      (sym (cond-true (ties less x x) (x ∷ filter (ties less x) xs) (filter (ties less x) xs) first)
      ∙ e
      ∙ cond-true (ties less x y) (y ∷ filter (ties less x) ys) (filter (ties less x) ys) second)

  rises_same : (xs ys : List X) → Rises less xs → Rises less ys → ((x : X) → filter (ties less x) xs ≡ filter (ties less x) ys) → xs ≡ ys
  unfolding Rises
  rises_same [] [] h k e = refl
  rises_same [] (y ∷ ys) h k e = absurd (subst (λ l. Member y l) (sym (e y)) (head_of y ys))
  rises_same (x ∷ xs) [] h k e = absurd (subst (λ l. Member x l) (e x) (head_of x xs))
  rises_same (x ∷ xs) (y ∷ ys) h k e =
      let there = (Member-from_filter (ties less x) x (y ∷ ys) (subst (λ l. Member x l) (e x) (head_of x xs))).0 in
      let here = (Member-from_filter (ties less y) y (x ∷ xs) (subst (λ l. Member y l) (sym (e y)) (head_of y ys))).0 in
      let heads : x ≡ y = same_heads x y xs ys h k (e x) there here in
      ap (λ v. v ∷ xs) heads
      ∙ ap (λ l. y ∷ l)
      (rises_same xs ys h.1 k.1
      (λ z. same_tail y (filter (ties less z) xs) (filter (ties less z) ys) (ties less z y) (subst (λ v. filter (ties less z) (v ∷ xs) ≡ filter (ties less z) (y ∷ ys)) heads (e z))))

  far_rises : (xs : List X) → ((i j : ℕ) (d : X) → i ≤ j → j < length xs → less (slice_index_or xs j d) (slice_index_or xs i d) ≡ false) → Rises less xs
  unfolding Rises
  far_rises [] far = tt
  far_rises (x ∷ xs) far = (
    λ z m.
        let place = contains_from_member z xs m in
        subst (λ v. less v x ≡ false) place.2 (far 0 (suc place.0) z (omega arith) (omega (arith, place.1))),
    far_rises xs (λ i j d low high. far (suc i) (suc j) d (omega arith) (omega arith)),
  )

  -- a stable sort
  pub stable_is : (xs ys : List X) → IsSortedBy less ys → IsStableBy less xs ys → ys ≡ sorted less xs
  stable_is xs ys s stable =
      rises_same ys (sorted less xs) (far_rises ys (λ i j d low high. sorted_far less o ys s i j d low high)) (sorted_rises xs)
      (λ x. stable x ∙ sym (ties_stay x xs))

pub corner_ranks : {X : Type 0} (box : X → Corners) → IsStrictWeakOrder (λ (x y : X). corner_less (box x) (box y))
corner_ranks box = ranks_by corner_total box
