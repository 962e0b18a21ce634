-- Members of lists: in lists joined, mapped and filtered, and against `Contains` and `All`.
use Rattle.std.proofs.Common.{◌≡◌, suc, refl, sym, ap, subst, ◌∙◌, inl, inr, arith}
use Rattle.std.proofs.lemmas.Bool.{cond-true, cond_both}
use Rattle.std.proofs.lemmas.List.Elements.{All-from_recursion, recursion_from_All, All-contains}
use Rattle.std.specs.Prelude.{Bool, true, List, [], ◌∷◌, ◌++◌, map, ◌⊎◌, Option, Some, None}
use Rattle.std.specs.List.{filter, filter_map, flat_map, cons_option, All, AllByRecursion, Contains}
use Rattle.samr_box.specs.Lists.{Member}

module _ {X : Type 0} where
  pub Member-append_left : (x : X) (xs ys : List X) → Member x xs → Member x (xs ++ ys)
  Member-append_left x [] ys m = absurd m
  Member-append_left x (y ∷ xs) ys (inl e) = inl e
  Member-append_left x (y ∷ xs) ys (inr m) = inr (Member-append_left x xs ys m)

  pub Member-append_right : (x : X) (xs ys : List X) → Member x ys → Member x (xs ++ ys)
  Member-append_right x [] ys m = m
  Member-append_right x (y ∷ xs) ys m = inr (Member-append_right x xs ys m)

  pub Member-from_append : (x : X) (xs ys : List X) → Member x (xs ++ ys) → Member x xs ⊎ Member x ys
  Member-from_append x [] ys m = inr m
  Member-from_append x (y ∷ xs) ys (inl e) = inl (inl e)
  Member-from_append x (y ∷ xs) ys (inr m) =
      elim (Member-from_append x xs ys m) [ inl p ↦ inl (inr p) | inr q ↦ inr q ]

  -- what holds of all members
  pub by_recursion_from_members : (P : X → Type 0) (xs : List X) → ((x : X) → Member x xs → P x) → AllByRecursion P xs
  by_recursion_from_members P [] f = tt
  by_recursion_from_members P (y ∷ ys) f = (f y (inl refl), by_recursion_from_members P ys (λ x m. f x (inr m)))

  pub member_of_recursion : (P : X → Type 0) (x : X) (xs : List X) → AllByRecursion P xs → Member x xs → P x
  member_of_recursion P x [] a m = absurd m
  member_of_recursion P x (y ∷ ys) a (inl e) = subst P (sym e) a.0
  member_of_recursion P x (y ∷ ys) a (inr m) = member_of_recursion P x ys a.1 m

  pub All-from_members : (P : X → Type 0) (xs : List X) → ((x : X) → Member x xs → P x) → All P xs
  All-from_members P xs f = All-from_recursion P xs (by_recursion_from_members P xs f)

  pub member_of_All : (P : X → Type 0) (x : X) (xs : List X) → All P xs → Member x xs → P x
  member_of_All P x xs a m = member_of_recursion P x xs (recursion_from_All P xs a) m

  -- std's word for members, which goes by index
  pub member_from_contains : (x : X) (xs : List X) → Contains xs x → Member x xs
  member_from_contains x xs h =
      All-contains (λ y. Member y xs) xs x (All-from_members (λ y. Member y xs) xs (λ y m. m)) h

  pub contains_from_member : (x : X) (xs : List X) → Member x xs → Contains xs x
  contains_from_member x [] m = absurd m
  contains_from_member x (y ∷ ys) (inl e) = (0, omega arith, sym e)
  contains_from_member x (y ∷ ys) (inr m) =
      let h = contains_from_member x ys m in (suc h.0, omega (arith, h.1), h.2)

  -- the members that pass a test
  pub Member-filter : (p : X → Bool) (x : X) (xs : List X) → Member x xs → p x ≡ true → Member x (filter p xs)
  Member-filter p x [] m t = absurd m
  Member-filter p x (y ∷ ys) (inl e) t =
      let h : p y ≡ true = ap p (sym e) ∙ t in
      rw (cond-true (p y) (y ∷ filter p ys) (filter p ys) h) (inl e)
  Member-filter p x (y ∷ ys) (inr m) t =
      let rest = Member-filter p x ys m t in
      cond_both (p y) (y ∷ filter p ys) (filter p ys) (λ l. Member x l) (λ yes. inr rest) (λ no. rest)

  pub Member-from_filter : (p : X → Bool) (x : X) (xs : List X) → Member x (filter p xs) → Member x xs × (p x ≡ true)
  Member-from_filter p x [] m = absurd m
  Member-from_filter p x (y ∷ ys) m =
      cond_both (p y) (y ∷ filter p ys) (filter p ys) (λ l. Member x l → Member x (y ∷ ys) × (p x ≡ true))
      (λ yes found. elim found [
        | inl e ↦ (inl e, ap p e ∙ yes)
        | inr later ↦ let r = Member-from_filter p x ys later in (inr r.0, r.1)
      ])
      (λ no later. let r = Member-from_filter p x ys later in (inr r.0, r.1))
      m

module _ {X Y : Type 0} (f : X → Y) where
  pub Member-map : (x : X) (xs : List X) → Member x xs → Member (f x) (map f xs)
  Member-map x [] m = absurd m
  Member-map x (y ∷ xs) (inl e) = inl (ap f e)
  Member-map x (y ∷ xs) (inr m) = inr (Member-map x xs m)

  pub Member-from_map : (y : Y) (xs : List X) → Member y (map f xs) → (x : X) × Member x xs × (y ≡ f x)
  Member-from_map y [] m = absurd m
  Member-from_map y (x ∷ xs) (inl e) = (x, inl refl, e)
  Member-from_map y (x ∷ xs) (inr m) = let r = Member-from_map y xs m in (r.0, inr r.1, r.2)

module _ {X Y : Type 0} (f : X → List Y) where
  pub Member-flat_map : (y : Y) (x : X) (xs : List X) → Member x xs → Member y (f x) → Member y (flat_map f xs)
  Member-flat_map y x [] m h = absurd m
  Member-flat_map y x (z ∷ xs) (inl e) h =
      Member-append_left y (f z) (flat_map f xs) (subst (λ v. Member y (f v)) e h)
  Member-flat_map y x (z ∷ xs) (inr m) h =
      Member-append_right y (f z) (flat_map f xs) (Member-flat_map y x xs m h)

  pub Member-from_flat_map : (y : Y) (xs : List X) → Member y (flat_map f xs) → (x : X) × Member x xs × Member y (f x)
  Member-from_flat_map y [] m = absurd m
  Member-from_flat_map y (x ∷ xs) m =
      elim (Member-from_append y (f x) (flat_map f xs) m) [
        | inl here ↦ (x, inl refl, here)
        | inr later ↦ let r = Member-from_flat_map y xs later in (r.0, inr r.1, r.2)
      ]

module _ {X Y : Type 0} (h : X → Option Y) where
  pub Member-filter_map : (y : Y) (x : X) (xs : List X) → Member x xs → h x ≡ Some y → Member y (filter_map h xs)
  Member-filter_map y x [] m e = absurd m
  Member-filter_map y x (z ∷ xs) (inl same) e =
      let is : h z ≡ Some y = ap h (sym same) ∙ e in
      rw is (inl refl)
  Member-filter_map y x (z ∷ xs) (inr m) e =
      later (h z) (Member-filter_map y x xs m e)
    where
      later : (o : Option Y) → Member y (filter_map h xs) → Member y (cons_option o (filter_map h xs))
      later None found = found
      later (Some w) found = inr found

  pub Member-from_filter_map : (y : Y) (xs : List X) → Member y (filter_map h xs) → (x : X) × Member x xs × (h x ≡ Some y)
  Member-from_filter_map y [] m = absurd m
  Member-from_filter_map y (z ∷ xs) m = split (h z) refl (λ found. Member-from_filter_map y xs found) m
    where
      split : (o : Option Y) → h z ≡ o → (Member y (filter_map h xs) → (x : X) × Member x xs × (h x ≡ Some y))
          → Member y (cons_option o (filter_map h xs)) → (x : X) × Member x (z ∷ xs) × (h x ≡ Some y)
      split None e rest found = let r = rest found in (r.0, inr r.1, r.2)
      split (Some w) e rest (inl same) = (z, inl refl, e ∙ ap Some (sym same))
      split (Some w) e rest (inr found) = let r = rest found in (r.0, inr r.1, r.2)
