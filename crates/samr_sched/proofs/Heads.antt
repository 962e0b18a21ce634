-- Heads and shifts that pass a test, where at most one of them does.
use Rattle.std.proofs.Common.{◌≡◌, refl, sym, ap, ◌∙◌, subst, inl, inr}
use Rattle.std.proofs.lemmas.Bool.{cond-false, or_cases, or_left, or_right}
use Rattle.std.proofs.lemmas.List.Kept.{IsStrictlySortedBy-filter}
use Rattle.std.specs.Cmp.{IsTotalOrder}
use Rattle.std.specs.Prelude.{Bool, true, false, cond, List, [], ◌∷◌, ◌++◌, map, filter}
use Rattle.std.specs.List.{flat_map, list_any}
use Rattle.std.specs.List.Sorted.{IsStrictlySortedBy}
use Rattle.std.specs.declared.cmp.Ordering.{Ordering}
use Rattle.samr_box.specs.declared.vector.IVec.{IVec}
use Rattle.samr_box.specs.Lists.{Member}
use Rattle.samr_box.proofs.Members.{Member-filter, Member-from_filter}
use Rattle.samr_box.proofs.Ascending.{same_from_members}
use Rattle.samr_level.specs.Refs.{Owned, Link, link}
use Rattle.samr_level.specs.Overlaps.{all_links}
use Rattle.samr_level.proofs.Steps.{map_append, filter_append}
use Rattle.samr_sched.specs.declared.origin.Origin.{Origin}
use Rattle.samr_sched.specs.Origins.{of_heads}

pub filter_none : {X : Type 0} (t : X → Bool) (xs : List X) → ((x : X) → Member x xs → t x ≡ false) → filter t xs ≡ []
filter_none t [] none = refl
filter_none t (x ∷ xs) none = cond-false (t x) (x ∷ filter t xs) (filter t xs) (none x (inl refl)) ∙ filter_none t xs (λ y m. none y (inr m))

pub one_sorted : {X : Type 0} (cmp : X → X → Ordering) (x : X) → IsStrictlySortedBy cmp (x ∷ [])
unfolding IsStrictlySortedBy
one_sorted cmp x = (tt, tt)

pub filter_one : {X : Type 0} {cmp : X → X → Ordering} → IsTotalOrder cmp → (t : X → Bool) (x : X) (xs : List X) → IsStrictlySortedBy cmp xs → Member x xs → t x ≡ true
    → ((y : X) → Member y xs → t y ≡ true → y ≡ x) → filter t xs ≡ x ∷ []
filter_one {X} {cmp} total t x xs sorted member holds only =
    same_from_members total (filter t xs) (x ∷ []) (IsStrictlySortedBy-filter cmp t xs sorted) (one_sorted cmp x)
    (λ y m. let f = Member-from_filter t y xs m in inl (only y f.0 f.1))
    (λ y m. there y m)
  where
    there : (y : X) → Member y (x ∷ []) → Member y (filter t xs)
    there y (inl same) = subst (λ (v : X). Member v (filter t xs)) (sym same) (Member-filter t x xs member holds)
    there y (inr none) = absurd none

flat_only : {X Y : Type 0} (f : X → List Y) (p : X → Bool) (xs : List X) → ((x : X) → Member x xs → p x ≡ false → f x ≡ []) → flat_map f xs ≡ flat_map f (filter p xs)
flat_only f p [] none = refl
flat_only {X} {Y} f p (x ∷ xs) none = by (p x) refl (flat_only f p xs (λ y m. none y (inr m)))
  where
    by : (t : Bool) → p x ≡ t → flat_map f xs ≡ flat_map f (filter p xs) → flat_map f (x ∷ xs) ≡ flat_map f (cond t (x ∷ filter p xs) (filter p xs))
    by true e rest = ap (λ (l : List Y). f x ++ l) rest
    by false e rest = ap (λ (l : List Y). l ++ flat_map f xs) (none x (inl refl) e) ∙ rest

module _ (make : Owned → IVec → Origin) (ss : List IVec) where
  pub heads_none : (test : Owned → IVec → Bool) (heads : List Owned) → ((h : Owned) (s : IVec) → Member h heads → Member s ss → test h s ≡ false) → of_heads test make heads ss ≡ []
  heads_none test [] none = refl
  heads_none test (h ∷ heads) none =
      ap (λ (l : List IVec). map (λ s. make h s) l ++ of_heads test make heads ss) (filter_none (λ s. test h s) ss (λ s m. none h s (inl refl) m))
      ∙ heads_none test heads (λ k s m n. none k s (inr m) n)

  pub heads_one : (test : Owned → IVec → Bool) (heads : List Owned) (p : Owned → Bool) (h : Owned) (s : IVec) → filter p heads ≡ h ∷ [] → filter (λ s. test h s) ss ≡ s ∷ []
      → ((k : Owned) (v : IVec) → Member k heads → p k ≡ false → Member v ss → test k v ≡ false) → of_heads test make heads ss ≡ make h s ∷ []
  heads_one test heads p h s one_head one_shift none =
      flat_only (λ k. map (λ v. make k v) (filter (λ v. test k v) ss)) p heads
      (λ k m f. ap (map (λ v. make k v)) (filter_none (λ v. test k v) ss (λ v n. none k v m f n)))
      ∙ ap (λ (l : List Owned). flat_map (λ k. map (λ v. make k v) (filter (λ v. test k v) ss)) l) one_head
      ∙ ap (λ (l : List IVec). map (λ v. make h v) l ++ []) one_shift

  -- the same, made from the edges of one box
  along_shifts : (test : Owned → IVec → Bool) (b h : Owned) (vs : List IVec)
      → map (λ (e : Link). make e.head e.shift) (filter (λ (e : Link). test e.head e.shift) (map (λ s. link b h s) vs)) ≡ map (λ s. make h s) (filter (λ s. test h s) vs)
  along_shifts test b h [] = refl
  along_shifts test b h (v ∷ vs) = by (test h v) (along_shifts test b h vs)
    where
      by : (t : Bool) → map (λ (e : Link). make e.head e.shift) (filter (λ (e : Link). test e.head e.shift) (map (λ s. link b h s) vs)) ≡ map (λ s. make h s) (filter (λ s. test h s) vs)
          → map (λ (e : Link). make e.head e.shift) (cond t (link b h v ∷ filter (λ (e : Link). test e.head e.shift) (map (λ s. link b h s) vs)) (filter (λ (e : Link). test e.head e.shift) (map (λ s. link b h s) vs)))
          ≡ map (λ s. make h s) (cond t (v ∷ filter (λ s. test h s) vs) (filter (λ s. test h s) vs))
      by true e = ap (λ (l : List Origin). make h v ∷ l) e
      by false e = e

  links_heads_of : (test : Owned → IVec → Bool) (b : Owned) (heads : List Owned)
      → map (λ (e : Link). make e.head e.shift) (filter (λ (e : Link). test e.head e.shift) (flat_map (λ h. map (λ s. link b h s) ss) heads)) ≡ of_heads test make heads ss
  links_heads_of test b [] = refl
  links_heads_of test b (h ∷ heads) =
      ap (map (λ (e : Link). make e.head e.shift))
      (filter_append (λ (e : Link). test e.head e.shift) (map (λ s. link b h s) ss) (flat_map (λ h. map (λ s. link b h s) ss) heads))
      ∙ map_append (λ (e : Link). make e.head e.shift) (filter (λ (e : Link). test e.head e.shift) (map (λ s. link b h s) ss))
      (filter (λ (e : Link). test e.head e.shift) (flat_map (λ h. map (λ s. link b h s) ss) heads))
      ∙ ap (λ (l : List Origin). l ++ map (λ (e : Link). make e.head e.shift) (filter (λ (e : Link). test e.head e.shift) (flat_map (λ h. map (λ s. link b h s) ss) heads)))
      (along_shifts test b h ss)
      ∙ ap (λ (l : List Origin). map (λ s. make h s) (filter (λ s. test h s) ss) ++ l) (links_heads_of test b heads)

  pub links_heads : (test : Owned → IVec → Bool) (b : Owned) (heads : List Owned)
      → map (λ (e : Link). make e.head e.shift) (filter (λ (e : Link). test e.head e.shift) (all_links (b ∷ []) heads ss)) ≡ of_heads test make heads ss
  links_heads test b heads =
      ap (λ (l : List Link). map (λ (e : Link). make e.head e.shift) (filter (λ (e : Link). test e.head e.shift) l)) (append_nothing (flat_map (λ h. map (λ s. link b h s) ss) heads))
      ∙ links_heads_of test b heads
    where
      append_nothing : {X : Type 0} (xs : List X) → xs ++ [] ≡ xs
      append_nothing [] = refl
      append_nothing {X} (x ∷ xs) = ap (λ (l : List X). x ∷ l) (append_nothing xs)

-- a member that passes a test
pub any_from : {X : Type 0} (p : X → Bool) (xs : List X) → list_any p xs ≡ true → (x : X) × Member x xs × (p x ≡ true)
any_from p [] t = cc
any_from p (x ∷ xs) t = elim (or_cases (p x) (list_any p xs) t) [
  | inl here ↦ (x, inl refl, here)
  | inr later ↦ let r = any_from p xs later in (r.0, inr r.1, r.2)
]

pub any_is : {X : Type 0} (p : X → Bool) (xs : List X) (x : X) → Member x xs → p x ≡ true → list_any p xs ≡ true
any_is p [] x m t = absurd m
any_is {X} p (y ∷ ys) x (inl same) t = or_left (p y) (list_any p ys) (subst (λ (v : X). p v ≡ true) same t)
any_is p (y ∷ ys) x (inr m) t = or_right (p y) (list_any p ys) (any_is p ys x m t)
