-- Letters that ascend by name: those of the first label stand first, and one more goes to its place.
use Rattle.std.proofs.Common.{◌≡◌, ◌≢◌, ℕ, zero, suc, ◌+◌, ◌<◌, ◌≤◌, List, [], ◌∷◌, length, get_or, take, drop, refl, sym, ap, ◌∙◌, arith, true, false, All, insert, inl, inr}
use Rattle.std.specs.List.{AllWithin, HoldsAt}
use Rattle.std.specs.List.Sorted.{IsPartitionedBy, IsPartitionPoint, IsNonDecreasingBy}
use Rattle.std.specs.Ordering.{is_le, is_lt, is_eq, is_ne, ordering_index}
use Rattle.std.specs.declared.cmp.Ordering.{Ordering}
use Rattle.std.specs.declared.cmp.Ordering.TheVariants.{Less, Equal, Greater}
use Rattle.std.proofs.lemmas.Bool.{cases_lt}
use Rattle.std.proofs.lemmas.Cmp.{tied_back, alike_right}
use Rattle.std.proofs.lemmas.List.{get_or-take, get_or-drop, length-take, length-drop}
use Rattle.std.proofs.lemmas.List.Elements.{All-head, All-tail, All-cons, All-nil, All-weaker}
use Rattle.std.proofs.lemmas.List.Kept.{AllPairs-cons}
use Rattle.std.proofs.lemmas.List.Sorted.{searchable_from_sorted}
use Rattle.samr_stage.specs.declared.label.Label.{Label}
use Rattle.samr_stage.specs.declared.label.Name.{Name}
use Rattle.samr_stage.specs.Label.{label_cmp, name_cmp}
use Rattle.samr_stage.specs.LabelLaws.{label_cmp_total, name_cmp_total}
use Rattle.samr_stage.specs.Held.{AreRising}
use Rattle.samr_stage.specs.Machine.{of_label, of_others, stored}
use Rattle.samr_stage.proofs.Orders.{name_up, less_back, greater_back, le_le, equal_from_le, greater_from_le}
use Rattle.samr_stage.proofs.Lists.{filter_front, filter_rest, AllPairs-head, AllPairs-tail}

All-take_within : {X : Type 0} (P : X → Type 0) (xs : List X) (n : ℕ) → AllWithin P xs 0 n → All P (take n xs)
All-take_within P xs n h = λ k d within.
    let below : k < n = omega (arith, length-take n xs) in rw get_or-take (h k d (omega arith) below)

All-drop_within : {X : Type 0} (P : X → Type 0) (xs : List X) (n : ℕ) → AllWithin P xs n (length xs) → All P (drop n xs)
All-drop_within P xs n h = λ k d within. rw get_or-drop (h (n + k) d (omega arith) (omega (arith, length-drop n xs)))

module _ {M : Type 0} (name : M → Name) (at : Label) where
  -- the letters of labels up to one stand before all others
  pub up_to_first : (xs : List M) → AreRising name xs → IsPartitionedBy (λ y. is_le (label_cmp (name y).label at)) xs
  up_to_first xs rising = λ i j d upto within le. elim (cases_lt i j) [
    | inl below ↦ le_le label_cmp_total (name (get_or xs i d)).label (name (get_or xs j d)).label at (name_up (name (get_or xs i d)) (name (get_or xs j d)) (rising i j d below within)) le
    | inr same ↦ let e : i ≡ j = omega arith in rw e le
  ]

  module _ (xs : List M) (n : ℕ) (within : n ≤ length xs) (ahead : All (λ x. label_cmp (name x).label at ≢ Less) xs) (point : IsPartitionPoint (λ y. is_le (label_cmp (name y).label at) ≡ true) (λ y. is_le (label_cmp (name y).label at) ≡ false) xs n) where
    tied : (k : ℕ) (d : M) → k < n → label_cmp (name (get_or xs k d)).label at ≡ Equal
    tied k d below = equal_from_le _ (ahead k d (omega arith)) (point.0 k d (omega arith) below)

    later : (k : ℕ) (d : M) → n ≤ k → k < length xs → label_cmp (name (get_or xs k d)).label at ≡ Greater
    later k d from below = greater_from_le _ (point.1 k d from below)

    -- the letters of the label are the first n
    pub front_is : take n xs ≡ of_label name at xs
    front_is = sym (filter_front (λ y. is_eq (label_cmp (name y).label at)) xs n (All-take_within (λ y. is_eq (label_cmp (name y).label at) ≡ true) xs n (λ k d low below. ap is_eq (tied k d below))) (All-drop_within (λ y. is_eq (label_cmp (name y).label at) ≡ false) xs n (λ k d from below. ap is_eq (later k d from below))))

    pub rest_is : drop n xs ≡ of_others name at xs
    rest_is = sym (filter_rest (λ y. is_ne (label_cmp (name y).label at)) xs n (All-take_within (λ y. is_ne (label_cmp (name y).label at) ≡ false) xs n (λ k d low below. ap is_ne (tied k d below))) (All-drop_within (λ y. is_ne (label_cmp (name y).label at) ≡ true) xs n (λ k d from below. ap is_ne (later k d from below))))

module _ {M : Type 0} (name : M → Name) where
  abbrev Before : M → M → Type 0
  Before x y = name_cmp (name x) (name y) ≡ Less

  -- a rising list and its tail
  pub rising_head : (x : M) (xs : List M) → AreRising name (x ∷ xs) → All (λ y. name_cmp (name x) (name y) ≡ Less) xs
  rising_head x xs h = AllPairs-head Before x xs h

  pub rising_tail : (x : M) (xs : List M) → AreRising name (x ∷ xs) → AreRising name xs
  rising_tail x xs h = AllPairs-tail Before x xs h

  pub rising_cons : (x : M) (xs : List M) → All (λ y. name_cmp (name x) (name y) ≡ Less) xs → AreRising name xs → AreRising name (x ∷ xs)
  rising_cons x xs h k = AllPairs-cons Before x xs h k

  -- what a search by name asks of the letters
  pub searchable : (xs : List M) (n : Name) → AreRising name xs → IsNonDecreasingBy (λ y. ordering_index (name_cmp (name y) n)) xs
  searchable xs n rising =
      searchable_from_sorted name_cmp_total name xs n (λ k d low below. ap is_lt (less_back name_cmp_total (name (get_or xs k d)) (name (get_or xs (k + 1) d)) (rising k (k + 1) d (omega arith) below)))

  -- where a letter of its name is there the letters stay
  pub stored_found : (xs : List M) (y : M) (i : ℕ) → AreRising name xs → i < length xs → HoldsAt (λ x. name_cmp (name x) (name y) ≡ Equal) xs i → xs ≡ stored name xs y
  stored_found [] y i rising within at = absurd (omega arith)
  stored_found (x ∷ xs) y zero rising within at = rw (tied_back name_cmp_total (name x) (name y) (at x)) refl
  stored_found (x ∷ xs) y (suc i) rising within at =
      let inside : i < length xs = omega arith in
      let less : name_cmp (name x) (name y) ≡ Less =
      sym (alike_right name_cmp_total (name (get_or xs i x)) (name y) (name x) (at x)) ∙ rising_head x xs rising i x inside in
      rw (less_back name_cmp_total (name x) (name y) less) (ap (λ zs. x ∷ zs) (stored_found xs y i (rising_tail x xs rising) inside at))

  between : (xs : List M) (y : M) (i : ℕ) → All (λ x. name_cmp (name x) (name y) ≡ Less) (take i xs) → All (λ x. name_cmp (name x) (name y) ≡ Greater) (drop i xs) → insert xs i y ≡ stored name xs y
  between [] y zero less greater = refl
  between [] y (suc i) less greater = refl
  between (x ∷ xs) y zero less greater =
      rw (greater_back name_cmp_total (name x) (name y) (All-head (λ z. name_cmp (name z) (name y) ≡ Greater) x xs greater)) refl
  between (x ∷ xs) y (suc i) less greater =
      rw (less_back name_cmp_total (name x) (name y) (All-head (λ z. name_cmp (name z) (name y) ≡ Less) x (take i xs) less)) (ap (λ zs. x ∷ zs) (between xs y i (All-tail (λ z. name_cmp (name z) (name y) ≡ Less) x (take i xs) less) greater))

  -- else the letter goes between those that come before it and those that come after
  pub stored_between : (xs : List M) (y : M) (i : ℕ) → IsPartitionPoint (λ x. name_cmp (name x) (name y) ≡ Less) (λ x. name_cmp (name x) (name y) ≡ Greater) xs i → insert xs i y ≡ stored name xs y
  stored_between xs y i point =
      between xs y i (All-take_within (λ x. name_cmp (name x) (name y) ≡ Less) xs i point.0) (All-drop_within (λ x. name_cmp (name x) (name y) ≡ Greater) xs i point.1)

  -- what holds of the letters and of the one that is put among them holds of all
  pub All-stored : (P : M → Type 0) (xs : List M) (y : M) → All P xs → P y → All P (stored name xs y)
  All-stored P [] y all one = All-cons P y [] one all
  All-stored P (x ∷ xs) y all one = by (All-stored P xs y (All-tail P x xs all) one) (name_cmp (name y) (name x)) refl
    where
      by : All P (stored name xs y) → (o : Ordering) → name_cmp (name y) (name x) ≡ o → All P (stored name (x ∷ xs) y)
      by rest Less e = rw e (All-cons P y (x ∷ xs) one all)
      by rest Equal e = rw e all
      by rest Greater e = rw e (All-cons P x (stored name xs y) (All-head P x xs all) rest)

  -- they ascend with it
  pub rising_stored : (xs : List M) (y : M) → AreRising name xs → AreRising name (stored name xs y)
  rising_stored [] y rising = rising_cons y [] (All-nil (λ z. name_cmp (name y) (name z) ≡ Less)) rising
  rising_stored (x ∷ xs) y rising = by (rising_stored xs y (rising_tail x xs rising)) (name_cmp (name y) (name x)) refl
    where
      by : AreRising name (stored name xs y) → (o : Ordering) → name_cmp (name y) (name x) ≡ o → AreRising name (stored name (x ∷ xs) y)
      by rest Less e =
          let further = All-weaker (λ z. name_cmp (name x) (name z) ≡ Less) (λ z. name_cmp (name y) (name z) ≡ Less) (λ z h. name_cmp_total.trans (name y) (name x) (name z) e h) xs (rising_head x xs rising) in
          rw e (rising_cons y (x ∷ xs) (All-cons (λ z. name_cmp (name y) (name z) ≡ Less) x xs e further) rising)
      by rest Equal e = rw e rising
      by rest Greater e =
          let before = greater_back name_cmp_total (name y) (name x) e in
          rw e (rising_cons x (stored name xs y) (All-stored (λ z. name_cmp (name x) (name z) ≡ Less) xs y (rising_head x xs rising) before) rest)
