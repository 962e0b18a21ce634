-- The course of a run: which names are among the letters that a rank gives out and awaits, and where a label stands.
use Rattle.std.proofs.Common.{◌≡◌, ◌≢◌, ℕ, ◌+◌, ◌-◌, ◌<◌, ◌≤◌, min, List, length, get_or, map, refl, sym, ap, ◌∙◌, subst, arith, Bool, true, inl, inr, AllPairs, Contains, IsTrue, Some, is_some, slice_get}
use Rattle.std.specs.List.{range_with_len}
use Rattle.std.specs.declared.cmp.Ordering.TheVariants.{Less, Equal, Greater}
use Rattle.std.proofs.lemmas.Bool.{cases_lt}
use Rattle.std.proofs.lemmas.Cmp.{tied_itself}
use Rattle.std.proofs.lemmas.List.{get_or_default}
use Rattle.std.proofs.lemmas.List.FromFn.{length-range_with_len, get_or-range_with_len}
use Rattle.std.proofs.lemmas.List.Kept.{AllPairs-filter}
use Rattle.std.proofs.lemmas.Option.{slice_get-get_or}
use Rattle.samr_stage.specs.declared.label.Label.{Label}
use Rattle.samr_stage.specs.declared.label.Name.{Name}
use Rattle.samr_stage.specs.Label.{label_cmp, name_cmp}
use Rattle.samr_stage.specs.LabelLaws.{label_cmp_total, name_cmp_total}
use Rattle.samr_stage.specs.Course.{Course, name_of, passing, sent, awaited, no_label, label_at}
use Rattle.samr_stage.specs.Held.{AreRising}
use Rattle.samr_stage.proofs.Orders.{less_by_addressee, less_by_sender, never_less, less_back}
use Rattle.samr_stage.proofs.Lists.{Contains-filter, Contains-from_filter, Contains-map, Contains-from_map, AllPairs-map, same_ascending}

-- the numbers below n that pass
pub is_passing : (p : ℕ → Bool) (n k : ℕ) → k < n → p k ≡ true → Contains (passing p n) k
unfolding passing
is_passing p n k below pass =
    let within : k < length (range_with_len 0 n) = omega (arith, length-range_with_len 0 n) in
    Contains-filter p (range_with_len 0 n) k pass (k, within, get_or-range_with_len 0 n k k below ∙ omega arith)

pub from_passing : (p : ℕ → Bool) (n k : ℕ) → Contains (passing p n) k → (k < n) × (p k ≡ true)
unfolding passing
from_passing p n k c =
    let found = Contains-from_filter p (range_with_len 0 n) k c in
    let within : found.0.0 < n = omega (arith, found.0.1, length-range_with_len 0 n) in
    (omega (arith, within, found.0.2, get_or-range_with_len 0 n found.0.0 k within), found.1)

pub rising-passing : (p : ℕ → Bool) (n : ℕ) → AllPairs (λ a b. a < b) (passing p n)
unfolding passing
rising-passing p n =
    AllPairs-filter (λ a b. a < b) p (range_with_len 0 n) (λ i j d below within. let inside : j < n = omega (arith, within, length-range_with_len 0 n) in omega (arith, get_or-range_with_len 0 n i d (omega arith), get_or-range_with_len 0 n j d inside))

-- two rising lists of names with the same members are equal
pub same_rising : (xs ys : List Name) → AreRising (λ n. n) xs → AreRising (λ n. n) ys → ((n : Name) → Contains xs n → Contains ys n) → ((n : Name) → Contains ys n → Contains xs n) → xs ≡ ys
same_rising = same_ascending (λ a b. name_cmp a b ≡ Less) (never_less name_cmp_total) name_cmp_total.trans

-- letters ascend by name as their names do
pub rising-map : {M : Type 0} (name : M → Name) (xs : List M) → AreRising name xs → AreRising (λ n. n) (map name xs)
rising-map name xs = AllPairs-map (λ x y. name_cmp (name x) (name y) ≡ Less) (λ a b. name_cmp a b ≡ Less) name (λ a b h. h) xs

module _ {B : Type 0} (c : Course B) where
  -- the letters that a rank gives out at a label
  pub is_sent : (n : Name) → IsTrue (is_some (c.letter n)) → n.addressee < c.ranks → Contains (sent c n.label n.sender) n
  unfolding sent
  is_sent n there below =
      Contains-map (λ to. name_of n.label n.sender to) (passing (λ to. is_some (c.letter (name_of n.label n.sender to))) c.ranks) n.addressee (is_passing (λ to. is_some (c.letter (name_of n.label n.sender to))) c.ranks n.addressee below there)

  pub from_sent : (at : Label) (from : ℕ) (n : Name) → Contains (sent c at from) n → (n.label ≡ at) × (n.sender ≡ from) × (n.addressee < c.ranks) × IsTrue (is_some (c.letter n))
  unfolding sent
  from_sent at from n h =
      let passes : ℕ → Bool = λ to. is_some (c.letter (name_of at from to)) in
      let found = Contains-from_map (λ to. name_of at from to) (passing passes c.ranks) n h in
      let pass = from_passing passes c.ranks found.0 found.1 in
      let K : Name → Type 0 = λ k. (k.label ≡ at) × (k.sender ≡ from) × (k.addressee < c.ranks) × IsTrue (is_some (c.letter k)) in
      subst K found.2 (refl, refl, pass.0, pass.1)

  pub rising-sent : (at : Label) (from : ℕ) → AreRising (λ n. n) (sent c at from)
  unfolding sent
  rising-sent at from =
      let passes : ℕ → Bool = λ to. is_some (c.letter (name_of at from to)) in
      AllPairs-map (λ a b. a < b) (λ x y. name_cmp x y ≡ Less) (λ to. name_of at from to) (less_by_addressee at from) (passing passes c.ranks) (rising-passing passes c.ranks)

  -- the letters that a rank awaits at a label
  pub is_awaited : (n : Name) → IsTrue (is_some (c.letter n)) → n.sender < c.ranks → Contains (awaited c n.label n.addressee) n
  unfolding awaited
  is_awaited n there below =
      Contains-map (λ from. name_of n.label from n.addressee) (passing (λ from. is_some (c.letter (name_of n.label from n.addressee))) c.ranks) n.sender (is_passing (λ from. is_some (c.letter (name_of n.label from n.addressee))) c.ranks n.sender below there)

  pub from_awaited : (at : Label) (to : ℕ) (n : Name) → Contains (awaited c at to) n → (n.label ≡ at) × (n.addressee ≡ to) × (n.sender < c.ranks) × IsTrue (is_some (c.letter n))
  unfolding awaited
  from_awaited at to n h =
      let passes : ℕ → Bool = λ from. is_some (c.letter (name_of at from to)) in
      let found = Contains-from_map (λ from. name_of at from to) (passing passes c.ranks) n h in
      let pass = from_passing passes c.ranks found.0 found.1 in
      let K : Name → Type 0 = λ k. (k.label ≡ at) × (k.addressee ≡ to) × (k.sender < c.ranks) × IsTrue (is_some (c.letter k)) in
      subst K found.2 (refl, refl, pass.0, pass.1)

  pub rising-awaited : (at : Label) (to : ℕ) → AreRising (λ n. n) (awaited c at to)
  unfolding awaited
  rising-awaited at to =
      let passes : ℕ → Bool = λ from. is_some (c.letter (name_of at from to)) in
      AllPairs-map (λ a b. a < b) (λ x y. name_cmp x y ≡ Less) (λ from. name_of at from to) (less_by_sender at to) (passing passes c.ranks) (rising-passing passes c.ranks)

module _ (labels : List Label) where
  -- the label at a place that there is
  pub label_at_within : (place : ℕ) (d : Label) → place < length labels → get_or labels place d ≡ label_at labels place
  unfolding label_at
  label_at_within place d within =
      let same : min place (length labels - 1) ≡ place = omega arith in
      rw same (get_or_default labels place d no_label within)

  pub label_at-slice_get : (place : ℕ) → place < length labels → slice_get labels place ≡ Some (label_at labels place)
  label_at-slice_get place within =
      slice_get-get_or labels place no_label within ∙ ap Some (label_at_within place no_label within)

  pub label_visited : (place : ℕ) → place < length labels → Contains labels (label_at labels place)
  label_visited place within = (place, within, label_at_within place (label_at labels place) within)

  module _ (rising : AllPairs (λ a b. label_cmp a b ≡ Less) labels) where
    -- labels rise with their places
    pub label_up : (i j : ℕ) → i < j → j < length labels → label_cmp (label_at labels i) (label_at labels j) ≡ Less
    label_up i j below within =
        rw (sym (label_at_within i no_label (omega arith)), sym (label_at_within j no_label within)) (rising i j no_label below within)

    ordered : (i j : ℕ) (d e : Label) → i ≤ j → j < length labels → label_cmp (get_or labels i d) (get_or labels j e) ≢ Greater
    ordered i j d e upto within greater = elim (cases_lt i j) [
      | inl below ↦
          let less = rising i j d below within in
          let there : label_cmp (get_or labels i d) (get_or labels j e) ≡ Less = rw (get_or_default labels j e d within) less in cc
      | inr same ↦
          let equal : i ≡ j = omega arith in
          let there : label_cmp (get_or labels i d) (get_or labels j e) ≡ Equal = rw (equal, get_or_default labels j d e within) (tied_itself label_cmp_total (get_or labels j e)) in cc
    ]

    -- a label up to a place is not greater than the label there, and one from there on is not less
    label_upto : (k place : ℕ) (d : Label) → k ≤ place → k < length labels → label_cmp (get_or labels k d) (label_at labels place) ≢ Greater
    unfolding label_at
    label_upto k place d upto within = ordered k (min place (length labels - 1)) d no_label (omega arith) (omega arith)

    label_from : (k place : ℕ) (d : Label) → place ≤ k → k < length labels → label_cmp (get_or labels k d) (label_at labels place) ≢ Less
    unfolding label_at
    label_from k place d from within less =
        ordered (min place (length labels - 1)) k no_label d (omega arith) within (less_back label_cmp_total (get_or labels k d) (get_or labels (min place (length labels - 1)) no_label) less)

    -- a label of the list that comes after the label at a place does not come before the one at the next place
    pub no_sooner : (place : ℕ) (l : Label) → Contains labels l → label_cmp l (label_at labels place) ≡ Greater → label_cmp l (label_at labels (place + 1)) ≢ Less
    no_sooner place l c after before =
        let IsLess : Label → Type 0 = λ k. label_cmp k (label_at labels (place + 1)) ≡ Less in
        let IsGreater : Label → Type 0 = λ k. label_cmp k (label_at labels place) ≡ Greater in
        elim (cases_lt place c.0) [
          | inl beyond ↦ label_from c.0 (place + 1) l (omega arith) c.1 (subst IsLess (sym c.2) before)
          | inr upto ↦ label_upto c.0 place l upto c.1 (subst IsGreater (sym c.2) after)
        ]

    -- a label of the list that comes before the one at the next place does not come after the label at the place
    pub before_next : (place : ℕ) (l : Label) → Contains labels l → label_cmp l (label_at labels (place + 1)) ≡ Less → label_cmp l (label_at labels place) ≢ Greater
    before_next place l c before after = no_sooner place l c after before

    -- no label of the list comes after the label at the last place
    pub none_after_last : (place : ℕ) (l : Label) → length labels ≤ place + 1 → Contains labels l → label_cmp l (label_at labels place) ≢ Greater
    none_after_last place l last c after =
        let IsGreater : Label → Type 0 = λ k. label_cmp k (label_at labels place) ≡ Greater in
        label_upto c.0 place l (let within = c.1 in omega arith) c.1 (subst IsGreater (sym c.2) after)
