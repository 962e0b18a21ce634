-- What a look-up of boxes finds, place by place, is what a look at each gives.
use Rattle.std.proofs.Common.{◌≡◌, ℕ, ◌+◌, refl, sym, ap, ◌∙◌, subst, length, append_assoc, length-append}
use Rattle.std.proofs.lemmas.Bool.{false≢true}
use Rattle.std.specs.Prelude.{Bool, true, false, cond, Some, List, [], ◌∷◌, ◌++◌, map, filter}
use Rattle.std.specs.List.{flat_map, slice_get}
use Rattle.std.specs.Ordering.{is_eq}
use Rattle.std.specs.Option.{option_map_or}
use Rattle.samr_box.specs.Corners.{Corners, IsBox, meets}
use Rattle.samr_box.proofs.CellSets.{meets-from}
use Rattle.samr_find.specs.Places.{places_from, places_of, meeting}
use Rattle.samr_find.specs.Buckets.{where_true}
use Rattle.samr_level.specs.Refs.{Owned, Link}
use Rattle.samr_level.specs.RefOrders.{ref_cmp}
use Rattle.samr_level.specs.Overlaps.{Scale}
use Rattle.samr_modify.specs.declared.entries.Replaced.{Replaced}
use Rattle.samr_modify.specs.Entries.{edges_of, concerns, shown, told_to}
use Rattle.samr_modify.specs.Found.{led_to, led, at_place, if_leaves}
use Rattle.samr_modify.proofs.Lists.{same_box}

-- a member of what is made of a list, where a test holds
pub made_where : {X Y : Type 0} (p : X → Bool) (f : X → Y) (xs : List X) → flat_map (λ x. cond (p x) (f x ∷ []) []) xs ≡ map f (filter p xs)
made_where p f [] = refl
made_where {X} {Y} p f (x ∷ xs) = by (p x) (made_where p f xs)
  where
    by : (t : Bool) → flat_map (λ x. cond (p x) (f x ∷ []) []) xs ≡ map f (filter p xs)
        → cond t (f x ∷ []) [] ++ flat_map (λ x. cond (p x) (f x ∷ []) []) xs ≡ map f (cond t (x ∷ filter p xs) (filter p xs))
    by true e = ap (λ l. f x ∷ l) e
    by false e = e

pub told_is : (rank : ℕ) (rs : List Replaced) → flat_map (λ r. cond (concerns rank r) (shown rank r ∷ []) []) rs ≡ told_to rank rs
unfolding told_to
told_is rank rs = made_where (λ r. concerns rank r) (λ r. shown rank r) rs

same_members : {X : Type 0} (xs : List X) → map (λ x. x) xs ≡ xs
same_members [] = refl
same_members (x ∷ xs) = ap (λ l. x ∷ l) (same_members xs)

pub leaves_is : (b : Owned) (edges : List Link) → flat_map (λ e. if_leaves b e) edges ≡ edges_of b edges
unfolding edges_of
leaves_is b edges =
    made_where (λ (e : Link). is_eq (ref_cmp e.base b)) (λ e. e) edges ∙ same_members (filter (λ (e : Link). is_eq (ref_cmp e.base b)) edges)

-- the first box counted or not
from_cons : (test : Corners → Bool) (n : ℕ) (a : Corners) (rest : List Corners) (t : Bool) → test a ≡ t → places_from n test (a ∷ rest) ≡ where_true t n ++ places_from (n + 1) test rest
from_cons test n a rest true e = rw e refl
from_cons test n a rest false e = rw e refl

here_at : {X : Type 0} (before : List X) (x : X) (xs : List X) → slice_get (before ++ x ∷ xs) (length before) ≡ Some x
here_at [] x xs = refl
here_at (y ∷ before) x xs = here_at before x xs

module _ {X Y : Type 0} (box : X → Corners) (f : X → List Y) (test : Corners → Bool) (none : (x : X) → test (box x) ≡ false → f x ≡ []) where
  abbrev Found : List X → List X → ℕ → Type 0
  Found all xs n = flat_map (λ place. at_place f all place) (places_from n test (map box xs)) ≡ flat_map f xs

  -- the places of the members behind the first some
  one_more : (before : List X) (x : X) (xs : List X) → Found ((before ++ x ∷ []) ++ xs) xs (length (before ++ x ∷ [])) → Found (before ++ x ∷ xs) xs (length before + 1)
  one_more before x xs rest =
      subst (λ (n : ℕ). Found (before ++ x ∷ xs) xs n) (length-append before (x ∷ []))
      (subst (λ (l : List X). Found l xs (length (before ++ x ∷ []))) (append_assoc before (x ∷ []) xs) rest)

  by_test : (before : List X) (x : X) (xs : List X) (t : Bool) → test (box x) ≡ t → Found (before ++ x ∷ xs) xs (length before + 1) → Found (before ++ x ∷ xs) (x ∷ xs) (length before)
  by_test before x xs true e rest =
      ap (flat_map (λ place. at_place f (before ++ x ∷ xs) place)) (from_cons test (length before) (box x) (map box xs) true e)
      ∙ ap (λ o. option_map_or f o [] ++ flat_map (λ place. at_place f (before ++ x ∷ xs) place) (places_from (length before + 1) test (map box xs))) (here_at before x xs)
      ∙ ap (λ l. f x ++ l) rest
  by_test before x xs false e rest =
      ap (flat_map (λ place. at_place f (before ++ x ∷ xs) place)) (from_cons test (length before) (box x) (map box xs) false e)
      ∙ rest ∙ ap (λ l. l ++ flat_map f xs) (sym (none x e))

  from_places : (before xs : List X) → Found (before ++ xs) xs (length before)
  from_places before [] = refl
  from_places before (x ∷ xs) = by_test before x xs (test (box x)) refl (one_more before x xs (from_places (before ++ x ∷ []) xs))

  pub looked_up : (xs : List X) → flat_map (λ place. at_place f xs place) (places_of test (map box xs)) ≡ flat_map f xs
  looked_up xs = from_places [] xs

-- a box meets itself, so what does not meet it is not the same box
meets_itself : (b : Corners) → IsBox b → meets b b ≡ true
meets_itself b is = meets-from {a = b} {b = b} (record { low = is.order; high = is.order })

not_same : {Y : Type 0} (a b : Owned) (xs : List Y) → IsBox b.bx → meets a.bx b.bx ≡ false → cond (is_eq (ref_cmp b a)) xs [] ≡ []
not_same {Y} a b xs is apart = by (is_eq (ref_cmp b a)) refl
  where
    by : (t : Bool) → is_eq (ref_cmp b a) ≡ t → cond t xs [] ≡ []
    by true e =
        let same = same_box b a e in
        absurd (false≢true (sym apart ∙ ap (λ (v : Owned). meets v.bx b.bx) (sym same) ∙ meets_itself b.bx is))
    by false e = refl

not_same_back : {Y : Type 0} (a b : Owned) (xs : List Y) → IsBox b.bx → meets a.bx b.bx ≡ false → cond (is_eq (ref_cmp a b)) xs [] ≡ []
not_same_back {Y} a b xs is apart = by (is_eq (ref_cmp a b)) refl
  where
    by : (t : Bool) → is_eq (ref_cmp a b) ≡ t → cond t xs [] ≡ []
    by true e =
        let same = same_box a b e in
        absurd (false≢true (sym apart ∙ ap (λ (v : Owned). meets v.bx b.bx) same ∙ meets_itself b.bx is))
    by false e = refl

-- the edges of a box, by the places of the bases that meet it
pub leaving_is : (edges : List Link) (b : Owned) → IsBox b.bx
    → flat_map (λ place. at_place (λ e. if_leaves b e) edges place) (meeting (map (λ e. e.base.bx) edges) b.bx) ≡ edges_of b edges
unfolding meeting
leaving_is edges b is =
    looked_up (λ (e : Link). e.base.bx) (λ e. if_leaves b e) (λ a. meets a b.bx) (λ e apart. not_same_back e.base b (e ∷ []) is apart) edges
    ∙ leaves_is b edges

-- an edge led to new boxes, by the places of the old boxes that meet its head
pub led_is : (n : Scale) (e : Link) (rs : List Replaced) → IsBox e.head.bx
    → flat_map (λ place. at_place (λ r. led n e r) rs place) (meeting (map (λ r. r.old.bx) rs) e.head.bx) ≡ flat_map (λ r. led n e r) rs
unfolding meeting
led_is n e rs is =
    looked_up (λ (r : Replaced). r.old.bx) (λ r. led n e r) (λ a. meets a e.head.bx) (λ r apart. not_same r.old e.head (led_to n e r.news) is apart) rs
