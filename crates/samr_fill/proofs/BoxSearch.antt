-- The search for the patch of a box, of patches in corner order; and that a rank's patches stand so.
use Rattle.std.proofs.Common.{◌≡◌, ℕ, zero, suc, ◌+◌, ◌<◌, ◌≤◌, length, get_or, map, refl, sym, ap, subst, ◌∙◌, arith, inl, inr}
use Rattle.std.proofs.lemmas.Bool.{cases_lt}
use Rattle.std.proofs.lemmas.Cmp.{nat_cmp_total, tied_itself, alike_right}
use Rattle.std.proofs.lemmas.Option.{slice_get_past}
use Rattle.std.proofs.lemmas.List.Kept.{IsStrictlySortedBy-filter}
use Rattle.std.proofs.lemmas.List.Sorted.{searchable_from_sorted}
use Rattle.std.specs.Prelude.{Bool, true, false, cond, List, [], ◌∷◌, Option, Some, None, slice_get, nat_eq}
use Rattle.std.specs.List.{HoldsAt, find}
use Rattle.std.specs.List.Sorted.{IsStrictlySortedBy, IsNonDecreasingBy, IsPartitionPoint}
use Rattle.std.specs.Ordering.{is_lt, is_eq, nat_cmp, ordering_index, ordering_then, ordering_reverse}
use Rattle.std.specs.declared.cmp.Ordering.{Ordering}
use Rattle.std.specs.declared.cmp.Ordering.TheVariants.{Less, Equal, Greater}
use Rattle.samr_box.specs.Corners.{Corners}
use Rattle.samr_box.specs.Orders.{corner_cmp}
use Rattle.samr_box.specs.Space.{Space}
use Rattle.samr_box.specs.Lists.{Member}
use Rattle.samr_box.proofs.Members.{Member-map, Member-from_map}
use Rattle.samr_box.proofs.Ascending.{sorted-head, sorted-tail, sorted-nil, sorted-cons}
use Rattle.samr_box.proofs.Totals.{corner_total}
use Rattle.samr_level.specs.Refs.{Owned}
use Rattle.samr_level.specs.RefOrders.{ref_cmp}
use Rattle.samr_level.specs.Levels.{own}
use Rattle.samr_data.specs.Grids.{Grid}
use Rattle.samr_data.specs.declared.parcel.Parcel.{Parcel}
use Rattle.samr_sched.specs.declared.plan.Request.{Request}
use Rattle.samr_fill.specs.Fill.{Filling, IsFilling}
use Rattle.samr_fill.specs.FillParts.{HasValues}
use Rattle.samr_fill.specs.Sending.{then_some, is_box, AreByCorner, AllByCorner, answer_in, answer_from}
use Rattle.samr_fill.proofs.Numbered.{some_same}
use Rattle.samr_fill.proofs.FieldTasks.{there_at}
use Rattle.samr_fill.proofs.Truths.{own_box}

-- the first member that passes a test
find_first : {X : Type 0} (p : X → Bool) (xs : List X) (i : ℕ) (d : X) → i < length xs → p (get_or xs i d) ≡ true
    → ((k : ℕ) → k < i → p (get_or xs k d) ≡ false) → find p xs ≡ Some (get_or xs i d)
find_first p [] i d below t before = absurd (omega (arith, below))
find_first {X} p (x ∷ xs) zero d below t before = ap (λ (b : Bool). cond b (Some x) (find p xs)) t
find_first {X} p (x ∷ xs) (suc i) d below t before =
    ap (λ (b : Bool). cond b (Some x) (find p xs)) (before 0 (omega arith))
    ∙ find_first p xs i d (omega (arith, below)) t (λ k lower. before (suc k) (omega (arith, lower)))

find_none : {X : Type 0} (p : X → Bool) (xs : List X) → ((k : ℕ) (d : X) → k < length xs → p (get_or xs k d) ≡ false) → find p xs ≡ None
find_none p [] each = refl
find_none {X} p (x ∷ xs) each =
    ap (λ (b : Bool). cond b (Some x) (find p xs)) (each 0 x (omega arith))
    ∙ find_none p xs (λ k d below. each (suc k) d (omega (arith, below)))

there : {X : Type 0} (xs : List X) (i : ℕ) (d : X) → i < length xs → Member (get_or xs i d) xs
there [] i d below = absurd (omega (arith, below))
there (x ∷ xs) zero d below = inl refl
there (x ∷ xs) (suc i) d below = inr (there xs i d (omega (arith, below)))

ahead : (xs : List Grid) (k i : ℕ) (d : Grid) → AreByCorner xs → k < i → i < length xs → corner_cmp (get_or xs k d).bx (get_or xs i d).bx ≡ Less
ahead [] k i d s lower below = absurd (omega (arith, below))
ahead (x ∷ xs) k zero d s lower below = absurd (omega (arith, lower))
ahead (x ∷ xs) zero (suc i) d s lower below =
    sorted-head corner_cmp x.bx (map (λ p. p.bx) xs) s (get_or xs i d).bx
    (Member-map (λ (p : Grid). p.bx) (get_or xs i d) xs (there xs i d (omega (arith, below))))
ahead (x ∷ xs) (suc k) (suc i) d s lower below =
    ahead xs k i d (sorted-tail corner_cmp x.bx (map (λ p. p.bx) xs) s) (omega (arith, lower)) (omega (arith, below))

-- what the search asks
pub searchable : (xs : List Grid) (b : Corners) → AreByCorner xs → IsNonDecreasingBy (λ p. ordering_index (corner_cmp p.bx b)) xs
searchable xs b s =
    searchable_from_sorted corner_total (λ (p : Grid). p.bx) xs b
    (λ k d low below.
    ap is_lt (corner_total.antisymm (get_or xs (k + 1) d).bx (get_or xs k d).bx ∙ ap ordering_reverse (ahead xs k (k + 1) d s (omega arith) below)))

-- the patch that it finds is the first of that box, and else there is none
pub found_there : (xs : List Grid) (b : Corners) (i : ℕ) (p : Grid) → AreByCorner xs → i < length xs → HoldsAt (λ q. corner_cmp q.bx b ≡ Equal) xs i → p ≡ get_or xs i p
    → Some p ≡ find (λ q. is_box b q) xs
found_there xs b i p s below at is =
    let q = get_or xs i p in
    ap (λ (v : Grid). Some v) is
    ∙ sym
    (find_first (λ q. is_box b q) xs i p below (ap is_eq (at p))
    (λ k lower.
    ap is_eq (sym (alike_right corner_total q.bx b (get_or xs k p).bx (at p)) ∙ ahead xs k i p s lower below)))

pub found_nowhere : (xs : List Grid) (b : Corners) (i : ℕ) → IsPartitionPoint (λ q. corner_cmp q.bx b ≡ Less) (λ q. corner_cmp q.bx b ≡ Greater) xs i
    → None ≡ find (λ q. is_box b q) xs
found_nowhere xs b i point =
    sym
    (find_none (λ q. is_box b q) xs
    (λ k d below. elim (cases_lt k i) [
      | inl lower ↦ ap is_eq (point.0 k d (omega arith) lower)
      | inr above ↦ ap is_eq (point.1 k d (omega (arith, above)) below)
    ]))

-- a rank's boxes stand in corner order, and its patches with them
by_corner : (a b : Owned) → a.owner ≡ b.owner → ref_cmp a b ≡ Less → corner_cmp a.bx b.bx ≡ Less
by_corner a b e h =
    let tie : nat_cmp a.owner b.owner ≡ Equal = ap (λ (n : ℕ). nat_cmp n b.owner) e ∙ tied_itself nat_cmp_total b.owner in
    sym (ap (λ (o : Ordering). ordering_then o (corner_cmp a.bx b.bx)) tie) ∙ h

boxes_sorted : (r : ℕ) (boxes : List Owned) → IsStrictlySortedBy ref_cmp boxes → ((b : Owned) → Member b boxes → b.owner ≡ r)
    → IsStrictlySortedBy corner_cmp (map (λ b. b.bx) boxes)
boxes_sorted r [] s owner = sorted-nil corner_cmp
boxes_sorted r (a ∷ boxes) s owner =
    sorted-cons corner_cmp a.bx (map (λ b. b.bx) boxes)
    (λ c m.
    let b = Member-from_map (λ (b : Owned). b.bx) c boxes m in
    subst (λ (d : Corners). corner_cmp a.bx d ≡ Less) (sym b.2)
    (by_corner a b.0 (owner a (inl refl) ∙ sym (owner b.0 (inr b.1))) (sorted-head ref_cmp a boxes s b.0 b.1)))
    (boxes_sorted r boxes (sorted-tail ref_cmp a boxes s) (λ b m. owner b (inr m)))

own_sorted : (r : ℕ) (level : List Owned) → IsStrictlySortedBy ref_cmp level → IsStrictlySortedBy ref_cmp (own r level)
unfolding own
own_sorted r level s = IsStrictlySortedBy-filter ref_cmp (λ (b : Owned). nat_eq b.owner r) level s

same_boxes : (patches : List Grid) (boxes : List Owned) → length patches ≡ length boxes
    → ((place : ℕ) (p : Grid) → slice_get patches place ≡ Some p → (b : Owned) × (slice_get boxes place ≡ Some b) × (p.bx ≡ b.bx))
    → map (λ p. p.bx) patches ≡ map (λ b. b.bx) boxes
same_boxes [] [] long each = refl
same_boxes [] (b ∷ boxes) long each = absurd (omega (arith, long))
same_boxes (p ∷ patches) [] long each = absurd (omega (arith, long))
same_boxes (p ∷ patches) (b ∷ boxes) long each =
    let first = each 0 p refl in
    ap (λ (c : Corners). c ∷ map (λ (q : Grid). q.bx) patches) (first.2 ∙ ap (λ (o : Owned). o.bx) (sym (some_same first.1)))
    ∙ ap (λ (l : List Corners). b.bx ∷ l) (same_boxes patches boxes (omega (arith, long)) (λ place q e. each (suc place) q e))

pub all_by_corner : (w : Filling) → IsFilling w → (r : ℕ) (coarser : List (List Grid)) → HasValues w.coarse_values (own r w.schedule.coarser) coarser → AllByCorner coarser
unfolding AllByCorner
all_by_corner w is r coarser has f patches e =
    let boxes = own r w.schedule.coarser in
    subst (λ (l : List Corners). IsStrictlySortedBy corner_cmp l)
    (sym
    (same_boxes patches boxes (has.full f patches e)
    (λ place p at. let facts = has.patch f place patches p e at in (facts.0, facts.1, facts.2))))
    (boxes_sorted r boxes (own_sorted r w.schedule.coarser is.schedule.coarser.in_order) (λ b m. (own_box r w.schedule.coarser b m).1))

-- the answer of the patches of one field
pub answer_there : (d : Space) (fields : List (List Grid)) (q : Request) (f : ℕ) → f ≡ q.field → (patches : List Grid) → f < length fields → patches ≡ get_or fields f patches
    → (slice : List Grid) → slice ≡ patches → (parcel : Option Parcel) → (AreByCorner slice → parcel ≡ answer_in d q slice) → AllByCorner fields → parcel ≡ answer_from d fields q
unfolding answer_from AllByCorner
answer_there d fields q f number patches below is slice same parcel answer all =
    let P : List Grid → Type 0 = λ l. AreByCorner l → parcel ≡ answer_in d q l in
    let at = there_at fields f patches below is in
    subst P same answer (all f patches at)
    ∙ ap (λ o. then_some o (λ l. answer_in d q l)) (sym at ∙ ap (λ (n : ℕ). slice_get fields n) number)

pub answer_nowhere : (d : Space) (fields : List (List Grid)) (q : Request) (f : ℕ) → f ≡ q.field → length fields ≤ f → None ≡ answer_from d fields q
unfolding answer_from
answer_nowhere d fields q f number past =
    ap (λ o. then_some o (λ l. answer_in d q l)) (sym (slice_get_past fields f past) ∙ ap (λ (n : ℕ). slice_get fields n) number)
