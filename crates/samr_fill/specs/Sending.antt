-- The parcels that a rank makes of its own patches, by its plan.
use Rattle.std.specs.Prelude.{◌≡◌, ℕ, Bool, true, false, cond, List, [], ◌∷◌, ◌++◌, map, filter, Option, Some, None, nat_eq, slice_get}
use Rattle.std.specs.List.{flat_map, filter_map, enumerate_from, find}
use Rattle.std.specs.List.Sorted.{IsStrictlySortedBy}
use Rattle.std.specs.Option.{option_map}
use Rattle.std.specs.Ordering.{nat_cmp, is_eq}
use Rattle.samr_box.specs.declared.vector.IVec.{IVec}
use Rattle.samr_box.specs.Vector.{times}
use Rattle.samr_box.specs.Corners.{Corners, met, grown}
use Rattle.samr_box.specs.Orders.{corner_cmp}
use Rattle.samr_box.specs.Space.{Space, image}
use Rattle.samr_level.specs.Refs.{Owned, Link, turned}
use Rattle.samr_level.specs.RefOrders.{in_order}
use Rattle.samr_data.specs.Places.{moved_back}
use Rattle.samr_data.specs.Grids.{Grid, packed}
use Rattle.samr_sched.specs.declared.plan.Request.{Request}
use Rattle.samr_sched.specs.declared.plan.FieldPlan.{FieldPlan}
use Rattle.samr_sched.specs.declared.plan.BoxPlan.{BoxPlan}
use Rattle.samr_sched.specs.declared.plan.Asked.{Asked}
use Rattle.samr_sched.specs.declared.plan.Plan.{Plan}
use Rattle.samr_data.specs.declared.parcel.Parcel.{Parcel}
use Rattle.samr_data.specs.ParcelOrder.{parcel_cmp}

-- what an option gives, and nothing where there is none
abbrev pub for_some : {X Y : Type 0} → Option X → (X → List Y) → List Y
for_some (Some x) f = f x
for_some None f = []

abbrev pub then_some : {X Y : Type 0} → Option X → (X → Option Y) → Option Y
then_some (Some x) f = f x
then_some None f = None

-- the values of a part of a patch's box, along an edge
abbrev pub parcel_of : Link → Bool → ℕ → Grid → Corners → Parcel
parcel_of e is_coarse field p c = record { edge = e; is_coarse = is_coarse; field = field; region = c; values = packed p c }

-- what ghost cells of the head of an edge have of a patch, if the head is of this rank
abbrev pub copied_from : Space → ℕ → ℕ → Grid → Link → Option Parcel
copied_from d to field p e =
    cond (nat_eq e.head.owner to) (option_map (λ c. parcel_of e false field p c) (met p.bx (grown (image d e.head.bx e.shift) p.width))) None

abbrev pub place_copies : Space → ℕ → ℕ → List Grid → ℕ → List Link → List Parcel
place_copies d to field patches place edges = for_some (slice_get patches place) (λ p. filter_map (λ e. copied_from d to field p e) edges)

abbrev pub field_copies : Space → ℕ → List (List Grid) → ℕ → ℕ → List Link → List Parcel
field_copies d to own place field edges = for_some (slice_get own field) (λ patches. place_copies d to field patches place edges)

unfoldable pub box_copies : Space → ℕ → List (List Grid) → ℕ → BoxPlan → List Parcel
box_copies d to own place b = flat_map (λ f. field_copies d to own place f.0 f.1.copies) (enumerate_from 0 b.fields)

unfoldable pub all_copies : Space → ℕ → List (List Grid) → List BoxPlan → List Parcel
all_copies d to own boxes = flat_map (λ b. box_copies d to own b.0 b.1) (enumerate_from 0 boxes)

-- the patches of a field in corner order of their boxes, and so those of each field
abbrev pub AreByCorner : List Grid → Type 0
AreByCorner patches = IsStrictlySortedBy corner_cmp (map (λ p. p.bx) patches)

unfoldable pub AllByCorner : List (List Grid) → Type 0
AllByCorner fields = (f : ℕ) (patches : List Grid) → slice_get fields f ≡ Some patches → AreByCorner patches

-- the answer to a request, of a patch and of that patch of the field whose box it names
abbrev pub answer_of : Space → Request → Grid → Option Parcel
answer_of d q p =
    option_map (λ c. parcel_of (turned q.edge) true q.field p c) (met p.bx (moved_back q.bx (times q.edge.shift d.size)))

abbrev pub is_box : Corners → Grid → Bool
is_box b p = is_eq (corner_cmp p.bx b)

abbrev pub answer_in : Space → Request → List Grid → Option Parcel
answer_in d q patches = then_some (find (λ p. is_box q.edge.head.bx p) patches) (λ p. answer_of d q p)

unfoldable pub answer_from : Space → List (List Grid) → Request → Option Parcel
answer_from d coarser q = then_some (slice_get coarser q.field) (λ patches. answer_in d q patches)

-- all that a rank has for another, which asked for this
unfoldable pub parcels_from : Plan → List (List Grid) → List (List Grid) → ℕ → List Request → List Parcel
parcels_from plan own coarser to requests =
    all_copies plan.frame to own plan.boxes ++ filter_map (λ q. answer_from plan.below coarser q) requests

-- what a rank asked another for; and what it asks of itself, in no order
unfoldable pub asked_by : List Asked → ℕ → List Request
asked_by others rank = for_some (find (λ a. nat_eq a.rank rank) others) (λ a. a.requests)

unfoldable pub asked_of_itself : ℕ → List BoxPlan → List Request
asked_of_itself rank boxes = flat_map (λ b. flat_map (λ f. filter (λ q. nat_eq q.edge.head.owner rank) f.asked) b.fields) boxes

-- two lists of ranks as one
unfoldable pub united : List ℕ → List ℕ → List ℕ
united a b = in_order nat_cmp (a ++ b)

-- the letters of these ranks, whose parcels are in order
unfoldable pub letters_from : Plan → List (List Grid) → List (List Grid) → List ℕ → List (ℕ × List Parcel)
letters_from plan own coarser ranks = map (λ to. (to, in_order parcel_cmp (parcels_from plan own coarser to (asked_by plan.others to)))) ranks
