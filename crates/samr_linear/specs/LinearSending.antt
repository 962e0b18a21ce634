-- What a rank makes its parcels of: its plan, and its patches of the level and of the one below.
use Rattle.std.specs.Prelude.{ℕ, true, List, ◌++◌, map, Option}
use Rattle.std.specs.List.{filter_map, find}
use Rattle.std.specs.Option.{option_map}
use Rattle.samr_box.specs.Vector.{times}
use Rattle.samr_box.specs.declared.space.Flags.{Flags}
use Rattle.samr_box.specs.Corners.{met, grown}
use Rattle.samr_box.specs.Space.{Space}
use Rattle.samr_level.specs.Refs.{turned}
use Rattle.samr_level.specs.RefOrders.{in_order}
use Rattle.samr_data.specs.Places.{moved_back}
use Rattle.samr_data.specs.Grids.{Grid, over}
use Rattle.samr_data.specs.declared.parcel.Parcel.{Parcel}
use Rattle.samr_data.specs.ParcelOrder.{parcel_cmp}
use Rattle.samr_sched.specs.declared.plan.Request.{Request}
use Rattle.samr_sched.specs.declared.plan.Plan.{Plan}
use Rattle.samr_fill.specs.Sending.{then_some, parcel_of, all_copies, is_box, asked_by}
use Rattle.samr_linear.specs.Around.{one_around}

-- the answer to a request, of a patch, with one cell about it, and of that patch whose box the request names
abbrev pub answer_of : Space → Flags → Request → Grid → Option Parcel
answer_of d real q p =
    then_some (met p.bx (moved_back q.bx (times q.edge.shift d.size)))
    (λ c. option_map (λ a. parcel_of (turned q.edge) true q.field p a) (met (over p) (grown c (one_around real))))

abbrev pub answer_in : Space → Flags → Request → List Grid → Option Parcel
answer_in d real q patches = then_some (find (λ p. is_box q.edge.head.bx p) patches) (λ p. answer_of d real q p)

-- all that a rank has for another, which asked for this
unfoldable pub parcels_from : Plan → Flags → List (List Grid) → List Grid → ℕ → List Request → List Parcel
parcels_from plan real own coarser to requests =
    all_copies plan.frame to own plan.boxes ++ filter_map (λ q. answer_in plan.below real q coarser) requests

-- the letters of these ranks, whose parcels are in order
unfoldable pub letters_from : Plan → Flags → List (List Grid) → List Grid → List ℕ → List (ℕ × List Parcel)
letters_from plan real own coarser ranks = map (λ to. (to, in_order parcel_cmp (parcels_from plan real own coarser to (asked_by plan.others to)))) ranks
