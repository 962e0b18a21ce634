-- The letters of a fill: values of a rank's own boxes that ghost cells of the addressee take.
use Rattle.std.specs.Prelude.{ℕ, true, false, List, ◌++◌, map, filter, Option, nat_eq}
use Rattle.std.specs.List.{flat_map, filter_map, enumerate_from}
use Rattle.std.specs.Option.{option_map}
use Rattle.samr_box.specs.declared.vector.IVec.{IVec}
use Rattle.samr_box.specs.Vector.{times}
use Rattle.samr_box.specs.Corners.{Corners, met, grown}
use Rattle.samr_box.specs.Space.{image}
use Rattle.samr_level.specs.Refs.{Owned, Link, turned}
use Rattle.samr_level.specs.RefOrders.{in_order}
use Rattle.samr_level.specs.Levels.{own}
use Rattle.samr_data.specs.Places.{moved_back}
use Rattle.samr_data.specs.Values.{listed}
use Rattle.samr_peers.specs.Peers.{peer_row}
use Rattle.samr_sched.specs.declared.plan.Request.{Request}
use Rattle.samr_sched.specs.Ask.{Scheduling, frame_of, coarse_frame, selves, ups, downs}
use Rattle.samr_sched.specs.Plans.{copies, requests}
use Rattle.samr_data.specs.declared.parcel.Parcel.{Parcel}
use Rattle.samr_data.specs.ParcelOrder.{parcel_cmp}
use Rattle.samr_fill.specs.Fill.{Filling}

-- along an edge to a box of the level: the values of those cells of the base that are ghost cells of the head
abbrev pub copied_along : Filling → ℕ → IVec → Link → Option Parcel
copied_along w f g e =
    option_map (λ c. record { edge = e; is_coarse = false; field = f; region = c; values = listed c (w.values f) })
    (met e.base.bx (grown (image (frame_of w.schedule) e.head.bx e.shift) g))

-- for a request: the values of the cells asked for, seen from the box below
abbrev pub asked_region : Scheduling → Request → Corners
asked_region s q = moved_back q.bx (times q.edge.shift (coarse_frame s).size)

abbrev pub answered : Filling → Request → Parcel
answered w q = record {
  edge = turned q.edge;
  is_coarse = true;
  field = q.field;
  region = asked_region w.schedule q;
  values = listed (asked_region w.schedule q) (w.coarse_values q.field);
}

-- what a rank has for another: what is copied of its boxes, and what was asked for
abbrev pub packed_for : Filling → ℕ → ℕ → List Parcel
packed_for w from to =
    flat_map (λ b. flat_map (λ f. filter_map (λ e. copied_along w f.0 f.1 e) (filter (λ e. nat_eq e.head.owner to) (copies w.schedule f.1 b)))
    (enumerate_from 0 w.schedule.ghosts)) (own from w.schedule.level)
    ++ map (λ q. answered w q) (requests w.schedule to from)

-- and sends to it: by edge, then what is of the level before what is of the one below, and then by field
unfoldable pub parcels : Filling → ℕ → ℕ → List Parcel
parcels w from to = in_order parcel_cmp (packed_for w from to)

-- a rank sends to the other owners of heads of its overlaps with the level, and to those that asked it; and hears from the former, and from those it asked
abbrev pub sends : Filling → ℕ → List Link
sends w r = selves w.schedule r ++ ups w.schedule r

abbrev pub hears : Filling → ℕ → List Link
hears w r = selves w.schedule r ++ downs w.schedule r

unfoldable pub fill_row : Filling → ℕ → ℕ → Option (List Parcel)
fill_row w = peer_row w.schedule.ranks (sends w) (parcels w)
