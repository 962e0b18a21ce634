-- A rank's plans from what it has: its boxes, and the edges that begin at them.
use Rattle.std.specs.Prelude.{ℕ, Bool, ◌&&◌, not, nat_eq, Option, List, map, filter}
use Rattle.std.specs.List.{flat_map, filter_map, enumerate_from}
use Rattle.std.specs.Option.{option_map}
use Rattle.std.specs.Ordering.{is_eq}
use Rattle.samr_box.specs.declared.vector.IVec.{IVec}
use Rattle.samr_box.specs.Corners.{Corners, met, meets, grown}
use Rattle.samr_box.specs.Ratios.{coarsened}
use Rattle.samr_box.specs.Space.{Space, image}
use Rattle.samr_level.specs.Refs.{Owned, Link}
use Rattle.samr_level.specs.RefOrders.{ref_cmp, in_order}
use Rattle.samr_nest.specs.Starts.{needed}
use Rattle.samr_nest.specs.Nested.{holes_by}
use Rattle.samr_sched.specs.declared.plan.Request.{Request}
use Rattle.samr_sched.specs.declared.plan.FieldPlan.{FieldPlan}
use Rattle.samr_sched.specs.declared.plan.BoxPlan.{BoxPlan}
use Rattle.samr_sched.specs.declared.making.Ground.{Ground}
use Rattle.samr_sched.specs.Plans.{request, request_cmp, all_asked}

-- the edges that begin at a box
abbrev pub starts_at : Owned → Link → Bool
starts_at b e = is_eq (ref_cmp e.base b)

unfoldable pub edges_at : Owned → List Link → List Link
edges_at b edges = filter (λ e. starts_at b e) edges

-- an edge leads to an image that has cells of a wider box, and none of the box
abbrev pub has_ghosts : Space → Corners → Corners → Link → Bool
has_ghosts d b wide e = meets (image d e.head.bx e.shift) wide && not (meets (image d e.head.bx e.shift) b)

-- what a piece of the rest needs of the head of an edge, and all pieces of all heads
abbrev pub asked_of : Space → IVec → ℕ → Link → Corners → Option Request
asked_of below step field e p = option_map (λ c. request e field c) (met (coarsened p step) (image below e.head.bx e.shift))

unfoldable pub asked_by : Space → IVec → ℕ → List Link → List Corners → List Request
asked_by below step field under rest = in_order request_cmp (flat_map (λ e. filter_map (λ p. asked_of below step field e p) rest) under)

-- what plans ask of a rank
unfoldable pub requests_by : List BoxPlan → ℕ → List Request
requests_by plans to = in_order request_cmp (filter (λ q. nat_eq q.edge.head.owner to) (all_asked plans))

-- the plan of a field of a box, by its edges, and of all fields
abbrev pub field_by : Ground → List Link → List Link → Owned → ℕ × IVec → FieldPlan
field_by n near under b f = record {
  width = f.1;
  inside = needed n.domain (grown b.bx f.1);
  copies = filter (λ e. has_ghosts n.domain.frame b.bx (grown b.bx f.1) e) near;
  rest = holes_by n.domain near f.1 b.bx;
  asked = asked_by n.below n.step f.0 under (holes_by n.domain near f.1 b.bx);
}

unfoldable pub plan_by : Ground → List IVec → List Link → List Link → Owned → BoxPlan
plan_by n ghosts selves downs b = record { base = b; fields = map (λ f. field_by n (edges_at b selves) (edges_at b downs) b f) (enumerate_from 0 ghosts) }
