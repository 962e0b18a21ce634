-- A rank's schedule, from whole levels.
use Rattle.std.specs.Prelude.{ℕ, ◌&&◌, not, List, map, filter, nat_eq}
use Rattle.std.specs.List.{flat_map, filter_map, enumerate_from}
use Rattle.std.specs.Option.{option_map}
use Rattle.std.specs.Ordering.{nat_cmp, ordering_then}
use Rattle.std.specs.declared.cmp.Ordering.{Ordering}
use Rattle.samr_box.specs.declared.vector.IVec.{IVec}
use Rattle.samr_box.specs.Corners.{Corners, met, meets, grown}
use Rattle.samr_box.specs.Ratios.{coarsened}
use Rattle.samr_box.specs.Orders.{corner_cmp}
use Rattle.samr_box.specs.Space.{image}
use Rattle.samr_level.specs.Refs.{Owned, Link}
use Rattle.samr_level.specs.RefOrders.{edge_cmp, in_order}
use Rattle.samr_level.specs.Levels.{own}
use Rattle.samr_nest.specs.Starts.{needed}
use Rattle.samr_nest.specs.Nested.{holes}
use Rattle.samr_peers.specs.Peers.{other_owners}
use Rattle.samr_sched.specs.declared.plan.Request.{Request}
use Rattle.samr_sched.specs.declared.plan.FieldPlan.{FieldPlan}
use Rattle.samr_sched.specs.declared.plan.BoxPlan.{BoxPlan}
use Rattle.samr_sched.specs.declared.plan.Asked.{Asked}
use Rattle.samr_sched.specs.declared.plan.Plan.{Plan}
use Rattle.samr_sched.specs.Ask.{Scheduling, domain_of, frame_of, coarse_frame, selves_of, selves, downs_of, downs, ups}

-- requests in order: by edge, then by field, then in corner order
abbrev pub request_cmp : Request → Request → Ordering
request_cmp p q = ordering_then (edge_cmp p.edge q.edge) (ordering_then (nat_cmp p.field q.field) (corner_cmp p.bx q.bx))

-- the edges of a box to images that have ghost cells of it: that of the box itself has none
unfoldable pub copies : Scheduling → IVec → Owned → List Link
copies w g b =
    filter (λ e. meets (image (frame_of w) e.head.bx e.shift) (grown b.bx g) && not (meets (image (frame_of w) e.head.bx e.shift) b.bx)) (selves_of w b)

-- what the box and its ghost cells have of the domain and the level has not
abbrev pub rest : Scheduling → IVec → Owned → List Corners
rest w g b = holes (domain_of w) w.level (grown b.bx g)

-- what these cells need of the head of an edge to the level below
abbrev pub request : Link → ℕ → Corners → Request
request e field c = record { edge = e; field = field; bx = c }

unfoldable pub asked_along : Scheduling → ℕ → IVec → Owned → Link → List Request
asked_along w field g b e =
    filter_map (λ p. option_map (λ c. request e field c) (met (coarsened p w.step) (image (coarse_frame w) e.head.bx e.shift))) (rest w g b)

unfoldable pub asked : Scheduling → ℕ → IVec → Owned → List Request
asked w field g b = in_order request_cmp (flat_map (λ e. asked_along w field g b e) (downs_of w b))

-- the plan of a field of a box, of all fields, and of all boxes of a rank
abbrev pub field_plan : Scheduling → Owned → ℕ × IVec → FieldPlan
field_plan w b f = record {
  width = f.1;
  inside = needed (domain_of w) (grown b.bx f.1);
  copies = copies w f.1 b;
  rest = rest w f.1 b;
  asked = asked w f.0 f.1 b;
}

abbrev pub box_plan : Scheduling → Owned → BoxPlan
box_plan w b = record { base = b; fields = map (λ f. field_plan w b f) (enumerate_from 0 w.ghosts) }

unfoldable pub box_plans : Scheduling → ℕ → List BoxPlan
box_plans w r = map (λ b. box_plan w b) (own r w.level)

-- what a rank asks of another
abbrev pub all_asked : List BoxPlan → List Request
all_asked plans = flat_map (λ p. flat_map (λ f. f.asked) p.fields) plans

unfoldable pub requests : Scheduling → ℕ → ℕ → List Request
requests w from to = in_order request_cmp (filter (λ q. nat_eq q.edge.head.owner to) (all_asked (box_plans w from)))

-- and what others ask of it: those with boxes over or near which its boxes of the level below lie
unfoldable pub others : Scheduling → ℕ → List Asked
others w r = map (λ k. record { rank = k; requests = requests w k r }) (other_owners r (ups w r))

abbrev pub plan_of : Scheduling → ℕ → Plan
plan_of w r = record {
  rank = r;
  frame = frame_of w;
  below = coarse_frame w;
  step = w.step;
  near = other_owners r (selves w r);
  under = other_owners r (downs w r);
  boxes = box_plans w r;
  others = others w r;
  fixed = w.fixed;
}
