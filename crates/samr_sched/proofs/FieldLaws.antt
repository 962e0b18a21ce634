-- The plan of a field from what its function found.
use Rattle.std.proofs.Common.{◌≡◌, ℕ, refl, filter}
use Rattle.std.specs.Prelude.{List}
use Rattle.samr_box.specs.declared.vector.IVec.{IVec}
use Rattle.samr_box.specs.Corners.{Corners, grown}
use Rattle.samr_box.specs.Space.{Space}
use Rattle.samr_level.specs.Refs.{Owned, Link}
use Rattle.samr_nest.specs.Starts.{needed}
use Rattle.samr_nest.specs.Nested.{holes_by}
use Rattle.samr_sched.specs.declared.plan.Request.{Request}
use Rattle.samr_sched.specs.declared.plan.FieldPlan.{FieldPlan}
use Rattle.samr_sched.specs.declared.making.Ground.{Ground}
use Rattle.samr_sched.specs.PlansOfParts.{has_ghosts, asked_by, field_by}

pub field_is : (n : Ground) (near under : List Link) (b : Owned) (field : ℕ) (width : IVec) (wide bx : Corners) (d : Space)
    (inside inside1 rest rest1 rest2 : List Corners) (copied copied1 : List Link) (asked asked1 : List Request)
    → bx ≡ b.bx → wide ≡ grown bx width → inside ≡ needed n.domain wide → inside1 ≡ inside → d ≡ n.domain.frame
    → copied ≡ filter (λ e. has_ghosts d bx wide e) near → copied1 ≡ copied
    → rest ≡ holes_by n.domain near width b.bx → rest1 ≡ rest → rest2 ≡ rest
    → asked ≡ asked_by n.below n.step field under rest1 → asked1 ≡ asked
    → (let p : FieldPlan = record { width = width; inside = inside1; copies = copied1; rest = rest2; asked = asked1 } in p) ≡ field_by n near under b (field, width)
field_is n near under b field width wide bx d inside inside1 rest rest1 rest2 copied copied1 asked asked1 e w i i1 f c c1 r r1 r2 a a1 =
    rw (a1, a, r1, r2, r, c1, c, f, i1, i, w, e) refl
