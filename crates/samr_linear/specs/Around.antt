-- What is told of coarse cells for a linear fill: those that are asked for, and one about them.
use Rattle.std.specs.Prelude.{◌≡◌, ℕ, pos, true, if◌then◌else◌}
use Rattle.samr_box.specs.declared.vector.IVec.{IVec}
use Rattle.samr_box.specs.declared.space.Flags.{Flags}
use Rattle.samr_box.specs.Corners.{IsBox, Holds, grown}
use Rattle.samr_level.specs.Refs.{turned}
use Rattle.samr_data.specs.declared.parcel.Parcel.{Parcel}
use Rattle.samr_data.specs.Values.{listed}
use Rattle.samr_data.specs.Grids.{Grid, value_at, packed}
use Rattle.samr_sched.specs.declared.plan.Request.{Request}
use Rattle.samr_fill.specs.Fill.{Filling}
use Rattle.samr_fill.specs.FillRow.{asked_region}
use Rattle.samr_linear.specs.declared.linear.Linear.{Linear}

-- one cell on each real axis
abbrev pub one_around : Flags → IVec
one_around real = record { k = if real.k then pos 1 else pos 0; j = if real.j then pos 1 else pos 0; i = if real.i then pos 1 else pos 0 }

-- for a request: what is asked for with one cell about it, from the level below with its ghost cells
abbrev pub answered_around : Filling → Linear → (IVec → ℕ) → Request → Parcel
answered_around w s below q = record {
  edge = turned q.edge;
  is_coarse = true;
  field = q.field;
  region = grown (asked_region w.schedule q) (one_around s.real);
  values = listed (grown (asked_region w.schedule q) (one_around s.real)) below;
}

-- a coarse patch that has its values with its ghost cells gives the answer of the row
abbrev pub AnswersAreTheRow : Type 0
AnswersAreTheRow = (w : Filling) (s : Linear) (below : IVec → ℕ) (q : Request) (p : Grid) → IsBox (grown (asked_region w.schedule q) (one_around s.real))
    → ((x : IVec) → Holds (grown (asked_region w.schedule q) (one_around s.real)) x → value_at p x ≡ below x)
    → packed p (grown (asked_region w.schedule q) (one_around s.real)) ≡ (answered_around w s below q).values
