-- A test tried on one axis after another, at a shift and at its neighbours.
use Rattle.std.specs.Prelude.{pos, negsuc, Bool, ◌&&◌, ◌||◌}
use Rattle.samr_box.specs.declared.vector.Axis.{Axis}
use Rattle.samr_box.specs.declared.vector.IVec.{IVec}
use Rattle.samr_box.specs.declared.space.Flags.{Flags}
use Rattle.samr_box.specs.Vector.{put}
use Rattle.samr_box.specs.Space.{flag}

-- a test holds at a shift or, on a periodic axis, at one of its two neighbours
abbrev pub any_along : Axis → Flags → (IVec → Bool) → IVec → Bool
any_along axis periodic test s =
    test s || (flag axis periodic && (test (put axis s (negsuc 0)) || test (put axis s (pos 1))))
