-- The worked rows, by computing the definition.
use Rattle.std.proofs.Common.{refl}
use Rattle.samr_boxlist.specs.Slabs.{without}
use Rattle.samr_boxlist.specs.Pieces.{pieces}
use Rattle.samr_level.specs.Overlaps.{shifts}
use Rattle.samr_nest.specs.Nested.{nested}
use Rattle.samr_nest.specs.Worked.{AtBothEnds, OverTwoParts}

pub at_both_ends : AtBothEnds
unfolding nested without pieces shifts
at_both_ends = refl

pub over_two_parts : OverTwoParts
unfolding nested without pieces shifts
over_two_parts = refl
