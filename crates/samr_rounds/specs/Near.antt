-- Which ranks are near a node: those that may have tags in it, or boxes within the width of its clusters.
use Rattle.std.specs.Prelude.{Bool, List}
use Rattle.std.specs.List.{list_any}
use Rattle.samr_box.specs.declared.vector.IVec.{IVec}
use Rattle.samr_box.specs.Corners.{Corners, meets, grown}
use Rattle.samr_box.specs.Space.{Space, image}
use Rattle.samr_level.specs.Overlaps.{shifts}

-- a box grown by the width meets the image of a node at a shift
unfoldable pub meets_at : Space → IVec → Corners → Corners → IVec → Bool
meets_at frame width node b s = meets (grown b width) (image frame node s)

-- it meets an image of the node
unfoldable pub meets_an_image : Space → IVec → Corners → Corners → Bool
meets_an_image frame width node b = list_any (meets_at frame width node b) (shifts frame.periodic)

-- one of the boxes does
unfoldable pub is_near : Space → IVec → List Corners → Corners → Bool
is_near frame width boxes node = list_any (λ b. meets_an_image frame width node b) boxes
