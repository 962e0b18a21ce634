-- What the nest cut leaves of a cluster, by the whole level and by the edges of the cluster alone.
use Rattle.std.specs.Prelude.{◌≡◌, ◌≤◌, ℕ, true, IsTrue, List, [], ◌∷◌, map}
use Rattle.std.specs.List.{filter_map}
use Rattle.samr_box.specs.declared.vector.Axis.{Axis}
use Rattle.samr_box.specs.declared.vector.IVec.{IVec}
use Rattle.samr_box.specs.Vector.{AtMost, Within, IsRatio}
use Rattle.samr_box.specs.Corners.{Corners, IsBox, Holds, holds_box, span, met, grown}
use Rattle.samr_box.specs.Space.{image, wrapped, flag}
use Rattle.samr_boxlist.specs.Slabs.{all_subtracted}
use Rattle.samr_boxlist.specs.Pieces.{chopped}
use Rattle.samr_level.specs.declared.parts.Move.{Move}
use Rattle.samr_level.specs.Refs.{Owned, Link}
use Rattle.samr_level.specs.Regions.{Area, IsCellOf, IsInside}
use Rattle.samr_level.specs.Levels.{IsLevel, IsCellIn}
use Rattle.samr_level.specs.Overlaps.{shifts, scale_in, true_overlaps}
use Rattle.samr_border.specs.Images.{images_by}
use Rattle.samr_nest.specs.Starts.{needed, inner}

-- all images of a level's boxes, in level order and for each box in shift order
abbrev pub images : Area → List Owned → List Corners
images a level = images_by a.frame (shifts a.frame.periodic) (map (λ b. b.bx) level)

-- what a box needs of the domain and the level does not have
abbrev pub holes : Area → List Owned → Corners → List Corners
holes a level b = all_subtracted (needed a b) (images a level)

-- a cluster without all cells that have a hole within the nest width
unfoldable pub nested : Area → List Owned → IVec → Corners → List Corners
nested a level nest c = all_subtracted (inner a c) (map (λ m. grown m nest) (holes a level (grown c nest)))

-- the same, in pieces of so many planes, with the owner of the cluster
abbrev pub owned : ℕ → List Corners → List Owned
owned owner boxes = map (λ b. record { owner = owner; bx = b }) boxes

abbrev pub cut_of : Area → List Owned → IVec → ℕ → Owned → Move
cut_of a level nest largest c = record { old = c; news = owned c.owner (chopped largest (nested a level nest c.bx)) }

-- the same lists, made from edges of the box and of the cluster
abbrev pub holes_by : Area → List Link → IVec → Corners → List Corners
holes_by a near width c = all_subtracted (needed a (grown c width)) (filter_map (λ e. met (image a.frame e.head.bx e.shift) (grown c width)) near)

unfoldable pub nested_by : Area → List Link → IVec → Corners → List Corners
nested_by a near nest c =
    all_subtracted (inner a c) (filter_map (λ m. met (grown m nest) c) (holes_by a near nest c))

-- these are all edges of the cluster to the level, at a width of at least the nest width; the level and the
-- cluster have the same ratio
pub record AreEdgesTo (a : Area) (level : List Owned) (nest : IVec) (c : Owned) (near : List Link) : Type 0 where
  pub ranks : ℕ
  pub is_level : IsLevel a ranks level
  pub width : IVec
  pub is_wide : AtMost nest width
  pub ratio : IVec
  pub is_ratio : IsRatio ratio
  pub edges : near ≡ true_overlaps (scale_in a.frame width ratio ratio) (c ∷ []) level

-- a cell stays: it lies in the cluster and in the domain, and all cells of the domain within the nest width lie
-- in the level, wrapped round periodic borders
pub record Stays (a : Area) (level : List Owned) (nest : IVec) (c : Corners) (x : IVec) : Type 0 where
  pub in_cluster : Holds c x
  pub in_domain : IsCellOf a x
  pub in_level : (y : IVec) → Within nest x y → IsInside a y → IsCellIn level (wrapped a.frame y)

-- a domain that is made of parts has no periodic axis
abbrev pub IsPlain : Area → Type 0
IsPlain a = (axis : Axis) → flag axis a.frame.periodic ≡ true → a.parts ≡ []

-- a piece of a cluster: of its owner, inside of it, with at most so many planes on each axis
pub record IsPieceOf (c : Owned) (largest : ℕ) (b : Owned) : Type 0 where
  pub owner : b.owner ≡ c.owner
  pub is_box : IsBox b.bx
  pub inside : IsTrue (holds_box c.bx b.bx)
  pub planes : (axis : Axis) → span axis b.bx ≤ largest
