-- The edges of a base box, by a look only at the heads in its windows; and lists that are the same as far as a comparison looks.
use Rattle.std.specs.Prelude.{◌≡◌, ℕ, suc, Bool, List, [], ◌∷◌, map, filter, take, if◌then◌else◌}
use Rattle.std.specs.List.{flat_map, slice_get, list_any}
use Rattle.std.specs.Option.{option_map_or}
use Rattle.samr_box.specs.declared.vector.IVec.{IVec}
use Rattle.samr_box.specs.Corners.{Corners, meets}
use Rattle.samr_bridge.specs.Search.{window}
use Rattle.samr_level.specs.Refs.{Owned, Link, link}
use Rattle.samr_level.specs.Overlaps.{Scale, is_true}

-- what is made of the member at a place
abbrev pub at_place : {X Y : Type 0} → (X → List Y) → List X → ℕ → List Y
at_place f xs place = option_map_or f (slice_get xs place) []

-- a box, if it meets another
abbrev pub if_meets : Corners → Corners → List Corners
if_meets b a = if meets a b then a ∷ [] else []

-- whether a head lies in the window of a base box at one of some shifts
abbrev pub in_windows : Scale → List IVec → Corners → Corners → Bool
in_windows n ss a b = list_any (λ s. meets b (window n a s)) ss

-- the edges from a base box to a head, and to all heads
abbrev pub edges_between : Scale → List IVec → Owned → Owned → List Link
edges_between n ss a b = filter (λ e. is_true n e) (map (λ s. link a b s) ss)

abbrev pub edges_from : Scale → List IVec → List Owned → Owned → List Link
edges_from n ss heads a = flat_map (λ b. edges_between n ss a b) heads

-- the same members up to the one behind a number of them
abbrev pub AlikeBehind : {X : Type 0} → ℕ → List X → List X → Type 0
AlikeBehind most xs ys = take (suc most) xs ≡ take (suc most) ys
