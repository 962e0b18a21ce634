-- What a rank makes of all that it knows of old boxes in the end.
use Rattle.std.specs.Prelude.{ℕ, cond, List, [], ◌∷◌, map, filter}
use Rattle.std.specs.List.{flat_map, slice_get}
use Rattle.std.specs.Option.{option_map_or}
use Rattle.std.specs.Ordering.{is_eq}
use Rattle.samr_level.specs.Refs.{Owned, Link, link}
use Rattle.samr_level.specs.RefOrders.{ref_cmp}
use Rattle.samr_level.specs.Levels.{own}
use Rattle.samr_level.specs.Overlaps.{Scale, is_true}
use Rattle.samr_modify.specs.declared.entries.Replaced.{Replaced}

-- an edge to an old box, led to those of some new boxes that are near
unfoldable pub led_to : Scale → Link → List Owned → List Link
led_to n e news = filter (λ e. is_true n e) (map (λ b. link e.base b e.shift) news)

-- the same, where the old box is the edge's head
abbrev pub led : Scale → Link → Replaced → List Link
led n e r = cond (is_eq (ref_cmp e.head r.old)) (led_to n e r.news) []

unfoldable pub all_led : Scale → List Link → List Replaced → List Link
all_led n edges rs = flat_map (λ e. flat_map (λ r. led n e r) rs) edges

-- the edges of an old box, where they are true of a new one
unfoldable pub taken_by : Scale → List Link → Owned → List Link
taken_by n edges b = filter (λ e. is_true n e) (map (λ e. link b e.head e.shift) edges)

-- those of a rank's own new boxes
unfoldable pub taken : Scale → ℕ → Replaced → List Link
taken n rank r = flat_map (λ b. taken_by n r.edges b) (own rank r.news)

unfoldable pub all_taken : Scale → ℕ → List Replaced → List Link
all_taken n rank rs = flat_map (λ r. taken n rank r) rs

-- an edge, if it leaves a box
abbrev pub if_leaves : Owned → Link → List Link
if_leaves b e = cond (is_eq (ref_cmp e.base b)) (e ∷ []) []

-- what a list gives at a place
abbrev pub at_place : {X Y : Type 0} → (X → List Y) → List X → ℕ → List Y
at_place f xs place = option_map_or f (slice_get xs place) []
