use Rattle.std.proofs.Common.{ℕ, ap, ◌∙◌, ◌++◌}
use Rattle.std.specs.Prelude.{List, map}
use Rattle.std.specs.List.{flat_map}
use Rattle.samr_box.specs.Corners.{Corners}
use Rattle.samr_find.specs.Places.{meeting}
use Rattle.samr_level.specs.Refs.{Link}
use Rattle.samr_modify.specs.declared.entries.Replaced.{Replaced}
use Rattle.samr_modify.specs.Found.{at_place, led}
use Rattle.samr_modify.proofs.Lookups.{led_is}
use Rattle.samr_modify.proofs.leading.push_found.Goals as goal

pub returns : goal.returns
returns c =
    let known = c.args.known.now in
    let n = c.args.ruler.now in
    let e = c.args.e in
    let out = c.args.out.now.items in
    c.in_ok-push_places.ensures
    ∙ ap (λ (places : List ℕ). out ++ flat_map (λ place. at_place (λ r. led n e r) known place) places)
    (c.as_slice.ensures ∙ c.in_ok-places.ensures
    ∙ ap (λ (l : List Corners). meeting l c.head_of.result) c.requires
    ∙ ap (λ (x : Corners). meeting (map (λ (r : Replaced). r.old.bx) known) x) c.head_of.ensures.value)
    ∙ ap (λ (l : List Link). out ++ l) (led_is n e known (rw (c.head_of.ensures.value) at c.head_of.ensures.whole))
