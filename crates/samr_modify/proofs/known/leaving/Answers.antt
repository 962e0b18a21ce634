use Rattle.std.proofs.Common.{ℕ, ap, ◌∙◌}
use Rattle.std.specs.Prelude.{List, map}
use Rattle.std.specs.List.{flat_map}
use Rattle.samr_box.specs.Corners.{Corners}
use Rattle.samr_find.specs.Places.{meeting}
use Rattle.samr_level.specs.Refs.{Link}
use Rattle.samr_modify.specs.Found.{at_place, if_leaves}
use Rattle.samr_modify.proofs.Lookups.{leaving_is}
use Rattle.samr_modify.proofs.known.leaving.Goals as goal

pub returns : goal.returns
returns c =
    let edges = c.args.edges.now in
    let b = c.args.b in
    c.from_vec.ensures ∙ c.in_ok-out.ensures
    ∙ ap (λ (places : List ℕ). flat_map (λ place. at_place (λ e. if_leaves b e) edges place) places)
    (c.as_slice.ensures ∙ c.in_ok-places.ensures
    ∙ ap (λ (l : List Corners). meeting l c.box_of.result) c.requires
    ∙ ap (λ (x : Corners). meeting (map (λ (e : Link). e.base.bx) edges) x) c.box_of.ensures.value)
    ∙ leaving_is edges b (rw (c.box_of.ensures.value) at c.box_of.ensures.whole)
