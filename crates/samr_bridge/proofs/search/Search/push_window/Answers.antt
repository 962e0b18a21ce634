use Rattle.std.proofs.Common.{ℕ, ◌∙◌, ap, ◌++◌}
use Rattle.std.specs.Prelude.{List}
use Rattle.std.specs.List.{flat_map}
use Rattle.samr_box.specs.Corners.{Corners}
use Rattle.samr_find.specs.Places.{meeting}
use Rattle.samr_level.specs.Overlaps.{Scale}
use Rattle.samr_bridge.specs.Search.{window, pair_at, pairs_at}
use Rattle.samr_bridge.proofs.search.Search.push_window.Goals as goal

pub returns : goal.returns
unfolding pairs_at
returns c =
    let self = c.args.self.now in
    c.in_ok-push_places.ensures
    ∙ ap (λ (places : List ℕ). c.args.out.now.items ++ flat_map (λ place. pair_at self.ruler self.to_west.now c.args.a place) places)
    (c.as_slice.ensures ∙ c.in_ok-places.ensures
    ∙ ap (meeting self.heads)
    (c.around-window.ensures
    ∙ ap (λ (n : Scale). window n c.head_of.result c.args.s) c.requires
    ∙ ap (λ (b : Corners). window self.ruler b c.args.s) c.head_of.ensures.value))
