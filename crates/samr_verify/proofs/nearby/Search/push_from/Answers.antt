use Rattle.std.proofs.Common.{ℕ, ◌++◌, ap, ◌∙◌}
use Rattle.std.specs.Prelude.{List}
use Rattle.std.specs.List.{flat_map}
use Rattle.samr_box.specs.declared.vector.IVec.{IVec}
use Rattle.samr_box.specs.Corners.{Corners}
use Rattle.samr_find.specs.Places.{places_of}
use Rattle.samr_level.specs.Overlaps.{Scale}
use Rattle.samr_level.specs.Refs.{Link}
use Rattle.samr_verify.specs.Nearby.{at_place, in_windows, edges_between}
use Rattle.samr_verify.proofs.NearbyLaws.{found_near}
use Rattle.samr_verify.proofs.nearby.Search.push_from.Goals as goal

pub returns : goal.returns
returns c =
    let self = c.args.self.now in
    let a = c.args.a in
    let ss = self.shifts.items in
    let heads = self.heads.now in
    c.in_ok-push_places.ensures
    ∙ ap (λ (places : List ℕ). c.args.out.now.items ++ flat_map (λ place. at_place (λ b. edges_between self.ruler c.as_slice-shifts.result.now a b) heads place) places)
    (c.as_slice.ensures.value ∙ c.in_ok-places.ensures
    ∙ ap (λ (x : Corners). places_of (λ b. in_windows self.reach c.as_slice-shifts.result.now x b) self.all) c.box_of.ensures.value
    ∙ ap (λ (n : Scale). places_of (λ b. in_windows n c.as_slice-shifts.result.now a.bx b) self.all) c.requires.same)
    ∙ ap (λ (l : List IVec). c.args.out.now.items ++ flat_map (λ place. at_place (λ b. edges_between self.ruler l a b) heads place) (places_of (λ b. in_windows self.ruler l a.bx b) self.all)) c.as_slice-shifts.ensures.value
    ∙ ap (λ (l : List Link). c.args.out.now.items ++ l) (found_near self.ruler ss heads self.all a c.requires.all c.requires.whole c.requires.ratio)
