use Rattle.std.proofs.Common.{ap, ◌∙◌, map, filter}
use Rattle.std.specs.List.{flat_map}
use Rattle.samr_level.specs.Refs.{link}
use Rattle.samr_level.specs.Overlaps.{scale_in, is_true, shifts}
use Rattle.samr_box.specs.Space.{Space}
use Rattle.samr_level.proofs.Searches.{overlaps_by_search}
use Rattle.samr_level.proofs.overlap.true_overlaps_of.Goals as goal

pub returns : goal.returns
returns c =
    let n = scale_in c.args.finer.now c.args.width c.args.base_ratio c.args.head_ratio in
    c.in_ok-edges.ensures
    ∙ ap (λ m. flat_map (λ a. flat_map (λ b. filter (λ e. is_true m e) (map (λ s. link a b s) c.as_slice.result.now)) c.args.heads.now) c.args.bases.now) c.new-ruler.ensures
    ∙ ap (λ ss. flat_map (λ a. flat_map (λ b. filter (λ e. is_true n e) (map (λ s. link a b s) ss)) c.args.heads.now) c.args.bases.now) (c.as_slice.ensures.value ∙ c.in_ok-shifts.ensures ∙ ap (λ (d : Space). shifts d.periodic) c.finer.view_is)
    ∙ overlaps_by_search n c.args.bases.now c.args.heads.now
