use Rattle.std.proofs.Common.{◌<◌, ◌∙◌, ap, subst}
use Rattle.std.specs.Prelude.{◌^◌, List}
use Rattle.std.specs.List.{All}
use Rattle.samr_box.specs.Corners.{cells_of}
use Rattle.samr_level.specs.Refs.{Owned}
use Rattle.samr_level.specs.Regions.{Area}
use Rattle.samr_level.specs.Blocks.{level0}
use Rattle.samr_values.specs.Coarsen.{IsRefinement}
use Rattle.samr_trials_values.proofs.merges.are_fit.Goals as goal

pub returns : goal.returns
returns c = λ t. record {
  cover = c.requires.cover;
  hold = c.requires.hold;
  some = c.requires.some;
  merges = c.are_merges.ensures c.if-not-are_merges.false;
  small = subst (λ (l : List Owned). All (λ b. cells_of b.bx < 2 ^ 62) l) (c.as_slice.ensures.value ∙ c.in_ok-level.ensures.value) (c.have_few.ensures c.if-not-have_few.false);
  refinements = subst (λ (l : List Owned). All (λ b. IsRefinement c.args.step b.bx) l)
      (c.as_slice-2.ensures.value ∙ c.in_ok-over.ensures.value ∙ ap (λ (a : Area). level0 a c.args.fine_block c.args.ranks) c.requires.fine) (c.are_refinements-fit.ensures t);
}
