use Rattle.std.proofs.Common.{ap, ◌∙◌}
use Rattle.samr_box.specs.declared.vector.IVec.{IVec}
use Rattle.samr_values.specs.Merging.{merges}
use Rattle.samr_values.proofs.CoarsenStart.{can_start, has_merged}
use Rattle.samr_values.proofs.coarsen.Coarsen.start.Goals as goal

pub letters_to-requires : goal.letters_to-requires
letters_to-requires c =
    can_start c.args.pair.now c.args.fine.now c.args.rules.now c.args.moduli.now c.as_slice-merges.result.now c.as_slice-edges.result.now
    (c.as_slice-merges.ensures.value ∙ c.in_ok-merges.ensures ∙ ap (λ (s : IVec). merges s c.args.rules.now c.args.moduli.now) c.step_of.ensures)
    c.as_slice-edges.ensures c.requires.some c.requires.fields c.requires.based c.requires.refinements

pub merged_to-requires : goal.merged_to-requires
merged_to-requires c =
    can_start c.args.pair.now c.args.fine.now c.args.rules.now c.args.moduli.now c.as_slice-merges.result.now c.as_slice-edges.result.now
    (c.as_slice-merges.ensures.value ∙ c.in_ok-merges.ensures ∙ ap (λ (s : IVec). merges s c.args.rules.now c.args.moduli.now) c.step_of.ensures)
    c.as_slice-edges.ensures c.requires.some c.requires.fields c.requires.based c.requires.refinements

pub returns : goal.returns
returns c = λ w r h.
    has_merged c.args.rank c.args.ranks c.args.pair.now c.args.fine.now c.args.coarse c.args.rules.now c.args.moduli.now w r h
    c.as_slice-merges.result.now c.as_slice-edges.result.now c.as_slice-2.result.now c.as_slice.result.now c.in_ok-other_owners.field-0.items
    c.in_ok-letters_to.field-0.items c.in_ok-merged_to.field-0.items
    (c.as_slice-merges.ensures.value ∙ c.in_ok-merges.ensures ∙ ap (λ (s : IVec). merges s c.args.rules.now c.args.moduli.now) c.step_of.ensures)
    c.as_slice-edges.ensures c.as_slice-2.ensures c.requires.few
    (c.as_slice.ensures.value ∙ c.in_ok-addressees.ensures) c.in_ok-other_owners.ensures
    c.in_ok-letters_to.ensures c.in_ok-merged_to.ensures
