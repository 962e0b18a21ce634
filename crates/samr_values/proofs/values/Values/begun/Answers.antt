use Rattle.std.proofs.Common.{◌≡◌, sym, ap, subst, ◌∙◌, Some, None}
use Rattle.std.specs.Prelude.{List, [], Option}
use Rattle.std.specs.Option.{option_map}
use Rattle.samr_level.specs.declared.parts.Pair.{Pair}
use Rattle.samr_level.specs.Refs.{Link}
use Rattle.samr_values.specs.Patches.{AreBased}
use Rattle.samr_values.specs.ValuesParts.{HasOld}
use Rattle.samr_values.specs.OldLevelEdges.{back_edges}
use Rattle.samr_values.proofs.ValuesStart.{edges_with, edges_without, edges_same}
use Rattle.samr_values.proofs.values.Values.begun.Goals as goal

pub made-requires-clause-based : goal.made-requires-clause-based
made-requires-clause-based g c =
    let some : option_map (λ p. p.now) c.args.same ≡ Some c.in-Some.pair.now = ap (λ o. option_map (λ p. p.now) o) c.in-Some.is in
    subst (λ (l : List Link). AreBased l c.args.patches.now) (sym c.as_slice-in-Some.ensures)
    (subst (λ (o : Option Pair). AreBased (back_edges o) c.args.patches.now) some c.requires.based)

pub made-requires-clause-coarse_based : goal.made-requires-clause-coarse_based
made-requires-clause-coarse_based g c =
    subst (λ (l : List Link). AreBased l c.args.coarse_patches.now) (sym c.as_slice-in-Some-3.ensures) c.requires.coarse_based

pub made-requires-in-None-clause-coarse_based : goal.made-requires-in-None-clause-coarse_based
made-requires-in-None-clause-coarse_based g c =
    subst (λ (l : List Link). AreBased l c.args.coarse_patches.now) (sym c.as_slice-in-None-4.ensures) c.requires.coarse_based

pub returns-in_ok-stage-in-Some : goal.returns-in_ok-stage-in-Some
returns-in_ok-stage-in-Some g c = λ w r h.
    let rank = c.args.rank in
    let news = c.args.news.now in
    let coarser = c.args.coarser.now in
    let step = c.args.step in
    let patches = c.args.patches.now in
    let below = c.args.coarse_patches.now in
    let rules = c.args.strategies.now in
    let p = c.in-Some.pair.now in
    let some : option_map (λ p. p.now) c.args.same ≡ Some c.in-Some.pair.now = ap (λ o. option_map (λ p. p.now) o) c.in-Some.is in
    let Olds : Option Pair → Type 0 = λ o. HasOld rank news o coarser step patches below rules w r in
    c.in_ok-stage-in-Some.ensures w r
    (edges_same rank news p.forth.edges p.back.edges coarser.forth.edges coarser.back.edges
    c.as_slice.result.now c.as_slice-in-Some.result.now c.as_slice-in-Some-2.result.now c.as_slice-in-Some-3.result.now step patches below rules w r
    c.as_slice.ensures c.as_slice-in-Some.ensures c.as_slice-in-Some-2.ensures c.as_slice-in-Some-3.ensures
    (edges_with rank news coarser step patches below rules w r p (subst Olds some h)))

pub returns-in_ok-stage-in-None : goal.returns-in_ok-stage-in-None
returns-in_ok-stage-in-None g c = λ w r h.
    let rank = c.args.rank in
    let news = c.args.news.now in
    let coarser = c.args.coarser.now in
    let step = c.args.step in
    let patches = c.args.patches.now in
    let below = c.args.coarse_patches.now in
    let rules = c.args.strategies.now in
    let none : option_map (λ p. p.now) c.args.same ≡ None = ap (λ o. option_map (λ p. p.now) o) c.in-None.is in
    let Olds : Option Pair → Type 0 = λ o. HasOld rank news o coarser step patches below rules w r in
    c.in_ok-stage-in-None.ensures w r
    (edges_same rank news [] [] coarser.forth.edges coarser.back.edges
    c.as_slice-in-None.result.now c.as_slice-in-None-2.result.now c.as_slice-in-None-3.result.now c.as_slice-in-None-4.result.now step patches below rules w r
    (c.as_slice-in-None.ensures.value ∙ c.new-none.ensures.items) (c.as_slice-in-None-2.ensures.value ∙ c.new-none.ensures.items)
    c.as_slice-in-None-3.ensures c.as_slice-in-None-4.ensures
    (edges_without rank news coarser step patches below rules w r (subst Olds none h)))
