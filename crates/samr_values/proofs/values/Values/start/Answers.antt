use Rattle.std.proofs.Common.{sym, subst}
use Rattle.std.specs.Prelude.{List}
use Rattle.std.specs.Option.{option_map}
use Rattle.samr_data.specs.Grids.{Grid}
use Rattle.samr_values.specs.OldLevelEdges.{back_edges}
use Rattle.samr_values.proofs.NoOldLevel.{AreEmpty, chosen_fields, chosen_based, chosen_old}
use Rattle.samr_values.proofs.values.Values.start.Goals as goal

pub begun-requires-clause-fields : goal.begun-requires-clause-fields
begun-requires-clause-fields g c =
    chosen_fields c.args.patches.now c.either-olds.result.now c.as_slice.result.now c.args.strategies.now
    (subst (λ (l : List (List Grid)). AreEmpty l c.args.strategies.now) (sym c.as_slice.ensures.value) (c.in_ok-none.ensures.count, c.in_ok-none.ensures.empty))
    c.either-olds.ensures.some c.either-olds.ensures.none (back_edges (option_map (λ p. p.now) c.args.same)) c.requires.fields

pub begun-requires-clause-based : goal.begun-requires-clause-based
begun-requires-clause-based g c =
    chosen_based c.args.patches.now c.either-olds.result.now c.as_slice.result.now c.args.strategies.now
    (subst (λ (l : List (List Grid)). AreEmpty l c.args.strategies.now) (sym c.as_slice.ensures.value) (c.in_ok-none.ensures.count, c.in_ok-none.ensures.empty))
    c.either-olds.ensures.some c.either-olds.ensures.none (back_edges (option_map (λ p. p.now) c.args.same)) c.requires.fields c.requires.based

pub returns : goal.returns
returns g c = λ w r h.
    c.in_ok-stage.ensures w r
    (chosen_old c.args.patches.now c.either-olds.result.now c.as_slice.result.now c.args.strategies.now
    (subst (λ (l : List (List Grid)). AreEmpty l c.args.strategies.now) (sym c.as_slice.ensures.value) (c.in_ok-none.ensures.count, c.in_ok-none.ensures.empty))
    c.either-olds.ensures.some c.either-olds.ensures.none c.args.rank c.args.news.now (option_map (λ p. p.now) c.args.same) c.args.coarser.now c.args.step c.args.coarse_patches.now w r h)
