-- The steps of `updated_patches`.
use Rattle.std.proofs.Common.{◌∙◌, ◌<◌, sym, ap, map, arith, length}
use Rattle.std.specs.Prelude.{List, Some}
use Rattle.samr_data.specs.Grids.{Grid}
use Rattle.samr_ops.specs.declared.rules.Rules.{Rules}
use Rattle.samr_values.specs.Updating.{updated_at}
use Rattle.samr_values.proofs.Faces.{there_at, pairs_more, pairs_end}
use Rattle.samr_values.proofs.update.updated_patches.Goals as goal

pub updated_field-requires : goal.updated_field-requires
updated_field-requires g c =
    let f = c.loop-f.f in
    let same = c.requires.same in
    let less = c.loop-f-test.true in
    let more : f < length c.args.patches.now = omega (arith, less, same) in
    c.requires.each f c.index-strategies-f.result c.as_slice.result.now (there_at c.args.strategies.now f c.index-strategies-f.result less c.index-strategies-f.is)
    (there_at c.args.patches.now f c.index-patches-f.result more c.index-patches-f.is ∙ ap (λ (l : List Grid). Some l) (sym c.as_slice.ensures))

pub loop-f-preserved : goal.loop-f-preserved
loop-f-preserved g c =
    let f = c.loop-f.f in
    let less = c.loop-f-test.true in
    let make : Rules × List Grid → List Grid = λ e. map (λ (p : Grid). updated_at c.args.dim e.0 p) e.1 in (
      omega (arith, less),
      c.in_ok-push.ensures.items
          ∙ pairs_more make c.args.strategies.now c.args.patches.now f c.index-strategies-f.result c.index-patches-f.result _ c.loop-f.out.items c.requires.same less
          c.index-strategies-f.is c.index-patches-f.is c.loop-f.invariant.1
          (c.from_vec.ensures ∙ c.in_ok-field.ensures ∙ ap (map (λ (p : Grid). updated_at c.args.dim c.index-strategies-f.result p)) c.as_slice.ensures),
    )

pub returns : goal.returns
returns g c =
    let make : Rules × List Grid → List Grid = λ e. map (λ (p : Grid). updated_at c.args.dim e.0 p) e.1 in
    pairs_end make c.args.strategies.now c.args.patches.now c.loop-f.f c.loop-f.out.items c.requires.same c.loop-f-test.false c.loop-f.invariant.1
