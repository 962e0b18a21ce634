use Rattle.std.proofs.Common.{◌≡◌, ◌∙◌, sym, ap, map, arith, ◌++◌}
use Rattle.std.proofs.lemmas.List.{map_push}
use Rattle.std.specs.Prelude.{ℕ, List, ◌∷◌, [], Some, take}
use Rattle.std.specs.List.{enumerate_from}
use Rattle.samr_data.specs.Grids.{Grid}
use Rattle.samr_ops.specs.declared.rules.Rules.{Rules}
use Rattle.samr_fill.specs.FillParts.{filled_field}
use Rattle.samr_fill.proofs.Steps.{numbered_more}
use Rattle.samr_fill.proofs.FieldTasks.{there_at, patches_below}
use Rattle.samr_fill.proofs.filling.fill_fields.Goals as goal

pub fill_field-requires : goal.fill_field-requires
fill_field-requires g c =
    let h = c.requires.2 in
    let f = c.loop-field.field in
    let more = patches_below c.args.plan.now c.args.parcels.now c.args.strategies.now c.args.own.now c.requires.0 c.requires.1 h f c.loop-field-test.true in (
      c.requires.0,
      c.requires.1,
      h.field f c.index-strategies-field.result c.as_slice.result.now
          (there_at c.args.strategies.now f c.index-strategies-field.result c.loop-field-test.true c.index-strategies-field.is)
          (there_at c.args.own.now f c.index-own-field.result more c.index-own-field.is ∙ ap (λ (l : List Grid). Some l) (sym c.as_slice.ensures)),
    )

pub loop-field-preserved : goal.loop-field-preserved
loop-field-preserved g c = (
  omega (arith, c.loop-field-test.true),
  λ w r h.
      let f = c.loop-field.field in
      let s = c.index-strategies-field.result in
      let rules = c.args.strategies.now in
      let make : ℕ × Rules → List Grid = λ f. filled_field w r f in
      let more = patches_below c.args.plan.now c.args.parcels.now rules c.args.own.now w r h f c.loop-field-test.true in
      let task = h.field f s c.as_slice.result.now
      (there_at rules f s c.loop-field-test.true c.index-strategies-field.is)
      (there_at c.args.own.now f c.index-own-field.result more c.index-own-field.is ∙ ap (λ (l : List Grid). Some l) (sym c.as_slice.ensures)) in
      c.in_ok-push.ensures.items
      ∙ ap (λ (l : List Grid). c.loop-field.filled.items ++ l ∷ []) (c.from_vec.ensures ∙ c.in_ok-patches.ensures w r task)
      ∙ ap (λ (l : List (List Grid)). l ++ make (f, s) ∷ []) (c.loop-field.invariant.1 w r h)
      ∙ sym (map_push make (enumerate_from 0 (take f rules)) (f, s))
      ∙ ap (map make) (sym (numbered_more rules f s c.loop-field-test.true c.index-strategies-field.is)),
)
