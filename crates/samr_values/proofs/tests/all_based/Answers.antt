use Rattle.std.proofs.Common.{subst}
use Rattle.std.proofs.lemmas.List.{take_all}
use Rattle.std.proofs.lemmas.List.Elements.{All-more, All-get_or}
use Rattle.std.proofs.lemmas.Option.{slice_get_within, get_or_from_slice_get}
use Rattle.std.specs.Prelude.{List}
use Rattle.std.specs.List.{All}
use Rattle.samr_data.specs.Grids.{Grid}
use Rattle.samr_values.specs.Patches.{IsBased}
use Rattle.samr_values.proofs.tests.all_based.Goals as goal

pub loop-field-preserved : goal.loop-field-preserved
loop-field-preserved c =
    let P : List Grid → Type 0 = λ f. IsBased c.args.edges.now f in
    All-more P c.args.fields.now c.loop-field.field-index c.field-item.result c.loop-field-test.true c.loop-field.invariant
    (subst P c.field-item.is (subst P c.as_slice.ensures (c.is_based.ensures c.if-not-is_based.false)))

pub returns : goal.returns
returns c = λ t f field got.
    let P : List Grid → Type 0 = λ f. IsBased c.args.edges.now f in
    let all : All P c.args.fields.now = subst (All P) (take_all c.loop-field.field-index c.args.fields.now c.loop-field-test.false) c.loop-field.invariant in
    subst P (get_or_from_slice_get c.args.fields.now f field field got) (All-get_or P c.args.fields.now f field (slice_get_within c.args.fields.now f field got) all)
