use Rattle.std.proofs.Common.{◌≡◌, ◌∙◌, ap, sym, subst, arith}
use Rattle.std.proofs.lemmas.List.{take_all}
use Rattle.std.specs.Prelude.{List}
use Rattle.std.specs.List.{flat_map, filter_map}
use Rattle.samr_data.specs.Grids.{Grid}
use Rattle.samr_values.specs.declared.merging.Merge.{Merge}
use Rattle.samr_values.specs.Patches.{HasField, IsBased}
use Rattle.samr_values.specs.Merging.{merged_along}
use Rattle.samr_values.proofs.Written.{item_member}
use Rattle.samr_values.proofs.Merges.{one_more_list}
use Rattle.samr_values.proofs.MergedTo.{field_of, field_got}
use Rattle.samr_values.proofs.merging.merged_fields.Goals as goal

pub bounds-fine-from : goal.bounds-fine-from
bounds-fine-from c =
    let m = c.m-item.result in
    let below = c.requires.there m (item_member c.args.merges.now c.loop-m.m-index m m c.loop-m-test.true c.m-item.is) in
    let place : c.from.result ≡ m.field = c.from.ensures in
    omega (arith, below, place)

pub push_along-requires-clause-some : goal.push_along-requires-clause-some
push_along-requires-clause-some c =
    let m = c.m-item.result in
    c.requires.some m (item_member c.args.merges.now c.loop-m.m-index m m c.loop-m-test.true c.m-item.is)

pub push_along-requires-clause-based : goal.push_along-requires-clause-based
push_along-requires-clause-based c =
    let m = c.m-item.result in
    let below = c.requires.there m (item_member c.args.merges.now c.loop-m.m-index m m c.loop-m-test.true c.m-item.is) in
    subst (λ (f : List Grid). IsBased c.args.edges.now f) (sym c.as_slice-patches.ensures)
    (c.requires.based m.field c.index-fine-from.result (field_got c.args.fine.now c.from.result m.field c.index-fine-from.result c.from.ensures below c.index-fine-from.is))

pub push_along-requires-clause-refinements : goal.push_along-requires-clause-refinements
push_along-requires-clause-refinements c =
    let m = c.m-item.result in
    λ e me. c.requires.refinements m e (item_member c.args.merges.now c.loop-m.m-index m m c.loop-m-test.true c.m-item.is) me

pub loop-m-preserved : goal.loop-m-preserved
loop-m-preserved c = λ values has.
    let m = c.m-item.result in
    let below = c.requires.there m (item_member c.args.merges.now c.loop-m.m-index m m c.loop-m-test.true c.m-item.is) in
    let field = field_of values c.args.fine.now c.from.result m.field c.index-fine-from.result has c.from.ensures below c.index-fine-from.is in
    one_more_list (λ (m : Merge). filter_map (λ e. merged_along m (values m.field) e) c.args.edges.now) c.args.merges.now c.loop-m.m-index m c.loop-m.parcels.items
    c.push_along.new.parcels.items c.loop-m-test.true c.m-item.is (c.loop-m.invariant values has)
    (c.in_ok-push_along.ensures (values m.field) (subst (λ (f : List Grid). HasField (values m.field) f) (sym c.as_slice-patches.ensures) field))

pub returns : goal.returns
returns c = λ values has.
    c.loop-m.invariant values has
    ∙ ap (λ (l : List Merge). flat_map (λ m. filter_map (λ e. merged_along m (values m.field) e) c.args.edges.now) l) (take_all c.loop-m.m-index c.args.merges.now c.loop-m-test.false)
