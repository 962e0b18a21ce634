use Rattle.std.proofs.Common.{ap, ◌∙◌, ◌++◌}
use Rattle.std.proofs.lemmas.List.{take_all}
use Rattle.std.specs.Prelude.{List, Option, true}
use Rattle.std.specs.List.{filter_map}
use Rattle.std.specs.Option.{option_map, option_to_list}
use Rattle.samr_box.specs.Corners.{Corners}
use Rattle.samr_level.specs.Refs.{Link}
use Rattle.samr_values.specs.ValuesRow.{parcel_of, coarse_parcel}
use Rattle.samr_values.proofs.Written.{item_member}
use Rattle.samr_values.proofs.Packed.{one_more}
use Rattle.samr_values.proofs.packing.push_coarse.Goals as goal

pub push_packed-requires-clause-there : goal.push_packed-requires-clause-there
push_packed-requires-clause-there c =
    let e = c.e-item.result in
    c.requires.there e (item_member c.args.edges.now c.loop-e.e-index e e c.loop-e-test.true c.e-item.is)

pub loop-e-preserved : goal.loop-e-preserved
loop-e-preserved c = λ v has.
    let e = c.e-item.result in
    one_more (λ e. coarse_parcel c.args.field c.args.step v e) c.args.edges.now c.loop-e.e-index e c.args.parcels.now.items c.loop-e.parcels.items c.push_packed.new.parcels.items
    c.loop-e-test.true c.e-item.is (c.loop-e.invariant v has)
    (c.in_ok-push_packed.ensures v has
    ∙ ap (λ (o : Option Corners). c.loop-e.parcels.items ++ option_to_list (option_map (parcel_of e true c.args.field v) o)) c.under_head.ensures.value)

pub returns : goal.returns
returns c = λ v has.
    c.loop-e.invariant v has
    ∙ ap (λ (l : List Link). c.args.parcels.now.items ++ filter_map (λ e. coarse_parcel c.args.field c.args.step v e) l) (take_all c.loop-e.e-index c.args.edges.now c.loop-e-test.false)
