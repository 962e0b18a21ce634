use Rattle.std.proofs.Common.{◌∙◌}
use Rattle.samr_values.proofs.MergedTo.{can_leading, merged_to_is}
use Rattle.samr_values.proofs.merging.merged_to.Goals as goal

pub merged_fields-requires : goal.merged_fields-requires
merged_fields-requires c =
    can_leading c.args.merges.now c.args.edges.now c.as_slice.result.now c.args.fine.now c.args.to c.requires (c.as_slice.ensures.value ∙ c.in_ok-leading.ensures)

pub returns : goal.returns
returns c = λ values has.
    merged_to_is c.args.merges.now values c.args.edges.now c.as_slice.result.now c.args.to c.in_ok-parcels.parcels.items c.in_parcel_order.result.items (c.as_slice.ensures.value ∙ c.in_ok-leading.ensures)
    (c.in_ok-parcels.ensures values has) c.in_parcel_order.ensures
