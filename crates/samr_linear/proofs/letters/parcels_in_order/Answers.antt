use Rattle.std.proofs.Common.{◌∙◌, ap}
use Rattle.samr_level.specs.RefOrders.{in_order}
use Rattle.samr_data.specs.ParcelOrder.{parcel_cmp}
use Rattle.samr_linear.proofs.letters.parcels_in_order.Goals as goal

pub returns : goal.returns
returns c = λ sorted. c.in_parcel_order.ensures ∙ ap (in_order parcel_cmp) (c.in_ok-parcels.ensures sorted)
