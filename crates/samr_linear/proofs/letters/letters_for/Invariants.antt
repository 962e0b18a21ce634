use Rattle.std.proofs.Common.{◌≡◌, take, map}
use Rattle.samr_level.specs.RefOrders.{in_order}
use Rattle.samr_data.specs.ParcelOrder.{parcel_cmp}
use Rattle.samr_fill.specs.Sending.{asked_by, AreByCorner}
use Rattle.samr_linear.specs.LinearSending.{parcels_from}
use Rattle.samr_linear.proofs.letters.letters_for.Given as goal

abbrev pub invariant-loop-to : goal.invariant-loop-to
invariant-loop-to l = AreByCorner l.coarser → l.letters.items ≡ map (λ to. (to, in_order parcel_cmp (parcels_from l.plan l.fn.real l.own l.coarser to (asked_by l.plan.others to)))) (take l.to-index l.ranks)
