use Rattle.std.proofs.Common.{sym, ap, ◌∙◌, subst, length, filter}
use Rattle.std.specs.Prelude.{List}
use Rattle.std.specs.List.{flat_map, range_with_len}
use Rattle.samr_level.specs.Refs.{Link}
use Rattle.samr_level.specs.RefOrders.{in_order}
use Rattle.samr_data.specs.ParcelOrder.{parcel_cmp}
use Rattle.samr_values.specs.Patches.{IsBased}
use Rattle.samr_values.specs.ValuesRow.{leads_to, field_parcels}
use Rattle.samr_values.proofs.Leading.{based_some}
use Rattle.samr_values.proofs.sending.parcels_for.Goals as goal

pub parcels_along-requires-clause-based : goal.parcels_along-requires-clause-based
parcels_along-requires-clause-based c = λ f field at.
    subst (λ (l : List Link). IsBased l field) (sym (c.as_slice.ensures.value ∙ c.in_ok-olds.ensures))
    (based_some (λ e. leads_to c.args.to e) c.args.olds.now field (c.requires.based f field at))

pub parcels_along-requires-clause-coarse_based : goal.parcels_along-requires-clause-coarse_based
parcels_along-requires-clause-coarse_based c = λ f field at.
    subst (λ (l : List Link). IsBased l field) (sym (c.as_slice-2.ensures.value ∙ c.in_ok-coarser.ensures))
    (based_some (λ e. leads_to c.args.to e) c.args.coarser.now field (c.requires.coarse_based f field at))

pub returns : goal.returns
returns c = λ values coarse_values has under.
    c.in_parcel_order.ensures
    ∙ ap (in_order parcel_cmp)
    (c.in_ok-parcels.ensures values coarse_values has under
    ∙ ap (λ (l : List Link). flat_map (λ f. field_parcels f c.args.step (values f) (coarse_values f) l c.as_slice-2.result.now) (range_with_len 0 (length c.args.patches.now))) (c.as_slice.ensures.value ∙ c.in_ok-olds.ensures)
    ∙ ap (λ (l : List Link). flat_map (λ f. field_parcels f c.args.step (values f) (coarse_values f) (filter (λ e. leads_to c.args.to e) c.args.olds.now) l) (range_with_len 0 (length c.args.patches.now))) (c.as_slice-2.ensures.value ∙ c.in_ok-coarser.ensures))
