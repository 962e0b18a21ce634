use Rattle.std.proofs.Common.{◌≡◌, ◌∙◌, Bool, rules}
use Rattle.std.proofs.lemmas.Fn.{always_returns_same, dedup_same}
use Rattle.std.proofs.lemmas.List.Sorted.{ranks_by}
use Rattle.std.specs.Ordering.{is_lt}
use Rattle.samr_data.specs.declared.parcel.Parcel.{Parcel}
use Rattle.samr_data.specs.ParcelOrder.{parcel_cmp}
use Rattle.samr_data.proofs.ParcelOrderLaws.{parcel_total, parcel_same, parcels_settled}
use Rattle.samr_data.proofs.order.in_parcel_order.Goals as goal

pub returns : goal.returns
returns c =
    let before : Parcel → Parcel → Bool = λ p q. is_lt (parcel_cmp p q) in
    let sorted =
    c.sort_unstable_by.ensures.sorted before (ranks_by parcel_total (λ (p : Parcel). p))
    (always_returns_same _ (λ a r. is_lt r ≡ before a.0.now a.1.0.now) _ (λ a r f' k. (search rules, search rules))) in
    dedup_same _ parcel_same _ (λ x y b f' x' y' k. search rules) _ _ c.dedup_by.ensures.filtered
    ∙ parcels_settled _ _ c.sort_unstable_by.ensures.permutation sorted
