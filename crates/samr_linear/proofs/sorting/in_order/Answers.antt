use Rattle.std.proofs.Common.{◌≡◌, Bool, rules}
use Rattle.std.specs.Ordering.{is_lt}
use Rattle.std.proofs.lemmas.Fn.{always_returns_same}
use Rattle.samr_data.specs.declared.parcel.Parcel.{Parcel}
use Rattle.samr_fill.specs.Orders.{order_to}
use Rattle.samr_fill.proofs.OrderLaws.{parcels_ranked, in_order_from}
use Rattle.samr_linear.proofs.sorting.in_order.Goals as goal

pub returns-clause-order : goal.returns-clause-order
returns-clause-order c =
    let before : Parcel → Parcel → Bool = λ p q. is_lt (order_to q.edge.head q.field p) in
    in_order_from c.sort_unstable_by.new.self.items
    (c.sort_unstable_by.ensures.sorted before parcels_ranked
    (always_returns_same _ (λ a r. is_lt r ≡ before a.0.now a.1.0.now) _ (λ a r f' k. (search rules, search rules))))
