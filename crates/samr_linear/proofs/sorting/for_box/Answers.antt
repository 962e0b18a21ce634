use Rattle.std.proofs.Common.{◌≡◌, ◌∙◌, Bool, length, ◌-◌, take, drop, rules}
use Rattle.std.proofs.lemmas.Fn.{always_returns_same}
use Rattle.std.proofs.lemmas.List.{take_rest}
use Rattle.std.proofs.lemmas.List.Elements.{filter_agree}
use Rattle.std.specs.Ordering.{is_lt, is_le, is_eq}
use Rattle.std.specs.declared.cmp.Ordering.{Ordering}
use Rattle.samr_data.specs.declared.parcel.Parcel.{Parcel}
use Rattle.samr_fill.specs.Writing.{is_for}
use Rattle.samr_fill.specs.Orders.{order_to}
use Rattle.samr_fill.proofs.OrderLaws.{rises, less_first, between_are, equal_is}
use Rattle.samr_linear.proofs.sorting.for_box.Goals as goal

pub returns : goal.returns
returns c =
    let all = c.args.parcels.now in
    let base = c.args.base in
    let field = c.args.field in
    let n = c.partition_point-first.result in
    let order : Parcel → Ordering = λ p. order_to base field p in
    let less : Parcel → Bool = λ p. is_lt (order p) in
    let upto : Parcel → Bool = λ p. is_le (order p) in
    let up = rises base field all c.requires in
    let first = c.partition_point-first.ensures.partitioned less (always_returns_same _ (λ a r. r ≡ less a.0.now) _ (λ a r f' k. (search rules, search rules))) (less_first order all up) in
    let last = c.partition_point-count.ensures.partitioned upto (always_returns_same _ (λ a r. r ≡ upto a.0.now) _ (λ a r f' k. (search rules, search rules))) in
    between_are order all (take (length all - n) (drop n all)) n c.partition_point-count.result up (take_rest all n) first last c.partition_point-count.ensures.bound
    ∙ filter_agree (λ p. is_eq (order p)) (λ p. is_for base field p) (λ p. equal_is base field p) all
