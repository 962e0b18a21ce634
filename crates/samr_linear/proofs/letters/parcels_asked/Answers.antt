use Rattle.std.proofs.Common.{◌∙◌, sym, ap, nat_eq}
use Rattle.std.specs.Prelude.{List, Option}
use Rattle.std.specs.List.{find}
use Rattle.std.specs.Option.{option_copied}
use Rattle.samr_sched.specs.declared.plan.Asked.{Asked}
use Rattle.samr_sched.specs.declared.plan.Request.{Request}
use Rattle.samr_fill.specs.Sending.{for_some, asked_by}
use Rattle.samr_linear.specs.LinearSending.{parcels_from}
use Rattle.samr_linear.proofs.letters.parcels_asked.Goals as goal

pub returns-in_ok-parcels-in-Some : goal.returns-in_ok-parcels-in-Some
unfolding asked_by
returns-in_ok-parcels-in-Some c = λ sorted.
    let by : List Asked → Option Asked = λ l. find (λ a. nat_eq a.rank c.args.to) l in
    let found = ap by (sym c.as_slice.ensures) ∙ sym c.asked_of.ensures ∙ ap option_copied c.in-Some.is in
    c.in_ok-parcels-in-Some.ensures sorted
    ∙ ap (λ (l : List Request). parcels_from c.args.plan.now c.args.real c.args.own.now c.args.coarser.now c.args.to l)
    (c.as_slice-requests.ensures ∙ sym (ap (λ (o : Option Asked). for_some o (λ a. a.requests)) found))

pub returns-in_ok-parcels-in-None : goal.returns-in_ok-parcels-in-None
unfolding asked_by
returns-in_ok-parcels-in-None c = λ sorted.
    let by : List Asked → Option Asked = λ l. find (λ a. nat_eq a.rank c.args.to) l in
    let found = ap by (sym c.as_slice.ensures) ∙ sym c.asked_of.ensures ∙ ap option_copied c.in-None.is in
    c.in_ok-parcels-in-None.ensures sorted
    ∙ ap (λ (l : List Request). parcels_from c.args.plan.now c.args.real c.args.own.now c.args.coarser.now c.args.to l)
    (c.as_slice-in-None.ensures.value ∙ c.new-nothing.ensures.items ∙ sym (ap (λ (o : Option Asked). for_some o (λ a. a.requests)) found))
