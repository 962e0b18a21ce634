use Rattle.std.proofs.Common.{◌∙◌, sym, ap, subst, map}
use Rattle.std.specs.Prelude.{ℕ, List}
use Rattle.samr_data.specs.Grids.{Grid}
use Rattle.samr_sched.specs.declared.plan.Request.{Request}
use Rattle.samr_sched.specs.declared.plan.BoxPlan.{BoxPlan}
use Rattle.samr_sched.specs.declared.plan.Asked.{Asked}
use Rattle.samr_fill.specs.Sending.{asked_of_itself, united, AreByCorner}
use Rattle.samr_linear.specs.LinearSending.{parcels_from, letters_from}
use Rattle.samr_linear.proofs.LinearFillStage.{below_sorted, has_letters}
use Rattle.samr_linear.proofs.linear_fill.LinearFill.start.Goals as goal

pub returns : goal.returns
returns g c = λ w r h.
    let plan = c.args.plan.now in
    let coarser = c.args.coarser.now in
    let sorted = subst (λ (l : List Grid). AreByCorner l) (sym h.same_coarser) (below_sorted w h.is r) in
    let fields = c.from_vec.result in
    let real = c.real-real.result in
    let rank = c.args.rank in
    let asking = c.as_slice-3.ensures.value ∙ c.in_ok-asking.ensures ∙ ap (λ (l : List Asked). map (λ (a : Asked). a.rank) l) c.as_slice.ensures in
    let addressees =
    c.as_slice-5.ensures.value ∙ c.in_ok-addressees.ensures
    ∙ ap (λ (l : List ℕ). united l c.as_slice-3.result.now) c.as_slice-2.ensures
    ∙ ap (λ (l : List ℕ). united plan.near l) asking in
    let requests = c.as_slice-8.ensures.value ∙ c.in_ok-requests.ensures ∙ ap (λ (l : List BoxPlan). asked_of_itself rank l) c.as_slice-6.ensures in
    has_letters rank c.args.ranks plan c.args.own coarser c.args.strategy.now c.args.stencil.now w r h
    c.in_ok-copied.field-0 c.in_ok-copied.ensures fields (c.from_vec.ensures ∙ c.in_ok-fields.ensures) real c.real-real.ensures
    c.in_ok-letters.letters.items c.in_ok-parcels.parcels.items c.in_ok-senders.senders.items
    (c.in_ok-letters.ensures sorted
    ∙ ap (λ (o : List (List Grid)). letters_from plan real o coarser c.as_slice-5.result.now) (c.as_slice-4.ensures.value ∙ sym c.from_vec.ensures)
    ∙ ap (λ (l : List ℕ). letters_from plan real fields coarser l) addressees)
    (c.in_ok-parcels.ensures sorted
    ∙ ap (λ (o : List (List Grid)). parcels_from plan real o coarser rank c.as_slice-8.result.now) (c.as_slice-7.ensures.value ∙ sym c.from_vec.ensures)
    ∙ ap (λ (l : List Request). parcels_from plan real fields coarser rank l) requests)
    (c.in_ok-senders.ensures
    ∙ ap (λ (l : List ℕ). united l c.as_slice-10.result.now) c.as_slice-9.ensures
    ∙ ap (λ (l : List ℕ). united plan.near l) c.as_slice-10.ensures)
