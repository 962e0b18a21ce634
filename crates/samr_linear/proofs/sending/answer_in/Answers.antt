use Rattle.std.proofs.Common.{◌∙◌, sym, ap}
use Rattle.std.specs.Prelude.{Option}
use Rattle.std.specs.List.{find}
use Rattle.std.specs.Option.{option_copied}
use Rattle.samr_level.specs.Refs.{Owned}
use Rattle.samr_sched.specs.declared.plan.Request.{Request}
use Rattle.samr_data.specs.Grids.{Grid}
use Rattle.samr_data.specs.declared.parcel.Parcel.{Parcel}
use Rattle.samr_fill.specs.Sending.{then_some, is_box}
use Rattle.samr_linear.specs.LinearSending.{answer_of}
use Rattle.samr_linear.proofs.sending.answer_in.Goals as goal

pub returns-in_ok-parcel-in-Some : goal.returns-in_ok-parcel-in-Some
returns-in_ok-parcel-in-Some c = λ sorted.
    let by : Option Grid → Option Parcel = λ o. then_some o (λ p. answer_of c.args.d.now c.args.real c.args.q.now p) in
    c.in_ok-parcel-in-Some.ensures
    ∙ ap by (sym (ap (λ (q : Request). find (λ p. is_box q.edge.head.bx p) c.args.patches.now) (sym c.q.view_is) ∙ ap (λ (h : Owned). find (λ p. is_box h.bx p) c.args.patches.now) (sym c.head.view_is) ∙ sym (c.patch_of.ensures sorted) ∙ ap option_copied c.in-Some.is))

pub returns-in-None : goal.returns-in-None
returns-in-None c = λ sorted.
    let by : Option Grid → Option Parcel = λ o. then_some o (λ p. answer_of c.args.d.now c.args.real c.args.q.now p) in
    ap by (sym (ap (λ (q : Request). find (λ p. is_box q.edge.head.bx p) c.args.patches.now) (sym c.q.view_is) ∙ ap (λ (h : Owned). find (λ p. is_box h.bx p) c.args.patches.now) (sym c.head.view_is) ∙ sym (c.patch_of.ensures sorted) ∙ ap option_copied c.in-None.is))
