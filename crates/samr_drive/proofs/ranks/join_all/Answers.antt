use Rattle.std.proofs.Common.{◌≡◌, ◌<◌, length, get_or, sym, ◌∙◌, subst, arith, List}
use Rattle.std.proofs.lemmas.Iterator.Adapters.{YieldsList-from_vec}
use Rattle.std.proofs.lemmas.Iterator.Consumers.{YieldsList-turn, YieldsList-end}
use Rattle.samr_drive.specs.Standing.{IsFit, IsAway}
use Rattle.samr_drive.specs.declared.slot.Slot.{Slot}
use Rattle.samr_drive.specs.declared.slot.Slot.TheVariants.{Gone}
use Rattle.std.proofs.lemmas.List.{map-id}
use Rattle.std.specs.List.{AllZip}
use Rattle.samr_stage.specs.Machine.{State}
use Rattle.samr_drive.specs.Slots.{IsAnswer}
use Rattle.samr_drive.specs.Standing.{SlotOk}
use Rattle.samr_link.proofs.Zips.{zip_length, zip_at, zip_push}
use Rattle.samr_drive.proofs.ranks.join_all.Goals as goal

pub join_slot-requires-clause-fit : goal.join_slot-requires-clause-fit
join_slot-requires-clause-fit g c =
    let at = YieldsList-turn (YieldsList-from_vec c.args.slots.items (cc) (cc)) c.slots.yielded c.slots.slot-iterator c.slots.yielded_by c.next.result c.next.new.self c.in-Some.slot c.in-Some.is c.next.ensures.steps in
    let K : Slot g.row.P.Denot g.row.L.Denot g.row.P-Mail.Denot g.row.P-Mail-Run.Denot → Type 0 = λ s. IsFit g.P.Program g.P.Mail.Mail g.L.Link s in
    subst K (sym at.1) (c.requires.fit (length c.slots.yielded) c.in-Some.slot at.0)

pub join_slot-requires-clause-away : goal.join_slot-requires-clause-away
join_slot-requires-clause-away g c =
    let at = YieldsList-turn (YieldsList-from_vec c.args.slots.items (cc) (cc)) c.slots.yielded c.slots.slot-iterator c.slots.yielded_by c.next.result c.next.new.self c.in-Some.slot c.in-Some.is c.next.ensures.steps in
    let K : Slot g.row.P.Denot g.row.L.Denot g.row.P-Mail.Denot g.row.P-Mail-Run.Denot → Type 0 = λ s. IsAway g.P.Program g.P.Mail.Mail g.L.Link s in
    subst K (sym at.1) (c.requires.away (length c.slots.yielded) c.in-Some.slot at.0)

pub push_reserved-requires : goal.push_reserved-requires
push_reserved-requires g c =
    let at = YieldsList-turn (YieldsList-from_vec c.args.slots.items (cc) (cc)) c.slots.yielded c.slots.slot-iterator c.slots.yielded_by c.next.result c.next.new.self c.in-Some.slot c.in-Some.is c.next.ensures.steps in
    let count = zip_length (λ slot answer. (s : State g.row.P.Denot g.row.P-Mail.Denot) (e : g.row.L.Denot) → SlotOk g.P.Program g.P.Mail.Mail g.L.Link s e slot → IsAnswer g.P.Program g.P.Mail.Mail g.L.Link s e answer) c.slots.yielded c.slots.answers.items c.slots.invariant.answers in
    omega (arith, at.0, count, c.slots.invariant.room, c.requires.room.1, c.slots.answers.ok.0)

pub slots-preserved : goal.slots-preserved
slots-preserved g c = record {
  room = c.push_reserved.ensures.capacity ∙ c.slots.invariant.room;
  answers = rw c.push_reserved.ensures.items (zip_push (λ slot answer. (s : State g.row.P.Denot g.row.P-Mail.Denot) (e : g.row.L.Denot) → SlotOk g.P.Program g.P.Mail.Mail g.L.Link s e slot → IsAnswer g.P.Program g.P.Mail.Mail g.L.Link s e answer) c.slots.yielded c.slots.answers.items c.in-Some.slot c.join_slot.result c.slots.invariant.answers c.join_slot.ensures);
}

pub returns : goal.returns
returns g c = λ machines ends stand.
    let end = YieldsList-end (YieldsList-from_vec c.args.slots.items (cc) (cc)) c.slots.yielded c.slots.slot-iterator c.slots.yielded_by c.next.result c.next.new.self c.in-None.is c.next.ensures.steps in
    let S : Type 0 = Slot g.row.P.Denot g.row.L.Denot g.row.P-Mail.Denot g.row.P-Mail-Run.Denot in
    let Ends : S → _ × g.row.L.Denot → Type 0 = λ slot answer. (s : State g.row.P.Denot g.row.P-Mail.Denot) (e : g.row.L.Denot) → SlotOk g.P.Program g.P.Mail.Mail g.L.Link s e slot → IsAnswer g.P.Program g.P.Mail.Mail g.L.Link s e answer in
    let all : c.slots.yielded ≡ c.args.slots.items = sym (map-id c.slots.yielded) ∙ end.0 in
    let K : List S → Type 0 = λ ss. AllZip Ends ss c.slots.answers.items in
    let answers = subst K all c.slots.invariant.answers in
    record {
      second = stand.second;
      third = sym (zip_length Ends c.args.slots.items c.slots.answers.items answers) ∙ stand.third;
      each = λ k s e a below.
          let inside : k < length c.args.slots.items = omega (arith, below, stand.third) in
          zip_at Ends c.args.slots.items c.slots.answers.items k Gone a answers inside (get_or machines k s) (get_or ends k e) (stand.each k s e Gone below);
    }
