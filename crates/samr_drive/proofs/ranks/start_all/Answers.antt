use Rattle.std.proofs.Common.{◌≡◌, ◌<◌, length, get_or, sym, ap, ◌∙◌, subst, arith, List, [], ◌∷◌, ◌++◌}
use Rattle.std.proofs.lemmas.Iterator.{YieldsList-from_zip}
use Rattle.std.proofs.lemmas.Iterator.Adapters.{YieldsList-from_vec}
use Rattle.std.proofs.lemmas.Iterator.Consumers.{YieldsList-turn, YieldsList-end}
use Rattle.std.proofs.lemmas.List.{map-id, length_push}
use Rattle.std.proofs.lemmas.List.Elements.{All-push, All-same}
use Rattle.std.proofs.lemmas.Slice.Zip.{get_or-zip, length-zip}
use Rattle.std.specs.List.{AllZip, zip}
use Rattle.samr_stage.specs.Machine.{State}
use Rattle.samr_drive.specs.Standing.{SlotOk, IsFit}
use Rattle.samr_drive.specs.declared.slot.Slot.{Slot}
use Rattle.samr_link.proofs.Zips.{zip_length, zip_at, zip_push}
use Rattle.samr_drive.proofs.ranks.start_all.Goals as goal
use Rattle.samr_drive.proofs.ranks.start_all.Goals.{In-Some}

-- the machine and the end at hand are those of the rank
turn : (g : _) (c : In-Some g) → (c.ranks.rank < length c.args.machines.items) × (c.in-Some.machine ≡ get_or c.args.machines.items c.ranks.rank c.in-Some.machine) × (c.in-Some.end ≡ get_or c.args.ends.items c.ranks.rank c.in-Some.end)
turn g c =
    let ms = c.args.machines.items in
    let es = c.args.ends.items in
    let d : State g.row.P.Denot g.row.P-Mail.Denot × g.row.L.Denot = (c.in-Some.machine, c.in-Some.end) in
    let at = YieldsList-turn (YieldsList-from_zip (YieldsList-from_vec ms (cc) (cc)) (YieldsList-from_vec es (cc) (cc))) c.ranks.yielded c.ranks.machine-iterator c.ranks.yielded_by c.next.result c.next.new.self (c.in-Some.machine, c.in-Some.end) c.in-Some.is c.next.ensures.steps in
    let below : c.ranks.rank < length (zip ms es) = omega (arith, at.0, c.ranks.invariant.rank) in
    let both = length-zip ms es in
    let lm : c.ranks.rank < length ms = omega (arith, below, both) in
    let le : c.ranks.rank < length es = omega (arith, below, both) in
    let here = at.1 ∙ (ap (λ k. get_or (zip ms es) k d) (sym c.ranks.invariant.rank) ∙ get_or-zip ms es c.ranks.rank d lm le) in
    (lm, ap (λ (q : State g.row.P.Denot g.row.P-Mail.Denot × g.row.L.Denot). q.0) here, ap (λ (q : State g.row.P.Denot g.row.P-Mail.Denot × g.row.L.Denot). q.1) here)

pub index-flag-requires : goal.index-flag-requires
index-flag-requires g c = omega (arith, (turn g (goal.at.index-flag-requires g c).In-Some).0, c.from.ensures, c.requires.flags, c.args.flags.now.ok.0)

pub start-requires-after_bounds : goal.start-requires-after_bounds
start-requires-after_bounds g c = λ κs within.
    let at = turn g (goal.at.start-requires-after_bounds g c).In-Some in
    rw (at.1, at.2) (c.requires.pairs.each c.ranks.rank c.in-Some.machine c.in-Some.end at.0)

pub push_reserved-requires : goal.push_reserved-requires
push_reserved-requires g c =
    let at = turn g (goal.at.push_reserved-requires g c).In-Some in
    let count = zip_length (λ pair slot. SlotOk g.P.Program g.P.Mail.Mail g.L.Link pair.0 pair.1 slot) c.ranks.yielded c.ranks.slots.items c.ranks.invariant.stand in
    omega (arith, at.0, count, c.ranks.invariant.rank, c.ranks.invariant.room, c.requires.room.1, c.ranks.slots.ok.0)

pub overflow_add-rank : goal.overflow_add-rank
overflow_add-rank g c =
    let at = turn g (goal.at.overflow_add-rank g c).In-Some in
    omega (arith, at.0, c.requires.few)

pub ranks-preserved : goal.ranks-preserved
ranks-preserved g c = record {
  rank = omega (arith, c.ranks.invariant.rank, length_push c.ranks.yielded (c.in-Some.machine, c.in-Some.end));
  room = c.push_reserved.ensures.capacity ∙ c.ranks.invariant.room;
  stand = rw c.push_reserved.ensures.items (zip_push (λ pair slot. SlotOk g.P.Program g.P.Mail.Mail g.L.Link pair.0 pair.1 slot) c.ranks.yielded c.ranks.slots.items (c.in-Some.machine, c.in-Some.end) c.start.result c.ranks.invariant.stand c.start.ensures.stands);
  fit = All-same (IsFit g.P.Program g.P.Mail.Mail g.L.Link) c.push_reserved.new.self.items (c.ranks.slots.items ++ c.start.result ∷ []) c.push_reserved.ensures.items (All-push (IsFit g.P.Program g.P.Mail.Mail g.L.Link) c.ranks.slots.items c.start.result c.ranks.invariant.fit c.start.ensures.fit);
}

pub returns-clause-stand : goal.returns-clause-stand
returns-clause-stand g c =
    let ms = c.args.machines.items in
    let es = c.args.ends.items in
    let Pair : Type 0 = State g.row.P.Denot g.row.P-Mail.Denot × g.row.L.Denot in
    let end = YieldsList-end (YieldsList-from_zip (YieldsList-from_vec ms (cc) (cc)) (YieldsList-from_vec es (cc) (cc))) c.ranks.yielded c.ranks.machine-iterator c.ranks.yielded_by c.next.result c.next.new.self c.in-None.is c.next.ensures.steps in
    let all : c.ranks.yielded ≡ zip ms es = sym (map-id c.ranks.yielded) ∙ end.0 in
    let Ok : Pair → Slot g.row.P.Denot g.row.L.Denot g.row.P-Mail.Denot g.row.P-Mail-Run.Denot → Type 0 = λ pair slot. SlotOk g.P.Program g.P.Mail.Mail g.L.Link pair.0 pair.1 slot in
    let K : List Pair → Type 0 = λ ps. AllZip Ok ps c.ranks.slots.items in
    let stand = subst K all c.ranks.invariant.stand in
    let both = length-zip ms es in
    record {
      second = c.requires.pairs.count;
      third = omega (arith, both, zip_length Ok (zip ms es) c.ranks.slots.items stand, c.requires.pairs.count);
      each = λ k s e slot below.
          let d : Pair = (s, e) in
          let le : k < length es = omega (arith, below, c.requires.pairs.count) in
          let inside : k < length (zip ms es) = omega (arith, below, le, both) in
          let At : Pair → Type 0 = λ q. Ok q (get_or c.ranks.slots.items k slot) in
          subst At (get_or-zip ms es k d below le) (zip_at Ok (zip ms es) c.ranks.slots.items k d slot stand inside);
    }
