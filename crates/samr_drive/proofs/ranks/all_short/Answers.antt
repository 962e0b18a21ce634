use Rattle.std.proofs.Common.{◌≡◌, get_or, refl, sym, ◌∙◌, subst, arith, Err, List}
use Rattle.std.proofs.lemmas.Iterator.Adapters.{YieldsList-from_vec}
use Rattle.std.proofs.lemmas.Iterator.Consumers.{YieldsList-turn, YieldsList-end}
use Rattle.std.proofs.lemmas.List.{map-id}
use Rattle.std.specs.List.{AllZip}
use Rattle.samr_drive.specs.Slots.{IsAnswer}
use Rattle.samr_drive.specs.declared.stop.Stop.TheVariants.{NoMemory}
use Rattle.samr_drive.proofs.Moves.{same_itself}
use Rattle.samr_link.proofs.Zips.{zip_length, zip_at, zip_push}
use Rattle.samr_drive.proofs.ranks.all_short.Goals as goal

pub push_reserved-requires : goal.push_reserved-requires
push_reserved-requires g c =
    let at = YieldsList-turn (YieldsList-from_vec c.args.ends.items (cc) (cc)) c.ends.yielded c.ends.end-iterator c.ends.yielded_by c.next.result c.next.new.self c.in-Some.end c.in-Some.is c.next.ensures.steps in
    let count = zip_length (λ end answer. answer ≡ (Err NoMemory, end)) c.ends.yielded c.ends.answers.items c.ends.invariant.answers in
    omega (arith, at.0, count, c.ends.invariant.room, c.requires.room.1, c.ends.answers.ok.0)

pub ends-preserved : goal.ends-preserved
ends-preserved g c = record {
  room = c.push_reserved.ensures.capacity ∙ c.ends.invariant.room;
  answers = rw c.push_reserved.ensures.items (zip_push (λ end answer. answer ≡ (Err NoMemory, end)) c.ends.yielded c.ends.answers.items c.in-Some.end (Err NoMemory, c.in-Some.end) c.ends.invariant.answers refl);
}

pub returns : goal.returns
returns g c = λ machines count.
    let w = g.L.Link in
    let end = YieldsList-end (YieldsList-from_vec c.args.ends.items (cc) (cc)) c.ends.yielded c.ends.end-iterator c.ends.yielded_by c.next.result c.next.new.self c.in-None.is c.next.ensures.steps in
    let all : c.ends.yielded ≡ c.args.ends.items = sym (map-id c.ends.yielded) ∙ end.0 in
    let Short : g.row.L.Denot → _ × g.row.L.Denot → Type 0 = λ e a. a ≡ (Err NoMemory, e) in
    let K : List g.row.L.Denot → Type 0 = λ es. AllZip Short es c.ends.answers.items in
    let answers = subst K all c.ends.invariant.answers in
    record {
      second = sym count;
      third = sym (zip_length Short c.args.ends.items c.ends.answers.items answers) ∙ sym count;
      each = λ k s e a below.
          let at = zip_at Short c.args.ends.items c.ends.answers.items k e a answers (omega (arith, below, count)) in
          let Ok : _ × g.row.L.Denot → Type 0 = λ b. IsAnswer g.P.Program g.P.Mail.Mail w (get_or machines k s) (get_or c.args.ends.items k e) b in
          subst Ok (sym at) (record { same_end = same_itself w.rank w.ends w.making w.tells_posted w.tells_taken (get_or c.args.ends.items k e); finished = tt; posted = tt; taken = tt });
    }
