use Rattle.std.proofs.Common.{◌≡◌, ◌++◌, [], ◌∷◌, length, ap, sym, ◌∙◌, arith, Ok}
use Rattle.std.proofs.lemmas.List.{length_push, map_push}
use Rattle.samr_link.proofs.Zips.{zip_push}
use Rattle.samr_drive.proofs.run.part.Goals as goal

pub answers-preserved-in-Ok : goal.answers-preserved-in-Ok
answers-preserved-in-Ok g c =
    let inv = c.answers.invariant in
    let back = c.push_reserved.ensures in
    let ended = c.push_reserved-in-Ok.ensures in
    record {
      back = back.items ∙ (ap (λ l. l ++ c.in-Some.end ∷ []) inv.back ∙ sym (map_push (λ a. a.1) c.answers.yielded (c.in-Some.answer, c.in-Some.end)));
      room_back = back.capacity ∙ inv.room_back;
      room_ended = ended.capacity ∙ inv.room_ended;
      few = omega (arith, inv.few, ap length ended.items, length_push c.answers.ended.items c.in-Ok.program, length_push c.answers.yielded (c.in-Some.answer, c.in-Some.end));
      ended = λ none. rw ended.items (zip_push (λ a program. a.0 ≡ Ok program) c.answers.yielded c.answers.ended.items (c.in-Some.answer, c.in-Some.end) c.in-Ok.program (inv.ended none) c.in-Ok.is);
    }
