use Rattle.std.proofs.Common.{length, refl, sym, ◌∙◌, subst, List}
use Rattle.std.proofs.lemmas.Iterator.Adapters.{YieldsList-from_vec}
use Rattle.std.proofs.lemmas.Iterator.Consumers.{YieldsList-turn, YieldsList-end}
use Rattle.std.proofs.lemmas.List.{map-id}
use Rattle.std.proofs.lemmas.Option.{slice_get_read}
use Rattle.std.specs.List.{AllZip}
use Rattle.samr_world.specs.Traffic.{IsBegun}
use Rattle.samr_link.proofs.Zips.{zip_push}
use Rattle.samr_drive.proofs.run.begin_all.Goals as goal

pub new-requires : goal.new-requires
new-requires g c =
    let at = YieldsList-turn (YieldsList-from_vec c.args.programs.items (cc) (cc)) c.programs.yielded c.programs.program-iterator c.programs.yielded_by c.next.result c.next.new.self c.in-Some.program c.in-Some.is c.next.ensures.steps in
    (c.requires.1.fresh (length c.programs.yielded) c.in-Some.program (slice_get_read c.args.programs.items (length c.args.programs.items) (length c.programs.yielded) c.in-Some.program refl at.0 at.1)).stands

pub programs-preserved : goal.programs-preserved
programs-preserved g c =
    rw c.in_ok-push.ensures.items (zip_push (IsBegun g.P.Program g.P.Mail.Mail) c.programs.yielded c.programs.machines.items c.in-Some.program c.in_ok-new.field-0 c.programs.invariant (record { begins = c.in_ok-new.ensures.begins; sound = c.in_ok-new.ensures.sound; working = c.in_ok-new.ensures.working }))

pub returns : goal.returns
returns g c =
    let end = YieldsList-end (YieldsList-from_vec c.args.programs.items (cc) (cc)) c.programs.yielded c.programs.program-iterator c.programs.yielded_by c.next.result c.next.new.self c.in-None.is c.next.ensures.steps in
    let K : List g.row.P.Denot → Type 0 = λ ps. AllZip (IsBegun g.P.Program g.P.Mail.Mail) ps c.programs.machines.items in
    subst K (sym (map-id c.programs.yielded) ∙ end.0) c.programs.invariant
