use Rattle.std.proofs.Common.{List, sym, subst}
use Rattle.samr_stage.specs.Machine.{IsSound}
use Rattle.samr_stage.specs.Work.{state_of}
use Rattle.samr_stage.proofs.Machines.{sound_stored}
use Rattle.samr_stage.proofs.work.Work.take.Goals as goal

pub returns-clause-sound : goal.returns-clause-sound
returns-clause-sound g c =
    let old = state_of c.args.self.now in
    let wanted = c.wants.ensures.0 c.if-not-wants.false in
    let K : List g.row.P-Mail.Denot → Type 0 = λ xs. IsSound g.P.Program g.P.Mail.Mail (record old { kept = xs }) in
    subst K (sym c.in_ok-store.ensures) (sound_stored g.P.Program g.P.Mail.Mail old c.args.letter c.requires c.if-self.false wanted)
