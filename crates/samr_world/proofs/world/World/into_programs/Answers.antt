use Rattle.std.proofs.Common.{List, ◌++◌, map, reverse, sym, ap, ◌∙◌, subst}
use Rattle.std.proofs.lemmas.List.{nil_from_length}
use Rattle.samr_stage.specs.Machine.{State}
use Rattle.samr_world.specs.World.{HasEnded}
use Rattle.samr_world.proofs.AtTheEnd.{has_ended}
use Rattle.samr_world.proofs.world.World.into_programs.Goals as goal

pub returns-clause-ended : goal.returns-clause-ended
returns-clause-ended g c = λ finished r stands.
    let program : State g.row.P.Denot g.row.P-Mail.Denot → g.row.P.Denot = λ s. s.program in
    let Ended : List g.row.P.Denot → Type 0 = λ xs. HasEnded g.P.Program g.P.Mail.Mail r xs in
    let room = c.loop-machine.room.items in
    let none = nil_from_length c.loop-machine.machines.items (sym c.loop-machine.machines.ok.0 ∙ c.in_default.ensures.cases.0) in
    let all = c.reverse.ensures.items ∙ ap (λ ms. map program ms ++ reverse room) (sym none) ∙ c.loop-machine.invariant.programs in
    subst Ended (sym all) (has_ended g.P.Program g.P.Mail.Mail r c.args.self.shape finished stands)
