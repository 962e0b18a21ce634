use Rattle.std.proofs.Common.{sym, ap, ◌∙◌, take, true}
use Rattle.samr_stage.specs.Machine.{of_label}
use Rattle.samr_stage.proofs.Machines.{held_front}
use Rattle.samr_stage.proofs.work.Work.is_ready.Goals as goal

pub ready-requires-clause-held : goal.ready-requires-clause-held
ready-requires-clause-held g c =
    let m = g.P.Mail.Mail in
    let kept = c.deref.ensures.value in
    let stands = rw c.requires.going_on at c.requires.sound.stands in
    let front = ap (take c.count_of-count.result) (c.deref-2.ensures.value ∙ sym kept) ∙ c.count_of-count.ensures.front ∙ ap (of_label m.name c.label.result) kept in
    held_front g.P.Program m c.args.self.now.program c.args.self.now.kept.items _ c.label.result c.requires.sound.keeps (c.label.ensures true stands) front
