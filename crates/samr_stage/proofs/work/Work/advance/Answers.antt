use Rattle.std.proofs.Common.{sym, ap, ◌∙◌, true, false}
use Rattle.std.proofs.lemmas.Bool.{false≢true}
use Rattle.samr_stage.specs.Machine.{IsDone, of_others}
use Rattle.samr_stage.proofs.Machines.{held_front, sound_advanced}
use Rattle.samr_stage.proofs.work.Work.advance.Goals as goal

pub finish-requires-clause-held : goal.finish-requires-clause-held
finish-requires-clause-held g c =
    let stands = rw c.requires.going_on at c.requires.sound.stands in
    held_front g.P.Program g.P.Mail.Mail c.args.self.now.program c.args.self.now.kept.items _ c.label.result c.requires.sound.keeps (c.label.ensures true stands) c.in_ok-held.ensures.front

pub returns-clause-sound : goal.returns-clause-sound
returns-clause-sound g c =
    let p = g.P.Program in
    let m = g.P.Mail.Mail in
    let old = c.args.self.now.program in
    let kept = c.args.self.now.kept.items in
    let stands = rw c.requires.going_on at c.requires.sound.stands in
    let left = c.in_ok-finish.ensures in
    let entered = c.in_ok-letters.ensures in
    let rest = c.in_ok-held.ensures.rest ∙ ap (λ at. of_others m.name at kept) (c.label.ensures true stands) in
    let going_on : ¬ IsDone p m c.finish.new.self = λ done. false≢true (sym c.if-finished.false ∙ (c.finished.ensures false left.next).1 done) in
    let sound = sound_advanced p m g.met.P.Mail.Mail.truth g.met.P.Program.on_course old c.finish.new.self c.enter.new.self c.in_ok-letters.letters.items kept stands c.requires.sound.keeps left.run left.rank left.place going_on entered.entered entered.stays entered.own entered.letters in
    rw (c.from_vec.ensures.items, rest, c.requires.going_on) sound
