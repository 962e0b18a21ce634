use Rattle.std.proofs.Common.{None, arith}
use Rattle.std.proofs.lemmas.List.Elements.{All-nil}
use Rattle.samr_drive.specs.Driven.{CanPost}
use Rattle.samr_drive.proofs.Moves.{drove_none, drove_more}
use Rattle.samr_drive.proofs.Turns.{posts_all, takes_all, finished_at}
use Rattle.samr_drive.proofs.driver.drive.Goals as goal
use Rattle.samr_drive.proofs.driver.drive.Goals.{In-Ok-Over}

pub turns-init : goal.turns-init
turns-init g c = record {
  drove = drove_none g.P.Program g.P.Mail.Mail g.L.Link c.args.machine c.args.end None;
  steady = record { sound = c.failed.ensures.sound; fits = c.requires.fits; in_hand = All-nil (CanPost g.P.Mail.Mail g.L.Link c.args.end) };
  count = omega arith;
}

pub turns-preserved-in-Ok-Moved : goal.turns-preserved-in-Ok-Moved
turns-preserved-in-Ok-Moved g c = record {
  drove = drove_more g.P.Program g.P.Mail.Mail g.L.Link c.args.machine c.args.end None c.turns.machine c.turns.end c.turns.hand c.step_once.new.machine c.step_once.new.end c.in-Ok-Moved.left c.turns.invariant.drove (rw c.in-Ok-Moved.field-0-is at c.in-Ok-Moved.ensures.drove);
  steady = rw c.in-Ok-Moved.field-0-is at c.in-Ok-Moved.ensures.steady;
  count = omega (arith, c.turns.invariant.count, c.heard.ensures.never_falls);
}

pub turns-preserved : goal.turns-preserved
turns-preserved g c = record {
  drove = drove_more g.P.Program g.P.Mail.Mail g.L.Link c.args.machine c.args.end None c.turns.machine c.turns.end c.turns.hand c.step_once.new.machine c.step_once.new.end c.in-Ok-Waits.left c.turns.invariant.drove (rw c.in-Ok-Waits.field-0-is at c.in-Ok-Waits.ensures.drove);
  steady = rw c.in-Ok-Waits.field-0-is at c.in-Ok-Waits.ensures.steady;
  count = omega (arith, c.turns.invariant.count, c.heard.ensures.never_falls);
}

pub returns-in-Ok-Over-clause-posted : goal.returns-in-Ok-Over-clause-posted
returns-in-Ok-Over-clause-posted g c =
    let p = g.P.Program in
    let m = g.P.Mail.Mail in
    let w = g.L.Link in
    let last = rw c.in-Ok-Over.field-0-is at c.in-Ok-Over.ensures.drove in
    let over = rw c.in-Ok-Over.field-0-is at c.in-Ok-Over.ensures.over in
    let steady = rw c.in-Ok-Over.field-0-is at c.in-Ok-Over.ensures.steady in
    let drove = drove_more p m w c.args.machine c.args.end None c.turns.machine c.turns.end c.turns.hand c.step_once.new.machine c.step_once.new.end None c.turns.invariant.drove last in
    posts_all p m w c.args.machine c.args.end c.step_once.new.machine c.step_once.new.end drove (steady.sound over.1) over.0

pub returns-in-Ok-Over-clause-taken : goal.returns-in-Ok-Over-clause-taken
returns-in-Ok-Over-clause-taken g c =
    let p = g.P.Program in
    let m = g.P.Mail.Mail in
    let w = g.L.Link in
    let last = rw c.in-Ok-Over.field-0-is at c.in-Ok-Over.ensures.drove in
    let over = rw c.in-Ok-Over.field-0-is at c.in-Ok-Over.ensures.over in
    let steady = rw c.in-Ok-Over.field-0-is at c.in-Ok-Over.ensures.steady in
    let drove = drove_more p m w c.args.machine c.args.end None c.turns.machine c.turns.end c.turns.hand c.step_once.new.machine c.step_once.new.end None c.turns.invariant.drove last in
    takes_all p m w c.args.machine c.args.end c.step_once.new.machine c.step_once.new.end drove (steady.sound over.1) over.0

pub returns-in-Ok-Over-clause-finished : goal.returns-in-Ok-Over-clause-finished
returns-in-Ok-Over-clause-finished g c =
    let p = g.P.Program in
    let m = g.P.Mail.Mail in
    let w = g.L.Link in
    let last = rw c.in-Ok-Over.field-0-is at c.in-Ok-Over.ensures.drove in
    let over = rw c.in-Ok-Over.field-0-is at c.in-Ok-Over.ensures.over in
    let steady = rw c.in-Ok-Over.field-0-is at c.in-Ok-Over.ensures.steady in
    let drove = drove_more p m w c.args.machine c.args.end None c.turns.machine c.turns.end c.turns.hand c.step_once.new.machine c.step_once.new.end None c.turns.invariant.drove last in
    rw c.into_program.ensures (finished_at p m w c.args.machine c.args.end c.step_once.new.machine c.step_once.new.end drove (steady.sound over.1) over.0)
