use Rattle.std.proofs.Common.{◌≡◌, ◌∙◌, sym, ap, arith, length}
use Rattle.samr_stage.proofs.RunLemmas.{ranks-composed}
use Rattle.samr_trials_threads.specs.contracts.breaking.BreakingProgram.TheImpl as program
use Rattle.samr_tree.specs.contracts.sum_mail.SumMailMail.TheImpl as letter
use Rattle.samr_tree.specs.TreeSum.{tree_course, tree_fragments}
use Rattle.samr_world.specs.World.{IsFresh}
use Rattle.samr_tree.proofs.OnAllLemmas.{each_more}
use Rattle.samr_trials_threads.proofs.breaking.breaking_team.Goals as goal

pub each-preserved : goal.each-preserved
each-preserved c =
    let before = c.each.invariant in
    let made = c.in_ok-new.field-0 in
    let has = c.in_ok-new.ensures in
    let fresh : IsFresh program.ghosts letter.ghosts c.args.values.items c.each.rank made = record {
      same_run = has.run ∙ ap (λ v. v.items) c.in_ok-try_clone.ensures ∙ before.0;
      same_rank = has.rank;
      at_first = has.place;
      stands = has.stands;
    } in
    (before.0, omega (arith, c.in_ok-push.ensures.len, before.1), each_more (IsFresh program.ghosts letter.ghosts c.args.values.items) c.each.team.items c.push.new.self.items c.each.rank made before.1 before.2 fresh c.in_ok-push.ensures.items)

pub returns : goal.returns
unfolding tree_course
returns c =
    let done = c.each.invariant in
    let all : c.each.rank ≡ length c.args.values.items = omega (arith, c.args.values.ok.0, c.len-ranks.ensures, c.each-test.false, c.each.auto.rank-end) in
    record {
      ranks = done.1 ∙ all ∙ sym (ranks-composed (length c.args.values.items) (tree_fragments c.args.values.items));
      fresh = done.2;
    }
