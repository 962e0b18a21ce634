use Rattle.std.proofs.Common.{◌≡◌, ◌∙◌, sym, arith}
use Rattle.samr_relay.specs.contracts.relay.RelayProgram.TheImpl as program
use Rattle.samr_relay.specs.contracts.mail.RelayMailMail.TheImpl as letter
use Rattle.samr_relay.proofs.Rounds.{ranks_is}
use Rattle.samr_world.specs.World.{IsFresh}
use Rattle.samr_tree.proofs.OnAllLemmas.{each_more}
use Rattle.samr_bench.proofs.teams.relay_team.Goals as goal

pub each-preserved : goal.each-preserved
each-preserved c =
    let before = c.each.invariant in
    let made = c.new-in-each.result in
    let has = c.new-in-each.ensures in
    let fresh : IsFresh program.ghosts letter.ghosts c.args.run c.each.rank made = record {
      same_run = has.run ∙ c.in_ok-try_clone.ensures ∙ before.0;
      same_rank = has.rank;
      at_first = has.place;
      stands = has.stands;
    } in
    (before.0, omega (arith, c.in_ok-push.ensures.len, before.1), each_more (IsFresh program.ghosts letter.ghosts c.args.run) c.each.team.items c.push.new.self.items c.each.rank made before.1 before.2 fresh c.in_ok-push.ensures.items)

pub returns : goal.returns
returns c =
    let done = c.each.invariant in
    let all : c.each.rank ≡ c.args.run.ranks = omega (arith, c.each-test.false, c.each.auto.rank-end) in
    record {
      ranks = done.1 ∙ all ∙ sym (ranks_is c.args.run);
      fresh = done.2;
    }
