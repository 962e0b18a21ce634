use Rattle.std.proofs.Common.{sym, arith}
use Rattle.std.specs.Arc.{arc_value}
use Rattle.samr_relay.proofs.Rounds.{told_none}
use Rattle.samr_relay.proofs.relay.Relay.new.Goals as goal

pub returns-clause-stands : goal.returns-clause-stands
returns-clause-stands c = record {
  relay = c.requires.relay;
  is_rank = c.requires.is_rank;
  within = omega arith;
  told = sym (told_none (arc_value c.args.run) c.args.rank);
}
