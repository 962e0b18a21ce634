use Rattle.std.proofs.Common.{◌≡◌, map, All}
use Rattle.std.specs.Arc.{arc_value}
use Rattle.samr_stage.specs.Course.{name_of, passing}
use Rattle.samr_relay.specs.Relay.{round_label, hears}
use Rattle.samr_relay.proofs.relay.Relay.letters.Given as goal

abbrev pub invariant-each : goal.invariant-each
invariant-each l =
    (map (λ letter. letter.name) l.letters.items ≡ map (λ to. name_of (round_label l.fn.self.round) l.fn.self.rank to) (passing (hears (arc_value l.fn.self.run) l.fn.self.round) l.to)) × All (λ letter. arc_value letter.run ≡ arc_value l.fn.self.run) l.letters.items
