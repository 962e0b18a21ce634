use Rattle.std.specs.Arc.{arc_value}
use Rattle.samr_relay.proofs.Letters.{one_told, none_told}
use Rattle.samr_relay.proofs.relay.number_in.Goals as goal

pub returns-in-Some : goal.returns-in-Some
returns-in-Some c = λ run round rank relay below own all.
    one_told (λ x. arc_value x.run) (λ x. x.name) run round rank relay below c.args.held.now own all c.in-Some.letter.now c.number.result c.in-Some.ensures.value c.number.ensures

pub returns-in-None : goal.returns-in-None
returns-in-None c = λ run round rank relay below own all.
    none_told (λ x. arc_value x.run) (λ x. x.name) run round rank relay below c.args.held.now own all c.in-None.ensures.value
