use Rattle.samr_data.proofs.Patches.{zeros_are}
use Rattle.samr_data.proofs.patch.zeros.Goals as goal

pub returns-in_ok-values-in-Some-clause-values : goal.returns-in_ok-values-in-Some-clause-values
returns-in_ok-values-in-Some-clause-values c =
    zeros_are c.args.b c.in-Some.count c.in_ok-values-in-Some.values.items c.in-Some.ensures.value (c.in_ok-values-in-Some.ensures.items_if_clones_equal (λ y e. e))
