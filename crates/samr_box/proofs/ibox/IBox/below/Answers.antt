use Rattle.std.proofs.Common.{sym, ◌∙◌, rules}
use Rattle.std.specs.Prelude.{None}
use Rattle.samr_box.proofs.Slabs.{IsBox-below}
use Rattle.samr_box.proofs.CellSets.{Holds-below_at}
use Rattle.samr_box.proofs.ibox.IBox.below.Goals as goal

pub invariant_of-result : goal.invariant_of-result
invariant_of-result c =
    rw c.just_before.ensures
    (IsBox-below c.args.axis (record { lo = c.self.inside.lo; hi = c.self.inside.hi }) (record { lo = c.other.inside.lo; hi = c.other.inside.hi })
    c.self.invariant
    (rw (← c.self.view_is, ← c.other.view_is) at c.requires)
    (sym c.is_below.ensures.value ∙ c.if-not-is_below.false))

pub returns-then-not-is_below-clause-value : goal.returns-then-not-is_below-clause-value
returns-then-not-is_below-clause-value c = search rules

pub returns-then-not-is_below-clause-cells : goal.returns-then-not-is_below-clause-cells
returns-then-not-is_below-clause-cells c =
    Holds-below_at c.args.axis c.args.self c.args.other c.requires _ (returns-then-not-is_below-clause-value c)

pub returns-clause-value : goal.returns-clause-value
returns-clause-value c = search rules

pub returns-clause-cells : goal.returns-clause-cells
returns-clause-cells c =
    Holds-below_at c.args.axis c.args.self c.args.other c.requires _ (returns-clause-value c)
