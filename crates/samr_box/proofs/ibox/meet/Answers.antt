use Rattle.std.proofs.Common.{sym, ◌∙◌}
use Rattle.std.proofs.lemmas.Bool.{false≢true}
use Rattle.samr_box.proofs.CellSets.{AtMost-test, at_most-from, Meet-cell, IsBox-common, Holds-common}
use Rattle.samr_box.proofs.ibox.meet.Goals as goal

pub returns-then-not-at_most-clause-cells : goal.returns-then-not-at_most-clause-cells
returns-then-not-at_most-clause-cells c =
    rw (← c.a.view_is, ← c.b.view_is)
    (λ x. (
      λ h. absurd h,
      λ h. false≢true (sym c.if-not-at_most.true ∙ c.at_most.ensures.value ∙ at_most-from (Meet-cell h.0 h.1).low),
    ))

pub returns-then-not-at_most-2-clause-cells : goal.returns-then-not-at_most-2-clause-cells
returns-then-not-at_most-2-clause-cells c =
    rw (← c.a.view_is, ← c.b.view_is)
    (λ x. (
      λ h. absurd h,
      λ h. false≢true (sym c.if-not-at_most-2.true ∙ c.at_most-2.ensures.value ∙ at_most-from (Meet-cell h.0 h.1).high),
    ))

pub invariant_of-result : goal.invariant_of-result
invariant_of-result c =
    rw (c.greatest.ensures, c.least.ensures)
    (IsBox-common c.a.invariant c.b.invariant
    (record {
      low = AtMost-test (sym c.at_most.ensures.value ∙ c.if-not-at_most.false);
      high = AtMost-test (sym c.at_most-2.ensures.value ∙ c.if-not-at_most-2.false);
    }))

pub returns-clause-cells : goal.returns-clause-cells
returns-clause-cells c =
    rw (c.greatest.ensures, c.least.ensures, ← c.a.view_is, ← c.b.view_is)
    (Holds-common (record { lo = c.a.inside.lo; hi = c.a.inside.hi }) (record { lo = c.b.inside.lo; hi = c.b.inside.hi }))

pub returns-clause-boxes : goal.returns-clause-boxes
returns-clause-boxes c = invariant_of-result c
