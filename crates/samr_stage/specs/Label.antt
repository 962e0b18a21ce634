-- The orders of labels and of names.
use Rattle.std.specs.Ordering.{nat_cmp, on, then_cmp}
use Rattle.std.specs.declared.cmp.Ordering.{Ordering}
use Rattle.samr_stage.specs.declared.label.Label.{Label}
use Rattle.samr_stage.specs.declared.label.Name.{Name}

-- labels by step, then pass, then phase, then round
abbrev pub label_cmp : Label → Label → Ordering
label_cmp =
    then_cmp (on (λ l. l.step) nat_cmp) (then_cmp (on (λ l. l.pass) nat_cmp) (then_cmp (on (λ l. l.phase) nat_cmp) (on (λ l. l.round) nat_cmp)))

-- names by label, then sender, then addressee
abbrev pub name_cmp : Name → Name → Ordering
name_cmp = then_cmp (on (λ n. n.label) label_cmp) (then_cmp (on (λ n. n.sender) nat_cmp) (on (λ n. n.addressee) nat_cmp))
