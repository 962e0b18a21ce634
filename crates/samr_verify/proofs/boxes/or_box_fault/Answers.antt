use Rattle.std.proofs.Common.{sym, ◌∙◌}
use Rattle.samr_verify.proofs.FoldLaws.{decided}
use Rattle.samr_verify.proofs.boxes.or_box_fault.Goals as goal

pub returns-then-stands_before : goal.returns-then-stands_before
returns-then-stands_before c = sym (decided _ _ 3 _ (sym c.stands_before.ensures ∙ c.if-stands_before.true))
