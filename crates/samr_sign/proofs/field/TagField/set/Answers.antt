use Rattle.samr_sign.proofs.Slices.{IsBox-cell}
use Rattle.samr_sign.proofs.field.TagField.set.Goals as goal

pub invariant_of-mark_row : goal.invariant_of-mark_row
invariant_of-mark_row c = IsBox-cell c.self.inside.bx c.args.x c.self.invariant.whole (rw (← c.self.view_is) at c.requires)
