use Rattle.samr_fill.proofs.Pieces.{copied_fixes}
use Rattle.samr_fill.proofs.writing.write_parcel.Goals as goal

pub returns : goal.returns
returns g c = λ v each.
    copied_fixes c.args.plan.now c.args.strategy.now c.args.rest.now c.args.parcel.now v c.args.patch.now c.write_copied.new.patch c.if-parcel.false c.write_copied.ensures each
