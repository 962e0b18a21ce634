use Rattle.samr_linear.proofs.Taking.{copied_fixes}
use Rattle.samr_linear.proofs.writing.write_parcel.Goals as goal

pub returns : goal.returns
returns g c = λ v each.
    copied_fixes c.args.plan.now c.args.stencil.now c.args.rest.now c.args.parcel.now v c.args.patch.now c.write_copied.new.patch c.if-parcel.false c.write_copied.ensures each
