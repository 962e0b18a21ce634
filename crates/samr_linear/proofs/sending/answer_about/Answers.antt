use Rattle.std.proofs.Common.{◌≡◌, ◌∙◌, sym, subst}
use Rattle.std.specs.Prelude.{true, pos}
use Rattle.samr_box.specs.declared.vector.IVec.{IVec}
use Rattle.samr_box.specs.Vector.{alike, Between}
use Rattle.samr_box.specs.Corners.{Corners, holds_box}
use Rattle.samr_fill.proofs.Corners.{met_inside}
use Rattle.samr_linear.proofs.Rings.{around_between}
use Rattle.samr_linear.proofs.sending.answer_about.Goals as goal

pub part_about-requires : goal.part_about-requires
part_about-requires c = subst (λ (w : IVec). Between (alike (pos 0)) w (alike (pos 2147483648))) (sym c.one_around.ensures) (around_between c.args.real)

pub of_patch-requires : goal.of_patch-requires
of_patch-requires c =
    subst (λ (b : Corners). holds_box b c.in-Some.about ≡ true) c.over.ensures.value
    (met_inside c.over.result _ c.in-Some.about (sym c.part_about.ensures ∙ c.in-Some.is))
