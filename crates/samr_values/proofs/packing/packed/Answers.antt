use Rattle.std.proofs.Common.{◌≡◌, ℕ, ap, ◌∙◌, subst, sym}
use Rattle.std.specs.Prelude.{true, List}
use Rattle.samr_box.specs.Vector.{AtMost}
use Rattle.samr_box.specs.Corners.{Corners, holds_box}
use Rattle.samr_data.specs.declared.parcel.Parcel.{Parcel}
use Rattle.samr_values.proofs.Written.{inside_over}
use Rattle.samr_values.proofs.Packed.{packed_values}
use Rattle.samr_values.proofs.packing.packed.Goals as goal

pub of_patch-requires : goal.of_patch-requires
of_patch-requires c =
    let box = c.patch_of-patch.ensures.bx ∙ c.base_of.ensures in
    inside_over c.patch_of-patch.result.now c.args.region c.over.ensures.grid (subst (λ (b : Corners). holds_box b c.args.region ≡ true) (sym box) c.requires.inside)

pub returns : goal.returns
returns c = λ v has.
    let box = c.patch_of-patch.ensures.bx ∙ c.base_of.ensures in
    let full = subst (λ (r : Corners). AtMost r.lo r.hi) c.region.view_is c.region.invariant.order in
    c.in_ok-parcel.ensures
    ∙ ap (λ (l : List ℕ). let q : Parcel = record { edge = c.args.e; is_coarse = c.args.is_coarse; field = c.args.field; region = c.args.region; values = l } in q)
    (packed_values c.patch_of-patch.result.now c.args.patches.now c.args.e.base.bx c.args.region v c.patch_of-patch.ensures.member box c.requires.inside full has)
