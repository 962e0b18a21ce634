use Rattle.std.proofs.Common.{ℕ, ap, ◌∙◌, subst}
use Rattle.std.specs.Prelude.{false, List}
use Rattle.samr_box.specs.Vector.{AtMost}
use Rattle.samr_box.specs.Corners.{Corners}
use Rattle.samr_data.specs.declared.parcel.Parcel.{Parcel}
use Rattle.samr_values.proofs.Merges.{merged_same}
use Rattle.samr_values.proofs.merging.merged.Goals as goal

pub returns : goal.returns
returns c = λ v has.
    let box = c.patch_of-patch.ensures.bx ∙ c.base_of.ensures in
    let ratio = rw c.factors.ensures.value at c.factors.ensures.ratio in
    let full = subst (λ (r : Corners). AtMost r.lo r.hi) c.region.view_is c.region.invariant.order in
    ap (λ (l : List ℕ). let q : Parcel = record { edge = c.args.e; is_coarse = false; field = c.args.m.now.field; region = c.args.region; values = l } in q)
    (c.from_vec.ensures
    ∙ c.in_ok-values.ensures
    ∙ merged_same c.args.m.now c.patch_of-patch.result.now c.args.patches.now c.args.e.base.bx c.args.region v ratio c.patch_of-patch.ensures.member box c.requires.inside full has)
