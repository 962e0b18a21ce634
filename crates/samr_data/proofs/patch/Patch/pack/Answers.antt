use Rattle.std.proofs.Common.{◌≡◌, ℕ, List, length, ap, subst, ◌∙◌, arith}
use Rattle.std.proofs.lemmas.List.{with_items_is}
use Rattle.samr_box.specs.Vector.{AtMost}
use Rattle.samr_box.specs.Corners.{Corners, cells_of}
use Rattle.samr_data.specs.Grids.{Grid}
use Rattle.samr_data.proofs.Lists.{length-listed}
use Rattle.samr_data.proofs.Patches.{can_pack, packed_is}
use Rattle.samr_data.proofs.patch.Patch.pack.Goals as goal

pub copy_box-requires : goal.copy_box-requires
copy_box-requires c =
    let order : AtMost c.args.region.lo c.args.region.hi = subst (λ (r : Corners). AtMost r.lo r.hi) c.region.view_is c.region.invariant.order in
    let full : length c.as_mut_slice.result.now ≡ cells_of c.args.region =
    ap (λ (l : List ℕ). length l) (c.as_mut_slice.ensures.value ∙ c.in_ok-out.ensures.values) ∙ length-listed c.args.region (λ x. 0) in
    can_pack c.args.self.now c.args.region c.over-at.result c.as_mut_slice.result.now c.as_slice.result.now c.alike-still.result c.over-at.ensures.grid order c.requires full
    (c.as_slice.ensures.value ∙ ap (λ (g : Grid). g.values) c.self.view_is) c.over-at.ensures.value c.alike-still.ensures

pub returns : goal.returns
returns c =
    let order : AtMost c.args.region.lo c.args.region.hi = subst (λ (r : Corners). AtMost r.lo r.hi) c.region.view_is c.region.invariant.order in
    with_items_is c.in_ok-out.out c.copy_box.new.to (omega (arith, c.copy_box.auto.to, c.as_mut_slice.ensures.len))
    ∙ packed_is c.args.self.now c.args.region c.over-at.result c.as_mut_slice.result.now c.copy_box.new.to c.as_slice.result.now c.alike-still.result order
    (c.as_slice.ensures.value ∙ ap (λ (g : Grid). g.values) c.self.view_is) c.over-at.ensures.value c.alike-still.ensures c.copy_box.ensures
