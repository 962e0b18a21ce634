use Rattle.std.proofs.Common.{◌≡◌, ◌∙◌, sym, ap, subst, length}
use Rattle.std.specs.Prelude.{List, ℕ}
use Rattle.samr_box.specs.declared.vector.IVec.{IVec}
use Rattle.samr_box.specs.Vector.{times}
use Rattle.samr_box.specs.Corners.{Corners, IsBox, cells_of}
use Rattle.samr_level.specs.Refs.{Link}
use Rattle.samr_data.specs.Places.{moved_back}
use Rattle.samr_data.specs.Grids.{over}
use Rattle.samr_fill.proofs.Pieces.{IsBox-inside, order_moved, cells_moved}
use Rattle.samr_linear.proofs.writing.write_copied.Goals as goal

pub moved_back-place-requires : goal.moved_back-place-requires
moved_back-place-requires c =
    let parcel = c.args.parcel.now in
    let step = times parcel.edge.shift c.args.d.now.size in
    let same : c.offset.result ≡ step = c.offset.ensures.value ∙ ap (λ (e : Link). times e.shift c.args.d.now.size) c.edge.view_is in
    let whole = subst (λ (b : Corners). IsBox b) c.region.view_is c.region.invariant in
    subst (λ (m : IVec). IsBox (moved_back parcel.region m)) (sym same)
    (IsBox-inside (over c.args.patch.now) (moved_back parcel.region step) c.over-region.ensures.grid.whole c.requires.into (order_moved parcel.region step whole.order))

pub unpack-requires-clause-full : goal.unpack-requires-clause-full
unpack-requires-clause-full c =
    ap (λ (vs : List ℕ). length vs) c.as_slice.ensures ∙ c.requires.full
    ∙ sym (ap cells_of c.moved_back-place.ensures ∙ cells_moved c.args.parcel.now.region c.offset.result)
