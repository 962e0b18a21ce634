use Rattle.std.proofs.Common.{◌≡◌, ap, sym, subst, ◌∙◌, arith}
use Rattle.samr_box.specs.Vector.{AtMost, FitsVector, minus}
use Rattle.samr_box.specs.Corners.{Corners, IsBox, Holds}
use Rattle.samr_box.proofs.Ranges.{FitsVector-range}
use Rattle.samr_data.specs.Places.{place, moved_back}
use Rattle.samr_data.specs.Values.{pasted}
use Rattle.samr_data.proofs.PlaceLaws.{part_lo}
use Rattle.samr_data.proofs.Slices.{order-moved_back}
use Rattle.samr_data.proofs.RowCopies.{row_room_at, row_room_source, row_copied, InRange-held}
use Rattle.samr_data.proofs.rows.copy_row.Goals as goal

pub place-first-requires-clause-inside : goal.place-first-requires-clause-inside
place-first-requires-clause-inside c =
    let order : AtMost c.args.row.lo c.args.row.hi = subst (λ (r : Corners). AtMost r.lo r.hi) c.row.view_is c.row.invariant.order in
    subst (λ v. Holds c.args.at v) (sym (ap (λ (r : Corners). r.lo) c.row.view_is)) (part_lo c.args.at c.args.row c.requires.can.into order)

pub minus-requires : goal.minus-requires
minus-requires c =
    let order : AtMost c.args.row.lo c.args.row.hi = subst (λ (r : Corners). AtMost r.lo r.hi) c.row.view_is c.row.invariant.order in
    let whole : IsBox c.args.source = subst (λ (r : Corners). IsBox r) c.source.view_is c.source.invariant in
    let held = part_lo c.args.source (moved_back c.args.row c.args.by) c.requires.can.out (order-moved_back c.args.row c.args.by order) in
    subst (λ v. FitsVector (minus v c.args.by)) (sym (ap (λ (r : Corners). r.lo) c.row.view_is)) (FitsVector-range (InRange-held c.args.source (minus c.args.row.lo c.args.by) whole held))

pub place-start-requires-clause-inside : goal.place-start-requires-clause-inside
place-start-requires-clause-inside c =
    let order : AtMost c.args.row.lo c.args.row.hi = subst (λ (r : Corners). AtMost r.lo r.hi) c.row.view_is c.row.invariant.order in
    let held = part_lo c.args.source (moved_back c.args.row c.args.by) c.requires.can.out (order-moved_back c.args.row c.args.by order) in
    subst (λ v. Holds c.args.source v) (sym (c.minus.ensures ∙ ap (λ (r : Corners). minus r.lo c.args.by) c.row.view_is)) held

pub copy_slice-requires-clause-to : goal.copy_slice-requires-clause-to
copy_slice-requires-clause-to c =
    let order : AtMost c.args.row.lo c.args.row.hi = subst (λ (r : Corners). AtMost r.lo r.hi) c.row.view_is c.row.invariant.order in
    let first : c.place-first.result ≡ place c.args.at c.args.row.lo = c.place-first.ensures.value ∙ ap (λ (r : Corners). place c.args.at r.lo) c.row.view_is in
    omega (arith, first, c.length.ensures.value, row_room_at c.args.at c.args.source c.args.row c.args.by c.args.to.now c.args.from.now c.requires.can c.requires.flat order)

pub copy_slice-requires-clause-from : goal.copy_slice-requires-clause-from
copy_slice-requires-clause-from c =
    let order : AtMost c.args.row.lo c.args.row.hi = subst (λ (r : Corners). AtMost r.lo r.hi) c.row.view_is c.row.invariant.order in
    let lo : c.minus.result ≡ minus c.args.row.lo c.args.by = c.minus.ensures ∙ ap (λ (r : Corners). minus r.lo c.args.by) c.row.view_is in
    let start : c.place-start.result ≡ place c.args.source (minus c.args.row.lo c.args.by) = c.place-start.ensures.value ∙ ap (place c.args.source) lo in
    omega (arith, start, c.length.ensures.value, row_room_source c.args.at c.args.source c.args.row c.args.by c.args.to.now c.args.from.now c.requires.can c.requires.flat order)

pub returns : goal.returns
returns c =
    let order : AtMost c.args.row.lo c.args.row.hi = subst (λ (r : Corners). AtMost r.lo r.hi) c.row.view_is c.row.invariant.order in
    let first : c.place-first.result ≡ place c.args.at c.args.row.lo = c.place-first.ensures.value ∙ ap (λ (r : Corners). place c.args.at r.lo) c.row.view_is in
    let lo : c.minus.result ≡ minus c.args.row.lo c.args.by = c.minus.ensures ∙ ap (λ (r : Corners). minus r.lo c.args.by) c.row.view_is in
    let start : c.place-start.result ≡ place c.args.source (minus c.args.row.lo c.args.by) = c.place-start.ensures.value ∙ ap (place c.args.source) lo in
    c.copy_slice.ensures
    ∙ ap (λ n. pasted c.args.to.now n c.args.from.now c.place-start.result c.length.result) first
    ∙ ap (λ n. pasted c.args.to.now (place c.args.at c.args.row.lo) c.args.from.now n c.length.result) start
    ∙ ap (λ n. pasted c.args.to.now (place c.args.at c.args.row.lo) c.args.from.now (place c.args.source (minus c.args.row.lo c.args.by)) n) c.length.ensures.value
    ∙ row_copied c.args.at c.args.source c.args.row c.args.by c.args.to.now c.args.from.now c.requires.can c.requires.flat order
