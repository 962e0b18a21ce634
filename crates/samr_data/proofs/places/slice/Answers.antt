use Rattle.std.proofs.Common.{w64}
use Rattle.std.proofs.lemmas.Int.{to_z-of_z}
use Rattle.samr_box.specs.Corners.{Corners}
use Rattle.samr_data.proofs.Slices.{slice_made, slice_room, IsBox-slice}
use Rattle.samr_data.proofs.places.slice.Goals as goal

pub ahead-lo-requires-clause-there : goal.ahead-lo-requires-clause-there
ahead-lo-requires-clause-there c = slice_room c.args.axis (record { lo = c.b.inside.lo; hi = c.b.inside.hi }) c.args.place c.b.invariant (rw (← c.b.view_is) at c.requires)

pub invariant_of-result : goal.invariant_of-result
invariant_of-result c =
    let b : Corners = record { lo = c.b.inside.lo; hi = c.b.inside.hi } in
    rw (slice_made c.args.axis b c.args.place _ _ c.at.result _ c.ahead-lo.ensures c.at.ensures (to_z-of_z w64 c.at.result (record { sfits = c.at.type_inv })) c.put.ensures)
    (IsBox-slice c.args.axis b c.args.place c.b.invariant (rw (← c.b.view_is) at c.requires))

pub returns : goal.returns
returns c =
    let b : Corners = record { lo = c.b.inside.lo; hi = c.b.inside.hi } in
    rw (← c.b.view_is) (slice_made c.args.axis b c.args.place _ _ c.at.result _ c.ahead-lo.ensures c.at.ensures (to_z-of_z w64 c.at.result (record { sfits = c.at.type_inv })) c.put.ensures)
