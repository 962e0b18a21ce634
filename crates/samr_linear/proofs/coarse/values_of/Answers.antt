use Rattle.std.proofs.Common.{◌∙◌, ap, subst}
use Rattle.std.specs.Prelude.{List, ℕ}
use Rattle.samr_box.specs.Corners.{Corners, IsBox}
use Rattle.samr_data.specs.Values.{value_in}
use Rattle.samr_data.specs.Grids.{written, copied}
use Rattle.samr_fill.proofs.Pieces.{IsBox-grown_none, unpacked_over, unpacked_value}
use Rattle.samr_linear.proofs.coarse.values_of.Goals as goal

pub new-requires-clause-whole : goal.new-requires-clause-whole
new-requires-clause-whole c =
    IsBox-grown_none c.args.parcel.now.region c.alike.result c.alike.ensures (subst (λ (b : Corners). IsBox b) c.region.view_is c.region.invariant)

pub returns-clause-bx : goal.returns-clause-bx
returns-clause-bx c =
    unpacked_over c.in_ok-values.values c.unpack.new.self c.args.parcel.now.region c.alike.result c.args.parcel.now.values c.alike.ensures c.in_ok-values.ensures
    (c.unpack.ensures ∙ ap (λ (vs : List ℕ). written c.in_ok-values.values (copied c.in_ok-values.values c.args.parcel.now.region (value_in c.args.parcel.now.region vs))) c.as_slice.ensures)

pub returns-clause-values : goal.returns-clause-values
returns-clause-values c = λ y h.
    unpacked_value c.in_ok-values.values c.unpack.new.self c.args.parcel.now.region c.alike.result c.args.parcel.now.values c.alike.ensures c.in_ok-values.ensures
    (c.unpack.ensures ∙ ap (λ (vs : List ℕ). written c.in_ok-values.values (copied c.in_ok-values.values c.args.parcel.now.region (value_in c.args.parcel.now.region vs))) c.as_slice.ensures) y h
