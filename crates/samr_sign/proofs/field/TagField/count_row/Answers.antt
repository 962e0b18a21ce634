use Rattle.std.proofs.Common.{◌≡◌, ℕ, List, length, ap, sym, ◌∙◌, arith}
use Rattle.samr_box.specs.declared.vector.Axis.TheVariants.{I}
use Rattle.samr_box.specs.Corners.{Corners, span}
use Rattle.samr_bits.specs.Bits.{set_among}
use Rattle.samr_sign.specs.Counts.{tally}
use Rattle.samr_sign.specs.Fields.{Field, place, tagged}
use Rattle.samr_sign.proofs.Places.{RowOf, part_lo, row_ends}
use Rattle.samr_sign.proofs.Rows.{row_tally}
use Rattle.samr_sign.proofs.field.TagField.count_row.Goals as goal

pub place-first-requires-clause-inside : goal.place-first-requires-clause-inside
place-first-requires-clause-inside c =
    part_lo c.self.inside.bx (record { lo = c.row.inside.lo; hi = c.row.inside.hi }) (rw (← c.self.view_is, ← c.row.view_is) at c.requires.inside) c.row.invariant.order

pub count_run-requires-clause-inside : goal.count_run-requires-clause-inside
count_run-requires-clause-inside c =
    let row : Corners = record { lo = c.row.inside.lo; hi = c.row.inside.hi } in
    let known : RowOf c.self.inside.bx row = record {
      inside = rw (← c.self.view_is, ← c.row.view_is) at c.requires.inside;
      flat = rw (← c.row.view_is) at c.requires.flat;
      order = c.row.invariant.order;
    } in
    let wide : c.length.result ≡ span I row = c.length.ensures.value ∙ ap (span I) (sym c.row.view_is) in
    omega (arith, row_ends c.self.inside.bx row known, wide, c.place-first.ensures.value, c.self.invariant.rows, ap (λ (w : List ℕ). length w) c.as_slice.ensures.value)

pub returns : goal.returns
returns c =
    let row : Corners = record { lo = c.row.inside.lo; hi = c.row.inside.hi } in
    let f : Field = record { bx = c.self.inside.bx; words = c.self.inside.words.items } in
    let known : RowOf f.bx row = record {
      inside = rw (← c.self.view_is, ← c.row.view_is) at c.requires.inside;
      flat = rw (← c.row.view_is) at c.requires.flat;
      order = c.row.invariant.order;
    } in
    let wide : c.length.result ≡ span I row = c.length.ensures.value ∙ ap (span I) (sym c.row.view_is) in
    c.count_run.ensures
    ∙ ap (λ w. set_among w c.place-first.result c.length.result) c.as_slice.ensures.value
    ∙ ap (λ p. set_among f.words p c.length.result) c.place-first.ensures.value
    ∙ ap (set_among f.words (place f.bx row.lo)) wide
    ∙ row_tally f row known
    ∙ ap (tally (tagged f)) c.row.view_is
    ∙ ap (λ g. tally (tagged g) c.args.row) c.self.view_is
