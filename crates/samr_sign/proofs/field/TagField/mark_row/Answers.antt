use Rattle.std.proofs.Common.{◌≡◌, ℕ, ◌||◌, List, length, ap, sym, subst, ◌∙◌, arith}
use Rattle.std.proofs.lemmas.List.{with_items_is}
use Rattle.samr_box.specs.declared.vector.Axis.TheVariants.{I}
use Rattle.samr_box.specs.Corners.{Corners, holds, span}
use Rattle.samr_sign.specs.Fields.{Field, IsField, tagged}
use Rattle.samr_sign.proofs.Places.{RowOf, part_lo, row_ends}
use Rattle.samr_sign.proofs.Marks.{marked_row, marked_field}
use Rattle.samr_sign.proofs.field.TagField.mark_row.Goals as goal

abbrev field : Corners → List ℕ → Field
field b words = record { bx = b; words = words }

pub place-first-requires-clause-inside : goal.place-first-requires-clause-inside
place-first-requires-clause-inside c =
    part_lo c.self.inside.bx (record { lo = c.row.inside.lo; hi = c.row.inside.hi }) (rw (← c.self.view_is, ← c.row.view_is) at c.requires.inside) c.row.invariant.order

pub set_run-requires-clause-inside : goal.set_run-requires-clause-inside
set_run-requires-clause-inside c =
    let row : Corners = record { lo = c.row.inside.lo; hi = c.row.inside.hi } in
    let known : RowOf c.self.inside.bx row = record {
      inside = rw (← c.self.view_is, ← c.row.view_is) at c.requires.inside;
      flat = rw (← c.row.view_is) at c.requires.flat;
      order = c.row.invariant.order;
    } in
    let wide : c.length.result ≡ span I row = c.length.ensures.value ∙ ap (span I) (sym c.row.view_is) in
    omega (arith, row_ends c.self.inside.bx row known, wide, c.place-first.ensures.value, c.self.invariant.rows, ap (λ (w : List ℕ). length w) c.as_mut_slice.ensures.value)

pub invariant_of-self : goal.invariant_of-self
invariant_of-self c =
    let row : Corners = record { lo = c.row.inside.lo; hi = c.row.inside.hi } in
    let known : RowOf c.self.inside.bx row = record {
      inside = rw (← c.self.view_is, ← c.row.view_is) at c.requires.inside;
      flat = rw (← c.row.view_is) at c.requires.flat;
      order = c.row.invariant.order;
    } in
    let wide : c.length.result ≡ span I row = c.length.ensures.value ∙ ap (span I) (sym c.row.view_is) in
    let sets = rw (c.place-first.ensures.value, wide, c.as_mut_slice.ensures.value) at c.set_run.ensures in
    let same = with_items_is c.self.inside.words c.set_run.new.words (omega (arith, c.set_run.auto.words, c.as_mut_slice.ensures.len)) in
    let long : length c.set_run.new.words ≡ length c.self.inside.words.items = c.set_run.auto.words ∙ ap (λ (w : List ℕ). length w) c.as_mut_slice.ensures.value in
    subst (λ w. IsField (field c.self.inside.bx w)) (sym same) (marked_field c.self.inside.bx row c.self.inside.words.items c.set_run.new.words c.self.invariant known long sets)

pub returns-clause-cells : goal.returns-clause-cells
returns-clause-cells c =
    let row : Corners = record { lo = c.row.inside.lo; hi = c.row.inside.hi } in
    let known : RowOf c.self.inside.bx row = record {
      inside = rw (← c.self.view_is, ← c.row.view_is) at c.requires.inside;
      flat = rw (← c.row.view_is) at c.requires.flat;
      order = c.row.invariant.order;
    } in
    let wide : c.length.result ≡ span I row = c.length.ensures.value ∙ ap (span I) (sym c.row.view_is) in
    let sets = rw (c.place-first.ensures.value, wide, c.as_mut_slice.ensures.value) at c.set_run.ensures in
    let same = with_items_is c.self.inside.words c.set_run.new.words (omega (arith, c.set_run.auto.words, c.as_mut_slice.ensures.len)) in
    λ x. ap (λ w. tagged (field c.self.inside.bx w) x) same
    ∙ marked_row c.self.inside.bx row c.self.inside.words.items c.set_run.new.words known sets x
    ∙ ap (λ r. holds r x || tagged (field c.self.inside.bx c.self.inside.words.items) x) c.row.view_is
    ∙ ap (λ f. holds c.args.row x || tagged f x) c.self.view_is
