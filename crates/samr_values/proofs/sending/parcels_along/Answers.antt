use Rattle.std.proofs.Common.{◌≡◌, ℕ, ◌<◌, [], refl, sym, ap, ◌∙◌, subst, arith, length}
use Rattle.std.proofs.lemmas.Option.{slice_get_read}
use Rattle.std.specs.Prelude.{List}
use Rattle.std.specs.List.{flat_map, range_with_len}
use Rattle.samr_data.specs.Grids.{Grid}
use Rattle.samr_level.proofs.BlockRows.{range_more}
use Rattle.samr_values.specs.Patches.{HasField, IsBased}
use Rattle.samr_values.specs.ValuesRow.{field_parcels}
use Rattle.samr_values.proofs.sending.parcels_along.Goals as goal

pub push_field-requires-clause-based : goal.push_field-requires-clause-based
push_field-requires-clause-based c =
    let at = slice_get_read c.args.patches.now (length c.args.patches.now) c.loop-f.f c.index-patches-f.result refl c.loop-f-test.true c.index-patches-f.is in
    subst (λ (l : List Grid). IsBased c.args.olds.now l) (sym c.as_slice.ensures) (c.requires.based c.loop-f.f c.index-patches-f.result at)

pub push_field-requires-clause-coarse_based : goal.push_field-requires-clause-coarse_based
push_field-requires-clause-coarse_based c =
    let same = c.requires.same in
    let below : c.loop-f.f < length c.args.coarse_patches.now = omega (arith, c.loop-f-test.true, same) in
    let at = slice_get_read c.args.coarse_patches.now (length c.args.coarse_patches.now) c.loop-f.f c.index-coarse_patches-f.result refl below c.index-coarse_patches-f.is in
    subst (λ (l : List Grid). IsBased c.args.coarser.now l) (sym c.as_slice-in-loop-f.ensures) (c.requires.coarse_based c.loop-f.f c.index-coarse_patches-f.result at)

pub loop-f-preserved : goal.loop-f-preserved
loop-f-preserved c = λ values coarse_values has under.
    let f = c.loop-f.f in
    let same = c.requires.same in
    let below : f < length c.args.coarse_patches.now = omega (arith, c.loop-f-test.true, same) in
    let at = slice_get_read c.args.patches.now (length c.args.patches.now) f c.index-patches-f.result refl c.loop-f-test.true c.index-patches-f.is in
    let there = slice_get_read c.args.coarse_patches.now (length c.args.coarse_patches.now) f c.index-coarse_patches-f.result refl below c.index-coarse_patches-f.is in
    let fine = subst (λ (l : List Grid). HasField (values f) l) (sym c.as_slice.ensures) (has f c.index-patches-f.result at) in
    let coarse = subst (λ (l : List Grid). HasField (coarse_values f) l) (sym c.as_slice-in-loop-f.ensures) (under f c.index-coarse_patches-f.result there) in
    range_more (λ f. field_parcels f c.args.step (values f) (coarse_values f) c.args.olds.now c.args.coarser.now) f [] c.loop-f.parcels.items c.push_field.new.parcels.items
    (c.in_ok-push_field.ensures (values f) (coarse_values f) fine coarse) (c.loop-f.invariant values coarse_values has under)

pub returns : goal.returns
returns c = λ values coarse_values has under.
    let at : c.loop-f.f ≡ length c.args.patches.now = omega (arith, c.loop-f-test.false, c.loop-f.auto.f-end) in
    c.loop-f.invariant values coarse_values has under
    ∙ ap (λ (n : ℕ). flat_map (λ f. field_parcels f c.args.step (values f) (coarse_values f) c.args.olds.now c.args.coarser.now) (range_with_len 0 n)) at
