use Rattle.std.proofs.Common.{ℕ, ◌∙◌, ap, sym, map, ◌++◌, []}
use Rattle.std.proofs.lemmas.List.{take_all}
use Rattle.std.proofs.lemmas.Option.{get_or_from_slice_get}
use Rattle.std.specs.Prelude.{List, ◌∷◌}
use Rattle.std.specs.List.{enumerate_from}
use Rattle.samr_box.specs.declared.vector.IVec.{IVec}
use Rattle.samr_box.proofs.Members.{member_of_All}
use Rattle.samr_data.specs.Grids.{Grid}
use Rattle.samr_trials_levels.specs.First.{first_field, first_fields, HasRooms}
use Rattle.samr_trials_levels.proofs.Steps.{item_at, numbered_more}
use Rattle.samr_trials_levels.proofs.starting.box_patches.Goals as goal

pub field_patches-requires-clause-rooms : goal.field_patches-requires-clause-rooms
field_patches-requires-clause-rooms c =
    member_of_All (HasRooms c.args.boxes.now) c.width_at-own.result c.args.widths.now c.requires.rooms
    (item_at c.args.widths.now c.each.f c.width_at-own.result c.width_at-own.ensures)

pub each-preserved : goal.each-preserved
each-preserved c =
    let g = c.width_at-own.result in
    let f = c.each.f in
    let list = c.args.widths.now in
    let make : ℕ × IVec → List Grid = first_field c.args.bound c.args.start c.args.boxes.now in
    c.in_ok-push.ensures.items
    ∙ ap (λ (l : List Grid). c.each.fields.items ++ l ∷ []) (c.from_vec.ensures ∙ c.in_ok-patches.ensures)
    ∙ ap (λ (l : List (List Grid)). l ++ make (f, g) ∷ []) c.each.invariant
    ∙ sym (numbered_more make list f g c.each-test.true (sym (get_or_from_slice_get list f g g c.width_at-own.ensures)))

pub returns : goal.returns
unfolding first_fields
returns c =
    c.each.invariant
    ∙ ap (λ (l : List IVec). map (first_field c.args.bound c.args.start c.args.boxes.now) (enumerate_from 0 l)) (take_all c.each.f c.args.widths.now c.each-test.false)
