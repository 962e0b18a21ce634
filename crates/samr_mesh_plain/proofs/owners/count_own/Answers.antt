use Rattle.std.proofs.Common.{◌≡◌, ◌∙◌, ap, sym, subst}
use Rattle.std.specs.Prelude.{Bool, ◌&&◌, List, filter}
use Rattle.std.specs.List.{All, list_any}
use Rattle.samr_box.specs.declared.vector.IVec.{IVec}
use Rattle.samr_box.specs.Corners.{Holds, holds}
use Rattle.samr_rounds.specs.Owners.{own_tags}
use Rattle.samr_sign.specs.Fields.{tagged}
use Rattle.samr_mesh_plain.specs.Making.{one_cell}
use Rattle.samr_mesh_plain.proofs.CellFields.{picked, all_inside, same_tally, within_box}
use Rattle.samr_mesh_plain.proofs.owners.count_own.Goals as goal

pub field_of-requires : goal.field_of-requires
field_of-requires c =
    let own : IVec → Bool = own_tags (tagged c.args.tags.now) c.args.level.now c.args.rank in
    let is = c.as_slice-2.ensures.value ∙ c.in_ok-own.ensures ∙ ap (λ (xs : List IVec). filter own xs) (c.as_slice.ensures.value ∙ c.in_ok-cells.ensures.value) in
    subst (λ (xs : List IVec). All (λ x. Holds c.args.b x) xs) (sym is) (all_inside c.args.b own c.in_ok-cells.ensures.whole.order)

pub returns : goal.returns
returns c =
    let own : IVec → Bool = own_tags (tagged c.args.tags.now) c.args.level.now c.args.rank in
    let order = c.in_ok-cells.ensures.whole.order in
    let is = c.as_slice-2.ensures.value ∙ c.in_ok-own.ensures ∙ ap (λ (xs : List IVec). filter own xs) (c.as_slice.ensures.value ∙ c.in_ok-cells.ensures.value) in
    let cells : (y : IVec) → tagged c.in_ok-field.field y ≡ (holds c.args.b y && own y) =
    (λ y. c.in_ok-field.ensures.cells y ∙ ap (λ (xs : List IVec). list_any (λ x. holds (one_cell x) y) xs) is ∙ picked c.args.b own y order) in
    c.count.ensures ∙ same_tally c.args.b (tagged c.in_ok-field.field) own order (λ x h. within_box c.args.b own (tagged c.in_ok-field.field) x cells h)
