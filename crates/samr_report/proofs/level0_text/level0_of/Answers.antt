use Rattle.std.proofs.Common.{◌≡◌, ◌<◌, ◌^◌, List, ap, ◌∙◌, subst, sym, sum_by}
use Rattle.samr_box.specs.Corners.{cells_of}
use Rattle.samr_level.specs.Refs.{Owned}
use Rattle.samr_level.specs.Blocks.{level0}
use Rattle.samr_level.specs.Levels.{IsLevel}
use Rattle.samr_problem.specs.Fields.{Fields}
use Rattle.samr_mesh.specs.Domains.{area_of, level0_of}
use Rattle.samr_mesh.proofs.Level0Bounds.{few_cells}
use Rattle.samr_report.proofs.level0_text.level0_of.Goals as goal

pub returns-clause-few : goal.returns-clause-few
returns-clause-few c =
    let p : Fields = c.args.problem.now in
    let begun = c.requires.level0 in
    let is : c.in_ok-level.level.items ≡ level0_of p c.args.ranks =
    c.in_ok-level.ensures.value ∙ ap (λ a. level0 a c.problem.inside.block c.args.ranks) c.requires.region
    ∙ ap (λ (q : Fields). level0 (area_of p) q.block c.args.ranks) c.problem.view_is in
    let level : IsLevel (area_of p) c.args.ranks (level0_of p c.args.ranks) =
    subst (λ l. IsLevel (area_of p) c.args.ranks l) is (subst (λ a. IsLevel a c.args.ranks c.in_ok-level.level.items) c.requires.region (c.in_ok-level.ensures.level c.requires.ranks)) in
    subst (λ (l : List Owned). sum_by (λ b. cells_of b.bx) l < 2 ^ 63) (sym is)
    (few_cells (area_of p) p.block c.args.ranks begun.area begun.few_parts begun.few_cells begun.blocks.low level)
