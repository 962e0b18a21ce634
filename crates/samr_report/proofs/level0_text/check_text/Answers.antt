use Rattle.std.proofs.Common.{◌≡◌, ◌++◌, ◌∙◌, ap, List}
use Rattle.std.specs.List.{flat_map}
use Rattle.samr_level.specs.Refs.{Owned}
use Rattle.samr_report.specs.LevelLines.{level_line, box_line}
use Rattle.samr_mesh.specs.Domains.{level0_of}
use Rattle.samr_report.specs.Level0Text.{check_text}
use Rattle.samr_report.proofs.Pieces.{five_pieces}
use Rattle.samr_report.proofs.level0_text.check_text.Goals as goal

pub returns : goal.returns
unfolding check_text
returns c =
    let is : c.in_ok-level.level.items ≡ level0_of c.args.problem.now c.args.ranks = c.in_ok-level.ensures.value in
    five_pieces _ _ _ _ _ _ _ _ _ _ _ c.new-out.ensures.items (c.in_ok-put_first_line.ensures)
    (c.in_ok-put_level_line.ensures ∙ ap (λ (l : List Owned). c.put_first_line.new.out.items ++ level_line 0 l) (c.as_slice.ensures.value ∙ is))
    (c.in_ok-put_boxes.ensures ∙ ap (λ (l : List Owned). c.put_level_line.new.out.items ++ flat_map (λ b. box_line 0 b) l) (c.as_slice-2.ensures.value ∙ is))
    (c.in_ok-put_told_edges.ensures)
    (c.in_ok-put_line.ensures)
