use Rattle.std.proofs.Common.{◌∙◌, ap, pos, arith, w64}
use Rattle.std.proofs.lemmas.Int.{to_z_pos}
use Rattle.samr_box.proofs.Vectors.{same_cell}
use Rattle.samr_find.proofs.edge.lengths.Goals as goal

pub returns-clause-value : goal.returns-clause-value
returns-clause-value c =
    let k = c.length.ensures.small in
    let j = c.length-2.ensures.small in
    let i = c.length-3.ensures.small in
    same_cell (to_z_pos w64 _ (omega arith) ∙ ap pos c.length.ensures.value)
    (to_z_pos w64 _ (omega arith) ∙ ap pos c.length-2.ensures.value)
    (to_z_pos w64 _ (omega arith) ∙ ap pos c.length-3.ensures.value)
