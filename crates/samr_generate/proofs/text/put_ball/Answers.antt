use Rattle.std.proofs.Common.{◌∙◌, ap, ◌++◌, ℤ, codes, w64}
use Rattle.std.proofs.lemmas.Int.{to_z-of_z}
use Rattle.samr_generate.specs.Text.{number_line, ball_table}
use Rattle.samr_generate.proofs.Pieces.{five_pieces}
use Rattle.samr_generate.proofs.text.put_ball.Goals as goal

pub returns : goal.returns
unfolding ball_table
returns c =
    five_pieces _ _ _ _ _ _ _ _ _ _ _ c.in_ok-put_words.ensures c.in_ok-put_words-2.ensures c.in_ok-put_plane_line.ensures
    (c.in_ok-put_number_line.ensures ∙ ap (λ (z : ℤ). c.put_plane_line.new.out.items ++ number_line (codes "radius") z) (to_z-of_z w64 c.args.radius c.ranges.radius))
    c.in_ok-put_plane_line-2.ensures
