use Rattle.std.proofs.Common.{refl, ◌∙◌}
use Rattle.samr_tree.specs.TreeSum.{tellings_at}
use Rattle.samr_tree.specs.TreeLaws.{told_ranks_at}
use Rattle.samr_msg.specs.PassStops.{loads_of}
use Rattle.samr_counting.proofs.LoadSums.{down_telling, loads_length}
use Rattle.samr_counting.proofs.going_down.DownStepStepLetterBodyFallTurnFallingTellDown.begin.Goals as goal

pub returns-clause-plays : goal.returns-clause-plays
returns-clause-plays g c = λ w r h visits. record {
  whole = tellings_at (loads_of w.at) w.round;
  part = c.in_ok-stage.ensures.starts _ r (down_telling w r h.0.0.1 h.0.0.0.few h.0.0.0.within c.rank.result c.ranks.result c.args.input.round c.args.input.number (c.rank.ensures w.at r h.0.0) (c.ranks.ensures w.at r h.0.0) h.1);
  same_ranks = told_ranks_at (loads_of w.at) w.round ∙ loads_length w.at;
  same_row = λ from to. refl;
  same_result = λ out is. is;
}
