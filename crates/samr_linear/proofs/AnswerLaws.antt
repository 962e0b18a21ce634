-- What a coarse patch gives is what the row says.
use Rattle.samr_box.specs.Corners.{grown}
use Rattle.samr_data.specs.Grids.{value_at}
use Rattle.samr_data.proofs.Lists.{listed_same}
use Rattle.samr_fill.specs.FillRow.{asked_region}
use Rattle.samr_linear.specs.Around.{one_around, AnswersAreTheRow}

pub answers_are_the_row : AnswersAreTheRow
answers_are_the_row w s below q p whole same = listed_same (grown (asked_region w.schedule q) (one_around s.real)) (value_at p) below whole.order same
