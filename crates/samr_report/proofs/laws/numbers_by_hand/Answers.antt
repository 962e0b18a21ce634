use Rattle.samr_report.proofs.NumberProofs.{two_fields, two_levels, moving}
use Rattle.samr_report.proofs.laws.numbers_by_hand.Goals as goal

pub returns : goal.returns
returns c = record { two_fields = two_fields; two_levels = two_levels; moving = moving }
