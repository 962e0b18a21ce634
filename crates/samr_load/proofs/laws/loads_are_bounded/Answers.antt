use Rattle.samr_load.proofs.Takes.{parted_load, parted_short}
use Rattle.samr_load.proofs.Bound.{balance_bound}
use Rattle.samr_load.proofs.laws.loads_are_bounded.Goals as goal

pub returns-clause-takes : goal.returns-clause-takes
returns-clause-takes c = λ s most want list some thin. (parted_load s some list want, parted_short s some most list want thin)

pub returns-clause-ranks : goal.returns-clause-ranks
returns-clause-ranks c = λ b most some thin even rank inside. balance_bound b most some (λ r p q m. thin r q p m) even rank inside
