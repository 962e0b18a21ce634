use Rattle.samr_load.proofs.plain.+fallen.Given as goal

abbrev pub decreases-fallen : goal.decreases-fallen
decreases-fallen l = l.rank
