-- Ghost cells have sources.
use Rattle.samr_mesh.proofs.Sourced.{ghost_width, over_below, level0_all}
use Rattle.samr_mesh.proofs.laws.ghosts_have_sources.Goals as goal

pub returns-clause-widths : goal.returns-clause-widths
returns-clause-widths c = λ p f is m. ghost_width p is f m

pub returns-clause-over : goal.returns-clause-over
returns-clause-over c = λ p l ranks level below g z x can is nested low fit cell near inside. over_below p l ranks level below g z x can is nested low fit cell near inside

pub returns-clause-level0 : goal.returns-clause-level0
returns-clause-level0 c = λ p ranks x is home. level0_all p ranks x is home
