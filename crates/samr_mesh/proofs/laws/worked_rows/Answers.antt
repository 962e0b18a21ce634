-- The worked rows.
use Rattle.samr_mesh.proofs.RowProofs.{leaving_is, shared_is, moving_is, parts_are, drifting_is}
use Rattle.samr_mesh.proofs.laws.worked_rows.Goals as goal

pub returns-clause-leaving : goal.returns-clause-leaving
returns-clause-leaving c = leaving_is

pub returns-clause-shared : goal.returns-clause-shared
returns-clause-shared c = shared_is

pub returns-clause-moving : goal.returns-clause-moving
returns-clause-moving c = moving_is

pub returns-clause-over_parts : goal.returns-clause-over_parts
returns-clause-over_parts c = parts_are

pub returns-clause-drifting : goal.returns-clause-drifting
returns-clause-drifting c = drifting_is
