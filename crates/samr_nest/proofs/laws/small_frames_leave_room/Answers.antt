use Rattle.samr_nest.proofs.Callers.{room}
use Rattle.samr_nest.proofs.laws.small_frames_leave_room.Goals as goal

pub returns : goal.returns
returns c = λ d nest b small width box home. room d nest b small width box home
