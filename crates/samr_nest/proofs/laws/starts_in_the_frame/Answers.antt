use Rattle.samr_nest.proofs.StartLaws.{frame_starts}
use Rattle.samr_nest.proofs.laws.starts_in_the_frame.Goals as goal

pub returns : goal.returns
returns c = λ d b c' full m whole_c inside. frame_starts d b c' full m whole_c inside
