use Rattle.samr_tags.proofs.SmallCovers.{small_room}
use Rattle.samr_tags.proofs.law.small_covers_have_room.Goals as goal

pub returns : goal.returns
returns c = small_room
