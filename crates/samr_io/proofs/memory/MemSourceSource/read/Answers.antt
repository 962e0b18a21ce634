use Rattle.samr_io.proofs.Fronts.{front_read}
use Rattle.samr_io.proofs.memory.MemSourceSource.read.Goals as goal

pub returns-clause-bytes : goal.returns-clause-bytes
returns-clause-bytes c =
    rw (← c.self.view_is)
    (rw c.deref.ensures.value at
    (front_read c.deref.result.now _ _ _ _ c.min-count.ensures c.copy_from_slice.ensures.after))
