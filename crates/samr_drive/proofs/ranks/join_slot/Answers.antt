use Rattle.samr_drive.proofs.ranks.join_slot.Goals as goal

pub answer_of-requires : goal.answer_of-requires
answer_of-requires g c =
    let steady = rw c.in-Running.is at c.requires.fit in
    (c.in-Running.handle.promise.machine.value, c.in-Running.handle.promise.end.value, steady, c.join.ensures)

pub returns-in-Running : goal.returns-in-Running
returns-in-Running g c = λ s e stands.
    let same = rw c.in-Running.is at stands in
    c.answer_of.ensures s e (rw (same.0, same.1) at c.join.ensures)
