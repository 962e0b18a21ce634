use Rattle.samr_stage.specs.Mailboxes.{Deliver}
use Rattle.samr_stage.proofs.all_ranks.deliver.Given as goal

abbrev pub invariant-each : goal.invariant-each
invariant-each g l = Deliver (λ box. box.items) l.sender l.yielded l.initial.boxes.items l.boxes.items
