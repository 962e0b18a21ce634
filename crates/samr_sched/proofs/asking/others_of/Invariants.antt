use Rattle.std.proofs.Common.{◌≡◌, map}
use Rattle.samr_sched.specs.declared.plan.Asked.{Asked}
use Rattle.samr_sched.proofs.asking.others_of.Given as goal

abbrev pub invariant-each : goal.invariant-each
invariant-each l = l.others.items ≡ map (λ h. let a : Asked = record { rank = h.sender; requests = h.body } in a) l.yielded
