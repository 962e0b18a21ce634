use Rattle.std.proofs.Common.{◌≡◌, Err}
use Rattle.std.specs.List.{AllZip}
use Rattle.std.specs.Vec.{vec_capacity}
use Rattle.samr_drive.specs.declared.stop.Stop.TheVariants.{NoMemory}
use Rattle.samr_drive.proofs.ranks.all_short.Given as goal

abbrev pub invariant-ends : goal.invariant-ends
invariant-ends g l = record {
  room : vec_capacity l.answers ≡ vec_capacity l.fn.answers;
  answers : AllZip (λ end answer. answer ≡ (Err NoMemory, end)) l.yielded l.answers.items;
}
