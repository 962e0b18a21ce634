use Rattle.std.proofs.Common.{◌≡◌, ◌≤◌, length, map, false, Ok}
use Rattle.std.specs.List.{AllZip}
use Rattle.std.specs.Vec.{vec_capacity}
use Rattle.samr_drive.proofs.run.part.Given as goal

abbrev pub invariant-answers : goal.invariant-answers
invariant-answers g l = record {
  back : l.back.items ≡ map (λ a. a.1) l.yielded;
  room_back : vec_capacity l.back ≡ vec_capacity l.fn.back;
  room_ended : vec_capacity l.ended ≡ vec_capacity l.fn.ended;
  few : length l.ended.items ≤ length l.yielded;
  ended : l.short ≡ false → AllZip (λ a program. a.0 ≡ Ok program) l.yielded l.ended.items;
}
