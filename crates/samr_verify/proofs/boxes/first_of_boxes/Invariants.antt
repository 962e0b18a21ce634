use Rattle.std.proofs.Common.{◌≡◌, map, take}
use Rattle.std.specs.List.{enumerate_from}
use Rattle.samr_verify.specs.Faults.{or_earlier, first_of}
use Rattle.samr_verify.specs.MeshFaults.{box_fault}
use Rattle.samr_verify.proofs.boxes.first_of_boxes.Given as goal

abbrev pub invariant-loop-i : goal.invariant-loop-i
invariant-loop-i l = l.first ≡ or_earlier l.fn.known (first_of (map (box_fault l.g l.boxes) (enumerate_from 0 (take l.i l.printed))))
