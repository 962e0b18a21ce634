use Rattle.std.proofs.Common.{◌≡◌, ◌≤◌, ◌++◌, take}
use Rattle.std.specs.List.{flat_map, enumerate_from}
use Rattle.samr_fill.specs.Sending.{box_copies}
use Rattle.samr_linear.proofs.sending.push_boxes.Given as goal

abbrev pub invariant-loop-place : goal.invariant-loop-place
invariant-loop-place l =
    (l.out.items ≡ l.fn.out.items ++ flat_map (λ b. box_copies l.d l.to l.own b.0 b.1) (enumerate_from 0 (take l.place l.boxes)))
    × (l.place ≤ l.place-end)
