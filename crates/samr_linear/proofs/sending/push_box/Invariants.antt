use Rattle.std.proofs.Common.{◌≡◌, ◌≤◌, ◌++◌, take}
use Rattle.std.specs.List.{flat_map, enumerate_from}
use Rattle.samr_fill.specs.Sending.{field_copies}
use Rattle.samr_linear.proofs.sending.push_box.Given as goal

abbrev pub invariant-loop-field : goal.invariant-loop-field
invariant-loop-field l =
    (l.out.items ≡ l.fn.out.items ++ flat_map (λ f. field_copies l.d l.to l.own l.place f.0 f.1.copies) (enumerate_from 0 (take l.field l.fields)))
    × (l.field ≤ l.field-end)
