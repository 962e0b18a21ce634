use Rattle.std.proofs.Common.{◌≡◌, ◌++◌, take}
use Rattle.samr_report.specs.Lines.{blank_numbers}
use Rattle.samr_report.proofs.lines.put_numbers.Given as goal

abbrev pub invariant-loop-number : goal.invariant-loop-number
invariant-loop-number l = l.out.items ≡ l.fn.out.items ++ blank_numbers (take l.number-index l.numbers)
