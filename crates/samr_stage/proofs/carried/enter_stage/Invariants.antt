use Rattle.std.proofs.Common.{◌≡◌, map, All}
use Rattle.samr_stage.specs.Course.{name_of}
use Rattle.samr_stage.proofs.carried.enter_stage.Given as goal

abbrev pub invariant-each : goal.invariant-each
invariant-each g l = record {
  names : map g.M.Mail.name l.letters.items ≡ map (λ p. name_of l.fn.at l.fn.rank p.0) l.yielded;
  own : All (λ x. g.M.Mail.run x ≡ l.fn.run) l.letters.items;
}
