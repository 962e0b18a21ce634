use Rattle.std.proofs.Common.{◌≡◌, map, All}
use Rattle.std.specs.List.{AllZip}
use Rattle.samr_stage.proofs.Carrying.{IsBodyOf}
use Rattle.samr_stage.proofs.carried.finish_stage.Given as goal

abbrev pub invariant-each : goal.invariant-each
invariant-each g l = (run : _) → All (λ x. g.M.Mail.run x ≡ run) l.fn.held.items → AllZip (IsBodyOf (g.S.Carried.has_body run)) (map g.M.Mail.name l.yielded) l.bodies.items
