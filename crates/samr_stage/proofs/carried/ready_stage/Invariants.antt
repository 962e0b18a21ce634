use Rattle.std.proofs.Common.{◌≡◌, take, sum_by}
use Rattle.samr_stage.specs.Held.{IsHeld}
use Rattle.samr_stage.specs.Carried.{CarriesRow}
use Rattle.samr_stage.proofs.Carrying.{load}
use Rattle.samr_stage.proofs.carried.ready_stage.Given as goal

abbrev pub invariant-each : goal.invariant-each
invariant-each g l = (run at w rank : _) → g.S.Stage.waits l.fn.stage w rank → CarriesRow (g.M.Mail.course run) (g.S.Carried.has_body run) at (g.S.Stage.ranks_of w) (g.S.Stage.says w) → IsHeld g.M.Mail.run g.M.Mail.name run at rank l.held
    → l.sum ≡ sum_by (λ x. load g.S.Stage.weight_of (g.S.Stage.says w) rank (g.M.Mail.name x)) (take l.letter-index l.held)
