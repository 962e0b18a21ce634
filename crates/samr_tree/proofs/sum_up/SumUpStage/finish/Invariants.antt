use Rattle.std.proofs.Common.{◌≡◌, ℕ, ◌+◌, take, sum_by}
use Rattle.samr_stage.specs.declared.stage.Held.{Held}
use Rattle.samr_tree.proofs.sum_up.SumUpStage.finish.Given as goal

abbrev pub invariant-each : goal.invariant-each
invariant-each l = l.total ≡ l.fn.self.number + sum_by (λ (held : Held ℕ). held.body) (take l.letter-index l.letter-items)
