use Rattle.std.proofs.Common.{refl, ◌∙◌}
use Rattle.samr_sched.proofs.AskStage.{ends}
use Rattle.samr_sched.proofs.ask.AskStage.finish.Goals as goal

pub returns : goal.returns
returns c = λ w rank h are.
    let self = c.args.self in
    ends self.rank self.frame self.below self.step self.boxes.items self.near.items self.under.items self.senders.items self.fixed.items w rank h
    c.args.held.items _ _ _ _ _ _ _ _ _ are refl refl refl refl c.from_vec.ensures c.from_vec-2.ensures c.from_vec-3.ensures (c.from_vec-4.ensures ∙ c.in_ok-others.ensures) c.from_vec-5.ensures
