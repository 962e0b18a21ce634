use Rattle.std.proofs.Common.{◌≡◌, refl, sym, subst, Bool, true, false, not, is_some}
use Rattle.std.proofs.lemmas.Bool.{false≢true}
use Rattle.samr_drive.specs.Step.{hand_of}
use Rattle.samr_drive.specs.declared.step.Step.{Step}
use Rattle.samr_drive.proofs.Moves.{drove_post, drove_more, steady_post}
use Rattle.samr_drive.proofs.Turns.{Stepped, turned}
use Rattle.samr_drive.proofs.step.step_once.Goals as goal
use Rattle.samr_drive.proofs.step.step_once.Goals.{After-after}

not_true : (b : Bool) → (b ≡ true → ⊥) → b ≡ false
not_true true never = absurd (never refl)
not_true false never = refl

turned_round : (a b : Bool) → a ≡ not b → b ≡ not a
turned_round true true e = e
turned_round true false e = refl
turned_round false true e = refl
turned_round false false e = e

-- from the letter in hand after the post to the machine's turn
stepped : (g : _) (c : After-after g) → Stepped g.P.Program g.P.Mail.Mail g.L.Link c.take_one.new.machine c.take_one.new.end c.post_hand-hand.result c.turn.new.self c.after.result
stepped g c =
    let p = g.P.Program in
    let m = g.P.Mail.Mail in
    let w = g.L.Link in
    let post = c.post_hand-hand.ensures in
    let steady = steady_post p m w c.args.machine.now c.args.end.now c.post_hand-hand.new.end c.args.hand c.post_hand-hand.result c.requires post.same post.hand in
    let after = turned p m w c.take_one.new.machine c.take_one.new.end c.turn.new.self (not_true c.take_one.new.machine.failed (λ failed. absurd (false≢true (c.in_ok-turn.ensures.stays_failed failed)))) c.in_ok-turn.ensures.sound c.in_ok-turn.ensures.working c.in_ok-turn.turn c.post_hand-hand.result c.in_ok-took.took c.is_none.result (turned_round (is_some c.post_hand-hand.result) c.is_none.result c.is_none.ensures) (c.in_ok-took.ensures.steady c.post_hand-hand.result steady) c.in_ok-turn.ensures.rule in
    let K : Step _ → Type 0 = λ s. Stepped p m w c.take_one.new.machine c.take_one.new.end c.post_hand-hand.result c.turn.new.self s in
    subst K (sym c.after.ensures) after

pub returns-clause-steady : goal.returns-clause-steady
returns-clause-steady g c = (stepped g c).steady

pub returns-clause-drove : goal.returns-clause-drove
returns-clause-drove g c =
    let p = g.P.Program in
    let m = g.P.Mail.Mail in
    let w = g.L.Link in
    let post = c.post_hand-hand.ensures in
    let first = drove_post p m w c.args.machine.now c.args.end.now c.post_hand-hand.new.end c.args.hand c.post_hand-hand.result post.same post.posted post.taken in
    let taken = drove_more p m w c.args.machine.now c.args.end.now c.args.hand c.args.machine.now c.post_hand-hand.new.end c.post_hand-hand.result c.take_one.new.machine c.take_one.new.end c.post_hand-hand.result first (c.in_ok-took.ensures.drove c.post_hand-hand.result) in
    drove_more p m w c.args.machine.now c.args.end.now c.args.hand c.take_one.new.machine c.take_one.new.end c.post_hand-hand.result c.turn.new.self c.take_one.new.end (hand_of c.after.result) taken (stepped g c).drove

pub returns-clause-over : goal.returns-clause-over
returns-clause-over g c = (stepped g c).over
