use Rattle.std.proofs.Common.{◌≡◌, ◌++◌, slice_get, Some, refl, sym, ap, ◌∙◌, append-nil, set, length-set}
use Rattle.std.proofs.lemmas.Bool.{false≢true}
use Rattle.samr_world.specs.Events.{posted}
use Rattle.samr_world.specs.Traffic.{shape_of}
use Rattle.samr_world.proofs.InPlace.{get_read}
use Rattle.samr_world.proofs.Outcomes.{posts_nothing}
use Rattle.samr_world.proofs.AfterEvents.{can_turn_here}
use Rattle.samr_world.proofs.traffic.Traffic.turn.Goals as goal

pub can_turn-requires : goal.can_turn-requires
can_turn-requires g c =
    let machines = c.args.self.now.machines.items in
    let before = c.index_mut-machine.result.now in
    let here : slice_get machines c.args.rank ≡ Some before = get_read machines c.from-rank.result c.args.rank c.len.result before c.from-rank.ensures (c.len.ensures ∙ c.args.self.now.machines.ok.0) c.if-rank-len.false c.index_mut-machine.ensures.value in
    (c.requires.1.team c.args.rank before here).working

pub returns-then-not-can_turn-clause-enabled : goal.returns-then-not-can_turn-clause-enabled
returns-then-not-can_turn-clause-enabled g c =
    let machines = c.args.self.now.machines.items in
    let before = c.index_mut-machine.result.now in
    let here : slice_get machines c.args.rank ≡ Some before = get_read machines c.from-rank.result c.args.rank c.len.result before c.from-rank.ensures (c.len.ensures ∙ c.args.self.now.machines.ok.0) c.if-rank-len.false c.index_mut-machine.ensures.value in
    let v = c.if-not-can_turn.true in
    (λ h. absurd (false≢true h), λ can. sym v ∙ c.can_turn.ensures.1 (can_turn_here g.P.Program g.P.Mail.Mail (shape_of c.args.self.now) c.args.rank before here can))

pub returns-in-Posted-clause-enabled : goal.returns-in-Posted-clause-enabled
returns-in-Posted-clause-enabled g c =
    let machines = c.args.self.now.machines.items in
    let before = c.index_mut-machine.result.now in
    let here : slice_get machines c.args.rank ≡ Some before = get_read machines c.from-rank.result c.args.rank c.len.result before c.from-rank.ensures (c.len.ensures ∙ c.args.self.now.machines.ok.0) c.if-rank-len.false c.index_mut-machine.ensures.value in
    (λ _. (before, here, c.can_turn.ensures.0 c.if-not-can_turn.false), λ _. refl)

pub returns-in-Posted-clause-happens : goal.returns-in-Posted-clause-happens
returns-in-Posted-clause-happens g c = λ _.
    let machines = c.args.self.now.machines.items in
    let before = c.index_mut-machine.result.now in
    record {
      before = before;
      after = c.turn.new.self;
      outcome = c.in_ok-letter.field-0;
      here = get_read machines c.from-rank.result c.args.rank c.len.result before c.from-rank.ensures (c.len.ensures ∙ c.args.self.now.machines.ok.0) c.if-rank-len.false c.index_mut-machine.ensures.value;
      turned = c.in_ok-letter.ensures.rule;
      sound = c.in_ok-letter.ensures.sound;
      working = c.in_ok-letter.ensures.working;
      machines = ap (λ i. set machines i c.turn.new.self) c.from-rank.ensures;
      flight = c.in_ok-push.ensures.items ∙ ap (λ o. c.args.self.now.flight.items ++ posted o) (sym c.in-Posted.is);
      lost = refl;
    }

pub returns : goal.returns
returns g c =
    let machines = c.args.self.now.machines.items in
    let before = c.index_mut-machine.result.now in
    let here : slice_get machines c.args.rank ≡ Some before = get_read machines c.from-rank.result c.args.rank c.len.result before c.from-rank.ensures (c.len.ensures ∙ c.args.self.now.machines.ok.0) c.if-rank-len.false c.index_mut-machine.ensures.value in
    record {
      enabled = (λ _. (before, here, c.can_turn.ensures.0 c.if-not-can_turn.false), λ _. refl);
      disabled = λ h. cc;
      ranks = length-set machines c.from-rank.result c.turn.new.self;
      happens = λ _. record {
        before = before;
        after = c.turn.new.self;
        outcome = c.in_ok-letter.field-0;
        here = here;
        turned = c.in_ok-letter.ensures.rule;
        sound = c.in_ok-letter.ensures.sound;
        working = c.in_ok-letter.ensures.working;
        machines = ap (λ i. set machines i c.turn.new.self) c.from-rank.ensures;
        flight = sym (ap (λ zs. c.args.self.now.flight.items ++ zs) (posts_nothing c.in_ok-letter.field-0 c.in_default.not-Posted) ∙ append-nil c.args.self.now.flight.items);
        lost = refl;
      };
    }
