use Rattle.std.proofs.Common.{◌≡◌, sym, ap, ◌∙◌, subst, arith, Contains, Some, unwrap_or, eq-eqb, eqb-true, sum_by}
use Rattle.std.specs.Option.{option_map}
use Rattle.std.proofs.lemmas.List.{take_all}
use Rattle.std.proofs.lemmas.List.Elements.{All-contains}
use Rattle.std.proofs.lemmas.List.Sums.{sum_by_more, sum_by_more_le}
use Rattle.samr_stage.specs.Held.{IsHeld}
use Rattle.samr_stage.specs.Carried.{CarriesRow}
use Rattle.samr_stage.proofs.Carrying.{load, held_body, held_within, ready_by_weight, weight_by_ready}
use Rattle.samr_stage.proofs.carried.ready_stage.Goals as goal
use Rattle.samr_stage.proofs.carried.ready_stage.Goals.{After-letter-item}

-- the letter at hand has a body in the row
at_hand : (g : _) (c : After-letter-item g) (run at w rank : _) → CarriesRow (g.M.Mail.course run) (g.S.Carried.has_body run) at (g.S.Stage.ranks_of w) (g.S.Stage.says w) → IsHeld g.M.Mail.run g.M.Mail.name run at rank c.args.held.now
    → (b : _) × (g.S.Stage.says w (g.M.Mail.name c.letter-item.result).sender rank ≡ Some b) × g.S.Carried.has_body (g.M.Mail.run c.letter-item.result) (g.M.Mail.name c.letter-item.result) b
at_hand g c run at w rank carries held =
    let among : Contains c.args.held.now c.letter-item.result = (c.each.letter-index, c.each-test.true, sym c.letter-item.is) in
    let there = held_body g.M.Mail.run g.M.Mail.name g.M.Mail.body g.M.Mail.course g.met.M.Mail.truth run (g.S.Carried.has_body run) at (g.S.Stage.ranks_of w) (g.S.Stage.says w) carries rank c.args.held.now held c.letter-item.result among in
    let own = All-contains (λ x. g.M.Mail.run x ≡ run) c.args.held.now c.letter-item.result held.own among in
    (there.0, there.1, subst (λ r. g.S.Carried.has_body r (g.M.Mail.name c.letter-item.result) there.0) (sym own) there.2)

pub goal-goal-requires : goal.goal-goal-requires
goal-goal-requires g c = (c.requires.2, c.requires.3, c.requires.4)

pub weigh-sum-requires : goal.weigh-sum-requires
weigh-sum-requires g c =
    let r = c.requires in
    let there = at_hand g (goal.at.weigh-sum-requires g c).After-letter-item r.0 r.1 r.2 r.3 r.5 r.6 in
    (r.2, r.3, (g.M.Mail.name c.letter-item.result).sender, there.0, r.4, there.1, there.2)

pub overflow_add-sum : goal.overflow_add-sum
overflow_add-sum g c =
    let r = c.requires in
    let f = λ (x : g.row.M.Denot). load g.S.Stage.weight_of (g.S.Stage.says r.2) r.3 (g.M.Mail.name x) in
    let there = at_hand g (goal.at.overflow_add-sum g c).After-letter-item r.0 r.1 r.2 r.3 r.5 r.6 in
    let here : c.weigh-sum.result ≡ f c.letter-item.result = c.weigh-sum.ensures there.0 there.2 ∙ sym (ap (λ o. unwrap_or (option_map g.S.Stage.weight_of o) 0) there.1) in
    let more = sum_by_more_le f c.args.held.now c.each.letter-index c.letter-item.result c.each-test.true in
    let before = c.each.invariant r.0 r.1 r.2 r.3 r.4 r.5 r.6 in
    let within = held_within g.M.Mail.run g.M.Mail.name g.M.Mail.body g.M.Mail.course g.met.M.Mail.truth r.0 (g.S.Carried.has_body r.0) r.1 (g.S.Stage.ranks_of r.2) (g.S.Stage.says r.2) r.5 r.3 c.args.held.now r.6 g.S.Stage.weight_of in
    omega (arith, here, ap f c.letter-item.is, more, before, within, c.goal-goal.ensures r.2 r.3 r.4, c.goal-goal.type_inv)

pub each-preserved : goal.each-preserved
each-preserved g c = λ run at w rank waits carries held.
    let f = λ (x : g.row.M.Denot). load g.S.Stage.weight_of (g.S.Stage.says w) rank (g.M.Mail.name x) in
    let there = at_hand g (goal.at.each-preserved g c).After-letter-item run at w rank carries held in
    let here : c.weigh-sum.result ≡ f c.letter-item.result = c.weigh-sum.ensures there.0 there.2 ∙ sym (ap (λ o. unwrap_or (option_map g.S.Stage.weight_of o) 0) there.1) in
    let more = sum_by_more f c.args.held.now c.each.letter-index c.letter-item.result c.each-test.true in
    let before = c.each.invariant run at w rank waits carries held in
    omega (arith, here, ap f c.letter-item.is, more, before)

pub returns : goal.returns
returns g c = λ run at w rank waits carries held.
    let f = λ (x : g.row.M.Denot). load g.S.Stage.weight_of (g.S.Stage.says w) rank (g.M.Mail.name x) in
    let sum = c.each.invariant run at w rank waits carries held ∙ ap (sum_by f) (take_all c.each.letter-index c.args.held.now c.each-test.false) in
    let wanted = c.goal-goal.ensures w rank waits in (
      λ same. ready_by_weight g.M.Mail.run g.M.Mail.name g.M.Mail.body g.M.Mail.course g.met.M.Mail.truth run (g.S.Carried.has_body run) at (g.S.Stage.ranks_of w) (g.S.Stage.says w) carries rank c.args.held.now held g.S.Stage.weight_of (λ from b. g.met.S.Stage.positive w from rank b) (sym sum ∙ eqb-true _ _ same ∙ wanted),
      λ all. eq-eqb _ _ (sum ∙ weight_by_ready g.M.Mail.run g.M.Mail.name g.M.Mail.body g.M.Mail.course g.met.M.Mail.truth run (g.S.Carried.has_body run) at (g.S.Stage.ranks_of w) (g.S.Stage.says w) carries rank c.args.held.now held g.S.Stage.weight_of all ∙ sym wanted),
    )
