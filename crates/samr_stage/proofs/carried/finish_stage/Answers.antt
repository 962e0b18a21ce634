use Rattle.std.proofs.Common.{◌≡◌, ◌++◌, [], ◌∷◌, ℕ, List, map, sym, ap, ◌∙◌, subst, Contains}
use Rattle.std.specs.List.{AllZip}
use Rattle.std.proofs.lemmas.Iterator.Adapters.{YieldsList-from_vec}
use Rattle.std.proofs.lemmas.Iterator.Consumers.{YieldsList-turn, YieldsList-end}
use Rattle.std.proofs.lemmas.List.{map_push, map-id}
use Rattle.std.proofs.lemmas.List.Elements.{All-contains}
use Rattle.std.proofs.lemmas.Result.{IfOk-weaker}
use Rattle.samr_stage.specs.declared.label.Name.{Name}
use Rattle.samr_stage.specs.declared.stage.Held.{Held}
use Rattle.samr_stage.specs.Course.{awaited}
use Rattle.samr_stage.specs.Held.{IsHeld}
use Rattle.samr_stage.specs.Row.{heard, column}
use Rattle.samr_stage.specs.Carried.{CarriesRow}
use Rattle.samr_stage.proofs.Lists.{Contains-map}
use Rattle.samr_stage.proofs.Carrying.{IsBodyOf, AllZip-more, body_there, heard_held}
use Rattle.samr_stage.proofs.carried.finish_stage.Goals as goal
use Rattle.samr_stage.proofs.carried.finish_stage.Goals.{In-Some, In-None}

-- the letter at hand is one of those held
at_hand : (g : _) (c : In-Some g) → Contains c.args.held.items c.in-Some.letter
at_hand g c =
    let turn = YieldsList-turn (YieldsList-from_vec c.args.held.items (cc) (cc)) c.each.yielded c.each.letter-iterator c.each.yielded_by c.next.result c.next.new.self c.in-Some.letter c.in-Some.is c.next.ensures.steps in
    (_, turn.0, sym turn.1)

pub into_body-body-requires : goal.into_body-body-requires
into_body-body-requires g c =
    let r = c.requires in
    let name = g.M.Mail.name in
    let among = at_hand g (goal.at.into_body-body-requires g c).In-Some in
    let awaited_name = subst (λ ns. Contains ns (name c.in-Some.letter)) r.7 (Contains-map name c.args.held.items c.in-Some.letter among) in
    let there = body_there (g.M.Mail.course r.0) (g.S.Carried.has_body r.0) r.1 (g.S.Stage.ranks_of r.2) (g.S.Stage.says r.2) r.5 r.3 (name c.in-Some.letter) awaited_name in
    let own = All-contains (λ x. g.M.Mail.run x ≡ r.0) c.args.held.items c.in-Some.letter r.6.own among in
    (there.0, subst (λ run. g.S.Carried.has_body run (name c.in-Some.letter) there.0) (sym own) there.2)

pub each-preserved : goal.each-preserved
each-preserved g c = λ run own.
    let name = g.M.Mail.name in
    let letter = c.in-Some.letter in
    let mine = All-contains (λ x. g.M.Mail.run x ≡ run) c.args.held.items letter own (at_hand g (goal.at.each-preserved g c).In-Some) in
    let R : Name → Held g.row.S-Body.Denot → Type 0 = IsBodyOf (g.S.Carried.has_body run) in
    let Zip : List (Held g.row.S-Body.Denot) → Type 0 = λ hs. AllZip R (map name (c.each.yielded ++ letter ∷ [])) hs in
    let Names : List Name → Type 0 = λ ns. AllZip R ns (c.each.bodies.items ++ record { sender = c.name-sender.result.sender; body = c.into_body-body.result } ∷ []) in
    let here : R (name letter) (record { sender = c.name-sender.result.sender; body = c.into_body-body.result }) =
    (ap (λ n. n.sender) c.name-sender.ensures, λ b has. c.into_body-body.ensures b (subst (λ r. g.S.Carried.has_body r (name letter) b) (sym mine) has)) in
    subst Zip (sym c.in_ok-push.ensures.items) (subst Names (sym (map_push name c.each.yielded letter)) (AllZip-more R (map name c.each.yielded) c.each.bodies.items (name letter) _ (c.each.invariant run own) here))

-- all bodies are what the rank hears
all_heard : (g : _) (c : In-None g) (run at w rank : _) → CarriesRow (g.M.Mail.course run) (g.S.Carried.has_body run) at (g.S.Stage.ranks_of w) (g.S.Stage.says w) → IsHeld g.M.Mail.run g.M.Mail.name run at rank c.args.held.items
    → map g.M.Mail.name c.args.held.items ≡ awaited (g.M.Mail.course run) at rank → c.each.bodies.items ≡ heard (column (g.S.Stage.says w) rank) (g.S.Stage.ranks_of w)
all_heard g c run at w rank carries held ready =
    let all = YieldsList-end (YieldsList-from_vec c.args.held.items (cc) (cc)) c.each.yielded c.each.letter-iterator c.each.yielded_by c.next.result c.next.new.self c.in-None.is c.next.ensures.steps in
    let names = ap (map g.M.Mail.name) (sym (map-id c.each.yielded) ∙ all.0) ∙ ready in
    heard_held (g.M.Mail.course run) (g.S.Carried.has_body run) at (g.S.Stage.ranks_of w) (g.S.Stage.says w) carries rank (map g.M.Mail.name c.each.yielded) c.each.bodies.items (c.each.invariant run held.own) names

pub finish-requires : goal.finish-requires
finish-requires g c =
    let r = c.requires in
    (r.2, r.3, r.4, all_heard g (goal.at.finish-requires g c).In-None r.0 r.1 r.2 r.3 r.5 r.6 r.7)

pub returns : goal.returns
returns g c =
    let P : g.row.S-Out.Denot → Type 0 = λ out. (w : _) (rank : ℕ) → g.S.Stage.waits c.args.stage w rank → c.each.bodies.items ≡ heard (column (g.S.Stage.says w) rank) (g.S.Stage.ranks_of w) → g.S.Stage.gives w rank out in
    IfOk-weaker c.finish.result P _ (λ out gives run at w rank waits carries held ready. gives w rank waits (all_heard g (goal.at.returns g c).In-None run at w rank carries held ready)) c.finish.ensures
