use Rattle.std.proofs.Common.{◌≡◌, map, sym, ap, ◌∙◌, ◌++◌, ◌∷◌, [], All, subst}
use Rattle.std.proofs.lemmas.Iterator.Adapters.{YieldsList-from_vec}
use Rattle.std.proofs.lemmas.Iterator.Consumers.{YieldsList-turn, YieldsList-end}
use Rattle.std.proofs.lemmas.List.{map_push, map-id}
use Rattle.std.proofs.lemmas.List.Elements.{All-push}
use Rattle.samr_stage.specs.Course.{name_of}
use Rattle.samr_stage.proofs.Carrying.{told_body, sent_told}
use Rattle.samr_stage.proofs.carried.enter_stage.Goals as goal

pub to_letter-requires : goal.to_letter-requires
to_letter-requires g c =
    let w = c.requires.0 in
    let turn = YieldsList-turn (YieldsList-from_vec c.in_ok-told.told.items (cc) (cc)) c.each.yielded c.each.to-iterator c.each.yielded_by c.next.result c.next.new.self (c.in-Some.to, c.in-Some.body) c.in-Some.is c.next.ensures.steps in
    told_body (g.M.Mail.course c.args.run.now) (g.S.Carried.has_body c.args.run.now) c.args.at (g.S.Stage.ranks_of w) (g.S.Stage.says w) c.args.rank c.in_ok-told.told.items _ c.in-Some.to c.in-Some.body c.requires.2 (c.in_ok-told.ensures.letters w c.args.rank c.requires.1) turn.0 turn.1

pub each-preserved : goal.each-preserved
each-preserved g c =
    let letter = c.in_ok-to_letter.field-0 in
    let pushed = c.in_ok-push.ensures.items in
    let name = g.M.Mail.name in
    record {
      names = ap (map name) pushed ∙ map_push name c.each.letters.items letter ∙ ap (λ ns. ns ++ name letter ∷ []) c.each.invariant.names ∙ ap (λ n. map (λ p. name_of c.args.at c.args.rank p.0) c.each.yielded ++ n ∷ []) c.in_ok-to_letter.ensures.name ∙ sym (map_push (λ p. name_of c.args.at c.args.rank p.0) c.each.yielded (c.in-Some.to, c.in-Some.body));
      own = subst (λ ls. All (λ x. g.M.Mail.run x ≡ c.args.run.now) ls) (sym pushed) (All-push (λ x. g.M.Mail.run x ≡ c.args.run.now) c.each.letters.items letter c.each.invariant.own c.in_ok-to_letter.ensures.run);
    }

pub returns-clause-letters : goal.returns-clause-letters
returns-clause-letters g c =
    let w = c.requires.0 in
    let all = YieldsList-end (YieldsList-from_vec c.in_ok-told.told.items (cc) (cc)) c.each.yielded c.each.to-iterator c.each.yielded_by c.next.result c.next.new.self c.in-None.is c.next.ensures.steps in
    let told = sym (map-id c.each.yielded) ∙ all.0 ∙ c.in_ok-told.ensures.letters w c.args.rank c.requires.1 in
    c.each.invariant.names ∙ ap (map (λ p. name_of c.args.at c.args.rank p.0)) told ∙ sent_told (g.M.Mail.course c.args.run.now) (g.S.Carried.has_body c.args.run.now) c.args.at (g.S.Stage.ranks_of w) (g.S.Stage.says w) c.requires.2 c.args.rank
