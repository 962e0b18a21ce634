use Rattle.std.proofs.Common.{◌≡◌, ap, sym, ◌∙◌, ◌++◌, map}
use Rattle.std.proofs.lemmas.Iterator.Adapters.{YieldsList-from_vec}
use Rattle.std.proofs.lemmas.Iterator.Consumers.{YieldsList-end}
use Rattle.std.proofs.lemmas.List.{map-id}
use Rattle.std.specs.Prelude.{List, [], ◌∷◌}
use Rattle.samr_stage.specs.declared.stage.Held.{Held}
use Rattle.samr_level.proofs.Steps.{map_append}
use Rattle.samr_sched.specs.declared.plan.Request.{Request}
use Rattle.samr_sched.specs.declared.plan.Asked.{Asked}
use Rattle.samr_sched.proofs.asking.others_of.Goals as goal

abbrev kept : Held (List Request) → Asked
kept h = record { rank = h.sender; requests = h.body }

pub each-preserved : goal.each-preserved
each-preserved c =
    c.in_ok-push.ensures.items ∙ ap (λ (l : List Asked). l ++ kept c.in-Some.letter ∷ []) c.each.invariant
    ∙ sym (map_append kept c.each.yielded (c.in-Some.letter ∷ []))

pub returns : goal.returns
returns c =
    let end = YieldsList-end (YieldsList-from_vec c.args.held.items (cc) (cc)) c.each.yielded c.each.letter-iterator c.each.yielded_by c.next.result c.next.new.self c.in-None.is c.next.ensures.steps in
    let all : c.each.yielded ≡ c.args.held.items = sym (map-id c.each.yielded) ∙ end.0 in
    c.each.invariant ∙ ap (map kept) all
