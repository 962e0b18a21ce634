use Rattle.std.proofs.Common.{◌≡◌, ◌∙◌, sym, subst}
use Rattle.std.proofs.lemmas.Iterator.Adapters.{YieldsList-from_vec}
use Rattle.std.proofs.lemmas.Iterator.Consumers.{YieldsList-end}
use Rattle.std.proofs.lemmas.List.{map-id}
use Rattle.std.specs.Prelude.{List}
use Rattle.samr_sign.specs.Fields.{Field}
use Rattle.samr_tags.specs.CoverParts.{is_needed, AreAdded}
use Rattle.samr_tags.proofs.CoverStage.{added_more}
use Rattle.samr_tags.proofs.needs.mark_fields.Goals as goal

pub loop-field-preserved : goal.loop-field-preserved
loop-field-preserved c =
    added_more c.loop-field.yielded c.loop-field.marked.items c.push.new.self.items c.in-Some.field c.mark_field.result (is_needed c.args.own.now c.args.held.now)
    c.loop-field.invariant c.mark_field.ensures.bx c.mark_field.ensures.cells c.in_ok-push.ensures.items

pub returns : goal.returns
returns c =
    let end = YieldsList-end (YieldsList-from_vec c.args.fields.items (cc) (cc)) c.loop-field.yielded c.loop-field.field-iterator c.loop-field.yielded_by c.next.result c.next.new.self c.in-None.is c.next.ensures.steps in
    let all : c.loop-field.yielded ≡ c.args.fields.items = sym (map-id c.loop-field.yielded) ∙ end.0 in
    let K : List Field → Type 0 = λ fs. AreAdded fs c.loop-field.marked.items (is_needed c.args.own.now c.args.held.now) in
    subst K all c.loop-field.invariant
