use Rattle.std.proofs.Common.{◌∙◌, sym, ap, map}
use Rattle.std.proofs.lemmas.Iterator.Adapters.{YieldsList-from_vec}
use Rattle.std.proofs.lemmas.Iterator.Consumers.{YieldsList-end}
use Rattle.std.proofs.lemmas.List.{map-id}
use Rattle.std.specs.Prelude.{List}
use Rattle.samr_data.specs.Grids.{Grid}
use Rattle.samr_values.specs.Patches.{poured}
use Rattle.samr_values.specs.Parcels.{is_told}
use Rattle.samr_values.specs.Merging.{parcels_with}
use Rattle.samr_values.proofs.Poured.{one_more_patch}
use Rattle.samr_values.proofs.coarsened.poured_field.Goals as goal

pub each-preserved : goal.each-preserved
each-preserved c = λ v agree.
    let all = parcels_with c.args.own.now c.args.held.now in
    one_more_patch (λ p. poured p (is_told c.args.field p.bx all) v) c.each.yielded c.in-Some.patch c.pour_all.new.patch c.each.out.items c.push.new.self.items
    (c.pour_all.ensures.values v (agree c.in-Some.patch.bx)) (c.each.invariant v agree) c.in_ok-push.ensures.items

pub returns : goal.returns
returns c = λ v agree.
    let all = parcels_with c.args.own.now c.args.held.now in
    let end = YieldsList-end (YieldsList-from_vec c.args.patches.items (cc) (cc)) c.each.yielded c.each.patch-iterator c.each.yielded_by c.next.result c.next.new.self c.in-None.is c.next.ensures.steps in
    c.each.invariant v agree ∙ ap (λ (l : List Grid). map (λ p. poured p (is_told c.args.field p.bx all) v) l) (sym (map-id c.each.yielded) ∙ end.0)
