use Rattle.std.proofs.Common.{◌∙◌, sym, ap, map, arith}
use Rattle.std.proofs.lemmas.Iterator.Adapters.{YieldsList-from_vec}
use Rattle.std.proofs.lemmas.Iterator.Consumers.{YieldsList-end}
use Rattle.std.proofs.lemmas.List.{map-id, length_push}
use Rattle.std.specs.Prelude.{List}
use Rattle.std.specs.List.{enumerate_from}
use Rattle.samr_data.specs.Grids.{Grid}
use Rattle.samr_values.specs.Patches.{poured}
use Rattle.samr_values.specs.Parcels.{is_told}
use Rattle.samr_values.specs.Merging.{parcels_with}
use Rattle.samr_values.proofs.Poured.{one_more_field}
use Rattle.samr_values.proofs.coarsened.poured_fields.Goals as goal

pub each-preserved : goal.each-preserved
each-preserved c =
    let all = parcels_with c.args.own.now c.args.held.now in
    let before = c.each.invariant in
    let more = length_push c.each.yielded c.in-Some.patches in (
      omega (arith, more, before.0),
      λ values agree.
          one_more_field (λ e. map (λ p. poured p (is_told e.0 p.bx all) (values e.0)) e.1) c.each.yielded c.each.field c.in-Some.patches c.from_vec.result c.each.out.items
          c.push.new.self.items before.0
          (c.from_vec.ensures
          ∙ c.in_ok-new.ensures (values c.each.field) (agree c.each.field)
          ∙ ap (λ (l : List Grid). map (λ p. poured p (is_told c.each.field p.bx all) (values c.each.field)) l) c.into_vec.ensures)
          (before.1 values agree) c.in_ok-push.ensures.items,
    )

pub returns : goal.returns
returns c = λ values agree.
    let all = parcels_with c.args.own.now c.args.held.now in
    let end = YieldsList-end (YieldsList-from_vec c.args.fields.items (cc) (cc)) c.each.yielded c.each.patches-iterator c.each.yielded_by c.next.result c.next.new.self c.in-None.is c.next.ensures.steps in
    c.each.invariant.1 values agree
    ∙ ap (λ (l : List (List Grid)). map (λ e. map (λ p. poured p (is_told e.0 p.bx all) (values e.0)) e.1) (enumerate_from 0 l)) (sym (map-id c.each.yielded) ∙ end.0)
