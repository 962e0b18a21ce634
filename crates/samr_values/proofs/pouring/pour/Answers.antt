use Rattle.std.proofs.Common.{◌≡◌, true, [], refl, ◌∙◌, sym, ap, subst, take, ◌+◌}
use Rattle.std.proofs.lemmas.List.{take_all}
use Rattle.std.proofs.lemmas.List.Folds.{list_any_more}
use Rattle.std.specs.Prelude.{Bool, List, ◌&&◌, ◌||◌}
use Rattle.std.specs.List.{list_any}
use Rattle.samr_box.specs.Corners.{Corners, holds}
use Rattle.samr_data.specs.Grids.{Grid, IsGrid}
use Rattle.samr_data.specs.declared.parcel.Parcel.{Parcel}
use Rattle.samr_values.specs.Patches.{poured}
use Rattle.samr_values.specs.Parcels.{has_fine, is_told}
use Rattle.samr_values.proofs.Written.{poured_none, poured_more, item_member}
use Rattle.samr_values.proofs.pouring.pour.Goals as goal

pub loop-q-init : goal.loop-q-init
loop-q-init c = (refl, λ v agree. poured_none c.args.patch.now (is_told c.args.field c.args.patch.now.bx []) v (subst (λ (g : Grid). IsGrid g) c.patch.view_is c.patch.invariant) (λ x. refl))

pub loop-q-preserved : goal.loop-q-preserved
loop-q-preserved c =
    let list = c.args.parcels.now in
    let i = c.loop-q.q-index in
    let q = c.q-item.result in
    let f = c.args.field in
    let old = c.args.patch.now in
    let before = c.loop-q.invariant in
    let is = subst (λ (g : Grid). IsGrid g) c.patch.view_is c.patch.invariant in (
      c.pour_one.ensures.bx ∙ before.0,
      λ v agree.
          let step = c.pour_one.ensures.values v
          (λ x t h. agree q x (item_member list i q q c.loop-q-test.true c.q-item.is) (subst (λ (b : Corners). has_fine f b q ≡ true) before.0 t) h) in
          poured_more old c.loop-q.patch c.pour_one.new.patch (is_told f old.bx (take i list)) (λ x. has_fine f c.loop-q.patch.bx q && holds q.region x)
          (is_told f old.bx (take (i + 1) list)) v is (before.1 v agree) step
          (λ x.
          let has : Parcel → Bool = λ p. has_fine f old.bx p && holds p.region x in
          ap (λ (b : Corners). list_any has (take i list) || (has_fine f b q && holds q.region x)) before.0
          ∙ sym (list_any_more has list i q c.loop-q-test.true ∙ ap (λ (p : Parcel). list_any has (take i list) || has p) (sym c.q-item.is))),
    )

pub returns-clause-values : goal.returns-clause-values
returns-clause-values c = λ v agree.
    c.loop-q.invariant.1 v agree
    ∙ ap (λ (l : List Parcel). poured c.args.patch.now (is_told c.args.field c.args.patch.now.bx l) v) (take_all c.loop-q.q-index c.args.parcels.now c.loop-q-test.false)
