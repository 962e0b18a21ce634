use Rattle.std.proofs.Common.{◌≡◌, true, [], refl, ◌∙◌, sym, ap, subst, take, ◌+◌}
use Rattle.std.proofs.lemmas.List.{take_all}
use Rattle.std.proofs.lemmas.List.Folds.{list_any_more}
use Rattle.std.specs.Prelude.{Bool, false, List, ◌&&◌, ◌||◌}
use Rattle.std.specs.List.{list_any}
use Rattle.samr_box.specs.Corners.{Corners, Holds, holds}
use Rattle.samr_box.specs.Ratios.{coarse}
use Rattle.samr_data.specs.Grids.{Grid, IsGrid}
use Rattle.samr_data.specs.declared.parcel.Parcel.{Parcel}
use Rattle.samr_values.specs.Patches.{poured}
use Rattle.samr_values.specs.Parcels.{has_coarse, is_told_under}
use Rattle.samr_values.proofs.Written.{poured_none, poured_more, item_member}
use Rattle.samr_values.proofs.pouring.pour_under.Goals as goal

and_none : (b : Bool) → (b && false) ≡ false
and_none true = refl
and_none false = refl

both_or : (h s t : Bool) → ((h && s) || (h && t)) ≡ (h && (s || t))
both_or true s t = refl
both_or false s t = refl

pub loop-q-init : goal.loop-q-init
loop-q-init g c = (
  refl,
  λ v agree.
      poured_none c.args.patch.now (λ x. holds c.args.patch.now.bx x && is_told_under c.args.field c.args.step c.args.patch.now.bx [] x) v
      (subst (λ (p : Grid). IsGrid p) c.patch.view_is c.patch.invariant) (λ x. and_none (holds c.args.patch.now.bx x)),
)

pub pour_one_under-requires-clause-fits : goal.pour_one_under-requires-clause-fits
pour_one_under-requires-clause-fits g c =
    let q = c.q-item.result in
    λ d t h.
    c.requires.fits q d (item_member c.args.parcels.now c.loop-q.q-index q q c.loop-q-test.true c.q-item.is)
    (subst (λ (b : Corners). has_coarse c.args.field b q ≡ true) c.loop-q.invariant.0 t) h

pub loop-q-preserved : goal.loop-q-preserved
loop-q-preserved g c =
    let list = c.args.parcels.now in
    let i = c.loop-q.q-index in
    let q = c.q-item.result in
    let f = c.args.field in
    let step = c.args.step in
    let old = c.args.patch.now in
    let before = c.loop-q.invariant in
    let is = subst (λ (p : Grid). IsGrid p) c.patch.view_is c.patch.invariant in (
      c.pour_one_under.ensures.bx ∙ before.0,
      λ v agree.
          let one = c.pour_one_under.ensures.values v
          (λ x t h k. agree q x (item_member list i q q c.loop-q-test.true c.q-item.is) (subst (λ (b : Corners). has_coarse f b q ≡ true) before.0 t) (subst (λ (b : Corners). Holds b x) before.0 h) k) in
          poured_more old c.loop-q.patch c.pour_one_under.new.patch (λ x. holds old.bx x && is_told_under f step old.bx (take i list) x)
          (λ x. holds c.loop-q.patch.bx x && (has_coarse f c.loop-q.patch.bx q && holds q.region (coarse x step)))
          (λ x. holds old.bx x && is_told_under f step old.bx (take (i + 1) list) x) v is (before.1 v agree) one
          (λ x.
          let has : Parcel → Bool = λ p. has_coarse f old.bx p && holds p.region (coarse x step) in
          ap (λ (b : Corners). (holds old.bx x && list_any has (take i list)) || (holds b x && (has_coarse f b q && holds q.region (coarse x step)))) before.0
          ∙ both_or (holds old.bx x) (list_any has (take i list)) (has q)
          ∙ ap (λ (b : Bool). holds old.bx x && b) (sym (list_any_more has list i q c.loop-q-test.true ∙ ap (λ (p : Parcel). list_any has (take i list) || has p) (sym c.q-item.is)))),
    )

pub returns-clause-values : goal.returns-clause-values
returns-clause-values g c = λ v agree.
    c.loop-q.invariant.1 v agree
    ∙ ap (λ (l : List Parcel). poured c.args.patch.now (λ x. holds c.args.patch.now.bx x && is_told_under c.args.field c.args.step c.args.patch.now.bx l x) v) (take_all c.loop-q.q-index c.args.parcels.now c.loop-q-test.false)
