use Rattle.std.proofs.Common.{◌∙◌, sym, ap, subst, take, ◌+◌}
use Rattle.std.proofs.lemmas.List.{take_all}
use Rattle.std.specs.Prelude.{List}
use Rattle.samr_box.specs.Corners.{Corners}
use Rattle.samr_stage.specs.declared.stage.Held.{Held}
use Rattle.samr_data.specs.Grids.{Grid, IsGrid}
use Rattle.samr_data.specs.declared.parcel.Parcel.{Parcel}
use Rattle.samr_values.specs.Patches.{poured}
use Rattle.std.specs.List.{All}
use Rattle.samr_values.specs.Parcels.{IsParcel, is_told, Tell}
use Rattle.samr_values.specs.Merging.{parcels_with}
use Rattle.samr_values.proofs.Poured.{own_of, letter_of, letter_tells, own_tells, told_more, told_first}
use Rattle.samr_values.proofs.Written.{poured_more, item_member}
use Rattle.samr_values.proofs.coarsened.pour_all.Goals as goal

pub pour-requires : goal.pour-requires
pour-requires c = record { parcels = own_of c.args.own.now c.args.held.now c.requires.parcels }

pub loop-letter-init : goal.loop-letter-init
loop-letter-init c = (
  c.pour.ensures.bx,
  λ v agree.
      c.pour.ensures.values v (own_tells c.args.field c.args.patch.now.bx c.args.own.now c.args.held.now v agree)
      ∙ told_first c.args.patch.now c.args.field c.args.own.now v,
)

pub pour-requires-in-loop-letter : goal.pour-requires-in-loop-letter
pour-requires-in-loop-letter c =
    let q = c.letter-item.result in
    record {
      parcels = subst (λ (l : List Parcel). All IsParcel l) (sym c.as_slice.ensures)
          (letter_of c.args.own.now c.args.held.now q (item_member c.args.held.now c.loop-letter.letter-index q q c.loop-letter-test.true c.letter-item.is) c.requires.parcels);
    }

pub loop-letter-preserved : goal.loop-letter-preserved
loop-letter-preserved c =
    let list = c.args.held.now in
    let i = c.loop-letter.letter-index in
    let q = c.letter-item.result in
    let f = c.args.field in
    let old = c.args.patch.now in
    let before = c.loop-letter.invariant in
    let is = subst (λ (g : Grid). IsGrid g) c.patch.view_is c.patch.invariant in (
      c.pour-in-loop-letter.ensures.bx ∙ before.0,
      λ v agree.
          let m = item_member list i q q c.loop-letter-test.true c.letter-item.is in
          let tells = letter_tells f old.bx c.args.own.now list q v m agree in
          let there = subst (λ (b : Corners). Tell f b q.body v) (sym before.0) tells in
          let step = c.pour-in-loop-letter.ensures.values v (subst (λ (l : List Parcel). Tell f c.loop-letter.patch.bx l v) (sym c.as_slice.ensures) there)
          ∙ ap (λ (l : List Parcel). poured c.loop-letter.patch (is_told f c.loop-letter.patch.bx l) v) c.as_slice.ensures in
          poured_more old c.loop-letter.patch c.pour-in-loop-letter.new.patch (is_told f old.bx (parcels_with c.args.own.now (take i list))) (is_told f c.loop-letter.patch.bx q.body)
          (is_told f old.bx (parcels_with c.args.own.now (take (i + 1) list))) v is (before.1 v agree) step
          (λ x. told_more f old.bx c.loop-letter.patch.bx c.args.own.now list i q x before.0 c.loop-letter-test.true c.letter-item.is),
    )

pub returns-clause-values : goal.returns-clause-values
returns-clause-values c = λ v agree.
    c.loop-letter.invariant.1 v agree
    ∙ ap (λ (l : List (Held (List Parcel))). poured c.args.patch.now (is_told c.args.field c.args.patch.now.bx (parcels_with c.args.own.now l)) v)
    (take_all c.loop-letter.letter-index c.args.held.now c.loop-letter-test.false)
