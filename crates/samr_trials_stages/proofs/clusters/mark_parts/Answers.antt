use Rattle.std.proofs.Common.{◌≡◌, ◌∙◌, refl, sym, ap, take, ◌+◌}
use Rattle.std.proofs.lemmas.List.{take_all}
use Rattle.std.proofs.lemmas.List.Folds.{list_any_more}
use Rattle.std.specs.Prelude.{Bool, true, false, List, ◌&&◌, ◌||◌}
use Rattle.std.specs.List.{list_any}
use Rattle.samr_box.specs.Corners.{Corners, holds}
use Rattle.samr_sign.specs.Fields.{tagged}
use Rattle.samr_trials_stages.proofs.clusters.mark_parts.Goals as goal

one_more : (h p any old : Bool) → ((h && p) || ((h && any) || old)) ≡ ((h && (any || p)) || old)
one_more false p any old = refl
one_more true true true old = refl
one_more true true false old = refl
one_more true false true old = refl
one_more true false false old = refl

goes_on : (h p any more old mid new : Bool) → mid ≡ ((h && any) || old) → new ≡ ((h && p) || mid) → more ≡ (any || p) → new ≡ ((h && more) || old)
goes_on h p any more old mid new before now sum =
    now ∙ ap (λ (v : Bool). (h && p) || v) before ∙ one_more h p any old ∙ ap (λ (v : Bool). (h && v) || old) (sym sum)

starts : (h old : Bool) → old ≡ ((h && false) || old)
starts true old = refl
starts false old = refl

pub loop-spot-preserved : goal.loop-spot-preserved
loop-spot-preserved c =
    let spots = c.args.spots.now in
    let i = c.loop-spot.spot-index in
    let spot = c.spot-item.result in
    let before = c.loop-spot.invariant in (
      c.mark_part.ensures.bx ∙ before.0,
      λ x.
          let has : Corners → Bool = λ s. holds s x in
          goes_on (holds c.args.field.now.bx x) (has spot) (list_any has (take i spots)) (list_any has (take (i + 1) spots))
          (tagged c.args.field.now x) (tagged c.loop-spot.field x) (tagged c.mark_part.new.field x)
          (before.1 x)
          (c.mark_part.ensures.cells x ∙ ap (λ (b : Corners). (holds b x && has spot) || tagged c.loop-spot.field x) before.0)
          (list_any_more has spots i spot c.loop-spot-test.true ∙ ap (λ (s : Corners). list_any has (take i spots) || has s) (sym c.spot-item.is)),
    )

pub returns-clause-cells : goal.returns-clause-cells
returns-clause-cells c = λ x.
    let has : Corners → Bool = λ s. holds s x in
    c.loop-spot.invariant.1 x
    ∙ ap (λ (l : List Corners). (holds c.args.field.now.bx x && list_any has l) || tagged c.args.field.now x) (take_all c.loop-spot.spot-index c.args.spots.now c.loop-spot-test.false)
