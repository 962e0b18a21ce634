use Rattle.std.proofs.Common.{ℕ, List, [], ◌∷◌, arith, ◌++◌, map, sym, ap, ◌∙◌, append_assoc}
use Rattle.std.specs.List.{range_with_len}
use Rattle.std.proofs.lemmas.List.FromFn.{map-range_with_len_more}
use Rattle.samr_world.specs.declared.event.Event.{Event}
use Rattle.samr_world.specs.declared.event.Event.TheVariants.{Repeat}
use Rattle.samr_world.proofs.traffic.add_repeats.Goals as goal

pub loop-place-preserved : goal.loop-place-preserved
loop-place-preserved c =
    let event : ℕ → Event = λ place. Repeat place in
    let place = c.loop-place.place in
    let before = c.args.events.now.items in
    c.in_ok-push.ensures.items
    ∙ ap (λ (es : List Event). es ++ event place ∷ []) c.loop-place.invariant
    ∙ append_assoc before (map event (range_with_len 0 place)) (event place ∷ [])
    ∙ ap (λ (es : List Event). before ++ es) (sym (map-range_with_len_more event 0 place place (omega arith)))
