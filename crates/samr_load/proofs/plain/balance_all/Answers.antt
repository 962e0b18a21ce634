use Rattle.std.proofs.Common.{◌++◌, ◌∷◌, [], ◌∙◌, ap, map}
use Rattle.std.specs.Prelude.{unsigned_abs}
use Rattle.std.proofs.lemmas.List.{map-append}
use Rattle.samr_load.specs.Descent.{pieces_of}
use Rattle.samr_load.specs.Balanced.{balancing}
use Rattle.samr_load.proofs.PlainSteps.{list_more}
use Rattle.samr_load.proofs.plain.balance_all.Goals as goal

pub loop-rank-preserved : goal.loop-rank-preserved
loop-rank-preserved c =
    let b = balancing c.in_ok-plan.plan.ranks (unsigned_abs c.in_ok-plan.plan.smallest) c.in_ok-plan.plan.boxes in
    list_more (pieces_of b) c.loop-rank.rank (map (λ list. list.items) c.loop-rank.all.items) _ c.loop-rank.invariant
    (ap (map (λ list. list.items)) c.in_ok-push.ensures.items
    ∙ map-append (λ list. list.items) c.loop-rank.all.items (c.in_ok-ends_with.field-0 ∷ [])
    ∙ ap (λ l. map (λ list. list.items) c.loop-rank.all.items ++ l ∷ []) c.in_ok-ends_with.ensures)
