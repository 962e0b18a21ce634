use Rattle.std.proofs.Common.{◌∙◌, ap, ◌++◌}
use Rattle.std.specs.Prelude.{List, fold}
use Rattle.std.specs.List.{flat_map}
use Rattle.samr_stage.specs.declared.stage.Held.{Held}
use Rattle.samr_balance.specs.declared.hands.Gift.{Gift}
use Rattle.samr_balance.specs.WayUp.{with_need}
use Rattle.samr_balance.proofs.WayUpStage.{ends}
use Rattle.samr_balance.proofs.way_up.UpStage.finish.Goals as goal

pub returns : goal.returns
returns c = λ w rank is held.
    let s = c.args.self in
    ends s.rank s.ranks s.round s.hand.items s.needs s.quota s.smallest w rank is c.args.held.items held c.from_vec.result c.needs_told-needs.result
    (c.from_vec.ensures ∙ c.in_ok-pieces.ensures ∙ ap (λ (l : List (Held Gift)). s.hand.items ++ flat_map (λ letter. letter.body.pieces) l) c.as_slice-2.ensures.value)
    (c.needs_told-needs.ensures ∙ ap (λ (l : List (Held Gift)). fold with_need s.needs l) c.as_slice.ensures.value)
