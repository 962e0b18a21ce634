use Rattle.std.proofs.Common.{◌∙◌, ap, ◌++◌}
use Rattle.std.specs.Prelude.{List}
use Rattle.std.specs.List.{flat_map}
use Rattle.samr_stage.specs.declared.stage.Held.{Held}
use Rattle.samr_load.specs.Pieces.{Placed}
use Rattle.samr_balance.proofs.WayDownStage.{ends}
use Rattle.samr_balance.proofs.way_down.DownStage.finish.Goals as goal

pub returns : goal.returns
returns c = λ w rank is held.
    let s = c.args.self in
    ends s.rank s.ranks s.round s.hand.items s.needs s.quota s.smallest w rank is c.args.held.items held c.from_vec.result
    (c.from_vec.ensures ∙ c.in_ok-pieces.ensures ∙ ap (λ (l : List (Held (List Placed))). s.hand.items ++ flat_map (λ letter. letter.body) l) c.as_slice.ensures.value)
