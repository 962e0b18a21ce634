use Rattle.std.proofs.Common.{ap, ◌∙◌, ◌++◌, map}
use Rattle.std.specs.Prelude.{List}
use Rattle.std.specs.List.{flat_map}
use Rattle.samr_stage.specs.declared.stage.Held.{Held}
use Rattle.samr_level.specs.Refs.{Owned}
use Rattle.samr_level.specs.RefOrders.{ref_cmp}
use Rattle.samr_level.specs.declared.parts.Move.{Move}
use Rattle.samr_load.specs.Pieces.{Placed, sorted}
use Rattle.samr_balance.specs.HomeRow.{Cutting, told_on, kept_on}
use Rattle.samr_balance.proofs.HomeStage.{ends}
use Rattle.samr_balance.proofs.HomeLaws.{homed_laws}
use Rattle.samr_balance.proofs.home.HomeStage.finish.Goals as goal

pub returns : goal.returns
returns c = λ w rank is held.
    let s = c.args.self in
    let line : List Placed → List (Held (List Cutting)) → Owned → Move = λ ps hs old.
    let m : Move = record { old = old; news = sorted ref_cmp (kept_on old s.rank ps ++ flat_map (λ (l : Held (List Cutting)). told_on old l.sender l.body) hs) } in m in
    homed_laws w is.homes rank is.within _
    (ends s.rank s.ranks s.pieces.items s.olds.items w rank is c.args.held.items held c.from_vec.result c.from_vec-2.result c.from_vec.ensures
    (c.from_vec-2.ensures ∙ c.in_ok-entries.ensures
    ∙ ap (λ (l : List Owned). map (line c.as_slice-2.result.now c.as_slice-3.result.now) l) c.as_slice.ensures.value
    ∙ ap (λ (l : List Placed). map (line l c.as_slice-3.result.now) s.olds.items) c.as_slice-2.ensures.value
    ∙ ap (λ (l : List (Held (List Cutting))). map (line s.pieces.items l) s.olds.items) c.as_slice-3.ensures.value))
