use Rattle.std.proofs.Common.{◌∙◌, ap, List}
use Rattle.std.specs.Prelude.{map}
use Rattle.samr_level.specs.Blocks.{level0}
use Rattle.samr_level.specs.Refs.{Owned}
use Rattle.samr_level.specs.Regions.{Area}
use Rattle.samr_mesh_plain.proofs.RootFacts.{tiles_are}
use Rattle.samr_mesh_plain.proofs.rooting.tiles.Goals as goal

pub returns : goal.returns
returns c =
    tiles_are c.args.tile c.args.frame c.in_ok-level.level.items c.in_ok-boxes.boxes.items c.requires
    (c.in_ok-level.ensures.value ∙ ap (λ (a : Area). level0 a c.args.tile 1) c.whole-region.ensures)
    (c.in_ok-boxes.ensures ∙ ap (λ (l : List Owned). map (λ o. o.bx) l) c.as_slice.ensures.value)
