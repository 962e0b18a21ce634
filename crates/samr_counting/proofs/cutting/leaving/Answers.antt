use Rattle.std.proofs.Common.{ap, ◌∙◌}
use Rattle.std.proofs.lemmas.List.{take_all}
use Rattle.std.specs.Prelude.{List}
use Rattle.std.specs.List.{flat_map}
use Rattle.samr_level.specs.Refs.{Link}
use Rattle.samr_modify.specs.Found.{if_leaves}
use Rattle.samr_modify.proofs.Lookups.{leaves_is}
use Rattle.samr_counting.proofs.cutting.leaving.Goals as goal

pub returns : goal.returns
returns c =
    c.loop-e.invariant
    ∙ ap (λ (es : List Link). flat_map (λ e. if_leaves c.args.b e) es) (take_all c.loop-e.e-index c.args.edges.now c.loop-e-test.false)
    ∙ leaves_is c.args.b c.args.edges.now
