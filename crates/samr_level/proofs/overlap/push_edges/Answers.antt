use Rattle.std.proofs.Common.{map, filter}
use Rattle.samr_level.specs.Refs.{link}
use Rattle.samr_level.specs.Overlaps.{is_true}
use Rattle.samr_level.proofs.Steps.{flat_map_on}
use Rattle.samr_level.proofs.overlap.push_edges.Goals as goal

pub loop-b-preserved : goal.loop-b-preserved
loop-b-preserved c =
    flat_map_on c.args.heads.now c.loop-b.b-index c.b-item.result c.loop-b-test.true c.b-item.is
    (λ b. filter (λ e. is_true c.args.ruler.now e) (map (λ s. link c.args.a b s) c.args.shifts.now)) _ _ _
    c.loop-b.invariant c.in_ok-push_images.ensures
