use Rattle.std.proofs.Common.{◌∙◌, ap}
use Rattle.samr_level.specs.Overlaps.{Scale}
use Rattle.samr_bridge.specs.Found.{found_by}
use Rattle.samr_bridge.proofs.search.found.Goals as goal

pub returns : goal.returns
returns c =
    c.settled.ensures ∙ c.in_ok-pairs.ensures ∙ ap (λ (n : Scale). found_by n c.args.to_east.now c.args.to_west.now) c.new-ruler.ensures
