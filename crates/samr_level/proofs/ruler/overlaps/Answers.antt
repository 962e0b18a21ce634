use Rattle.samr_level.proofs.Reaches.{near-means, reach-not_negative}
use Rattle.samr_level.specs.Overlaps.{IsScale, scale_in}
use Rattle.samr_level.proofs.ruler.overlaps.Goals as goal

pub returns-clause-cells : goal.returns-clause-cells
returns-clause-cells c =
    let n = scale_in c.args.finer.now c.args.width c.args.base_ratio c.args.head_ratio in
    let scaled : IsScale n = rw c.new-ruler.ensures at c.near.ensures.scale in
    rw (c.near.ensures.value, c.new-ruler.ensures)
    (λ wide. near-means n c.args.a c.args.b c.args.s scaled.base scaled.head
    (reach-not_negative c.args.finer.now c.args.width c.args.base_ratio c.args.head_ratio scaled wide)
    c.near.ensures.boxes.0.order c.near.ensures.boxes.1.order)
