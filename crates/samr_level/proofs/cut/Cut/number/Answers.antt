use Rattle.std.proofs.Common.{ap, arith}
use Rattle.samr_level.specs.Cuts.{Cut}
use Rattle.samr_level.proofs.BlockPlaces.{number_fits}
use Rattle.samr_level.proofs.cut.Cut.number.Goals as goal

pub overflow_mul-row : goal.overflow_mul-row
overflow_mul-row c =
    let f = number_fits c.args.self c.args.x c.args.y c.args.z c.along.ensures.whole c.requires.x c.requires.y c.requires.z in
    rw c.along.ensures.value (omega (arith, f))

pub overflow_add-row : goal.overflow_add-row
overflow_add-row c =
    let f = number_fits c.args.self c.args.x c.args.y c.args.z c.along.ensures.whole c.requires.x c.requires.y c.requires.z in
    rw c.along.ensures.value (omega (arith, f))

pub overflow_mul-result : goal.overflow_mul-result
overflow_mul-result c =
    let f = number_fits c.args.self c.args.x c.args.y c.args.z c.along.ensures.whole c.requires.x c.requires.y c.requires.z in
    rw (c.along.ensures.value, c.along-2.ensures.value) (omega (arith, f))

pub overflow_add-result : goal.overflow_add-result
overflow_add-result c =
    let f = number_fits c.args.self c.args.x c.args.y c.args.z c.along.ensures.whole c.requires.x c.requires.y c.requires.z in
    rw (c.along.ensures.value, c.along-2.ensures.value) (omega (arith, f))

pub overflow_add-result-2 : goal.overflow_add-result-2
overflow_add-result-2 c =
    let f = number_fits c.args.self c.args.x c.args.y c.args.z c.along.ensures.whole c.requires.x c.requires.y c.requires.z in
    let first = ap (λ (s : Cut). s.first) c.self.view_is in
    let few = c.along.ensures.whole in
    rw (c.along.ensures.value, c.along-2.ensures.value) (omega (arith, f, first, few.few))

pub returns-clause-below : goal.returns-clause-below
returns-clause-below c =
    let f = number_fits c.args.self c.args.x c.args.y c.args.z c.along.ensures.whole c.requires.x c.requires.y c.requires.z in
    let first = ap (λ (s : Cut). s.first) c.self.view_is in
    rw (c.along.ensures.value, c.along-2.ensures.value) (omega (arith, f, first))
