-- The steps of `sum_about`.
use Rattle.std.proofs.Common.{◌==◌}
use Rattle.samr_values.proofs.Faces.{i_back, i_ahead, j_back, j_ahead, k_back, k_ahead, not_two}
use Rattle.samr_values.proofs.update.sum_about.Goals as goal

pub sum_along-requires-clause-back : goal.sum_along-requires-clause-back
sum_along-requires-clause-back c = c.requires.about _ (i_back (c.args.dim == 2) c.args.x)

pub sum_along-requires-clause-ahead : goal.sum_along-requires-clause-ahead
sum_along-requires-clause-ahead c = c.requires.about _ (i_ahead (c.args.dim == 2) c.args.x)

pub sum_along-requires-2-clause-back : goal.sum_along-requires-2-clause-back
sum_along-requires-2-clause-back c = c.requires.about _ (j_back (c.args.dim == 2) c.args.x)

pub sum_along-requires-2-clause-ahead : goal.sum_along-requires-2-clause-ahead
sum_along-requires-2-clause-ahead c = c.requires.about _ (j_ahead (c.args.dim == 2) c.args.x)

pub sum_along-requires-3-clause-back : goal.sum_along-requires-3-clause-back
sum_along-requires-3-clause-back c = c.requires.about _ (k_back (c.args.dim == 2) c.args.x (not_two c.args.dim c.if-dim-eq2.false))

pub sum_along-requires-3-clause-ahead : goal.sum_along-requires-3-clause-ahead
sum_along-requires-3-clause-ahead c = c.requires.about _ (k_ahead (c.args.dim == 2) c.args.x (not_two c.args.dim c.if-dim-eq2.false))
