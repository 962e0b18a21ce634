use Rattle.std.proofs.Common.{refl}
use Rattle.samr_ops.proofs.laws.walks_of_rows.Goals as goal

pub returns : goal.returns
returns c = record { on_j_and_k = refl; on_i_first = refl; from_above = refl; at_a_corner = refl; below_j = refl }
