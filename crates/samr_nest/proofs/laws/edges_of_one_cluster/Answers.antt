use Rattle.samr_nest.proofs.Callers.{edges_of_one}
use Rattle.samr_nest.proofs.laws.edges_of_one_cluster.Goals as goal

pub returns : goal.returns
returns c = λ n clusters level rank cluster starts_at p q member own tests. edges_of_one n clusters level rank cluster starts_at p q member own tests
