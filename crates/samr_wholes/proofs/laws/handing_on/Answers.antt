-- The law 'handing_on'.
use Rattle.std.proofs.Common.{refl}
use Rattle.samr_mesh.specs.Passes.{clusters_of}
use Rattle.samr_mesh.proofs.Passing.{cluster_room}
use Rattle.samr_mesh.proofs.Scaling.{nest_at}
use Rattle.samr_wholes.proofs.CoverRooms.{rooms}
use Rattle.samr_wholes.proofs.PassedOn.{tags_on, tags_alone, cluster_inside, cluster_edges, pairs_refined}
use Rattle.samr_wholes.proofs.laws.handing_on.Goals as goal

pub returns-clause-rooms : goal.returns-clause-rooms
returns-clause-rooms c = λ p w rank run above. rooms p w run above rank

pub returns-clause-tags : goal.returns-clause-tags
returns-clause-tags c = λ p w rank fields. (λ h. tags_on p w rank fields h, λ none h. tags_alone p w rank fields none h)

pub returns-clause-cuts : goal.returns-clause-cuts
returns-clause-cuts c = λ p w cluster run m.
    (cluster_inside p w run cluster m, nest_at p w.number run.can, cluster_room p w run cluster m, λ rank starts_at own tests. cluster_edges p w run cluster m rank starts_at own tests)

pub returns-clause-pairs : goal.returns-clause-pairs
returns-clause-pairs c = λ p w rank run. pairs_refined p w run rank

pub returns-clause-edges : goal.returns-clause-edges
unfolding clusters_of
returns-clause-edges c = λ p w rank. refl
