use Rattle.std.proofs.Common.{◌≡◌, take, map}
use Rattle.samr_cluster.proofs.cluster_on_all.all_boxes.Given as goal

abbrev pub invariant-loop-own : goal.invariant-loop-own
invariant-loop-own l = l.boxes.items ≡ map (λ l. map (λ f. f.bx) l) (take l.own-index l.fields)
