use Rattle.std.proofs.Common.{◌≡◌, take, filter}
use Rattle.samr_rounds.specs.Owners.{own_tags}
use Rattle.samr_sign.specs.Fields.{tagged}
use Rattle.samr_mesh_plain.proofs.owners.own_tags.Given as goal

abbrev pub invariant-loop-x : goal.invariant-loop-x
invariant-loop-x l = l.own.items ≡ filter (own_tags (tagged l.fn.tags) l.fn.level l.fn.rank) (take l.x-index l.cells)
