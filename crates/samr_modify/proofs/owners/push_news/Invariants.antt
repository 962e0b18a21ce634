use Rattle.std.proofs.Common.{◌≡◌, ◌++◌, take}
use Rattle.std.specs.List.{flat_map}
use Rattle.samr_modify.specs.ModifyRow.{owners}
use Rattle.samr_modify.proofs.owners.push_news.Given as goal

abbrev pub invariant-loop-m : goal.invariant-loop-m
invariant-loop-m l = l.out.items ≡ l.fn.out.items ++ flat_map (λ m. owners m.news) (take l.m-index l.moves)
