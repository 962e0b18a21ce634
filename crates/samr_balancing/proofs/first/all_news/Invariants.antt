use Rattle.std.proofs.Common.{◌≡◌, take}
use Rattle.std.specs.List.{flat_map}
use Rattle.samr_balancing.proofs.first.all_news.Given as goal

abbrev pub invariant-loop-one : goal.invariant-loop-one
invariant-loop-one l = l.boxes.items ≡ flat_map (λ m. m.news) (take l.one-index l.moves)
