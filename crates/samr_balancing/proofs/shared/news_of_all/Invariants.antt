use Rattle.std.proofs.Common.{◌≡◌, take}
use Rattle.std.specs.List.{flat_map}
use Rattle.samr_balancing.specs.Shares.{news_in}
use Rattle.samr_balancing.proofs.shared.news_of_all.Given as goal

abbrev pub invariant-loop-one : goal.invariant-loop-one
invariant-loop-one l = l.news.items ≡ flat_map (news_in l.mapping) (take l.one-index l.boxes)
