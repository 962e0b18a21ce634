use Rattle.std.proofs.lemmas.List.Filters.{dedup_is}
use Rattle.samr_verify.proofs.NearbyLaws.{near_is}
use Rattle.samr_verify.proofs.nearby.near_places.Goals as goal

pub returns : goal.returns
returns c =
    near_is c.args.reach.now c.args.shifts.now c.args.all.now c.args.a c.in_ok-places.places.items c.sort_unstable.new.self.items c.dedup.new.self.items
    c.in_ok-places.ensures c.sort_unstable.ensures.permutation c.sort_unstable.ensures.sorted (dedup_is _ _ _ c.dedup.ensures.filtered)
