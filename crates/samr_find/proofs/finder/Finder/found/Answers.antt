use Rattle.std.proofs.lemmas.List.Filters.{dedup_is}
use Rattle.samr_find.proofs.FinderLaws.{found-is}
use Rattle.samr_find.proofs.finder.Finder.found.Goals as goal

pub returns : goal.returns
returns c =
    found-is c.args.self.now _ c.self.inside.edge c.args.b c.in_ok-places.places.items c.sort_unstable.new.self.items c.dedup.new.self.items c.self.view_is c.self.invariant.edge_is
    c.self.invariant.lengths c.self.invariant.whole c.near.ensures.whole c.in_ok-places.ensures.places c.sort_unstable.ensures.permutation c.sort_unstable.ensures.sorted
    (dedup_is _ _ _ c.dedup.ensures.filtered)
