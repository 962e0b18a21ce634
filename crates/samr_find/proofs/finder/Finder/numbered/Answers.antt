use Rattle.std.proofs.Common.{◌∙◌}
use Rattle.samr_find.proofs.FinderLaws.{kept-places}
use Rattle.samr_find.proofs.finder.Finder.numbered.Goals as goal

pub returns : goal.returns
returns c =
    kept-places c.args.self.now _ c.self.inside.edge c.args.number c.places_in.result.now c.self.view_is c.self.invariant.edge_is
    (c.places_in.ensures ∙ c.self.invariant.buckets c.args.number)
