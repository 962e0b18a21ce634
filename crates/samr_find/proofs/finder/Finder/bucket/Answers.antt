use Rattle.std.proofs.Common.{◌∙◌, ap, sym, subst}
use Rattle.samr_box.specs.Corners.{holds}
use Rattle.samr_box.specs.Ratios.{coarse, coarsened}
use Rattle.samr_find.specs.Places.{IsEdge, edge_of, places_of}
use Rattle.samr_find.proofs.FinderLaws.{bucket-is}
use Rattle.samr_find.proofs.finder.Finder.bucket.Goals as goal

pub returns : goal.returns
returns c =
    let boxes = c.args.self.now in
    let number = c.number_of.ensures ∙ ap (λ e. coarse c.args.at e) c.edge.ensures.value in
    c.numbered.ensures ∙ ap (λ n. places_of (λ a. holds (coarsened a (edge_of boxes)) n) boxes) number
    ∙ sym (bucket-is boxes c.args.at (subst (λ e. IsEdge e) c.edge.ensures.value c.edge.ensures.edge))
