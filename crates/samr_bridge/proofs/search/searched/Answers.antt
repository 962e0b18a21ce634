use Rattle.std.proofs.Common.{◌∙◌, ap, sym, subst}
use Rattle.std.specs.Prelude.{List, All}
use Rattle.samr_box.specs.Corners.{Corners, IsBox}
use Rattle.samr_level.specs.RefOrders.{edge_cmp, in_order}
use Rattle.samr_bridge.proofs.SearchLaws.{searched_is}
use Rattle.samr_bridge.proofs.search.searched.Goals as goal

pub returns : goal.returns
returns c =
    let is = c.in_ok-heads-2.ensures in
    ap (in_order edge_cmp) c.in_ok-pairs.ensures
    ∙ searched_is c.args.ruler c.args.to_east.now c.args.to_west.now _ _ (is ∙ c.in_ok-heads.ensures.heads)
    (subst (λ (l : List Corners). All IsBox l) (sym is) c.in_ok-heads.ensures.boxes) c.requires.ratio c.in_ok-shifts.ensures
