use Rattle.std.proofs.Common.{◌∙◌, ap}
use Rattle.samr_level.specs.RefOrders.{edge_cmp, in_order}
use Rattle.samr_bridge.proofs.SearchLaws.{compared_is}
use Rattle.samr_bridge.proofs.search.pairs.Goals as goal

pub returns-then-to_west-gt-MOST : goal.returns-then-to_west-gt-MOST
returns-then-to_west-gt-MOST c = ap (in_order edge_cmp) c.in_ok-pairs.ensures ∙ compared_is c.args.ruler c.args.to_east.now c.args.to_west.now
