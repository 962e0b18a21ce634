use Rattle.std.proofs.Common.{ap, ◌∙◌, subst}
use Rattle.std.specs.Prelude.{List}
use Rattle.samr_box.specs.Vector.{AtMost}
use Rattle.samr_box.specs.Corners.{Corners}
use Rattle.samr_sign.specs.Counts.{sign, total}
use Rattle.samr_sign.specs.Fields.{Field, tagged_in}
use Rattle.samr_cluster.proofs.CountLaws.{total_none}
use Rattle.samr_cluster.proofs.counting.no_tags.Goals as goal

pub returns-clause-none : goal.returns-clause-none
returns-clause-none c =
    ap total c.in_ok-s.ensures
    ∙ ap (λ (l : List Field). total (sign (tagged_in l) c.args.node)) (c.as_slice.ensures.value ∙ c.new-fields.ensures.items)
    ∙ total_none c.args.node (subst (λ (b : Corners). AtMost b.lo b.hi) c.node.view_is c.node.invariant.order)
