use Rattle.std.proofs.Common.{◌<◌, arith, length, map}
use Rattle.std.specs.Prelude.{List, [], ◌∷◌}
use Rattle.std.specs.List.Sorted.{IsStrictlySortedBy}
use Rattle.samr_box.specs.Orders.{corner_cmp}
use Rattle.samr_box.specs.Lists.{Member}
use Rattle.samr_box.proofs.Ascending.{sorted-nil, sorted-cons}
use Rattle.samr_box.proofs.Members.{member_of_All}
use Rattle.samr_level.specs.Refs.{Link}
use Rattle.samr_data.specs.Grids.{Grid}
use Rattle.samr_values.proofs.tests.is_based.Goals as goal

-- a list of one box at most is in order
in_order : (field : List Grid) → ((1 < length field) → ⊥) → IsStrictlySortedBy corner_cmp (map (λ p. p.bx) field)
in_order [] few = sorted-nil corner_cmp
in_order (p ∷ []) few = sorted-cons corner_cmp p.bx [] (λ y m. absurd m) (sorted-nil corner_cmp)
in_order (p ∷ q ∷ field) few = absurd (few (omega arith))

pub returns : goal.returns
returns c = λ t. record {
  order = in_order c.args.patches.now (λ many. absurd (omega (arith, many, c.if-patches-gt1.false)));
  there = λ e m. member_of_All (λ (e : Link). Member e.base.bx (map (λ p. p.bx) c.args.patches.now)) e c.args.edges.now (c.all_start.ensures t) m;
}
