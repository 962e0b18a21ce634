-- What was tested of levels and widths, and that it is enough for plans.
use Rattle.std.proofs.Common.{◌≡◌, ◌<◌, arith}
use Rattle.std.proofs.lemmas.Int.{ints}
use Rattle.std.specs.Prelude.{pos}
use Rattle.std.specs.List.{All}
use Rattle.std.specs.List.Sorted.{IsStrictlySortedBy}
use Rattle.samr_box.specs.declared.vector.IVec.{IVec}
use Rattle.samr_box.specs.Vector.{alike, times, AtMost, IsRatio}
use Rattle.samr_box.specs.Corners.{IsBox, grown}
use Rattle.samr_box.specs.Space.{IsSpace, finer}
use Rattle.samr_box.proofs.Members.{member_of_All}
use Rattle.samr_level.specs.Refs.{Owned}
use Rattle.samr_level.specs.RefOrders.{ref_cmp}
use Rattle.samr_level.specs.Regions.{IsArea}
use Rattle.samr_level.proofs.FinerAreas.{IsArea-finer}
use Rattle.samr_sched.specs.Ask.{Scheduling}
use Rattle.samr_sched.specs.AskParts.{CanPlan}

pub one_ratio : IsRatio (alike (pos 1))
one_ratio = record {
  low = record { k = omega (arith, ints); j = omega (arith, ints); i = omega (arith, ints) };
  high = record { k = omega (arith, ints); j = omega (arith, ints); i = omega (arith, ints) };
}

pub fit_plan : (w : Scheduling) → IsArea w.region → IsRatio w.ratio → IsRatio w.step → times w.below w.step ≡ w.ratio
    → IsSpace (finer w.region.frame w.ratio) → IsSpace (finer w.region.frame w.below) → IsStrictlySortedBy ref_cmp w.level → IsStrictlySortedBy ref_cmp w.coarser
    → All (λ b. (b.owner < w.ranks) × IsBox b.bx) w.level → All (λ b. (b.owner < w.ranks) × IsBox b.bx) w.coarser
    → All (λ g. AtMost g w.width × All (λ b. IsBox (grown b.bx g)) w.level) w.ghosts → CanPlan w
fit_plan w area ratio step product space space_below sorted sorted_below fits fits_below ghosts =
    let P : Owned → Type 0 = λ b. (b.owner < w.ranks) × IsBox b.bx in
    let Q : IVec → Type 0 = λ g. AtMost g w.width × All (λ b. IsBox (grown b.bx g)) w.level in
    record {
      area = IsArea-finer w.region w.ratio area ratio space;
      space_below = space_below;
      level = sorted;
      coarser = sorted_below;
      not_empty = λ b m. (member_of_All P b w.level fits m).1.order;
      owners = λ b m. (member_of_All P b w.level fits m).0;
      owners_below = λ b m. (member_of_All P b w.coarser fits_below m).0;
      ratio = ratio;
      step = step;
      product = product;
      wide = λ g m. (member_of_All Q g w.ghosts ghosts m).0;
      room = λ g b m n. member_of_All (λ (b : Owned). IsBox (grown b.bx g)) b w.level (member_of_All Q g w.ghosts ghosts m).1 n;
    }
