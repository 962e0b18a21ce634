use Rattle.std.proofs.Common.{◌<◌, sym, subst, arith, length, inl, inr}
use Rattle.std.specs.Prelude.{List, [], ◌∷◌}
use Rattle.std.specs.List.{All}
use Rattle.samr_box.proofs.Members.{member_of_All}
use Rattle.samr_box.specs.Lists.{Member}
use Rattle.samr_level.specs.Refs.{Link}
use Rattle.samr_data.specs.Grids.{Grid}
use Rattle.samr_values.specs.declared.merging.Merge.{Merge}
use Rattle.samr_values.specs.Patches.{AreBased}
use Rattle.samr_values.specs.Coarsen.{IsRefinement}
use Rattle.samr_values.specs.Merging.{CanMerge}
use Rattle.samr_values.proofs.tests.can_merge.Goals as goal

-- what holds of the one member of a list
of_one : (P : Merge → Type 0) (m : Merge) → P m → (n : Merge) → Member n (m ∷ []) → P n
of_one P m h n (inl e) = subst P (sym e) h
of_one P m h n (inr none) = absurd none

one_merge : (m : Merge) (edges : List Link) (fine : List (List Grid)) → 0 < m.modulus → m.field < length fine → AreBased edges fine
    → All (λ (e : Link). IsRefinement m.step e.base.bx) edges → CanMerge (m ∷ []) edges fine
one_merge m edges fine some there based over = record {
  some = of_one (λ (n : Merge). 0 < n.modulus) m some;
  there = of_one (λ (n : Merge). n.field < length fine) m there;
  based = based;
  refinements = λ n e found member. of_one (λ (n : Merge). IsRefinement n.step e.base.bx) m (member_of_All (λ (e : Link). IsRefinement m.step e.base.bx) e edges over member) n found;
}

pub returns : goal.returns
returns c = λ t.
    one_merge c.args.m.now c.args.edges.now c.args.fine.now (omega (arith, c.if-modulus-eq0.false)) (omega (arith, c.from.ensures, c.if-from-fine.false))
    (c.all_based.ensures c.if-not-all_based.false) (c.all_start_over.ensures t)
