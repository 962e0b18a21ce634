-- The clusters of a rank are the bases of its overlaps with the level.
use Rattle.std.proofs.Common.{◌≡◌, ℕ, true, sym, subst, filter, nat_eq, map}
use Rattle.std.specs.Prelude.{pos, List}
use Rattle.std.proofs.lemmas.Bool.{eqb-true, eq-eqb}
use Rattle.std.proofs.lemmas.List.Kept.{IsStrictlySortedBy-filter}
use Rattle.samr_box.specs.declared.vector.IVec.{IVec}
use Rattle.samr_box.specs.Vector.{alike, AtMost}
use Rattle.samr_box.specs.Corners.{Holds}
use Rattle.samr_box.specs.Lists.{Member}
use Rattle.samr_box.proofs.Members.{Member-map, Member-from_map, Member-filter, Member-from_filter}
use Rattle.samr_box.proofs.Vectors.{AtMost-trans}
use Rattle.samr_level.specs.Levels.{own}
use Rattle.samr_level.specs.Overlaps.{Scale, scale, true_overlaps, IsTrueOverlap}
use Rattle.samr_level.specs.Refs.{Owned, Link}
use Rattle.samr_level.specs.RefOrders.{ref_cmp, in_order}
use Rattle.samr_level.proofs.Overlapping.{Member-overlaps, Member-from_overlaps, Member-of_rank, Member-from_of_rank, zero_shift}
use Rattle.samr_level.proofs.RefLaws.{ref_total, same_from_ref_cmp}
use Rattle.samr_level.proofs.Sorting.{in_order_is}
use Rattle.samr_modify.specs.Modify.{old_pair}
use Rattle.samr_problem.specs.Fields.{Fields}
use Rattle.samr_rounds.proofs.Covering.{cluster_is}
use Rattle.samr_rounds.proofs.LevelLaws.{level_has}
use Rattle.samr_tags.proofs.Spots.{tally_some}
use Rattle.samr_values.proofs.Under.{near_same}
use Rattle.samr_mesh.specs.Domains.{area_of, ratio_to, roots_at}
use Rattle.samr_mesh.specs.Passes.{Pass, tags_in, rule_of, clusters_of}
use Rattle.samr_mesh.specs.Soundness.{CanRun}
use Rattle.samr_mesh.proofs.Passing.{clusters_are, tagged_cell}
use Rattle.samr_wholes.specs.Wholes.{modifying}

module _ (p : Fields) (w : Pass) (run : CanRun p w) where
  -- each cluster has a tagged cell
  tagged_in : (c : Owned) → Member c (clusters_of p w) → (x : IVec) × Holds c.bx x × (tags_in p w x ≡ true)
  unfolding clusters_of
  tagged_in c m =
      let there = ((level_has (tags_in p w) (rule_of p) (roots_at p w.number) w.level w.ranks c).0 m).0 in
      let some = (cluster_is (tags_in p w) (rule_of p) (roots_at p w.number) c.bx run.can.roots.nodes there).1 in
      tally_some (tags_in p w) c.bx ((clusters_are p w run).not_empty c m) some

  clusters_scale : Scale
  clusters_scale = scale (area_of p).frame p.width (ratio_to p w.number) (ratio_to p w.number)

  low : AtMost (alike (pos 0)) p.width
  low = AtMost-trans run.can.buffer run.can.buffer_width

  has_edge : (r : ℕ) (c : Owned) → Member c (clusters_of p w) → c.owner ≡ r → Member c (map (λ (e : Link). e.base) (old_pair (modifying p w) r).back.edges)
  unfolding clusters_scale
  has_edge r c m is_own =
      let (x, hx, t) = tagged_in c m in
      let (b, mb, hb) = tagged_cell p w run x t in
      let e : Link = record { base = c; head = b; shift = alike (pos 0) } in
      let all = true_overlaps clusters_scale (clusters_of p w) w.level in
      let overlap : IsTrueOverlap clusters_scale (clusters_of p w) w.level e = record {
        is_base = m;
        is_head = mb;
        is_shift = zero_shift (area_of p).frame.periodic;
        is_near = near_same (area_of p).frame p.width (ratio_to p w.number) c.bx b.bx x run.can.here.ratio low ((clusters_are p w run).not_empty c m) (run.is_level.not_empty b mb) hx hb;
      } in
      Member-map (λ (e : Link). e.base) e (old_pair (modifying p w) r).back.edges (Member-of_rank r all e (Member-overlaps clusters_scale (clusters_of p w) w.level e overlap) is_own)

  from_edge : (r : ℕ) (c : Owned) → Member c (map (λ (e : Link). e.base) (old_pair (modifying p w) r).back.edges) → Member c (clusters_of p w) × (c.owner ≡ r)
  unfolding clusters_scale
  from_edge r c m =
      let (e, there, same) = Member-from_map (λ (e : Link). e.base) c (old_pair (modifying p w) r).back.edges m in
      let of = Member-from_of_rank r (true_overlaps clusters_scale (clusters_of p w) w.level) e there in
      let base = (Member-from_overlaps clusters_scale (clusters_of p w) w.level e of.0).is_base in
      (subst (λ (v : Owned). Member v (clusters_of p w)) (sym same) base, subst (λ (v : Owned). v.owner ≡ r) (sym same) of.1)

  pub own_clusters_are : (r : ℕ) (edges : List Link) → edges ≡ (old_pair (modifying p w) r).back.edges → in_order ref_cmp (map (λ (e : Link). e.base) edges) ≡ own r (clusters_of p w)
  unfolding own
  own_clusters_are r edges same =
      let mine : Owned → _ = λ b. nat_eq b.owner r in
      subst (λ (es : List Link). in_order ref_cmp (map (λ (e : Link). e.base) es) ≡ filter mine (clusters_of p w)) (sym same)
      (sym (in_order_is ref_total same_from_ref_cmp (map (λ (e : Link). e.base) (old_pair (modifying p w) r).back.edges) (filter mine (clusters_of p w))
      (IsStrictlySortedBy-filter ref_cmp mine (clusters_of p w) (clusters_are p w run).in_order)
      (λ z m. let (there, is_own) = Member-from_filter mine z (clusters_of p w) m in has_edge r z there (eqb-true z.owner r is_own))
      (λ z m. let (there, is_own) = from_edge r z m in Member-filter mine z (clusters_of p w) there (eq-eqb z.owner r is_own))))
