-- The cut of the clusters of a pass, the balance of what is left, and the new level.
use Rattle.std.proofs.Common.{◌≡◌, ℕ, suc, ◌^◌, ◌<◌, ◌≤◌, sym, ap, subst, ◌∙◌, length, get_or, arith}
use Rattle.std.proofs.lemmas.Int.{ints, to_z-of_z}
use Rattle.std.proofs.Common.{to_z, of_z}
use Rattle.std.specs.Int.{w64}
use Rattle.std.proofs.lemmas.Bool.{and_parts}
use Rattle.std.proofs.lemmas.List.{get_or-map, length-map}
use Rattle.std.proofs.lemmas.List.Folds.{flat_map-map}
use Rattle.std.proofs.lemmas.List.FromFn.{get_or-map-range_with_len, length-map-range_with_len}
use Rattle.std.specs.Prelude.{ℤ, FitsSigned, pos, ◌≤ℤ◌, IsTrue, unsigned_abs, List, [], ◌∷◌, map, slice_index_or}
use Rattle.std.specs.List.{All, flat_map, range_with_len}
use Rattle.samr_box.specs.declared.vector.IVec.{IVec}
use Rattle.samr_box.specs.Vector.{alike, IsRatio, InRange}
use Rattle.samr_box.specs.Corners.{IsBox, Holds, holds_box, grown}
use Rattle.samr_box.specs.Ratios.{refined}
use Rattle.samr_box.specs.Space.{whole}
use Rattle.samr_box.specs.Lists.{Member}
use Rattle.samr_box.proofs.CellSets.{Holds-lo, Holds-hi, holds_box-means}
use Rattle.samr_box.proofs.Members.{All-from_members, Member-map}
use Rattle.samr_box.proofs.Vectors.{AtMost-refl}
use Rattle.samr_level.specs.declared.parts.Move.{Move}
use Rattle.samr_level.specs.Refs.{Owned, Link}
use Rattle.samr_level.specs.RefOrders.{ref_cmp, in_order}
use Rattle.samr_level.specs.Neighbours.{IsWidth}
use Rattle.samr_level.specs.Overlaps.{scale_in, true_overlaps}
use Rattle.samr_load.specs.Balanced.{cells_in}
use Rattle.samr_nest.specs.Nested.{cut_of, AreEdgesTo}
use Rattle.samr_nest.proofs.StayLaws.{cell_of_frame}
use Rattle.samr_problem.specs.Fields.{Fields}
use Rattle.samr_problem.specs.Problems.{IsProblem}
use Rattle.samr_problem.specs.Values.{is_within}
use Rattle.samr_mesh.specs.Domains.{step_of, area_at, frame_at}
use Rattle.samr_mesh.specs.Passes.{Pass, clusters_of, cuts_of, cut_level, pieces_of, new_level}
use Rattle.samr_level.specs.Refined.{refined_box}
use Rattle.samr_mesh.proofs.CellBounds.{few_cells}
use Rattle.samr_mesh.proofs.Passing.{in_frame, cluster_home, cluster_room, cluster_box, cut_are, passed}
use Rattle.samr_mesh.proofs.Regions.{le_true}
use Rattle.samr_mesh.proofs.Scaling.{nest_at, space_of}
use Rattle.samr_mesh_plain.specs.Making.{CanMake}
use Rattle.samr_mesh_plain.proofs.LevelFacts.{can_run}

-- numbers of the problem
pub some_largest : (p : Fields) → IsProblem p → pos 1 ≤ℤ p.largest
unfolding is_within
some_largest p is = le_true (pos 1) p.largest (and_parts _ _ is.largest).0

pub some_smallest : (p : Fields) → IsProblem p → pos 1 ≤ℤ p.smallest
unfolding is_within
some_smallest p is = le_true (pos 1) p.smallest (and_parts _ _ is.smallest).0

-- as it is kept in 64 bits
smallest_fits : (p : Fields) → IsProblem p → FitsSigned w64 p.smallest
unfolding is_within
smallest_fits p is =
    let h = and_parts _ _ is.smallest in
    let low = le_true (pos 1) p.smallest h.0 in
    let high = le_true p.smallest (pos 64) h.1 in
    omega (arith, ints, low, high)

pub smallest_is : (p : Fields) → IsProblem p → to_z w64 (of_z w64 p.smallest) ≡ p.smallest
smallest_is p is = to_z-of_z w64 p.smallest (smallest_fits p is)

pub kept_smallest : (p : Fields) → IsProblem p → pos 1 ≤ℤ to_z w64 (of_z w64 p.smallest)
kept_smallest p is = subst (λ (z : ℤ). pos 1 ≤ℤ z) (sym (smallest_is p is)) (some_smallest p is)

largest_fits : (p : Fields) → IsProblem p → FitsSigned w64 p.largest
unfolding is_within
largest_fits p is =
    let h = and_parts _ _ is.largest in
    let low = le_true (pos 1) p.largest h.0 in
    let high = le_true p.largest (pos 4194304) h.1 in
    omega (arith, ints, low, high)

pub largest_is : (p : Fields) → IsProblem p → to_z w64 (of_z w64 p.largest) ≡ p.largest
largest_is p is = to_z-of_z w64 p.largest (largest_fits p is)

pub kept_largest : (p : Fields) → IsProblem p → pos 1 ≤ℤ to_z w64 (of_z w64 p.largest)
kept_largest p is = subst (λ (z : ℤ). pos 1 ≤ℤ z) (sym (largest_is p is)) (some_largest p is)

pub nest_is : (p : Fields) (w : Pass) → IsProblem p → CanMake p w → IsWidth (frame_at p w.number) p.nest
nest_is p w is can = nest_at p w.number (can_run p w is can).can

pub nest_range : (p : Fields) (w : Pass) → IsProblem p → CanMake p w → InRange p.nest
nest_range p w is can =
    let n = nest_is p w is can in
    let small = (can_run p w is can).can.here.small in
    record {
      low = record { k = omega (arith, ints, n.low.k); j = omega (arith, ints, n.low.j); i = omega (arith, ints, n.low.i) };
      high = record { k = omega (arith, ints, n.high.k, small.k); j = omega (arith, ints, n.high.j, small.j); i = omega (arith, ints, n.high.i, small.i) };
    }

-- a cluster lies in the frame, and grown by the nest width it is a box
pub cluster_inside : (p : Fields) (w : Pass) (c : Owned) → IsProblem p → CanMake p w → Member c (clusters_of p w) → IsTrue (holds_box (whole (frame_at p w.number)) c.bx)
cluster_inside p w c is can m =
    let run = can_run p w is can in
    (holds_box-means (whole (frame_at p w.number)) c.bx (cluster_box p w run c m).order).1 (λ x h. cluster_home p w run c x m h)

pub cluster_grows : (p : Fields) (w : Pass) (c : Owned) → IsProblem p → CanMake p w → Member c (clusters_of p w) → IsBox (grown c.bx p.nest)
cluster_grows p w c is can m = cluster_room p w (can_run p w is can) c m

one_ratio : IsRatio (alike (pos 1))
one_ratio = record { low = AtMost-refl (alike (pos 1)); high = record { k = omega (arith, ints); j = omega (arith, ints); i = omega (arith, ints) } }

-- its edges at the nest width
pub edges_are : (p : Fields) (w : Pass) (c : Owned) (near : List Link) → IsProblem p → CanMake p w
    → near ≡ true_overlaps (scale_in (frame_at p w.number) p.nest (alike (pos 1)) (alike (pos 1))) (c ∷ []) w.level → AreEdgesTo (area_at p w.number) w.level p.nest c near
edges_are p w c near is can e = record {
  ranks = w.ranks;
  is_level = can.is_level;
  width = p.nest;
  is_wide = AtMost-refl p.nest;
  ratio = alike (pos 1);
  is_ratio = one_ratio;
  edges = e;
}

-- what the cuts leave is the cut level
pub level_left : (p : Fields) (w : Pass) (clusters left all : List Owned) → clusters ≡ clusters_of p w
    → left ≡ flat_map (λ c. (cut_of (area_at p w.number) w.level p.nest (unsigned_abs p.largest) c).news) clusters → all ≡ in_order ref_cmp left → all ≡ cut_level p w
unfolding cut_level cuts_of
level_left p w clusters left all e f g =
    let cut : Owned → Move = cut_of (area_at p w.number) w.level p.nest (unsigned_abs p.largest) in
    g
    ∙ ap (λ (l : List Owned). in_order ref_cmp l)
    (f ∙ ap (λ (l : List Owned). flat_map (λ c. (cut c).news) l) e ∙ sym (flat_map-map (λ (m : Move). m.news) cut (clusters_of p w)))

pub all_clusters : (p : Fields) (w : Pass) (clusters : List Owned) → clusters ≡ clusters_of p w → All (λ c. Member c (clusters_of p w)) clusters
all_clusters p w clusters e =
    let all : All (λ c. Member c (clusters_of p w)) (clusters_of p w) = All-from_members (λ c. Member c (clusters_of p w)) (clusters_of p w) (λ c m. m) in
    subst (λ (l : List Owned). All (λ c. Member c (clusters_of p w)) l) (sym e) all

-- it has few cells
pub few_left : (p : Fields) (w : Pass) → IsProblem p → CanMake p w → cells_in (cut_level p w) < 2 ^ 63
few_left p w is can =
    let run = can_run p w is can in
    let few = few_cells p w.number w.ranks (cut_level p w) run.can.here (cut_are p w run) in
    omega (arith, few)

-- of lists that are one for each number below a bound, that at a number
pub count_of : {X Y : Type 0} (f : X → Y) (g : ℕ → Y) (xs : List X) (n : ℕ) → map f xs ≡ map g (range_with_len 0 n) → length xs ≡ n
count_of f g xs n e = sym (length-map xs f) ∙ ap length e ∙ length-map-range_with_len g 0 n

pub at_number : {X Y : Type 0} (f : X → Y) (g : ℕ → Y) (xs : List X) (n i : ℕ) (d : X) → map f xs ≡ map g (range_with_len 0 n) → i < n → (i < length xs) × (f (get_or xs i d) ≡ g i)
at_number f g xs n i d e h =
    let long : length xs ≡ n = sym (length-map xs f) ∙ ap length e ∙ length-map-range_with_len g 0 n in
    let here : i < length xs = omega (arith, long, h) in
    (here, sym (get_or-map f xs i d (g i) here) ∙ ap (λ l. get_or l i (g i)) e ∙ get_or-map-range_with_len g 0 n i i (g i) h (omega arith))

-- the item at a place, of such lists
pub item_is : {X Y : Type 0} (f : X → Y) (g : ℕ → Y) (xs : List X) (n i j : ℕ) (x : X) → map f xs ≡ map g (range_with_len 0 n) → i < n → j ≡ i → x ≡ slice_index_or xs j x → f x ≡ g i
item_is {X = X} f g xs n i j x e h same is =
    let here : x ≡ get_or xs i x = subst (λ (k : ℕ). x ≡ get_or xs k x) same is in
    ap f here ∙ (at_number f g xs n i x e h).1

-- the pieces, refined, are boxes
new_member : (p : Fields) (w : Pass) (b : Owned) → Member b (pieces_of p w) → Member (refined_box (step_of p w.number) b) (new_level p w)
unfolding new_level
new_member p w b m = Member-map (refined_box (step_of p w.number)) b (pieces_of p w) m

pub new_boxes : (p : Fields) (w : Pass) (pieces : List Owned) (r : IVec) → IsProblem p → CanMake p w → pieces ≡ pieces_of p w → r ≡ step_of p w.number → All (λ b. IsBox (refined b.bx r)) pieces
new_boxes p w pieces r is can e f =
    let all : All (λ b. IsBox (refined b.bx (step_of p w.number))) (pieces_of p w) = All-from_members (λ b. IsBox (refined b.bx (step_of p w.number))) (pieces_of p w) each in
    subst (λ (l : List Owned). All (λ b. IsBox (refined b.bx r)) l) (sym e) (subst (λ (v : IVec). All (λ b. IsBox (refined b.bx v)) (pieces_of p w)) (sym f) all)
  where
    each : (b : Owned) → Member b (pieces_of p w) → IsBox (refined b.bx (step_of p w.number))
    each b m =
        let run = can_run p w is can in
        let level = (passed p w run).is_level in
        let new : Owned = refined_box (step_of p w.number) b in
        let here = new_member p w b m in
        let order = level.not_empty new here in
        let home : (x : IVec) → Holds new.bx x → Holds (whole (frame_at p (suc w.number))) x = λ x h. cell_of_frame (area_at p (suc w.number)) x run.can.next.is_area (level.inside new x here h) in
        in_frame (frame_at p (suc w.number)) new.bx (space_of p (suc w.number) run.can.next) order (home new.bx.lo (Holds-lo {b = new.bx} order)) (home new.bx.hi (Holds-hi {b = new.bx} order))
