-- A printed mesh that has no fault is a mesh of the problem, and its edges are the true overlaps.
use Rattle.std.proofs.Common.{◌≡◌, ℕ, zero, suc, ◌+◌, ◌-◌, ◌<◌, ◌≤◌, refl, sym, ap, ◌∙◌, subst, inl, inr, arith, map, add-one}
use Rattle.std.proofs.lemmas.Bool.{eqb-true, and_parts}
use Rattle.std.proofs.Math.Dec.{eqb-suc-zero}
use Rattle.std.specs.Prelude.{Bool, true, ◌||◌, ◌==◌, nat_lt, List, [], ◌∷◌, ◌++◌, length, sum_by, Option, Some, None, slice_get, if◌then◌else◌, pos}
use Rattle.samr_box.specs.declared.vector.IVec.{IVec}
use Rattle.samr_box.specs.Vector.{AtMost, alike}
use Rattle.samr_box.specs.Corners.{Corners, IsBox, cells_of}
use Rattle.samr_box.specs.Space.{is_zero}
use Rattle.samr_box.specs.Lists.{Member}
use Rattle.samr_box.proofs.CellSets.{IsBox-coarsened}
use Rattle.samr_box.proofs.Members.{Member-from_map}
use Rattle.samr_box.specs.Ratios.{coarsened}
use Rattle.samr_level.specs.Refs.{Owned}
use Rattle.samr_level.specs.RefOrders.{ref_cmp, in_order}
use Rattle.samr_level.specs.Levels.{IsLevel}
use Rattle.samr_level.specs.Overlaps.{scale, true_overlaps}
use Rattle.samr_level.proofs.RefLaws.{ref_total, same_from_ref_cmp}
use Rattle.samr_level.proofs.Sorting.{in_order_is}
use Rattle.samr_nest.proofs.NearParts.{AllFull}
use Rattle.samr_fill.proofs.Numbered.{get_member}
use Rattle.samr_hierarchy.proofs.Fills.{mapped_at}
use Rattle.samr_problem.specs.Fields.{Fields}
use Rattle.samr_problem.specs.Problems.{IsProblem}
use Rattle.samr_mesh.specs.Domains.{level0_of, area_of, step_of, ratio_to, area_at}
use Rattle.samr_mesh.specs.Grounds.{HasDomain, CanPass}
use Rattle.samr_mesh.specs.Soundness.{AreRefined, IsOver}
use Rattle.samr_mesh.proofs.Grounding.{domain, can_pass}
use Rattle.samr_mesh.proofs.MeshForms.{mesh_of}
use Rattle.samr_mesh.proofs.Stacks.{AreOver}
use Rattle.samr_verify.specs.declared.edges.DueEdge.{DueEdge}
use Rattle.samr_verify.specs.declared.ground.Ground.{Ground}
use Rattle.samr_verify.specs.declared.printed.PrintedBox.{PrintedBox}
use Rattle.samr_verify.specs.declared.printed.PrintedLevel.{PrintedLevel}
use Rattle.samr_verify.specs.Faults.{unless}
use Rattle.samr_verify.specs.Printed.{boxes_in, all_boxes, of_level, boxes_at, settled_at}
use Rattle.samr_verify.specs.MeshFaults.{tells, has_counts, is_right, box_fault, box_faults, ground_of, is_one, is_refinement, step_below, nests, is_nested, due_to, edges_to, edges_down, edges_due, edge_fault, level_faults, level_fault, mesh_fault}
use Rattle.samr_verify.specs.Soundness.{as_due, overlaps, told_overlaps, ArePrinted, IsFaultless}
use Rattle.samr_verify.proofs.NoFaults.{none_some, all_none, numbered_none, unless_none, one_is, same_lists, edges_same, place_of}
use Rattle.samr_verify.proofs.BoxLaws.{IsRight, right_is, boxes_are_level, refinement_is}
use Rattle.samr_verify.proofs.Wrapping.{nested_is}

-- what a level without fault has
record IsClean (p : Fields) (ranks : ℕ) (levels : List PrintedLevel) (l : ℕ) (level : PrintedLevel) : Type 0 where
  counts : has_counts l (level0_of p ranks) level ≡ true
  nested : is_nested p levels l ≡ true
  right : (i : ℕ) (b : Owned) → slice_get (boxes_in level) i ≡ Some b → IsRight (ground_of p ranks l) (boxes_in level) i b
  edges : map as_due level.edges ≡ edges_due p levels l

clean_boxes : (g : Ground) (level : PrintedLevel) → box_faults g level ≡ None → (i : ℕ) (b : Owned) → slice_get (boxes_in level) i ≡ Some b → IsRight g (boxes_in level) i b
clean_boxes g level none i b e =
    let at = mapped_at (λ (c : PrintedBox). c.at) level.boxes i b e in
    let one : box_fault g (boxes_in level) (i, at.0) ≡ None = numbered_none (box_fault g (boxes_in level)) level.boxes none i at.0 at.1 in
    let right = right_is g (boxes_in level) i at.0.at (unless_none (is_right g (boxes_in level) i at.0.at) 3 at.0.line one) in
    subst (λ (c : Owned). IsRight g (boxes_in level) i c) (sym at.2) right

clean : (p : Fields) (ranks : ℕ) (levels : List PrintedLevel) (l : ℕ) (level : PrintedLevel) → mesh_fault p ranks levels ≡ None → slice_get levels l ≡ Some level → IsClean p ranks levels l level
unfolding mesh_fault
clean p ranks levels l level none e =
    let here : level_fault p ranks levels (l, level) ≡ None = numbered_none (level_fault p ranks levels) levels none l level e in
    let each = all_none (level_faults p ranks levels (l, level)) here in
    record {
      counts = unless_none (has_counts l (level0_of p ranks) level) 4 level.line (each (unless (has_counts l (level0_of p ranks) level) 4 level.line) (inl refl));
      nested = unless_none (is_nested p levels l) 5 level.line (each (unless (is_nested p levels l) 5 level.line) (inr (inl refl)));
      right = clean_boxes (ground_of p ranks l) level (each (box_faults (ground_of p ranks l) level) (inr (inr (inl refl))));
      edges = edges_same level.after level.edges (edges_due p levels l) (each (edge_fault level.after level.edges (edges_due p levels l)) (inr (inr (inr (inl refl)))));
    }

length_below : {X : Type 0} (xs : List X) (i : ℕ) (x : X) → slice_get xs i ≡ Some x → i < length xs
length_below [] i x e = absurd (none_some e)
length_below (y ∷ ys) zero x e = omega arith
length_below (y ∷ ys) (suc i) x e = let h = length_below ys i x e in omega (arith, h)

back_one : (l : ℕ) → suc l - 1 ≡ l
back_one l = omega arith

module _ (p : Fields) (ranks : ℕ) (levels : List PrintedLevel) (is : IsProblem p) (printed : ArePrinted p levels) (none : mesh_fault p ranks levels ≡ None) where
  At : ℕ → PrintedLevel → Type 0
  At l level = slice_get levels l ≡ Some level

  has_domain : (l : ℕ) (level : PrintedLevel) → slice_get levels l ≡ Some level → HasDomain p l
  has_domain l level e = let h = length_below levels l level e in let few = printed.few in domain p is l (omega (arith, h, few))

  whole : (l : ℕ) (level : PrintedLevel) → slice_get levels l ≡ Some level → (b : Owned) → Member b (boxes_in level) → IsBox b.bx
  whole l level e b m = printed.boxes level b (get_member levels l level e) m

  level_is : (l : ℕ) (level : PrintedLevel) → slice_get levels l ≡ Some level → IsLevel (area_at p l) ranks (boxes_in level)
  level_is l level e =
      boxes_are_level (area_at p l) (ground_of p ranks l) (boxes_in level) (has_domain l level e).is_area refl (whole l level e) (clean p ranks levels l level none e).right

  -- level 0
  base_is : (level : PrintedLevel) → slice_get levels 0 ≡ Some level → boxes_in level ≡ level0_of p ranks
  base_is level e =
      let c = clean p ranks levels 0 level none e in
      let base = level0_of p ranks in
      let both = and_parts (tells level (boxes_in level)) (nat_lt 0 0 || tells level base) c.counts in
      let here = and_parts (level.boxes_told == length (boxes_in level)) (level.cells_told == sum_by (λ b. cells_of b.bx) (boxes_in level)) both.0 in
      let there = and_parts (level.boxes_told == length base) (level.cells_told == sum_by (λ b. cells_of b.bx) base) both.1 in
      let same : length (boxes_in level) ≡ length base = sym (eqb-true level.boxes_told (length (boxes_in level)) here.0) ∙ eqb-true level.boxes_told (length base) there.0 in
      same_lists (boxes_in level) base same (λ i b h. one_is (slice_get base i) b (c.right i b h).made)

  -- a level above it
  full_below : (l : ℕ) (level : PrintedLevel) → slice_get levels l ≡ Some level → AllFull (map (λ (a : Owned). a.bx) (boxes_in level))
  full_below l level e b m =
      let at = Member-from_map (λ (a : Owned). a.bx) b (boxes_in level) m in
      subst (λ (c : Corners). AtMost c.lo c.hi) (sym at.2) (whole l level e at.0 at.1).order

  refined_is : (l : ℕ) (next : PrintedLevel) → slice_get levels (suc l) ≡ Some next → CanPass p l → AreRefined (step_of p l) (boxes_in next)
  refined_is l next e can b m =
      let at = place_of b (boxes_in next) m in
      let made = ((clean p ranks levels (suc l) next none e).right at.0 b at.1).made in
      let upper : is_refinement (step_below p (suc l)) b.bx ≡ true =
      subst (λ (t : Bool). (if t then is_one (slice_get (level0_of p ranks) at.0) b else is_refinement (step_below p (suc l)) b.bx) ≡ true) (eqb-suc-zero l) made in
      let step_is : step_below p (suc l) ≡ step_of p l =
      ap (λ (t : Bool). let v : IVec = if t then alike (pos 1) else step_of p (suc l - 1) in v) (eqb-suc-zero l) ∙ ap (λ n. step_of p n) (back_one l) in
      let box = whole (suc l) next e b m in
      (coarsened b.bx (step_of p l), IsBox-coarsened can.step box, refinement_is (step_of p l) b.bx can.step (subst (λ r. is_refinement r b.bx ≡ true) step_is upper))

  over_is : (l : ℕ) (level next : PrintedLevel) → slice_get levels l ≡ Some level → slice_get levels (suc l) ≡ Some next → IsOver p ranks l (boxes_in level) (boxes_in next)
  over_is l level next e f =
      let h = length_below levels (suc l) next f in
      let few = printed.few in
      let can = can_pass p is l (omega (arith, h, few)) in
      let t : nests (area_at p (suc l - 1)) (step_of p (suc l - 1)) p.nest (boxes_at levels (suc l)) (boxes_at levels (suc l - 1)) ≡ true =
      subst (λ (t : Bool). (if t then true else nests (area_at p (suc l - 1)) (step_of p (suc l - 1)) p.nest (boxes_at levels (suc l)) (boxes_at levels (suc l - 1))) ≡ true)
      (eqb-suc-zero l) (clean p ranks levels (suc l) next none f).nested in
      let u : nests (area_at p l) (step_of p l) p.nest (boxes_at levels (suc l)) (boxes_at levels l) ≡ true =
      subst (λ n. nests (area_at p n) (step_of p n) p.nest (boxes_at levels (suc l)) (boxes_at levels n) ≡ true) (back_one l) t in
      let v : nests (area_at p l) (step_of p l) p.nest (boxes_in next) (boxes_in level) ≡ true =
      subst (λ o. nests (area_at p l) (step_of p l) p.nest (of_level o) (boxes_in level) ≡ true) f
      (subst (λ o. nests (area_at p l) (step_of p l) p.nest (boxes_at levels (suc l)) (of_level o) ≡ true) e u) in
      record {
        is_level = level_is (suc l) next f;
        refined = refined_is l next f can;
        nested = nested_is (area_at p l) (step_of p l) p.nest (boxes_in next) (boxes_in level) (has_domain l level e).is_area can.step can.nest
            (λ b m. (whole (suc l) next f b m).order) (full_below l level e) v;
        some = first_box next (printed.some_boxes next (get_member levels (suc l) next f));
      }
    where
      first_box : (next : PrintedLevel) → 0 < length next.boxes → (b : Owned) × Member b (boxes_in next)
      first_box next h = by_list next.boxes h
        where
          by_list : (xs : List PrintedBox) → 0 < length xs → (b : Owned) × Member b (map (λ (c : PrintedBox). c.at) xs)
          by_list [] h = absurd (omega (arith, h))
          by_list (x ∷ xs) h = (x.at, inl refl)

  overs : (l : ℕ) (level : PrintedLevel) (finer : List PrintedLevel) → ((k : ℕ) (x : PrintedLevel) → slice_get (level ∷ finer) k ≡ Some x → slice_get levels (l + k) ≡ Some x)
      → AreOver p ranks l (boxes_in level) (all_boxes finer)
  overs l level [] at = tt
  overs l level (next ∷ finer) at =
      let here : slice_get levels l ≡ Some level = subst (λ n. slice_get levels n ≡ Some level) (no_more l) (at 0 level refl) in
      let there : slice_get levels (suc l) ≡ Some next = subst (λ n. slice_get levels n ≡ Some next) (add-one l) (at 1 next refl) in
      (over_is l level next here there, overs (suc l) next finer (λ k x e. subst (λ n. slice_get levels n ≡ Some x) (one_on l k) (at (suc k) x e)))
    where
      no_more : (l : ℕ) → l + 0 ≡ l
      no_more l = omega arith

      one_on : (l k : ℕ) → l + suc k ≡ suc l + k
      one_on l k = omega arith

  -- edges: printed levels are in order already
  settled : (l : ℕ) → settled_at levels l ≡ boxes_at levels l
  unfolding in_order
  settled l = by_level (slice_get levels l) refl
    where
      by_level : (o : Option PrintedLevel) → slice_get levels l ≡ o → in_order ref_cmp (of_level o) ≡ of_level o
      by_level None e = refl
      by_level (Some level) e =
          sym (in_order_is ref_total same_from_ref_cmp (boxes_in level) (boxes_in level) (level_is l level e).in_order (λ z m. m) (λ z m. m))

  between : (l m : ℕ) → edges_to p levels l m ≡ overlaps p levels l m
  between l m =
      let n = scale (area_of p).frame p.width (ratio_to p l) (ratio_to p m) in
      ap (λ (bases : List Owned). map (due_to m) (true_overlaps n bases (settled_at levels m))) (settled l)
      ∙ ap (λ (heads : List Owned). map (due_to m) (true_overlaps n (boxes_at levels l) heads)) (settled m)

  down : (l : ℕ) → edges_down p levels l ≡ (if l == 0 then [] else overlaps p levels l (l - 1))
  down l = ap (λ (list : List DueEdge). let some : List DueEdge = if l == 0 then [] else list in some) (between l (l - 1))

  edges_are : (l : ℕ) (level : PrintedLevel) → slice_get levels l ≡ Some level → map as_due level.edges ≡ told_overlaps p levels l
  unfolding edges_due
  edges_are l level e =
      (clean p ranks levels l level none e).edges
      ∙ ap (λ (list : List DueEdge). let some : List DueEdge = if is_zero p.width then [] else list in some)
      (ap (λ (list : List DueEdge). list ++ edges_down p levels l ++ edges_to p levels l (l + 1)) (between l l)
      ∙ ap (λ (list : List DueEdge). overlaps p levels l l ++ list ++ edges_to p levels l (l + 1)) (down l)
      ∙ ap (λ (list : List DueEdge). overlaps p levels l l ++ (if l == 0 then [] else overlaps p levels l (l - 1)) ++ list) (between l (l + 1)))

pub sound_is : (p : Fields) (ranks : ℕ) (levels : List PrintedLevel) → IsProblem p → 0 < ranks → ArePrinted p levels → mesh_fault p ranks levels ≡ None → IsFaultless p ranks levels
sound_is p ranks [] is some printed none = let h = printed.some in absurd (omega (arith, h))
sound_is p ranks (base ∷ finer) is some printed none =
    let levels : List PrintedLevel = base ∷ finer in
    let same : (k : ℕ) (x : PrintedLevel) → slice_get levels k ≡ Some x → slice_get levels (0 + k) ≡ Some x = λ k x e. subst (λ n. slice_get levels n ≡ Some x) (sym (from_zero k)) e in
    record {
      mesh = mesh_of p ranks (all_boxes (base ∷ finer)) is some
          (base_is p ranks levels is printed none base refl, overs p ranks levels is printed none 0 base finer same, few finer printed.few);
      base = base_is p ranks levels is printed none base refl;
      edges = edges_are p ranks levels is printed none;
    }
  where
    from_zero : (k : ℕ) → 0 + k ≡ k
    from_zero k = omega arith

    boxes_count : (xs : List PrintedLevel) → length (all_boxes xs) ≡ length xs
    boxes_count [] = refl
    boxes_count (x ∷ xs) = ap suc (boxes_count xs)

    few : (finer : List PrintedLevel) → suc (length finer) ≤ p.levels → suc (length (all_boxes finer)) ≤ p.levels
    few finer h = let e = boxes_count finer in omega (arith, h, e)
