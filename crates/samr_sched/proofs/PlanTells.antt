-- A plan tells the origins of ghost cells.
use Rattle.std.proofs.Common.{◌≡◌, ℕ, refl, sym, ap, ◌∙◌, subst, inl, inr, not, arith}
use Rattle.std.proofs.lemmas.Int.{ints}
use Rattle.std.proofs.lemmas.Bool.{false≢true, false_from_ne_true, and_parts}
use Rattle.std.proofs.lemmas.List.Kept.{IsStrictlySortedBy-filter}
use Rattle.std.specs.Prelude.{pos, Bool, true, false, ◌&&◌, cond, List, [], ◌∷◌, map, filter}
use Rattle.samr_box.specs.declared.vector.IVec.{IVec}
use Rattle.samr_box.specs.Vector.{alike, minus, times}
use Rattle.samr_box.specs.Corners.{Corners, Holds, holds, meets, grown}
use Rattle.samr_box.specs.Ratios.{coarse, refined}
use Rattle.samr_box.specs.Space.{whole, finer, image, wrapped}
use Rattle.samr_box.specs.Lists.{Member}
use Rattle.samr_box.proofs.Vectors.{same_cell}
use Rattle.samr_box.proofs.Products.{mul_zero}
use Rattle.samr_box.proofs.CellSets.{holds-from, Holds-test, Meet-cell, meets-from, meets-means}
use Rattle.samr_box.proofs.Members.{Member-filter, Member-from_filter}
use Rattle.samr_box.proofs.Ascending.{same_from_members}
use Rattle.samr_boxlist.specs.Covers.{held}
use Rattle.samr_boxlist.proofs.Covering.{same_test}
use Rattle.samr_level.specs.Refs.{Owned, Link}
use Rattle.samr_level.specs.RefOrders.{ref_cmp, edge_cmp}
use Rattle.samr_level.specs.Regions.{is_inside, boxes_of}
use Rattle.samr_level.specs.Overlaps.{scale, scale_in, shifts, all_links, is_true}
use Rattle.samr_level.proofs.Domains.{held-from}
use Rattle.samr_level.proofs.RefLaws.{edge_total}
use Rattle.samr_level.proofs.Overlapping.{shifts_sorted, zero_shift, all_links_sorted, overlaps_sorted, Member-overlaps, Member-from_overlaps, Member-all_links, Member-from_all_links}
use Rattle.samr_border.specs.Turns.{turns}
use Rattle.samr_border.proofs.TurnLaws.{turns_is, wrapped_stays}
use Rattle.samr_border.proofs.ImageCells.{holds_moved_back}
use Rattle.samr_nest.specs.Starts.{needed}
use Rattle.samr_nest.specs.Nested.{IsPlain}
use Rattle.samr_nest.proofs.Moved.{AtMost-plus}
use Rattle.samr_nest.proofs.EdgeImages.{near_is}
use Rattle.samr_nest.proofs.StayLaws.{needed_at, hole_at, shifts_are}
use Rattle.samr_sched.specs.declared.origin.Origin.{Origin}
use Rattle.samr_sched.specs.declared.origin.Origin.TheVariants.{Outside, Copy, Coarse}
use Rattle.samr_sched.specs.Ask.{Scheduling, IsScheduling, domain_of, frame_of, coarse_frame, selves_of, downs_of}
use Rattle.samr_sched.specs.Origins.{in_level, of_heads, origins}
use Rattle.samr_sched.specs.Plans.{copies, rest, field_plan}
use Rattle.samr_sched.specs.Laws.{planned}
use Rattle.samr_sched.proofs.PlanLaws.{greatest_self}
use Rattle.samr_sched.proofs.Heads.{one_sorted, links_heads}
use Rattle.samr_sched.proofs.LevelHeads.{of_frame, same_box, found}
use Rattle.samr_sched.proofs.OneOrigin.{origins_are, three, frame_is, near, inside_from, level_from, level_is}
use Rattle.samr_sched.proofs.DownNear.{grown_wider, down_near}

one_base : (b : Owned) (e : Link) → Member e.base (b ∷ []) → e.base ≡ b
one_base b e (inl same) = same
one_base b e (inr none) = absurd none

if_not : {X : Type 0} (t : Bool) (xs : List X) → cond t [] xs ≡ cond (not t) xs []
if_not true xs = refl
if_not false xs = refl

pub and_not_from : (t u : Bool) → t ≡ true → u ≡ false → (t && not u) ≡ true
and_not_from true false e f = refl
and_not_from true true e f = absurd (false≢true (sym f))
and_not_from false u e f = absurd (false≢true e)

pub not_parts : (t u : Bool) → (t && not u) ≡ true → (t ≡ true) × (u ≡ false)
not_parts true false e = (refl, refl)
not_parts true true e = absurd (false≢true e)
not_parts false u e = absurd (false≢true e)

no_step : (x size : IVec) → minus x (times (alike (pos 0)) size) ≡ x
no_step x size =
    let k = mul_zero size.k in
    let j = mul_zero size.j in
    let i = mul_zero size.i in
    same_cell (omega (arith, ints, k)) (omega (arith, ints, j)) (omega (arith, ints, i))

assoc_heads : (make : Owned → IVec → Origin) (ss : List IVec) (heads : List Owned) (z : Owned → IVec → Bool) (t v : Bool)
    → of_heads (λ h s. (t && v) && z h s) make heads ss ≡ of_heads (λ h s. t && (v && z h s)) make heads ss
assoc_heads make ss heads z true v = refl
assoc_heads make ss heads z false v = refl

module _ (w : Scheduling) (h : IsScheduling w) (b : Owned) (g x : IVec) (m : Member b w.level) (n : Member g w.ghosts) (has : Holds (grown b.bx g) x) where
  plain : IsPlain (domain_of w)
  plain axis e = ap (map (λ (p : Corners). refined p w.ratio)) (h.plain axis e)

  pub inside_is : held x (needed (domain_of w) (grown b.bx g)) ≡ is_inside (domain_of w) x
  inside_is =
      let law = needed_at (domain_of w) (grown b.bx g) x h.area plain in
      same_test (held x (needed (domain_of w) (grown b.bx g))) (is_inside (domain_of w) x)
      (λ t. let i = (law.0 t).1 in held-from (wrapped (frame_of w) x) i.0 (boxes_of (domain_of w)) i.1 i.2)
      (λ t. law.1 (has, inside_from w h b g x m n has t))

  pub rest_is : held x (rest w g b) ≡ (is_inside (domain_of w) x && not (in_level w x))
  rest_is =
      let law = hole_at (domain_of w) w.ranks w.level (grown b.bx g) x h.area h.level plain (near w h b g x m n has) in
      same_test (held x (rest w g b)) (is_inside (domain_of w) x && not (in_level w x))
      (λ t.
      let r = law.0 t in
      let i = r.1 in
      and_not_from (is_inside (domain_of w) x) (in_level w x) (held-from (wrapped (frame_of w) x) i.0 (boxes_of (domain_of w)) i.1 i.2)
      (false_from_ne_true (in_level w x) (λ u. r.2 (level_from w h b g x m n has u))))
      (λ t.
      let r = not_parts (is_inside (domain_of w) x) (in_level w x) t in
      law.1 (has, inside_from w h b g x m n has r.0, λ i. false≢true (sym r.1 ∙ level_is w h b g x m n has i)))

  module _ (off : holds b.bx x ≡ false) where
    -- the image of a box that has the ghost cell does not meet the box
    pub apart : (e : Link) → Member e.head w.level → Member e.shift (shifts (frame_of w).periodic) → holds (image (frame_of w) e.head.bx e.shift) x ≡ true
        → meets (image (frame_of w) e.head.bx e.shift) b.bx ≡ false
    apart e hm sm hx =
        let F = frame_of w in
        let there = image F e.head.bx e.shift in
        false_from_ne_true (meets there b.bx)
        (λ t.
        let r = (meets-means there b.bx (AtMost-plus e.head.bx.lo e.head.bx.hi (times e.shift F.size) (h.level.not_empty e.head hm)) (h.level.not_empty b m)).0 t in
        let z = r.0 in
        let f = found (domain_of w) w.ranks w.level h.area h.level e.head e.shift z hm sm (holds-from {b = there} {x = z} r.1) in
        let home = of_frame (domain_of w) w.ranks w.level h.area h.level b m z r.2 in
        let stays = wrapped_stays F z h.area.frame home in
        let same : e.head ≡ b = same_box (domain_of w) w.ranks w.level h.area h.level e.head b z hm m (subst (λ (v : IVec). Holds e.head.bx v) stays f.0) r.2 in
        let zero : IVec = alike (pos 0) in
        let none : zero ≡ turns F z =
        turns_is F z zero h.area.frame ((shifts_are F zero).0 (zero_shift F.periodic)) (subst (λ (v : IVec). Holds (whole F) v) (sym (no_step z F.size)) home) in
        let still : e.shift ≡ zero = f.1 ∙ sym none in
        let back = (holds_moved_back F e.head.bx e.shift x).0 (Holds-test {b = there} {x = x} hx) in
        let here : Holds b.bx x =
        subst (λ (v : IVec). Holds b.bx v) (ap (λ (s : IVec). minus x (times s F.size)) still ∙ no_step x F.size)
        (subst (λ (o : Owned). Holds o.bx (minus x (times e.shift F.size))) same back) in
        false≢true (sym off ∙ holds-from {b = b.bx} {x = x} here))

    copy_test : Link → Bool
    copy_test e = is_inside (domain_of w) x && holds (image (frame_of w) e.head.bx e.shift) x

    near_self : (e : Link) → e.base ≡ b → holds (image (frame_of w) e.head.bx e.shift) x ≡ true → is_true (scale w.region.frame w.width w.ratio w.ratio) e ≡ true
    near_self e base hx =
        let F = frame_of w in
        let there = image F e.head.bx e.shift in
        let wide = grown_wider b.bx g w.width x (h.ghosts g n).wide has in
        subst (λ (v : IVec). is_true (scale_in (finer w.region.frame v) w.width w.ratio w.ratio) e ≡ true) (sym (greatest_self w.ratio))
        (near_is F w.width w.ratio e h.ratio
        ∙ meets-from {a = grown e.base.bx w.width} {b = there}
        (Meet-cell {a = grown e.base.bx w.width} {b = there} {x = x}
        (subst (λ (o : Owned). Holds (grown o.bx w.width) x) (sym base) wide) (Holds-test {b = there} {x = x} hx)))

    copies_are : filter copy_test (copies w g b) ≡ filter copy_test (all_links (b ∷ []) w.level (shifts (frame_of w).periodic))
    unfolding copies copy_test
    copies_are =
        let ss = shifts (frame_of w).periodic in
        let scaled = scale w.region.frame w.width w.ratio w.ratio in
        let ghosts : Link → Bool = λ e. meets (image (frame_of w) e.head.bx e.shift) (grown b.bx g) && not (meets (image (frame_of w) e.head.bx e.shift) b.bx) in
        same_from_members edge_total (filter copy_test (filter ghosts (selves_of w b))) (filter copy_test (all_links (b ∷ []) w.level ss))
        (IsStrictlySortedBy-filter edge_cmp copy_test (filter ghosts (selves_of w b))
        (IsStrictlySortedBy-filter edge_cmp ghosts (selves_of w b) (overlaps_sorted scaled (b ∷ []) w.level (one_sorted ref_cmp b) h.level.in_order)))
        (IsStrictlySortedBy-filter edge_cmp copy_test (all_links (b ∷ []) w.level ss)
        (all_links_sorted (b ∷ []) w.level ss (one_sorted ref_cmp b) h.level.in_order (shifts_sorted (frame_of w).periodic)))
        (λ e k.
        let f = Member-from_filter copy_test e (filter ghosts (selves_of w b)) k in
        let o = Member-from_overlaps scaled (b ∷ []) w.level e (Member-from_filter ghosts e (selves_of w b) f.0).0 in
        Member-filter copy_test e (all_links (b ∷ []) w.level ss) (Member-all_links (b ∷ []) w.level ss e o.is_base o.is_head o.is_shift) f.1)
        (λ e k.
        let f = Member-from_filter copy_test e (all_links (b ∷ []) w.level ss) k in
        let o = Member-from_all_links (b ∷ []) w.level ss e f.0 in
        let base = one_base b e o.0 in
        let hx = (and_parts (is_inside (domain_of w) x) (holds (image (frame_of w) e.head.bx e.shift) x) f.1).1 in
        Member-filter copy_test e (filter ghosts (selves_of w b))
        (Member-filter ghosts e (selves_of w b)
        (Member-overlaps scaled (b ∷ []) w.level e (record { is_base = o.0; is_head = o.1; is_shift = o.2; is_near = near_self e base hx }))
        (and_not_from (meets (image (frame_of w) e.head.bx e.shift) (grown b.bx g)) (meets (image (frame_of w) e.head.bx e.shift) b.bx)
        (meets-from {a = image (frame_of w) e.head.bx e.shift} {b = grown b.bx g}
        (Meet-cell {a = image (frame_of w) e.head.bx e.shift} {b = grown b.bx g} {x = x} (Holds-test {b = image (frame_of w) e.head.bx e.shift} {x = x} hx) has))
        (apart e o.1 o.2 hx)))
        f.1)

    coarse_test : Bool → Link → Bool
    coarse_test t e = t && holds (image (coarse_frame w) e.head.bx e.shift) (coarse x w.step)

    downs_are : (t : Bool) → filter (coarse_test t) (downs_of w b) ≡ filter (coarse_test t) (all_links (b ∷ []) w.coarser (shifts (frame_of w).periodic))
    unfolding coarse_test
    downs_are t =
        let ss = shifts (frame_of w).periodic in
        let scaled = scale w.region.frame w.reach w.ratio w.below in
        let test = coarse_test t in
        same_from_members edge_total (filter test (downs_of w b)) (filter test (all_links (b ∷ []) w.coarser ss))
        (IsStrictlySortedBy-filter edge_cmp test (downs_of w b) (overlaps_sorted scaled (b ∷ []) w.coarser (one_sorted ref_cmp b) h.coarser.in_order))
        (IsStrictlySortedBy-filter edge_cmp test (all_links (b ∷ []) w.coarser ss)
        (all_links_sorted (b ∷ []) w.coarser ss (one_sorted ref_cmp b) h.coarser.in_order (shifts_sorted (frame_of w).periodic)))
        (λ e k.
        let f = Member-from_filter test e (downs_of w b) k in
        let o = Member-from_overlaps scaled (b ∷ []) w.coarser e f.0 in
        Member-filter test e (all_links (b ∷ []) w.coarser ss) (Member-all_links (b ∷ []) w.coarser ss e o.is_base o.is_head o.is_shift) f.1)
        (λ e k.
        let f = Member-from_filter test e (all_links (b ∷ []) w.coarser ss) k in
        let o = Member-from_all_links (b ∷ []) w.coarser ss e f.0 in
        let base = one_base b e o.0 in
        let over = Holds-test {b = image (coarse_frame w) e.head.bx e.shift} {x = coarse x w.step}
        (and_parts t (holds (image (coarse_frame w) e.head.bx e.shift) (coarse x w.step)) f.1).1 in
        Member-filter test e (downs_of w b)
        (Member-overlaps scaled (b ∷ []) w.coarser e (record {
          is_base = o.0;
          is_head = o.1;
          is_shift = o.2;
          is_near = down_near w.region.frame w.reach w.ratio w.below w.step g x e h.ratio h.below h.step h.product (h.ghosts g n).reach
              (subst (λ (v : Owned). Holds (grown v.bx g) x) (sym base) has) over (frame_is w h);
        }))
        f.1)

    pub plan_tells : (field : ℕ) → planned w b (field_plan w b (field, g)) x ≡ origins w x
    unfolding planned copy_test coarse_test
    plan_tells field =
        let F = frame_of w in
        let ss = shifts F.periodic in
        let t = is_inside (domain_of w) x in
        let v = not (in_level w x) in
        let z : Owned → IVec → Bool = λ k s. holds (image (coarse_frame w) k.bx s) (coarse x w.step) in
        three
        (cond (held x (needed (domain_of w) (grown b.bx g))) [] (Outside ∷ [])) (cond (not t) (Outside ∷ []) [])
        (map (λ (e : Link). Copy e.head e.shift) (filter (λ (e : Link). held x (needed (domain_of w) (grown b.bx g)) && holds (image F e.head.bx e.shift) x) (copies w g b)))
        (of_heads (λ k s. t && holds (image F k.bx s) x) (λ k s. Copy k s) w.level ss)
        (map (λ (e : Link). Coarse e.head e.shift) (filter (λ (e : Link). held x (rest w g b) && holds (image (coarse_frame w) e.head.bx e.shift) (coarse x w.step)) (downs_of w b)))
        (of_heads (λ k s. t && (v && z k s)) (λ k s. Coarse k s) w.coarser ss)
        (ap (λ (u : Bool). cond u [] (Outside ∷ [])) inside_is ∙ if_not t (Outside ∷ []))
        (ap (λ (u : Bool). map (λ (e : Link). Copy e.head e.shift) (filter (λ (e : Link). u && holds (image F e.head.bx e.shift) x) (copies w g b))) inside_is
        ∙ ap (map (λ (e : Link). Copy e.head e.shift)) copies_are
        ∙ links_heads (λ k s. Copy k s) ss (λ k s. t && holds (image F k.bx s) x) b w.level)
        (ap (λ (u : Bool). map (λ (e : Link). Coarse e.head e.shift) (filter (λ (e : Link). u && holds (image (coarse_frame w) e.head.bx e.shift) (coarse x w.step)) (downs_of w b))) rest_is
        ∙ ap (map (λ (e : Link). Coarse e.head e.shift)) (downs_are (t && v))
        ∙ links_heads (λ k s. Coarse k s) ss (λ k s. (t && v) && z k s) b w.coarser
        ∙ assoc_heads (λ k s. Coarse k s) ss w.coarser z t v)
        ∙ sym (origins_are w x)
