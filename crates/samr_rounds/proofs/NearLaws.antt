-- Who is near a node: by images, by parts of it and by tags in it.
use Rattle.std.proofs.Common.{◌≡◌, ℕ, Bool, true, false, List, refl, sym, ap, subst, ◌∙◌, inl, inr, arith}
use Rattle.std.proofs.lemmas.Int.{ints}
use Rattle.std.proofs.lemmas.Bool.{false≢true, and_parts}
use Rattle.std.specs.Prelude.{ℤ, pos, negsuc, ◌+ℤ◌, ◌*ℤ◌, ◌&&◌, ◌||◌, ◌⊎◌, filter, map}
use Rattle.std.specs.List.{flat_map, list_any}
use Rattle.samr_box.specs.declared.vector.IVec.{IVec}
use Rattle.samr_box.specs.declared.vector.Axis.TheVariants.{I, J, K}
use Rattle.samr_box.specs.declared.space.Flags.{Flags}
use Rattle.samr_box.specs.Vector.{alike, plus, times, AtMost}
use Rattle.samr_box.specs.Corners.{Corners, IsBox, Holds, holds, meets, grown}
use Rattle.samr_box.specs.Space.{Space, image}
use Rattle.samr_box.specs.Lists.{Member}
use Rattle.samr_box.proofs.Vectors.{same_cell, AtMost-trans}
use Rattle.samr_box.proofs.Products.{mul_zero}
use Rattle.samr_box.proofs.Totals.{same_corners}
use Rattle.samr_box.proofs.CellSets.{Meet-test, meets-from, Holds-test, Holds-lo, Holds-hi}
use Rattle.samr_box.proofs.Members.{Member-flat_map, Member-from_flat_map, Member-map, Member-filter, Member-from_filter}
use Rattle.samr_boxlist.specs.Covers.{held}
use Rattle.samr_level.specs.Refs.{Owned}
use Rattle.samr_level.specs.Overlaps.{steps, shifts}
use Rattle.samr_level.specs.Levels.{own_boxes}
use Rattle.samr_sign.specs.declared.rule.CutRule.{CutRule}
use Rattle.samr_sign.specs.Counts.{tally}
use Rattle.samr_sign.proofs.Tallies.{tally_none}
use Rattle.samr_rounds.specs.Clusters.{accepted, parts, decided, clusters}
use Rattle.samr_rounds.specs.Rounds.{accepted_of, opened, taken, told}
use Rattle.samr_rounds.specs.Near.{meets_at, meets_an_image, is_near}
use Rattle.samr_rounds.specs.Images.{any_along}
use Rattle.samr_rounds.specs.Owners.{own_tags}
use Rattle.samr_rounds.specs.Laws.{IsNode, AreNodes}
use Rattle.samr_rounds.specs.Ranks.{accepted_near}
use Rattle.samr_rounds.proofs.Lists.{any_more, any_member, any_map, any_flat_map}
use Rattle.samr_rounds.proofs.Nodes.{part_is, accepted_shrinks}
use Rattle.samr_rounds.proofs.Open.{told_is, opened_nodes, taken_clusters}

-- the shifts tried one axis after another
abbrev shift : ℤ → ℤ → ℤ → IVec
shift k j i = record { k = k; j = j; i = i }

turned_round : (a b c : Bool) → (a || (b || c)) ≡ (b || (a || (c || false)))
turned_round true true c = refl
turned_round true false c = refl
turned_round false true c = refl
turned_round false false true = refl
turned_round false false false = refl

any_steps : (periodic : Bool) (g : ℤ → Bool) → (g (pos 0) || (periodic && (g (negsuc 0) || g (pos 1)))) ≡ list_any g (steps periodic)
any_steps true g = turned_round (g (pos 0)) (g (negsuc 0)) (g (pos 1))
any_steps false g = refl

abbrev on_row : (IVec → Bool) → Flags → ℤ → ℤ → Bool
on_row test f k j = list_any (λ i. test (shift k j i)) (steps f.i)

abbrev on_plane : (IVec → Bool) → Flags → ℤ → Bool
on_plane test f k = list_any (λ j. on_row test f k j) (steps f.j)

row_is : (test : IVec → Bool) (f : Flags) (k j : ℤ) → any_along I f test (shift k j (pos 0)) ≡ on_row test f k j
row_is test f k j = any_steps f.i (λ i. test (shift k j i))

plane_is : (test : IVec → Bool) (f : Flags) (k : ℤ) → any_along J f (any_along I f test) (shift k (pos 0) (pos 0)) ≡ on_plane test f k
plane_is test f k =
    any_steps f.j (λ j. any_along I f test (shift k j (pos 0)))
    ∙ ap (λ (g : ℤ → Bool). list_any g (steps f.j)) (λ i j. row_is test f k j i)

all_is : (test : IVec → Bool) (f : Flags) → any_along K f (any_along J f (any_along I f test)) (alike (pos 0)) ≡ list_any (λ k. on_plane test f k) (steps f.k)
all_is test f =
    any_steps f.k (λ k. any_along J f (any_along I f test) (shift k (pos 0) (pos 0)))
    ∙ ap (λ (g : ℤ → Bool). list_any g (steps f.k)) (λ i k. plane_is test f k i)

listed_plane : (test : IVec → Bool) (f : Flags) (k : ℤ) → list_any test (flat_map (λ j. map (λ i. shift k j i) (steps f.i)) (steps f.j)) ≡ on_plane test f k
listed_plane test f k =
    any_flat_map test (λ j. map (λ i. shift k j i) (steps f.i)) (steps f.j)
    ∙ ap (λ (g : ℤ → Bool). list_any g (steps f.j)) (λ v j. any_map test (λ i. shift k j i) (steps f.i) v)

pub any_shifts : (test : IVec → Bool) (f : Flags) → any_along K f (any_along J f (any_along I f test)) (alike (pos 0)) ≡ list_any test (shifts f)
unfolding shifts
any_shifts test f =
    all_is test f
    ∙ sym (any_flat_map test (λ k. flat_map (λ j. map (λ i. shift k j i) (steps f.i)) (steps f.j)) (steps f.k)
    ∙ ap (λ (g : ℤ → Bool). list_any g (steps f.k)) (λ v k. listed_plane test f k v))

pub meets_shifts : (frame : Space) (width : IVec) (node b : Corners)
    → any_along K frame.periodic (any_along J frame.periodic (any_along I frame.periodic (meets_at frame width node b))) (alike (pos 0)) ≡ meets_an_image frame width node b
unfolding meets_an_image
meets_shifts frame width node b = any_shifts (meets_at frame width node b) frame.periodic

-- no shift is one of the shifts, and moves nothing
at_rest : (periodic : Bool) → Member (pos 0) (steps periodic)
at_rest true = inr (inl refl)
at_rest false = inl refl

here_is_shift : (f : Flags) → Member (alike (pos 0)) (shifts f)
unfolding shifts
here_is_shift f =
    Member-flat_map (λ k. flat_map (λ j. map (λ i. shift k j i) (steps f.i)) (steps f.j)) (alike (pos 0)) (pos 0) (steps f.k) (at_rest f.k)
    (Member-flat_map (λ j. map (λ i. shift (pos 0) j i) (steps f.i)) (alike (pos 0)) (pos 0) (steps f.j) (at_rest f.j)
    (Member-map (λ i. shift (pos 0) (pos 0) i) (pos 0) (steps f.i) (at_rest f.i)))

plus_zero : (x n : IVec) → plus x (times (alike (pos 0)) n) ≡ x
plus_zero x n = same_cell (stays x.k n.k) (stays x.j n.j) (stays x.i n.i)
  where
    stays : (a m : ℤ) → (a +ℤ (pos 0 *ℤ m)) ≡ a
    stays a m = ap (λ v. a +ℤ v) (mul_zero m) ∙ omega (arith, ints)

image_here : (frame : Space) (b : Corners) → image frame b (alike (pos 0)) ≡ b
image_here frame b = same_corners (plus_zero b.lo frame.size) (plus_zero b.hi frame.size)

-- a box of which a cell lies in the node
reaches : (a b : Corners) (w x : IVec) → AtMost (alike (pos 0)) w → Holds a x → Holds b x → meets (grown a w) b ≡ true
reaches a b w x wide p q = meets-from {a = grown a w} {b = b} (record {
  low = record { k = omega (arith, ints, wide.k, p.low.k, q.high.k); j = omega (arith, ints, wide.j, p.low.j, q.high.j); i = omega (arith, ints, wide.i, p.low.i, q.high.i) };
  high = record { k = omega (arith, ints, wide.k, q.low.k, p.high.k); j = omega (arith, ints, wide.j, q.low.j, p.high.j); i = omega (arith, ints, wide.i, q.low.i, p.high.i) };
})

meets_here : (frame : Space) (w : IVec) (a b : Corners) (x : IVec) → AtMost (alike (pos 0)) w → Holds a x → Holds b x → meets_at frame w b a (alike (pos 0)) ≡ true
unfolding meets_at
meets_here frame w a b x wide p q = ap (meets (grown a w)) (image_here frame b) ∙ reaches a b w x wide p q

pub near_held : (frame : Space) (w : IVec) (boxes : List Corners) (b : Corners) (x : IVec) → AtMost (alike (pos 0)) w → Holds b x → held x boxes ≡ true → is_near frame w boxes b ≡ true
unfolding is_near meets_an_image
near_held frame w boxes b x wide h e =
    any_more (λ a. holds a x) (λ a. meets_an_image frame w b a) boxes
    (λ a k. any_member (meets_at frame w b a) (alike (pos 0)) (shifts frame.periodic) (here_is_shift frame.periodic) (meets_here frame w a b x wide (Holds-test k) h)) e

pub near_tagged : (frame : Space) (w : IVec) (t : IVec → Bool) (level : List Owned) (rank : ℕ) (b : Corners) (x : IVec) → AtMost (alike (pos 0)) w → Holds b x → own_tags t level rank x ≡ true → is_near frame w (own_boxes rank level) b ≡ true
unfolding own_tags
near_tagged frame w t level rank b x wide h e = near_held frame w (own_boxes rank level) b x wide h (and_parts (t x) (held x (own_boxes rank level)) e).1

pub far_none : (frame : Space) (w : IVec) (t : IVec → Bool) (level : List Owned) (rank : ℕ) (b : Corners) → AtMost (alike (pos 0)) w → IsBox b → is_near frame w (own_boxes rank level) b ≡ false → tally (own_tags t level rank) b ≡ 0
far_none frame w t level rank b wide h far =
    tally_none (own_tags t level rank) b h.order (λ x p e. false≢true (sym far ∙ near_tagged frame w t level rank b x wide p e))

-- a box inside the node
plus_most : (a b c : IVec) → AtMost a b → AtMost (plus a c) (plus b c)
plus_most a b c h = record { k = omega (arith, ints, h.k); j = omega (arith, ints, h.j); i = omega (arith, ints, h.i) }

meets_more : (frame : Space) (w : IVec) (a b p : Corners) (s : IVec) → AtMost b.lo p.lo → AtMost p.hi b.hi → meets_at frame w p a s ≡ true → meets_at frame w b a s ≡ true
unfolding meets_at
meets_more frame w a b p s low high e =
    let m = Meet-test {a = grown a w} {b = image frame p s} e in
    meets-from {a = grown a w} {b = image frame b s} (record {
      low = AtMost-trans m.low (plus_most p.hi b.hi (times s frame.size) high);
      high = AtMost-trans (plus_most b.lo p.lo (times s frame.size) low) m.high;
    })

pub near_inside : (frame : Space) (w : IVec) (boxes : List Corners) (b p : Corners) → AtMost p.lo p.hi → ((x : IVec) → Holds p x → Holds b x) → is_near frame w boxes p ≡ true → is_near frame w boxes b ≡ true
unfolding is_near meets_an_image
near_inside frame w boxes b p order inside e =
    let low = (inside p.lo (Holds-lo order)).low in
    let high = (inside p.hi (Holds-hi order)).high in
    any_more (λ a. meets_an_image frame w p a) (λ a. meets_an_image frame w b a) boxes
    (λ a k. any_more (meets_at frame w p a) (meets_at frame w b a) (shifts frame.periodic) (λ s m. meets_more frame w a b p s low high m) k) e

pub near_down : (frame : Space) (w : IVec) (boxes : List Corners) (t : IVec → Bool) (rule : CutRule) (b p : Corners) → IsNode b → Member p (parts (decided t rule b)) ⊎ Member p (accepted (decided t rule b)) → is_near frame w boxes p ≡ true → is_near frame w boxes b ≡ true
near_down frame w boxes t rule b p h (inl m) near = let is = part_is t rule b p h m in near_inside frame w boxes b p is.node.whole.order is.inside near
near_down frame w boxes t rule b p h (inr m) near = let is = accepted_shrinks t rule b p h m in near_inside frame w boxes b p is.node.whole.order is.inside near

pub near_told : (frame : Space) (w : IVec) (boxes : List Corners) (t : IVec → Bool) (rule : CutRule) (roots : List Corners) (q : ℕ) → AreNodes roots
    → filter (λ b. is_near frame w boxes b) (told (λ b. is_near frame w boxes b) t rule roots q) ≡ filter (λ b. is_near frame w boxes b) (opened t rule roots q)
near_told frame w boxes t rule roots q h =
    told_is (λ b. is_near frame w boxes b) t rule roots q h (λ b p k m n. near_down frame w boxes t rule b p k (inl m) n)

-- the clusters that a rank is told of
pub near_accepted : (frame : Space) (w : IVec) (boxes : List Corners) (t : IVec → Bool) (rule : CutRule) (roots : List Corners) (c : Corners) → AreNodes roots → Member c (clusters t rule roots) → is_near frame w boxes c ≡ true
    → (q : ℕ) × Member c (accepted_near (is_near frame w boxes) t rule roots q)
unfolding accepted_of taken
near_accepted frame w boxes t rule roots c h m near =
    let s = (taken_clusters t rule roots c h).0 m in
    let r = Member-from_flat_map (λ b. accepted (decided t rule b)) c (opened t rule roots s.0) s.1 in
    let node = opened_nodes t rule roots s.0 h r.0 r.1 in
    let kept = Member-filter (is_near frame w boxes) r.0 (opened t rule roots s.0) r.1 (near_down frame w boxes t rule r.0 c node (inr r.2) near) in
    let told_too = subst (λ l. Member r.0 l) (sym (near_told frame w boxes t rule roots s.0 h)) kept in
    (s.0, Member-flat_map (λ b. accepted (decided t rule b)) c r.0 (filter (is_near frame w boxes) (told (is_near frame w boxes) t rule roots s.0)) told_too r.2)

pub accepted_cluster : (frame : Space) (w : IVec) (boxes : List Corners) (t : IVec → Bool) (rule : CutRule) (roots : List Corners) (c : Corners) → AreNodes roots → (q : ℕ) → Member c (accepted_near (is_near frame w boxes) t rule roots q)
    → Member c (clusters t rule roots)
unfolding accepted_of taken
accepted_cluster frame w boxes t rule roots c h q m =
    let r = Member-from_flat_map (λ b. accepted (decided t rule b)) c (filter (is_near frame w boxes) (told (is_near frame w boxes) t rule roots q)) m in
    let kept = subst (λ l. Member r.0 l) (near_told frame w boxes t rule roots q h) r.1 in
    let open_too = (Member-from_filter (is_near frame w boxes) r.0 (opened t rule roots q) kept).0 in
    (taken_clusters t rule roots c h).1 (q, Member-flat_map (λ b. accepted (decided t rule b)) c r.0 (opened t rule roots q) open_too r.2)
