-- What the ranks count of their own tags adds up to the count of all tags.
use Rattle.std.proofs.Common.{◌≡◌, ℕ, ◌+◌, ◌≤◌, Bool, true, false, List, [], ◌∷◌, refl, sym, ap, subst, ◌∙◌, arith}
use Rattle.std.proofs.lemmas.Bool.{false≢true, eqb-true, false_from_ne_true}
use Rattle.std.proofs.lemmas.List.Sums.{sum_by-cons}
use Rattle.std.proofs.lemmas.Simd.{zip2-map}
use Rattle.std.specs.Prelude.{nat_eq, ◌&&◌, pos, filter, map, sum_by}
use Rattle.std.specs.List.{fold, range_with_len}
use Rattle.samr_box.specs.declared.vector.Axis.{Axis}
use Rattle.samr_box.specs.declared.vector.Axis.TheVariants.{I, J, K}
use Rattle.samr_box.specs.declared.vector.IVec.{IVec}
use Rattle.samr_box.specs.Vector.{alike, AtMost}
use Rattle.samr_box.specs.Corners.{Corners, IsBox, Holds, holds, span}
use Rattle.samr_box.specs.Space.{Space}
use Rattle.samr_box.specs.Lists.{Member}
use Rattle.samr_box.proofs.CellSets.{Holds-test, holds-from, Meet-cell}
use Rattle.samr_box.proofs.Members.{Member-map, Member-from_map, Member-filter, Member-from_filter}
use Rattle.samr_boxlist.specs.Covers.{held}
use Rattle.samr_level.specs.Refs.{Owned}
use Rattle.samr_level.specs.Levels.{own, own_boxes, IsLevel}
use Rattle.samr_level.specs.Regions.{Area}
use Rattle.samr_bits.specs.Bits.{one}
use Rattle.samr_sign.specs.Counts.{Sign, sign, sign_sum, added, tally, weigh, planes, slice}
use Rattle.samr_sign.proofs.Slices.{same_test, IsBox-slice, Holds-slice}
use Rattle.samr_sign.proofs.Tallies.{weigh_plus, weigh_le}
use Rattle.samr_sign.proofs.Sums.{tallies_sum, same_sign}
use Rattle.samr_rounds.specs.Near.{is_near}
use Rattle.samr_rounds.specs.Owners.{own_tags, AreTagsOf}
use Rattle.samr_rounds.specs.Ranks.{near_ranks, sum_of_signs}
use Rattle.samr_rounds.proofs.Lists.{any_member, member_any, nat_eq_self, sum_zero, sum_filter, sum_map, one_of_range, map_below}
use Rattle.samr_rounds.proofs.NearLaws.{near_tagged}

-- the boxes of a rank
Member-own_boxes : (b : Owned) (rank : ℕ) (level : List Owned) → Member b level → nat_eq b.owner rank ≡ true → Member b.bx (own_boxes rank level)
unfolding own
Member-own_boxes b rank level m e = Member-map (λ (v : Owned). v.bx) b (filter (λ v. nat_eq v.owner rank) level) (Member-filter (λ (v : Owned). nat_eq v.owner rank) b level m e)

Member-from_own_boxes : (c : Corners) (rank : ℕ) (level : List Owned) → Member c (own_boxes rank level) → (b : Owned) × Member b level × (nat_eq b.owner rank ≡ true) × (c ≡ b.bx)
unfolding own
Member-from_own_boxes c rank level m =
    let r = Member-from_map (λ (v : Owned). v.bx) c (filter (λ v. nat_eq v.owner rank) level) m in
    let s = Member-from_filter (λ (v : Owned). nat_eq v.owner rank) r.0 level r.1 in
    (r.0, s.0, s.1, r.2)

-- a tag is that of the one rank whose box has it
same_owner : (area : Area) (ranks : ℕ) (level : List Owned) (x : IVec) (b c : Owned) → IsLevel area ranks level → Member b level → Member c level → Holds b.bx x → Holds c.bx x → b ≡ c
same_owner area ranks level x b c is m n p q = is.disjoint b c m n (Meet-cell {a = b.bx} {b = c.bx} {x = x} p q)

pub own_at : (area : Area) (ranks : ℕ) (level : List Owned) (x : IVec) (b : Owned) (r : ℕ) → IsLevel area ranks level → Member b level → Holds b.bx x → held x (own_boxes r level) ≡ nat_eq r b.owner
own_at area ranks level x b r is m h =
    same_test (held x (own_boxes r level)) (nat_eq r b.owner)
    (λ e.
    let f = member_any (λ a. holds a x) (own_boxes r level) e in
    let s = Member-from_own_boxes f.0 r level f.1 in
    let inside : Holds s.0.bx x = Holds-test (ap (λ a. holds a x) (sym s.3) ∙ f.2) in
    let same : s.0 ≡ b = same_owner area ranks level x s.0 b is s.1 m inside h in
    turned s.0.owner r b.owner s.2 (ap (λ (v : Owned). v.owner) same))
    (λ e. any_member (λ a. holds a x) b.bx (own_boxes r level) (Member-own_boxes b r level m (swapped r b.owner e)) (holds-from h))
  where
    turned : (a r o : ℕ) → nat_eq a r ≡ true → a ≡ o → nat_eq r o ≡ true
    turned a r o e f = subst (λ v. nat_eq r v ≡ true) (sym (eqb-true a r e) ∙ f) (nat_eq_self r)

    swapped : (r o : ℕ) → nat_eq r o ≡ true → nat_eq o r ≡ true
    swapped r o e = subst (λ v. nat_eq v r ≡ true) (eqb-true r o e) (nat_eq_self r)

and_left : (a b : Bool) → a ≡ true → (a && b) ≡ b
and_left true b e = refl
and_left false b e = absurd (false≢true e)

and_none : (a b : Bool) → a ≡ false → (a && b) ≡ false
and_none true b e = absurd (false≢true (sym e))
and_none false b e = refl

pub shares : (area : Area) (ranks : ℕ) (level : List Owned) (t : IVec → Bool) (x : IVec) → IsLevel area ranks level → AreTagsOf level t
    → sum_by (λ r. one (own_tags t level r x)) (range_with_len 0 ranks) ≡ one (t x)
unfolding own_tags
shares area ranks level t x is tags = by_test (t x) refl
  where
    by_test : (v : Bool) → t x ≡ v → sum_by (λ r. one (t x && held x (own_boxes r level))) (range_with_len 0 ranks) ≡ one v
    by_test true e =
        let cell = tags x e in
        ap (λ (f : ℕ → ℕ). sum_by f (range_with_len 0 ranks))
        (λ i r. one ((and_left (t x) (held x (own_boxes r level)) e ∙ own_at area ranks level x cell.0 r is cell.1 cell.2) i))
        ∙ one_of_range cell.0.owner ranks 0 (omega arith) (omega (arith, is.owners cell.0 cell.1))
    by_test false e = sum_zero (λ r. one (t x && held x (own_boxes r level))) (range_with_len 0 ranks) (λ r m. ap one (and_none (t x) (held x (own_boxes r level)) e))

pub own_counts : (area : Area) (ranks : ℕ) (level : List Owned) (t : IVec → Bool) (b : Corners) → IsLevel area ranks level → AreTagsOf level t
    → sum_by (λ r. tally (own_tags t level r) b) (range_with_len 0 ranks) ≡ tally t b
own_counts area ranks level t b is tags =
    sym (sum_map (λ u. tally u b) (λ r. own_tags t level r) (range_with_len 0 ranks))
    ∙ tallies_sum (map (λ r. own_tags t level r) (range_with_len 0 ranks)) t
    (λ x. sum_map (λ (u : IVec → Bool). one (u x)) (λ r. own_tags t level r) (range_with_len 0 ranks) ∙ shares area ranks level t x is tags) b

-- signatures of weights in place of tags, which add up without a premise
abbrev weighed : (IVec → ℕ) → Corners → Axis → List ℕ
weighed f b axis = map (λ p. weigh f (slice axis b p)) (range_with_len 0 (span axis b))

abbrev weights : (IVec → ℕ) → Corners → Sign
weights f b = record { bx = b; i = weighed f b I; j = weighed f b J; k = weighed f b K }

sign_weights : (t : IVec → Bool) (b : Corners) → sign t b ≡ weights (λ x. one (t x)) b
unfolding planes tally
sign_weights t b = refl

weighed_plus : (f g : IVec → ℕ) (b : Corners) (axis : Axis) → added (weighed f b axis) (weighed g b axis) ≡ weighed (λ x. f x + g x) b axis
weighed_plus f g b axis =
    zip2-map (λ x y. x + y) (λ p. weigh f (slice axis b p)) (λ p. weigh g (slice axis b p)) (range_with_len 0 (span axis b))
    ∙ ap (λ (h : ℕ → ℕ). map h (range_with_len 0 (span axis b))) (λ i p. sym (weigh_plus f g (slice axis b p)) i)

weights_plus : (f g : IVec → ℕ) (b : Corners) → sign_sum (weights f b) (weights g b) ≡ weights (λ x. f x + g x) b
weights_plus f g b = same_sign (weighed_plus f g b I) (weighed_plus f g b J) (weighed_plus f g b K)

more_zero : (f : IVec → ℕ) (x : IVec) → f x ≡ f x + 0
more_zero f x = omega arith

weights_fold : {X : Type 0} (f : IVec → ℕ) (g : X → IVec → ℕ) (xs : List X) (b : Corners)
    → fold sign_sum (weights f b) (map (λ r. weights (g r) b) xs) ≡ weights (λ x. f x + sum_by (λ r. g r x) xs) b
weights_fold f g [] b = ap (λ (h : IVec → ℕ). weights h b) (λ i x. more_zero f x i)
weights_fold f g (r ∷ xs) b =
    ap (λ s. fold sign_sum s (map (λ v. weights (g v) b) xs)) (weights_plus f (g r) b)
    ∙ weights_fold (λ x. f x + g r x) g xs b
    ∙ ap (λ (h : IVec → ℕ). weights h b) (λ i x. one_more (f x) (g r x) (sum_by (λ v. g v x) xs) (sum_by (λ v. g v x) (r ∷ xs)) (sum_by-cons (λ v. g v x) r xs) i)
  where
    one_more : (a c s n : ℕ) → n ≡ c + s → (a + c) + s ≡ a + n
    one_more a c s n e = omega (arith, e)

-- weights that are the same in the box
same_number : (a b : ℕ) → a ≤ b → b ≤ a → a ≡ b
same_number a b p q = omega (arith, p, q)

weigh_same : (f g : IVec → ℕ) (b : Corners) → AtMost b.lo b.hi → ((x : IVec) → Holds b x → f x ≡ g x) → weigh f b ≡ weigh g b
weigh_same f g b h e = same_number (weigh f b) (weigh g b) (weigh_le f g b h (λ x p. omega (arith, e x p))) (weigh_le g f b h (λ x p. omega (arith, e x p)))

weighed_same : (f g : IVec → ℕ) (b : Corners) (axis : Axis) → IsBox b → ((x : IVec) → Holds b x → f x ≡ g x) → weighed f b axis ≡ weighed g b axis
weighed_same f g b axis h e =
    map_below (λ p. weigh f (slice axis b p)) (λ p. weigh g (slice axis b p)) (span axis b) 0
    (λ p low high. weigh_same f g (slice axis b p) (IsBox-slice axis b p h (omega (arith, high))).order (λ x s. e x (Holds-slice axis b p x h.order (omega (arith, high)) s).0))

weights_same : (f g : IVec → ℕ) (b : Corners) → IsBox b → ((x : IVec) → Holds b x → f x ≡ g x) → weights f b ≡ weights g b
weights_same f g b h e = same_sign (weighed_same f g b I h e) (weighed_same f g b J h e) (weighed_same f g b K h e)

-- the signatures of sets of tags that share those of a box among them
pub signs_share : {X : Type 0} (u : X → IVec → Bool) (xs : List X) (t : IVec → Bool) (b : Corners) → IsBox b
    → ((x : IVec) → Holds b x → sum_by (λ r. one (u r x)) xs ≡ one (t x)) → sum_of_signs b (map (λ r. sign (u r) b) xs) ≡ sign t b
signs_share u xs t b h e =
    ap (λ s. fold sign_sum s (map (λ r. sign (u r) b) xs)) (sign_weights (λ x. false) b)
    ∙ ap (λ (f : _ → Sign). fold sign_sum (weights (λ x. 0) b) (map f xs)) (λ i r. sign_weights (u r) b i)
    ∙ weights_fold (λ x. 0) (λ r x. one (u r x)) xs b
    ∙ weights_same (λ x. 0 + sum_by (λ r. one (u r x)) xs) (λ x. one (t x)) b h (λ x p. omega (arith, e x p))
    ∙ sym (sign_weights t b)

-- of which the near ranks have all
near_shares : (frame : Space) (w : IVec) (area : Area) (ranks : ℕ) (level : List Owned) (t : IVec → Bool) (b : Corners) (x : IVec) → AtMost (alike (pos 0)) w → IsLevel area ranks level → AreTagsOf level t → Holds b x
    → sum_by (λ r. one (own_tags t level r x)) (near_ranks frame w level ranks b) ≡ one (t x)
near_shares frame w area ranks level t b x wide is tags h =
    sum_filter (λ r. is_near frame w (own_boxes r level) b) (λ r. one (own_tags t level r x)) (range_with_len 0 ranks)
    (λ r far. ap one (false_from_ne_true (own_tags t level r x) (λ e. false≢true (sym far ∙ near_tagged frame w t level r b x wide h e))))
    ∙ shares area ranks level t x is tags

pub near_signs : (frame : Space) (w : IVec) (area : Area) (ranks : ℕ) (level : List Owned) (t : IVec → Bool) (b : Corners) → AtMost (alike (pos 0)) w → IsBox b → IsLevel area ranks level → AreTagsOf level t
    → sum_of_signs b (map (λ r. sign (own_tags t level r) b) (near_ranks frame w level ranks b)) ≡ sign t b
near_signs frame w area ranks level t b wide h is tags =
    signs_share (λ r. own_tags t level r) (near_ranks frame w level ranks b) t b h (λ x p. near_shares frame w area ranks level t b x wide is tags p)
