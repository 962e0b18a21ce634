-- What a rank has before the letters home, and what it learns of its boxes from them.
use Rattle.std.proofs.Common.{◌≡◌, ℕ, ◌+◌, ◌-◌, ◌*◌, ◌/◌, ◌<◌, refl, sym, ap, ◌∙◌, inl, inr, arith, nat_lt, nat_eq}
use Rattle.std.proofs.lemmas.Bool.{cond_both, cases_lt, le-ltb, eqb-true}
use Rattle.std.proofs.lemmas.Bool.Decides.{nat_tests}
use Rattle.std.proofs.lemmas.List.Sums.{sum_by-append}
use Rattle.std.specs.Prelude.{Bool, true, false, cond, ◌&&◌, List, [], ◌∷◌, ◌++◌, map, filter, sum_by, Some, None}
use Rattle.std.specs.List.{flat_map, range_with_len}
use Rattle.std.specs.Ordering.{nat_cmp, ordering_then, is_eq}
use Rattle.std.specs.declared.cmp.Ordering.{Ordering}
use Rattle.std.specs.declared.cmp.Ordering.TheVariants.{Less, Equal, Greater}
use Rattle.samr_box.specs.Corners.{Corners}
use Rattle.samr_box.specs.Orders.{corner_cmp}
use Rattle.samr_bits.proofs.Sums.{sum_ext}
use Rattle.samr_stage.specs.declared.stage.Held.{Held}
use Rattle.samr_stage.specs.Row.{heard, column}
use Rattle.samr_level.specs.Refs.{Owned}
use Rattle.samr_level.specs.RefOrders.{ref_cmp}
use Rattle.samr_level.specs.Levels.{own}
use Rattle.samr_level.specs.declared.parts.Move.{Move}
use Rattle.samr_level.proofs.RefLaws.{ref_total, same_from_ref_cmp}
use Rattle.samr_tree.specs.Tree.{depth, bottom}
use Rattle.samr_tree.proofs.TreeLemmas.{depth_up}
use Rattle.samr_load.specs.Pieces.{Placed, piece_cmp, sorted}
use Rattle.samr_load.specs.Ascent.{Balancing, Climb, up_of}
use Rattle.samr_load.specs.Balanced.{owned_by}
use Rattle.samr_load.specs.Laws.{boxes_of}
use Rattle.samr_load.proofs.Totals.{Each, each_sorted}
use Rattle.samr_load.proofs.Ascents.{up_outside}
use Rattle.samr_load.proofs.Descents.{down_stays}
use Rattle.samr_balance.specs.declared.homed.Homed.{Homed}
use Rattle.samr_balance.specs.Rounds.{Round, going_down}
use Rattle.samr_balance.specs.Home.{Homes, balancing_of, pieces_in, news_on, news_of, move_of, olds_of, homed_of, AreHomes, IsHome, HasPieces}
use Rattle.samr_balance.specs.HomeRow.{Cutting, cutting_of, cutting_cmp, of_owner, told_of, home_row, told_on, kept_on}
use Rattle.samr_balance.proofs.Counts.{sum-sorted, sum-map, sum-filter, sum-same, sum-flat_map, sorted_same}
use Rattle.samr_balance.proofs.LineSums.{sum_range}
use Rattle.samr_balance.proofs.RoundHands.{down_at, down_past, within_bottom}
use Rattle.samr_balance.proofs.HomeRowLaws.{sum_heard}

-- a rank of the last depth has no children
pub no_child : (ranks rank k : ℕ) → depth rank ≡ bottom ranks → 0 < k → (k - 1) / 2 ≡ rank → nat_lt k ranks ≡ false
no_child ranks rank k last above parent = elim (cases_lt k ranks) [
  | inl inside ↦
      let d = depth_up k above in
      let same = ap depth parent in
      absurd (omega (arith, d, same, last, within_bottom ranks k inside))
  | inr past ↦ le-ltb k ranks past
]

no_need : (b : Balancing) (k : ℕ) → nat_lt k b.ranks ≡ false → (up_of b (cond (nat_lt k b.ranks) (Some k) None)).need ≡ 0
no_need b k off =
    ap (λ (t : Bool). (up_of b (cond t (Some k) None)).need) off ∙ ap (λ (c : Climb). c.need) (up_outside b)

module _ (w : Homes) (r : ℕ) (within : r < w.ranks) where
  -- what a rank has after the way down, in order
  pub ends_with : sorted piece_cmp (going_down (record { balancing = balancing_of w; round = bottom w.ranks }) r).pieces ≡ pieces_in w r
  ends_with = elim (cases_lt (depth r) (bottom w.ranks)) [
    | inl above ↦
        let at : Round = record { balancing = balancing_of w; round = bottom w.ranks } in
        ap (λ v. sorted piece_cmp v.pieces) (down_past at r above)
    | inr rest ↦
        let at : Round = record { balancing = balancing_of w; round = bottom w.ranks } in
        let b = balancing_of w in
        let last : depth r ≡ bottom w.ranks = omega (arith, rest, within_bottom w.ranks r within) in
        let one = no_need b (2 * r + 1) (no_child w.ranks r (2 * r + 1) last (omega arith) (omega arith)) in
        let two = no_need b (2 * r + 2) (no_child w.ranks r (2 * r + 2) last (omega arith) (omega arith)) in
        ap (λ v. sorted piece_cmp v.pieces) (down_at at r last) ∙ sym (ap (sorted piece_cmp) (down_stays b r one two))
  ]

-- a rank's boxes with the rank as owner are its boxes
pub owned_again : (rank : ℕ) (boxes : List Owned) → map (λ (b : Corners). let o : Owned = record { owner = rank; bx = b } in o) (boxes_of (own rank boxes)) ≡ own rank boxes
unfolding own
owned_again rank [] = refl
owned_again rank (o ∷ boxes) =
    cond_both (nat_eq o.owner rank) (o ∷ own rank boxes) (own rank boxes)
    (λ l. map (λ (b : Corners). let o : Owned = record { owner = rank; bx = b } in o) (boxes_of l) ≡ l)
    (λ on.
    ap (λ l. (let v : Owned = record { owner = rank; bx = o.bx } in v) ∷ l) (owned_again rank boxes)
    ∙ ap (λ (n : ℕ). (let v : Owned = record { owner = n; bx = o.bx } in v) ∷ own rank boxes) (sym (eqb-true o.owner rank on)))
    (λ off. owned_again rank boxes)

own_owner : (rank : ℕ) (boxes : List Owned) → Each (λ (o : Owned). o.owner ≡ rank) (own rank boxes)
unfolding own
own_owner rank [] = λ o m. absurd m
own_owner rank (x ∷ boxes) =
    cond_both (nat_eq x.owner rank) (x ∷ own rank boxes) (own rank boxes) (λ l. Each (λ (o : Owned). o.owner ≡ rank) l)
    (λ on. both x (own rank boxes) (eqb-true x.owner rank on) (own_owner rank boxes))
    (λ off. own_owner rank boxes)
  where
    both : (x : Owned) (xs : List Owned) → x.owner ≡ rank → Each (λ (o : Owned). o.owner ≡ rank) xs → Each (λ (o : Owned). o.owner ≡ rank) (x ∷ xs)
    both x xs here later o (inl e) = ap (λ (v : Owned). v.owner) e ∙ here
    both x xs here later o (inr m) = later o m

pub begins : (rank ranks : ℕ) (hand : List Placed) (cuts : List Corners) (w : Homes) (r : ℕ) → IsHome rank ranks hand cuts w r
    → (pieces : List Placed) (olds : List Owned) → pieces ≡ sorted piece_cmp hand → olds ≡ sorted ref_cmp (map (λ (b : Corners). let o : Owned = record { owner = rank; bx = b } in o) cuts)
    → HasPieces rank ranks pieces olds w r
begins rank ranks hand cuts w r is pieces olds e f = record {
  same_rank = is.same_rank;
  same_ranks = is.same_ranks;
  within = is.within;
  same_pieces = e ∙ ap (sorted piece_cmp) is.same_hand ∙ ends_with w r is.within;
  same_olds =
      f ∙ ap (λ (n : ℕ). sorted ref_cmp (map (λ (b : Corners). let o : Owned = record { owner = n; bx = b } in o) cuts)) is.same_rank
      ∙ ap (λ (l : List Corners). sorted ref_cmp (map (λ (b : Corners). let o : Owned = record { owner = r; bx = b } in o) l)) is.same_cuts
      ∙ ap (sorted ref_cmp) (owned_again r w.boxes);
  homes = is.homes;
}

-- equal by owner and by box
equal_then : (a b : ℕ) (c : Ordering) → is_eq (ordering_then (nat_cmp a b) c) ≡ (nat_eq a b && is_eq c)
equal_then a b c = by (nat_cmp a b) refl
  where
    by : (o : Ordering) → nat_cmp a b ≡ o → is_eq (ordering_then o c) ≡ (nat_eq a b && is_eq c)
    by Less e = let off : nat_eq a b ≡ false = grind (arith, nat_tests, e) in ap (λ t. t && is_eq c) (sym off)
    by Equal e = let on : nat_eq a b ≡ true = grind (arith, nat_tests, e) in ap (λ t. t && is_eq c) (sym on)
    by Greater e = let off : nat_eq a b ≡ false = grind (arith, nat_tests, e) in ap (λ t. t && is_eq c) (sym off)

both_tests : (s t : Bool) (n : ℕ) → ◌≡◌ {A = ℕ} (cond s (cond t n 0) 0) (cond (s && t) n 0)
both_tests true t n = refl
both_tests false t n = refl

-- the pieces of a rank's box, as another rank tells of them
module _ (f : Owned → ℕ) (old : Owned) (rank k : ℕ) (owner : old.owner ≡ rank) where
  abbrev of_cutting : Cutting → ℕ
  of_cutting c = cond (is_eq (corner_cmp c.origin old.bx)) (f (record { owner = k; bx = c.bx })) 0

  same_piece : (q : Placed) → cond {A = ℕ} (nat_eq q.origin.owner rank) (of_cutting (cutting_of q)) 0 ≡ cond (is_eq (ref_cmp q.origin old)) (f (owned_by k q)) 0
  same_piece q =
      both_tests (nat_eq q.origin.owner rank) (is_eq (corner_cmp q.origin.bx old.bx)) (f (owned_by k q))
      ∙ ap (λ (n : ℕ). cond {A = ℕ} (nat_eq q.origin.owner n && is_eq (corner_cmp q.origin.bx old.bx)) (f (owned_by k q)) 0) (sym owner)
      ∙ sym (ap (λ t. cond {A = ℕ} t (f (owned_by k q)) 0) (equal_then q.origin.owner old.owner (corner_cmp q.origin.bx old.bx)))

  told_sum : (pieces : List Placed) → sum_by f (told_on old k (told_of rank pieces)) ≡ sum_by f (kept_on old k pieces)
  unfolding told_on told_of of_owner kept_on
  told_sum pieces =
      let mine = filter (λ (q : Placed). nat_eq q.origin.owner rank) pieces in
      sum-map f (λ (c : Cutting). let o : Owned = record { owner = k; bx = c.bx } in o) (filter (λ (c : Cutting). is_eq (corner_cmp c.origin old.bx)) (sorted cutting_cmp (map cutting_of mine)))
      ∙ sum-filter (λ (c : Cutting). f (record { owner = k; bx = c.bx })) (λ (c : Cutting). is_eq (corner_cmp c.origin old.bx)) (sorted cutting_cmp (map cutting_of mine))
      ∙ sum-sorted of_cutting cutting_cmp (map cutting_of mine)
      ∙ sum-map of_cutting cutting_of mine
      ∙ sum-filter (λ (q : Placed). of_cutting (cutting_of q)) (λ (q : Placed). nat_eq q.origin.owner rank) pieces
      ∙ sum-same (λ (q : Placed). cond {A = ℕ} (nat_eq q.origin.owner rank) (of_cutting (cutting_of q)) 0) (λ (q : Placed). cond {A = ℕ} (is_eq (ref_cmp q.origin old)) (f (owned_by k q)) 0) pieces same_piece
      ∙ sym (sum-filter (λ (q : Placed). f (owned_by k q)) (λ (q : Placed). is_eq (ref_cmp q.origin old)) pieces)
      ∙ sym (sum-map f (owned_by k) (filter (λ (q : Placed). is_eq (ref_cmp q.origin old)) pieces))

-- what a rank knows of one of its boxes in the end
module _ (w : Homes) (h : AreHomes w) (r : ℕ) (within : r < w.ranks) (old : Owned) (owner : old.owner ≡ r) where
  abbrev known : List Owned
  known = kept_on old r (pieces_in w r) ++ flat_map (λ (l : Held (List Cutting)). told_on old l.sender l.body) (heard (column (home_row w) r) w.ranks)

  same_sums : (f : Owned → ℕ) → sum_by f known ≡ sum_by f (flat_map (news_on w old) (range_with_len 0 w.ranks))
  unfolding kept_on told_on
  same_sums f =
      let own_part = kept_on old r (pieces_in w r) in
      let told_part = flat_map (λ (l : Held (List Cutting)). told_on old l.sender l.body) (heard (column (home_row w) r) w.ranks) in
      let all = sum_by-append f own_part told_part in
      let told = sum-flat_map f (λ (l : Held (List Cutting)). told_on old l.sender l.body) (heard (column (home_row w) r) w.ranks) in
      let letters = sum_heard w h r within (λ k body. sum_by f (told_on old k body)) (λ k. refl) in
      let here = told_sum f old r r owner (pieces_in w r) in
      let each = sum_ext (λ k. sum_by f (told_on old k (told_of r (pieces_in w k)))) (λ k. sum_by f (news_on w old (0 + k))) w.ranks
      (λ k below. told_sum f old r k owner (pieces_in w k) ∙ ap (λ (n : ℕ). sum_by f (news_on w old n)) (omega arith)) in
      let ranks = sum-flat_map f (news_on w old) (range_with_len 0 w.ranks) in
      let range = sum_range (λ k. sum_by f (news_on w old k)) 0 w.ranks in
      omega (arith, all, told, letters, here, each, ranks, range)

  pub news_are : sorted ref_cmp known ≡ news_of w old
  unfolding news_of
  news_are = sorted_same ref_cmp ref_total same_from_ref_cmp known (flat_map (news_on w old) (range_with_len 0 w.ranks)) same_sums

map_same : {X Y : Type 0} (f g : X → Y) (xs : List X) → Each (λ x. f x ≡ g x) xs → map f xs ≡ map g xs
map_same f g [] same = refl
map_same f g (x ∷ xs) same = ap (λ y. y ∷ map f xs) (same x (inl refl)) ∙ ap (λ l. g x ∷ l) (map_same f g xs (λ y m. same y (inr m)))

-- what a rank has in the end
pub ends : (rank ranks : ℕ) (pieces : List Placed) (olds : List Owned) (w : Homes) (r : ℕ) → HasPieces rank ranks pieces olds w r
    → (held : List (Held (List Cutting))) → held ≡ heard (column (home_row w) r) w.ranks → (own_pieces : List Placed) (entries : List Move) → own_pieces ≡ pieces
    → entries ≡ map (λ (old : Owned). let m : Move = record { old = old; news = sorted ref_cmp (kept_on old rank pieces ++ flat_map (λ (l : Held (List Cutting)). told_on old l.sender l.body) held) } in m) olds
    → (let v : Homed = record { pieces = own_pieces; mapping = record { entries = entries } } in v) ≡ homed_of w r
unfolding homed_of
ends rank ranks pieces olds w r is held are own_pieces entries e f =
    let line : ℕ → List Placed → List (Held (List Cutting)) → Owned → Move = λ n ps hs old.
    let m : Move = record { old = old; news = sorted ref_cmp (kept_on old n ps ++ flat_map (λ (l : Held (List Cutting)). told_on old l.sender l.body) hs) } in m in
    let full = heard (column (home_row w) r) w.ranks in
    let entries_are : entries ≡ map (move_of w) (olds_of w r) =
    f ∙ ap (map (line rank pieces held)) is.same_olds
    ∙ ap (λ (n : ℕ). map (line n pieces held) (olds_of w r)) is.same_rank
    ∙ ap (λ (l : List Placed). map (line r l held) (olds_of w r)) is.same_pieces
    ∙ ap (λ (l : List (Held (List Cutting))). map (line r (pieces_in w r) l) (olds_of w r)) are
    ∙ map_same (line r (pieces_in w r) full) (move_of w) (olds_of w r)
    (λ old m. ap (λ (l : List Owned). let v : Move = record { old = old; news = l } in v)
    (news_are w is.homes r is.within old (each_sorted (λ (o : Owned). o.owner ≡ r) ref_cmp (own r w.boxes) (own_owner r w.boxes) old m))) in
    ap (λ (l : List Placed). let v : Homed = record { pieces = l; mapping = record { entries = entries } } in v) (e ∙ is.same_pieces)
    ∙ ap (λ (l : List Move). let v : Homed = record { pieces = pieces_in w r; mapping = record { entries = l } } in v) entries_are
