-- A search through windows, and one that compares all edges, find the same.
use Rattle.std.proofs.Common.{◌≡◌, ℕ, refl, sym, ap, subst, ◌∙◌, inl, inr, zero, suc}
use Rattle.std.proofs.lemmas.Bool.{and_parts, and_from, cond-true}
use Rattle.std.proofs.lemmas.Option.{slice_get-map}
use Rattle.std.specs.Prelude.{Bool, true, false, ◌&&◌, cond, Option, Some, None, List, [], ◌∷◌, map, filter}
use Rattle.std.specs.List.{All, flat_map, slice_get}
use Rattle.std.specs.Option.{option_map, option_map_or}
use Rattle.std.specs.Ordering.{int_cmp, ordering_then, eq_by_cmp, is_eq}
use Rattle.std.specs.declared.cmp.Ordering.{Ordering}
use Rattle.std.specs.declared.cmp.Ordering.TheVariants.{Less, Equal, Greater}
use Rattle.samr_box.specs.declared.vector.IVec.{IVec}
use Rattle.samr_box.specs.Vector.{IsRatio}
use Rattle.samr_box.specs.Corners.{Corners, IsBox, meets}
use Rattle.samr_box.specs.Orders.{cell_cmp}
use Rattle.samr_box.specs.Space.{is_zero}
use Rattle.samr_box.specs.Lists.{Member}
use Rattle.samr_box.proofs.Members.{Member-map, Member-flat_map, Member-from_flat_map, member_of_All}
use Rattle.samr_box.proofs.Totals.{cell_total, same_from_cell_cmp}
use Rattle.samr_box.proofs.Ascending.{same_from_members}
use Rattle.samr_find.specs.Places.{meeting, passes_at}
use Rattle.samr_find.proofs.PlaceLists.{place-from_passes}
use Rattle.samr_level.specs.Refs.{Link}
use Rattle.samr_level.specs.RefOrders.{ref_cmp, edge_cmp, in_order}
use Rattle.samr_level.specs.Overlaps.{Scale, is_true}
use Rattle.samr_level.proofs.RefLaws.{edge_total, same_from_edge_cmp, cell_same}
use Rattle.samr_level.proofs.Sorting.{Member-in_order, Member-from_in_order, sorted-in_order}
use Rattle.samr_bridge.specs.Found.{leave_one_box, joined, all_joined, found_by}
use Rattle.samr_bridge.specs.Search.{window, makes_pair, pair_of, pair_at, pairs_at, pairs_by, all_pairs}
use Rattle.samr_bridge.proofs.FoundLaws.{IsFoundBy, Member-found_by, Member-from_found_by}
use Rattle.samr_bridge.proofs.Windows.{meets-window}

-- the test for equal shifts agrees with their order
ties_then : (o p : Ordering) → (is_eq o && is_eq p) ≡ is_eq (ordering_then o p)
ties_then Less p = refl
ties_then Equal p = refl
ties_then Greater p = refl

pub cell_ties : (a b : IVec) → cell_same a b ≡ eq_by_cmp cell_cmp a b
cell_ties a b =
    ap (λ (v : Bool). is_eq (int_cmp a.k b.k) && v) (ties_then (int_cmp a.j b.j) (int_cmp a.i b.i))
    ∙ ties_then (int_cmp a.k b.k) (ordering_then (int_cmp a.j b.j) (int_cmp a.i b.i))

-- what a pair gives
Member-pair_of : (n : Scale) (a b : Link) → leave_one_box a b ≡ true → is_true n (joined a b) ≡ true → Member (joined a b) (pair_of n a b)
Member-pair_of n a b p q =
    subst (λ (l : List Link). Member (joined a b) l)
    (sym (cond-true (makes_pair n a b) (joined a b ∷ []) [] (and_from (leave_one_box a b) (is_true n (joined a b)) p q))) (inl refl)

Member-from_pair_of : (n : Scale) (a b e : Link) → Member e (pair_of n a b) → (leave_one_box a b ≡ true) × (is_true n (joined a b) ≡ true) × (e ≡ joined a b)
Member-from_pair_of n a b e m = by (makes_pair n a b) refl m
  where
    by : (t : Bool) → makes_pair n a b ≡ t → Member e (cond t (joined a b ∷ []) []) → (leave_one_box a b ≡ true) × (is_true n (joined a b) ≡ true) × (e ≡ joined a b)
    by false h m = absurd m
    by true h (inl same) = let p = and_parts (leave_one_box a b) (is_true n (joined a b)) h in (p.0, p.1, same)
    by true h (inr none) = absurd none

-- an element at a place
member_at : {X : Type 0} (xs : List X) (k : ℕ) (x : X) → slice_get xs k ≡ Some x → Member x xs
member_at [] k x h = absurd (none h)
  where
    none : {X : Type 0} {x : X} → None ≡ Some x → ⊥
    none e = cc
member_at (y ∷ ys) zero x h = inl (same h)
  where
    same : {X : Type 0} {x y : X} → Some y ≡ Some x → x ≡ y
    same e = cc
member_at (y ∷ ys) (suc k) x h = inr (member_at ys k x h)

place_of : {X : Type 0} (xs : List X) (x : X) → Member x xs → (k : ℕ) × (slice_get xs k ≡ Some x)
place_of [] x m = absurd m
place_of (y ∷ ys) x (inl e) = (0, ap Some (sym e))
place_of (y ∷ ys) x (inr m) = let r = place_of ys x m in (suc r.0, r.1)

-- lists whose members are exactly what is found
module _ (n : Scale) (to_east to_west : List Link) where
  is_found_by : (xs : List Link)
      → ((e : Link) → Member e xs → (a b : Link) × IsFoundBy n to_east to_west e a b)
      → ((a b : Link) → Member a to_east → Member b to_west → leave_one_box a b ≡ true → is_true n (joined a b) ≡ true → Member (joined a b) xs)
      → in_order edge_cmp xs ≡ found_by n to_east to_west
  unfolding found_by
  is_found_by xs only all =
      let ys = filter (λ e. is_true n e) (all_joined to_east to_west) in
      same_from_members edge_total (in_order edge_cmp xs) (in_order edge_cmp ys) (sorted-in_order edge_total xs) (sorted-in_order edge_total ys)
      (λ e m. let r = only e (Member-from_in_order edge_total e xs m) in Member-found_by n to_east to_west e r.0 r.1 r.2)
      (λ e m. let r = Member-from_found_by n to_east to_west e m in let h = r.2 in
      let t = subst (λ (v : Link). is_true n v ≡ true) h.is h.near in
      Member-in_order edge_total same_from_edge_cmp e xs
      (subst (λ (v : Link). Member v xs) (sym h.is) (all r.0 r.1 h.east h.west h.pair t)))

  from_pair : (a b e : Link) → Member a to_east → Member b to_west → Member e (pair_of n a b) → (a b : Link) × IsFoundBy n to_east to_west e a b
  from_pair a b e east west m =
      let r = Member-from_pair_of n a b e m in
      (a, b, record { east = east; west = west; pair = r.0; is = r.2; near = subst (λ (v : Link). is_true n v ≡ true) (sym r.2) r.1 })

  pub compared_is : in_order edge_cmp (all_pairs n to_east to_west) ≡ found_by n to_east to_west
  unfolding all_pairs
  compared_is =
      is_found_by (flat_map (λ a. flat_map (λ b. pair_of n a b) to_west) to_east)
      (λ e m.
      let r = Member-from_flat_map (λ a. flat_map (λ b. pair_of n a b) to_west) e to_east m in
      let q = Member-from_flat_map (λ b. pair_of n r.0 b) e to_west r.2 in
      from_pair r.0 q.0 e r.1 q.1 q.2)
      (λ a b east west p q.
      Member-flat_map (λ a. flat_map (λ b. pair_of n a b) to_west) (joined a b) a to_east east
      (Member-flat_map (λ b. pair_of n a b) (joined a b) b to_west west (Member-pair_of n a b p q)))

  from_place : (a e : Link) (place : ℕ) → Member e (pair_at n to_west a place) → (b : Link) × Member b to_west × Member e (pair_of n a b)
  from_place a e place m = by (slice_get to_west place) refl m
    where
      by : (o : Option Link) → slice_get to_west place ≡ o → Member e (option_map_or (λ b. pair_of n a b) o []) → (b : Link) × Member b to_west × Member e (pair_of n a b)
      by None h m = absurd m
      by (Some b) h m = (b, member_at to_west place b h, m)

  module _ (heads : List Corners) (ss : List IVec) (are_heads : heads ≡ map (λ e. e.head.bx) to_west) (boxes : All IsBox heads) (ratio : IsRatio n.head)
      (are_shifts : ss ≡ in_order cell_cmp (map (λ e. e.shift) to_west)) where
    only_pairs : (e : Link) → Member e (flat_map (λ a. pairs_by n heads ss to_west a) to_east) → (a b : Link) × IsFoundBy n to_east to_west e a b
    unfolding pairs_by pairs_at
    only_pairs e m =
        let r = Member-from_flat_map (λ a. pairs_by n heads ss to_west a) e to_east m in
        let a = r.0 in
        by a (is_zero a.shift) r.1 r.2
      where
        by : (a : Link) (t : Bool) → Member a to_east → Member e (cond t (flat_map (λ s. pairs_at n heads to_west a s) ss) []) → (a b : Link) × IsFoundBy n to_east to_west e a b
        by a false east m = absurd m
        by a true east m =
            let q = Member-from_flat_map (λ s. pairs_at n heads to_west a s) e ss m in
            let p = Member-from_flat_map (λ place. pair_at n to_west a place) e (meeting heads (window n a.head.bx q.0)) q.2 in
            let o = from_place a e p.0 p.2 in
            from_pair a o.0 e east o.1 o.2

    -- an edge whose head overlaps lies in the window at its shift
    in_window : (a b : Link) (place : ℕ) → Member b to_west → is_true n (joined a b) ≡ true → slice_get to_west place ≡ Some b → Member place (meeting heads (window n a.head.bx b.shift))
    unfolding meeting
    in_window a b place west t here =
        let q = window n a.head.bx b.shift in
        let at_head : slice_get heads place ≡ Some b.head.bx =
        ap (λ (l : List Corners). slice_get l place) are_heads ∙ slice_get-map (λ e. e.head.bx) to_west place ∙ ap (λ (o : Option Link). option_map (λ e. e.head.bx) o) here in
        let whole = member_of_All IsBox b.head.bx heads boxes (member_at heads place b.head.bx at_head) in
        let passes : passes_at (λ x. meets x q) heads place ≡ true =
        ap (λ (o : Option Corners). option_map_or (λ x. meets x q) o false) at_head ∙ meets-window n a.head.bx b.head.bx b.shift ratio whole t in
        place-from_passes (λ x. meets x q) heads place passes

    all_in : (a b : Link) → Member a to_east → Member b to_west → leave_one_box a b ≡ true → is_true n (joined a b) ≡ true
        → Member (joined a b) (flat_map (λ a. pairs_by n heads ss to_west a) to_east)
    unfolding pairs_by pairs_at
    all_in a b east west p q =
        let k = place_of to_west b west in
        let here : Member (joined a b) (pair_at n to_west a k.0) =
        subst (λ (o : Option Link). Member (joined a b) (option_map_or (λ b. pair_of n a b) o [])) (sym k.1) (Member-pair_of n a b p q) in
        let shift = subst (λ (l : List IVec). Member b.shift l) (sym are_shifts)
        (Member-in_order cell_total same_from_cell_cmp b.shift (map (λ e. e.shift) to_west) (Member-map (λ e. e.shift) b to_west west)) in
        let near = Member-flat_map (λ place. pair_at n to_west a place) (joined a b) k.0 (meeting heads (window n a.head.bx b.shift)) (in_window a b k.0 west q k.1) here in
        let zero = (and_parts (is_eq (ref_cmp a.base b.base)) (is_zero a.shift) p).1 in
        Member-flat_map (λ a. pairs_by n heads ss to_west a) (joined a b) a to_east east
        (subst (λ (l : List Link). Member (joined a b) l) (sym (cond-true (is_zero a.shift) (flat_map (λ s. pairs_at n heads to_west a s) ss) [] zero))
        (Member-flat_map (λ s. pairs_at n heads to_west a s) (joined a b) b.shift ss shift near))

    pub searched_is : in_order edge_cmp (flat_map (λ a. pairs_by n heads ss to_west a) to_east) ≡ found_by n to_east to_west
    searched_is = is_found_by (flat_map (λ a. pairs_by n heads ss to_west a) to_east) only_pairs all_in
