-- The letters of a bridge: whom a rank tells, who tells it, and what it has in the end.
use Rattle.std.proofs.Common.{◌≡◌, ◌≢◌, ℕ, zero, suc, ◌+◌, ◌<◌, refl, sym, ap, subst, ◌∙◌, inl, inr, arith, length, sum_by, not}
use Rattle.std.proofs.lemmas.Bool.{and_parts, and_from, or_cases, or_left, or_right, cases_eq, false≢true, ltb-true, lt-ltb, cond-true}
use Rattle.std.proofs.lemmas.Bool.Decides.{nat_tests}
use Rattle.std.proofs.lemmas.Cmp.{nat_cmp_total}
use Rattle.std.proofs.lemmas.List.Kept.{IsStrictlySortedBy-filter}
use Rattle.std.proofs.lemmas.List.Sums.{sum_by-cons}
use Rattle.std.specs.Prelude.{Bool, true, false, ◌&&◌, ◌||◌, cond, nat_eq, nat_lt, Some, None, List, [], ◌∷◌, ◌++◌, map, filter}
use Rattle.std.specs.List.{flat_map, range_with_len, filter_map, cons_option}
use Rattle.std.specs.List.Sorted.{IsStrictlySortedBy}
use Rattle.std.specs.Option.{option_map}
use Rattle.std.specs.Ordering.{nat_cmp}
use Rattle.samr_box.specs.Lists.{Member}
use Rattle.samr_box.proofs.Members.{Member-map, Member-from_map, Member-flat_map, Member-from_flat_map, Member-filter, Member-from_filter, Member-append_left, Member-append_right, Member-from_append, member_from_contains, contains_from_member}
use Rattle.samr_box.proofs.Ascending.{sorted-nil, sorted-cons, same_from_members}
use Rattle.samr_find.proofs.CellLists.{nat_less}
use Rattle.samr_stage.specs.declared.stage.Held.{Held}
use Rattle.samr_stage.specs.Row.{along, told, heard, column}
use Rattle.samr_stage.proofs.Rows.{along_in, along_out}
use Rattle.samr_level.specs.Refs.{Owned, Link, turned}
use Rattle.samr_level.specs.RefOrders.{edge_cmp, in_order}
use Rattle.samr_level.specs.Overlaps.{scale, true_overlaps, of_rank}
use Rattle.samr_level.proofs.RefLaws.{same_nat}
use Rattle.samr_level.proofs.Sorting.{Member-in_order, Member-from_in_order, sorted-in_order}
use Rattle.samr_level.proofs.Overlapping.{Member-overlaps, Member-from_overlaps, Member-of_rank, Member-from_of_rank, turn}
use Rattle.samr_bridge.specs.Bridge.{Bridging, IsOwned, IsBridge}
use Rattle.samr_bridge.specs.Found.{found, bridge_pair}
use Rattle.samr_bridge.specs.BridgeRow.{from_centre, to_centre, owns_head, other_owners, about, bridge_row}
use Rattle.samr_bridge.proofs.Everything.{Member-range, Member-from_range, forth_is, back_is}

-- a line that has a body exactly where a test holds
module _ {B X : Type 0} (make : ℕ → B → X) (test : ℕ → Bool) (body : ℕ → B) where
  picked : (xs : List ℕ) → filter_map (λ k. option_map (make k) (cond (test k) (Some (body k)) None)) xs ≡ map (λ k. make k (body k)) (filter test xs)
  picked [] = refl
  picked (x ∷ xs) = by (test x) (picked xs)
    where
      by : (t : Bool) → filter_map (λ k. option_map (make k) (cond (test k) (Some (body k)) None)) xs ≡ map (λ k. make k (body k)) (filter test xs)
          → cons_option (option_map (make x) (cond t (Some (body x)) None)) (filter_map (λ k. option_map (make k) (cond (test k) (Some (body k)) None)) xs)
          ≡ map (λ k. make k (body k)) (cond t (x ∷ filter test xs) (filter test xs))
      by true e = ap (λ l. make x (body x) ∷ l) e
      by false e = e

  along_picked : (n : ℕ) → along make (λ k. cond (test k) (Some (body k)) None) n ≡ map (λ k. make k (body k)) (filter test (range_with_len 0 n))
  unfolding along
  along_picked n = picked (range_with_len 0 n)

range_sorted : (n a : ℕ) → IsStrictlySortedBy nat_cmp (range_with_len a n)
range_sorted zero a = sorted-nil nat_cmp
range_sorted (suc n) a =
    sorted-cons nat_cmp a (range_with_len (a + 1) n)
    (λ k m. let low = (Member-from_range n (a + 1) k m).0 in nat_less a k (omega arith)) (range_sorted n (a + 1))

-- owning the head of an edge
owner_from : (rank : ℕ) (edges : List Link) → owns_head rank edges ≡ true → (e : Link) × Member e edges × (e.head.owner ≡ rank)
owner_from rank [] t = absurd (false≢true t)
owner_from rank (e ∷ edges) t = elim (or_cases (nat_eq e.head.owner rank) (owns_head rank edges) t) [
  | inl here ↦ (e, inl refl, grind (arith, nat_tests, here))
  | inr later ↦ let r = owner_from rank edges later in (r.0, inr r.1, r.2)
]

owner_is : (rank : ℕ) (edges : List Link) (e : Link) → Member e edges → e.head.owner ≡ rank → owns_head rank edges ≡ true
owner_is rank [] e m o = absurd m
owner_is rank (x ∷ edges) e (inl same) o =
    let h : x.head.owner ≡ rank = ap (λ (v : Link). v.head.owner) (sym same) ∙ o in
    or_left (nat_eq x.head.owner rank) (owns_head rank edges) (grind (arith, nat_tests, h))
owner_is rank (x ∷ edges) e (inr m) o = or_right (nat_eq x.head.owner rank) (owns_head rank edges) (owner_is rank edges e m o)

not_same : (r rank : ℕ) → not (nat_eq r rank) ≡ true → r ≢ rank
not_same r rank t same = grind (arith, nat_tests, t, same)

is_not_same : (r rank : ℕ) → r ≢ rank → not (nat_eq r rank) ≡ true
is_not_same r rank other = grind (arith, nat_tests, other)

count_map : {X Y : Type 0} (f : X → Y) (xs : List X) → sum_by (λ (y : Y). 1) (map f xs) ≡ length xs
count_map f [] = refl
count_map f (x ∷ xs) = omega (arith, sum_by-cons (λ _. 1) (f x) (map f xs), count_map f xs)

-- the other owners are the ranks that pass a test
module _ (rank : ℕ) (edges : List Link) where
  Member-others : (e : Link) → Member e edges → e.head.owner ≢ rank → Member e.head.owner (other_owners rank edges)
  unfolding other_owners
  Member-others e m other =
      let owners = map (λ e. e.head.owner) edges in
      Member-in_order nat_cmp_total same_nat e.head.owner (filter (λ r. not (nat_eq r rank)) owners)
      (Member-filter (λ r. not (nat_eq r rank)) e.head.owner owners (Member-map (λ e. e.head.owner) e edges m) (is_not_same e.head.owner rank other))

  Member-from_others : (k : ℕ) → Member k (other_owners rank edges) → (e : Link) × Member e edges × (e.head.owner ≡ k) × (k ≢ rank)
  unfolding other_owners
  Member-from_others k m =
      let owners = map (λ e. e.head.owner) edges in
      let f = Member-from_filter (λ r. not (nat_eq r rank)) k owners (Member-from_in_order nat_cmp_total k (filter (λ r. not (nat_eq r rank)) owners) m) in
      let r = Member-from_map (λ e. e.head.owner) k edges f.0 in
      (r.0, r.1, sym r.2, not_same k rank f.1)

  others-sorted : IsStrictlySortedBy nat_cmp (other_owners rank edges)
  unfolding other_owners
  others-sorted = sorted-in_order nat_cmp_total (filter (λ r. not (nat_eq r rank)) (map (λ e. e.head.owner) edges))

  others_are : (test : ℕ → Bool) (n : ℕ)
      → ((k : ℕ) → test k ≡ true → (e : Link) × Member e edges × (e.head.owner ≡ k) × (k ≢ rank))
      → ((e : Link) → Member e edges → e.head.owner ≢ rank → (e.head.owner < n) × (test e.head.owner ≡ true))
      → filter test (range_with_len 0 n) ≡ other_owners rank edges
  others_are test n only all =
      same_from_members nat_cmp_total (filter test (range_with_len 0 n)) (other_owners rank edges)
      (IsStrictlySortedBy-filter nat_cmp test (range_with_len 0 n) (range_sorted n 0)) others-sorted
      (λ k m.
      let f = Member-from_filter test k (range_with_len 0 n) m in
      let r = only k f.1 in
      subst (λ (v : ℕ). Member v (other_owners rank edges)) r.2 (Member-others r.0 r.1 (λ same. r.3 (sym r.2 ∙ same))))
      (λ k m.
      let r = Member-from_others k m in
      let e = r.0 in
      let h = all e r.1 (λ same. r.3 (sym r.2 ∙ same)) in
      let below = h.0 in
      subst (λ (v : ℕ). Member v (filter test (range_with_len 0 n))) r.2
      (Member-filter test e.head.owner (range_with_len 0 n) (Member-range n 0 e.head.owner (omega arith) (omega (arith, below))) h.1))

-- an edge from the centre is one back, turned
module _ (w : Bridging) (own : IsOwned w) where
  turned_there : (q : ℕ) (e : Link) → Member e (from_centre w q) → (e.base.owner ≡ q) × (e.head.owner < w.ranks) × Member (turned e) (to_centre w e.head.owner)
  turned_there q e m =
      let east = scale w.frame w.east_width w.centre_ratio w.east_ratio in
      let west = scale w.frame w.west_width w.centre_ratio w.west_ratio in
      let back_east = scale w.frame w.east_width w.east_ratio w.centre_ratio in
      let back_west = scale w.frame w.west_width w.west_ratio w.centre_ratio in
      let r = e.head.owner in
      elim (Member-from_append e (of_rank q (true_overlaps east w.centre w.east)) (of_rank q (true_overlaps west w.centre w.west)) m) [
        | inl p ↦
            let f = Member-from_of_rank q (true_overlaps east w.centre w.east) e p in
            let h = Member-from_overlaps east w.centre w.east e f.0 in
            let t = turn w.frame w.east_width w.centre_ratio w.east_ratio w.centre w.east e h in (
              f.1,
              own.east e.head h.is_head,
              Member-append_left (turned e) (of_rank r (true_overlaps back_east w.east w.centre)) (of_rank r (true_overlaps back_west w.west w.centre))
                  (Member-of_rank r (true_overlaps back_east w.east w.centre) (turned e) (Member-overlaps back_east w.east w.centre (turned e) t) refl),
            )
        | inr p ↦
            let f = Member-from_of_rank q (true_overlaps west w.centre w.west) e p in
            let h = Member-from_overlaps west w.centre w.west e f.0 in
            let t = turn w.frame w.west_width w.centre_ratio w.west_ratio w.centre w.west e h in (
              f.1,
              own.west e.head h.is_head,
              Member-append_right (turned e) (of_rank r (true_overlaps back_east w.east w.centre)) (of_rank r (true_overlaps back_west w.west w.centre))
                  (Member-of_rank r (true_overlaps back_west w.west w.centre) (turned e) (Member-overlaps back_west w.west w.centre (turned e) t) refl),
            )
      ]

  turned_here : (q : ℕ) (e : Link) → Member e (to_centre w q) → (e.base.owner ≡ q) × (e.head.owner < w.ranks) × Member (turned e) (from_centre w e.head.owner)
  turned_here q e m =
      let east = scale w.frame w.east_width w.east_ratio w.centre_ratio in
      let west = scale w.frame w.west_width w.west_ratio w.centre_ratio in
      let back_east = scale w.frame w.east_width w.centre_ratio w.east_ratio in
      let back_west = scale w.frame w.west_width w.centre_ratio w.west_ratio in
      let r = e.head.owner in
      elim (Member-from_append e (of_rank q (true_overlaps east w.east w.centre)) (of_rank q (true_overlaps west w.west w.centre)) m) [
        | inl p ↦
            let f = Member-from_of_rank q (true_overlaps east w.east w.centre) e p in
            let h = Member-from_overlaps east w.east w.centre e f.0 in
            let t = turn w.frame w.east_width w.east_ratio w.centre_ratio w.east w.centre e h in (
              f.1,
              own.centre e.head h.is_head,
              Member-append_left (turned e) (of_rank r (true_overlaps back_east w.centre w.east)) (of_rank r (true_overlaps back_west w.centre w.west))
                  (Member-of_rank r (true_overlaps back_east w.centre w.east) (turned e) (Member-overlaps back_east w.centre w.east (turned e) t) refl),
            )
        | inr p ↦
            let f = Member-from_of_rank q (true_overlaps west w.west w.centre) e p in
            let h = Member-from_overlaps west w.west w.centre e f.0 in
            let t = turn w.frame w.west_width w.west_ratio w.centre_ratio w.west w.centre e h in (
              f.1,
              own.centre e.head h.is_head,
              Member-append_right (turned e) (of_rank r (true_overlaps back_east w.centre w.east)) (of_rank r (true_overlaps back_west w.centre w.west))
                  (Member-of_rank r (true_overlaps back_west w.centre w.west) (turned e) (Member-overlaps back_west w.centre w.west (turned e) t) refl),
            )
      ]

  -- the test of the row
  abbrev tells : ℕ → ℕ → Bool
  tells from to = nat_lt from w.ranks && (nat_lt to w.ranks && (not (nat_eq to from) && owns_head to (from_centre w from)))

  tells_from : (from to : ℕ) → tells from to ≡ true → (from < w.ranks) × (to < w.ranks) × (to ≢ from) × ((e : Link) × Member e (from_centre w from) × (e.head.owner ≡ to))
  tells_from from to t =
      let first = and_parts (nat_lt from w.ranks) (nat_lt to w.ranks && (not (nat_eq to from) && owns_head to (from_centre w from))) t in
      let second = and_parts (nat_lt to w.ranks) (not (nat_eq to from) && owns_head to (from_centre w from)) first.1 in
      let third = and_parts (not (nat_eq to from)) (owns_head to (from_centre w from)) second.1 in
      (ltb-true from w.ranks first.0, ltb-true to w.ranks second.0, not_same to from third.0, owner_from to (from_centre w from) third.1)

  tells_is : (from to : ℕ) (e : Link) → from < w.ranks → to < w.ranks → to ≢ from → Member e (from_centre w from) → e.head.owner ≡ to → tells from to ≡ true
  tells_is from to e p q other m o =
      and_from (nat_lt from w.ranks) (nat_lt to w.ranks && (not (nat_eq to from) && owns_head to (from_centre w from))) (lt-ltb from w.ranks p)
      (and_from (nat_lt to w.ranks) (not (nat_eq to from) && owns_head to (from_centre w from)) (lt-ltb to w.ranks q)
      (and_from (not (nat_eq to from)) (owns_head to (from_centre w from)) (is_not_same to from other) (owner_is to (from_centre w from) e m o)))

  addressees_are : (rank : ℕ) → rank < w.ranks → filter (λ to. tells rank to) (range_with_len 0 w.ranks) ≡ other_owners rank (from_centre w rank)
  addressees_are rank within =
      others_are rank (from_centre w rank) (λ to. tells rank to) w.ranks
      (λ to t. let r = tells_from rank to t in (r.3.0, r.3.1, r.3.2, r.2))
      (λ e m other. let h = turned_there rank e m in (h.1, tells_is rank e.head.owner e within h.1 other m refl))

  senders_are : (rank : ℕ) → rank < w.ranks → filter (λ from. tells from rank) (range_with_len 0 w.ranks) ≡ other_owners rank (to_centre w rank)
  senders_are rank within =
      others_are rank (to_centre w rank) (λ from. tells from rank) w.ranks
      (λ from t.
      let r = tells_from from rank t in
      let e = r.3.0 in
      let h = turned_there from e r.3.1 in
      (turned e, subst (λ (k : ℕ). Member (turned e) (to_centre w k)) r.3.2 h.2, h.0, λ same. r.2 (sym same)))
      (λ e m other.
      let h = turned_here rank e m in
      (h.1, tells_is e.head.owner rank (turned e) h.1 within (λ same. other (sym same)) h.2 h.0))

  -- the letters that a rank gives out, and how many it holds in the end
  pub letters_are : (rank : ℕ) → rank < w.ranks
      → told (bridge_row w rank) w.ranks ≡ map (λ to. (to, about to (found w rank))) (other_owners rank (from_centre w rank))
  unfolding bridge_row
  letters_are rank within =
      along_picked (λ to body. (to, body)) (λ to. tells rank to) (λ to. about to (found w rank)) w.ranks
      ∙ ap (map (λ to. (to, about to (found w rank)))) (addressees_are rank within)

  pub count_is : (rank : ℕ) → rank < w.ranks → length (other_owners rank (to_centre w rank)) ≡ sum_by (λ (held : Held (List Link)). 1) (heard (column (bridge_row w) rank) w.ranks)
  unfolding bridge_row
  count_is rank within =
      let make : ℕ → List Link → Held (List Link) = λ from body. record { sender = from; body = body } in
      sym
      (ap (sum_by (λ (held : Held (List Link)). 1)) (along_picked make (λ from. tells from rank) (λ from. about rank (found w from)) w.ranks)
      ∙ count_map (λ from. make from (about rank (found w from))) (filter (λ from. tells from rank) (range_with_len 0 w.ranks))
      ∙ ap length (senders_are rank within))

  -- what a rank holds in the end
  module _ (rank : ℕ) (within : rank < w.ranks) where
    abbrev all_edges : List Link
    all_edges = found w rank ++ flat_map (λ (letter : Held (List Link)). letter.body) (heard (column (bridge_row w) rank) w.ranks)

    body_of : (t : Bool) (body other : List Link) → cond t (Some body) None ≡ Some other → other ≡ body
    body_of true body other e = cc
    body_of false body other e = absurd cc

    only : (e : Link) → Member e all_edges → (q : ℕ) × Member e (found w q)
    unfolding bridge_row about
    only e m = elim (Member-from_append e (found w rank) (flat_map (λ (letter : Held (List Link)). letter.body) (heard (column (bridge_row w) rank) w.ranks)) m) [
      | inl own ↦ (rank, own)
      | inr told ↦
          let r = Member-from_flat_map (λ (letter : Held (List Link)). letter.body) e (heard (column (bridge_row w) rank) w.ranks) told in
          let o = along_out (λ from body. let h : Held (List Link) = record { sender = from; body = body } in h) (column (bridge_row w) rank) w.ranks r.0 (contains_from_member r.0 (heard (column (bridge_row w) rank) w.ranks) r.1) in
          let is = body_of (tells o.0 rank) (about rank (found w o.0)) o.1 o.3 in
          let here = subst (λ (h : Held (List Link)). Member e h.body) (sym o.4) r.2 in
          let there = subst (λ (l : List Link). Member e l) is here in
          (o.0, (Member-from_filter (λ e. nat_eq e.base.owner rank || nat_eq e.head.owner rank) e (found w o.0) there).0)
    ]

    -- what another rank finds about this one is told
    is_told : (q : ℕ) (e t : Link) → q < w.ranks → Member e (found w q) → Member t (from_centre w q) → t.head.owner ≡ rank
        → (nat_eq e.base.owner rank || nat_eq e.head.owner rank) ≡ true → Member e all_edges
    unfolding bridge_row about
    is_told q e t p m to owner concerned = elim (cases_eq q rank) [
      | inl same ↦ Member-append_left e (found w rank) (flat_map (λ (letter : Held (List Link)). letter.body) (heard (column (bridge_row w) rank) w.ranks)) (subst (λ (k : ℕ). Member e (found w k)) same m)
      | inr other ↦
          let body = about rank (found w q) in
          let letter : Held (List Link) = record { sender = q; body = body } in
          let yes = tells_is q rank t p within (λ same. other (sym same)) to owner in
          let line = cond-true (tells q rank) (Some body) None yes in
          let there = member_from_contains letter (heard (column (bridge_row w) rank) w.ranks)
          (along_in (λ from body. let h : Held (List Link) = record { sender = from; body = body } in h) (column (bridge_row w) rank) w.ranks q body p line) in
          Member-append_right e (found w rank) (flat_map (λ (letter : Held (List Link)). letter.body) (heard (column (bridge_row w) rank) w.ranks))
          (Member-flat_map (λ (letter : Held (List Link)). letter.body) e letter (heard (column (bridge_row w) rank) w.ranks) there
          (Member-filter (λ e. nat_eq e.base.owner rank || nat_eq e.head.owner rank) e (found w q) m concerned))
    ]

    pub ends_forth : IsBridge w → in_order edge_cmp (of_rank rank all_edges) ≡ (bridge_pair w rank).forth.edges
    ends_forth b =
        forth_is w b rank all_edges only
        (λ q e a d h o.
        let same : nat_eq e.base.owner rank ≡ true = grind (arith, nat_tests, o) in
        is_told q e a h.within h.is_found h.to_base (ap (λ (v : Owned). v.owner) h.base ∙ o) (or_left (nat_eq e.base.owner rank) (nat_eq e.head.owner rank) same))

    pub ends_back : IsBridge w → in_order edge_cmp (of_rank rank (map (λ e. turned e) all_edges)) ≡ (bridge_pair w rank).back.edges
    ends_back b =
        back_is w b rank all_edges only
        (λ q e a d h o.
        let same : nat_eq e.head.owner rank ≡ true = grind (arith, nat_tests, o) in
        is_told q e d h.within h.is_found h.to_head (ap (λ (v : Owned). v.owner) h.head ∙ o) (or_right (nat_eq e.base.owner rank) (nat_eq e.head.owner rank) same))
