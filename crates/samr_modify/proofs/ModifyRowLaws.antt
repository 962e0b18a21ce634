-- The letters of a modification: whom a rank tells, and who tells it.
use Rattle.std.proofs.Common.{◌≡◌, ◌≢◌, ℕ, ◌<◌, refl, sym, ap, subst, ◌∙◌, inl, inr, length, sum_by, not}
use Rattle.std.proofs.lemmas.Bool.{and_parts, and_from, lt-ltb}
use Rattle.std.specs.Prelude.{Bool, true, ◌&&◌, nat_eq, nat_lt, List, map, filter, ◌⊎◌}
use Rattle.std.specs.List.{flat_map, range_with_len}
use Rattle.samr_box.specs.Lists.{Member}
use Rattle.samr_box.proofs.Members.{Member-map, Member-from_map, Member-flat_map, Member-from_flat_map, Member-filter, Member-from_filter, Member-append_left, Member-append_right, Member-from_append}
use Rattle.samr_stage.specs.declared.stage.Held.{Held}
use Rattle.samr_stage.specs.Row.{told, heard, column}
use Rattle.samr_level.specs.declared.parts.Move.{Move}
use Rattle.samr_level.specs.Refs.{Owned, Link, turned}
use Rattle.samr_level.specs.Overlaps.{true_overlaps, IsTrueOverlap}
use Rattle.samr_level.proofs.Overlapping.{Member-overlaps, Member-from_overlaps, Member-of_rank, Member-from_of_rank, turn}
use Rattle.samr_modify.specs.declared.entries.Replaced.{Replaced}
use Rattle.samr_modify.specs.Modify.{Modifying, IsOwned, forth_scale, back_scale, old_pair}
use Rattle.samr_modify.specs.Entries.{moves_of, entries, owns_one, told_to}
use Rattle.samr_modify.specs.ModifyRow.{head_owners, owners, addressed, awaited, others, is_among, modify_row}
use Rattle.samr_modify.proofs.Lists.{any_from, any_is, nat_same, nat_is_same, not_same, is_not_same, along_picked, count_map, others_are}
use Rattle.samr_modify.proofs.EntryLaws.{in_moves, from_moves, backs, in_backs, from_backs, owner_concerns}

-- one rank among others
among_from : (rank : ℕ) (ranks : List ℕ) → is_among rank ranks ≡ true → Member rank ranks
among_from rank ranks t =
    let r = any_from (λ (r : ℕ). nat_eq r rank) ranks t in
    subst (λ (k : ℕ). Member k ranks) (nat_same r.0 rank r.2) r.1

among_is : (rank : ℕ) (ranks : List ℕ) → Member rank ranks → is_among rank ranks ≡ true
among_is rank ranks m = any_is (λ (r : ℕ). nat_eq r rank) rank ranks m (nat_is_same rank rank refl)

module _ (w : Modifying) where
  abbrev pub forths : ℕ → List Link
  forths q = (old_pair w q).forth.edges

  pub in_forths : (q : ℕ) (e : Link) → IsTrueOverlap (forth_scale w) w.anchors w.olds e → e.base.owner ≡ q → Member e (forths q)
  in_forths q e h o =
      let all = true_overlaps (forth_scale w) w.anchors w.olds in
      Member-of_rank q all e (Member-overlaps (forth_scale w) w.anchors w.olds e h) o

  pub from_forths : (q : ℕ) (e : Link) → Member e (forths q) → IsTrueOverlap (forth_scale w) w.anchors w.olds e × (e.base.owner ≡ q)
  from_forths q e m =
      let all = true_overlaps (forth_scale w) w.anchors w.olds in
      let f = Member-from_of_rank q all e m in
      (Member-from_overlaps (forth_scale w) w.anchors w.olds e f.0, f.1)

  pub turn_forth : (e : Link) → IsTrueOverlap (forth_scale w) w.anchors w.olds e → IsTrueOverlap (back_scale w) w.olds w.anchors (turned e)
  turn_forth e h = turn w.frame w.width w.anchor_ratio w.old_ratio w.anchors w.olds e h

  turn_back : (e : Link) → IsTrueOverlap (back_scale w) w.olds w.anchors e → IsTrueOverlap (forth_scale w) w.anchors w.olds (turned e)
  turn_back e h = turn w.frame w.width w.old_ratio w.anchor_ratio w.olds w.anchors e h

  -- whom a rank has something to tell
  pub head_addressed : (q : ℕ) (e : Link) → Member e (backs w q) → Member e.head.owner (addressed w q)
  head_addressed q e m =
      Member-append_left e.head.owner (head_owners (backs w q)) (flat_map (λ (m : Move). owners m.news) (moves_of q w.moves))
      (Member-map (λ (e : Link). e.head.owner) e (backs w q) m)

  pub news_addressed : (m : Move) (n : Owned) → Member m w.moves → Member n m.news → Member n.owner (addressed w m.old.owner)
  news_addressed m n p h =
      let q = m.old.owner in
      Member-append_right n.owner (head_owners (backs w q)) (flat_map (λ (m : Move). owners m.news) (moves_of q w.moves))
      (Member-flat_map (λ (m : Move). owners m.news) n.owner m (moves_of q w.moves) (in_moves q m w.moves p refl) (Member-map (λ (b : Owned). b.owner) n m.news h))

  from_addressed : (q k : ℕ) → Member k (addressed w q)
      → ((e : Link) × Member e (backs w q) × (k ≡ e.head.owner)) ⊎ ((m : Move) × (n : Owned) × Member m w.moves × (m.old.owner ≡ q) × Member n m.news × (k ≡ n.owner))
  from_addressed q k h = elim (Member-from_append k (head_owners (backs w q)) (flat_map (λ (m : Move). owners m.news) (moves_of q w.moves)) h) [
    | inl p ↦ inl (Member-from_map (λ (e : Link). e.head.owner) k (backs w q) p)
    | inr p ↦
        let f = Member-from_flat_map (λ (m : Move). owners m.news) k (moves_of q w.moves) p in
        let m = from_moves q f.0 w.moves f.1 in
        let g = Member-from_map (λ (b : Owned). b.owner) k f.0.news f.2 in
        inr (f.0, g.0, m.0, m.1, g.1, g.2)
  ]

  -- whom it waits for
  head_awaited : (q : ℕ) (e : Link) → Member e (forths q) → Member e.head.owner (awaited w q)
  head_awaited q e m =
      Member-append_left e.head.owner (head_owners (forths q)) (map (λ (m : Move). m.old.owner) (filter (λ (m : Move). owns_one q m.news) w.moves))
      (Member-map (λ (e : Link). e.head.owner) e (forths q) m)

  news_awaited : (m : Move) (n : Owned) → Member m w.moves → Member n m.news → Member m.old.owner (awaited w n.owner)
  news_awaited m n p h =
      let q = n.owner in
      Member-append_right m.old.owner (head_owners (forths q)) (map (λ (m : Move). m.old.owner) (filter (λ (m : Move). owns_one q m.news) w.moves))
      (Member-map (λ (m : Move). m.old.owner) m (filter (λ (m : Move). owns_one q m.news) w.moves)
      (Member-filter (λ (m : Move). owns_one q m.news) m w.moves p (owner_concerns q n m.news h refl)))

  from_awaited : (q k : ℕ) → Member k (awaited w q)
      → ((e : Link) × Member e (forths q) × (k ≡ e.head.owner)) ⊎ ((m : Move) × (n : Owned) × Member m w.moves × (k ≡ m.old.owner) × Member n m.news × (n.owner ≡ q))
  from_awaited q k h =
      elim (Member-from_append k (head_owners (forths q)) (map (λ (m : Move). m.old.owner) (filter (λ (m : Move). owns_one q m.news) w.moves)) h) [
        | inl p ↦ inl (Member-from_map (λ (e : Link). e.head.owner) k (forths q) p)
        | inr p ↦
            let f = Member-from_map (λ (m : Move). m.old.owner) k (filter (λ (m : Move). owns_one q m.news) w.moves) p in
            let g = Member-from_filter (λ (m : Move). owns_one q m.news) f.0 w.moves f.1 in
            let n = any_from (λ (b : Owned). nat_eq b.owner q) f.0.news g.1 in
            inr (f.0, n.0, g.0, f.2, n.1, nat_same n.0.owner q n.2)
      ]

  -- who has something to tell a rank is awaited there, and the other way round
  pub is_awaited : (from to : ℕ) → Member to (addressed w from) → Member from (awaited w to)
  is_awaited from to h = elim (from_addressed from to h) [
    | inl (e, m, o) ↦
        let f = from_backs w from e m in
        let there = in_forths to (turned e) (turn_back e f.0) (sym o) in
        subst (λ (k : ℕ). Member k (awaited w to)) f.1 (head_awaited to (turned e) there)
    | inr (m, n, p, q, h, o) ↦
        let there = news_awaited m n p h in
        subst (λ (k : ℕ). Member from (awaited w k)) (sym o) (subst (λ (k : ℕ). Member k (awaited w n.owner)) q there)
  ]

  pub is_addressed : (from to : ℕ) → Member from (awaited w to) → Member to (addressed w from)
  is_addressed from to h = elim (from_awaited to from h) [
    | inl (e, m, o) ↦
        let f = from_forths to e m in
        let there = in_backs w from (turned e) (turn_forth e f.0) (sym o) in
        subst (λ (k : ℕ). Member k (addressed w from)) f.1 (head_addressed from (turned e) there)
    | inr (m, n, p, q, h, o) ↦
        let there = news_addressed m n p h in
        subst (λ (k : ℕ). Member to (addressed w k)) (sym q) (subst (λ (k : ℕ). Member k (addressed w m.old.owner)) o there)
  ]

  -- the test of the row
  abbrev pub tells : ℕ → ℕ → Bool
  tells from to = nat_lt from w.ranks && (nat_lt to w.ranks && (not (nat_eq to from) && is_among to (addressed w from)))

  tells_from : (from to : ℕ) → tells from to ≡ true → (to ≢ from) × Member to (addressed w from)
  tells_from from to t =
      let first = and_parts (nat_lt from w.ranks) (nat_lt to w.ranks && (not (nat_eq to from) && is_among to (addressed w from))) t in
      let second = and_parts (nat_lt to w.ranks) (not (nat_eq to from) && is_among to (addressed w from)) first.1 in
      let third = and_parts (not (nat_eq to from)) (is_among to (addressed w from)) second.1 in
      (not_same to from third.0, among_from to (addressed w from) third.1)

  pub tells_is : (from to : ℕ) → from < w.ranks → to < w.ranks → to ≢ from → Member to (addressed w from) → tells from to ≡ true
  tells_is from to p q other m =
      and_from (nat_lt from w.ranks) (nat_lt to w.ranks && (not (nat_eq to from) && is_among to (addressed w from))) (lt-ltb from w.ranks p)
      (and_from (nat_lt to w.ranks) (not (nat_eq to from) && is_among to (addressed w from)) (lt-ltb to w.ranks q)
      (and_from (not (nat_eq to from)) (is_among to (addressed w from)) (is_not_same to from other) (among_is to (addressed w from) m)))

  module _ (own : IsOwned w) where
    addressed_below : (q k : ℕ) → Member k (addressed w q) → k < w.ranks
    addressed_below q k h = elim (from_addressed q k h) [
      | inl (e, m, o) ↦ subst (λ (x : ℕ). x < w.ranks) (sym o) (own.anchors e.head (from_backs w q e m).0.is_head)
      | inr (m, n, p, q, h, o) ↦ subst (λ (x : ℕ). x < w.ranks) (sym o) (own.news m p n h)
    ]

    awaited_below : (q k : ℕ) → Member k (awaited w q) → k < w.ranks
    awaited_below q k h = elim (from_awaited q k h) [
      | inl (e, m, o) ↦ subst (λ (x : ℕ). x < w.ranks) (sym o) (own.olds e.head (from_forths q e m).0.is_head)
      | inr (m, n, p, q, h, o) ↦ subst (λ (x : ℕ). x < w.ranks) (sym q) (own.moved m p)
    ]

    addressees_are : (rank : ℕ) → rank < w.ranks → filter (λ to. tells rank to) (range_with_len 0 w.ranks) ≡ others rank (addressed w rank)
    addressees_are rank within =
        others_are rank (addressed w rank) (λ to. tells rank to) w.ranks
        (λ to t. let r = tells_from rank to t in (r.1, r.0))
        (λ to m other. let below = addressed_below rank to m in (below, tells_is rank to within below other m))

    senders_are : (rank : ℕ) → rank < w.ranks → filter (λ from. tells from rank) (range_with_len 0 w.ranks) ≡ others rank (awaited w rank)
    senders_are rank within =
        others_are rank (awaited w rank) (λ from. tells from rank) w.ranks
        (λ from t. let r = tells_from from rank t in (is_awaited from rank r.1, λ same. r.0 (sym same)))
        (λ from m other. let below = awaited_below rank from m in (below, tells_is from rank below within (λ same. other (sym same)) (is_addressed from rank m)))

    -- the letters that a rank gives out, and how many it holds in the end
    pub letters_are : (rank : ℕ) → rank < w.ranks → told (modify_row w rank) w.ranks ≡ map (λ to. (to, told_to to (entries w rank))) (others rank (addressed w rank))
    unfolding modify_row
    letters_are rank within =
        along_picked (λ to body. (to, body)) (λ to. tells rank to) (λ to. told_to to (entries w rank)) w.ranks
        ∙ ap (map (λ to. (to, told_to to (entries w rank)))) (addressees_are rank within)

    pub count_is : (rank : ℕ) → rank < w.ranks → length (others rank (awaited w rank)) ≡ sum_by (λ (held : Held (List Replaced)). 1) (heard (column (modify_row w) rank) w.ranks)
    unfolding modify_row
    count_is rank within =
        let make : ℕ → List Replaced → Held (List Replaced) = λ from body. record { sender = from; body = body } in
        sym
        (ap (sum_by (λ (held : Held (List Replaced)). 1)) (along_picked make (λ from. tells from rank) (λ from. told_to rank (entries w from)) w.ranks)
        ∙ count_map (λ from. make from (told_to rank (entries w from))) (filter (λ from. tells from rank) (range_with_len 0 w.ranks))
        ∙ ap length (senders_are rank within))
