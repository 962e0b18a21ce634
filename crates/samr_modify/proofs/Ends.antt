-- What a rank knows in the end, and that it makes the rank's connectors of it.
use Rattle.std.proofs.Common.{◌≡◌, ◌≢◌, ℕ, ◌<◌, refl, sym, ap, subst, ◌∙◌, inl, inr, arith}
use Rattle.std.proofs.lemmas.Bool.{cases_eq, cond-true}
use Rattle.std.specs.Prelude.{Bool, true, false, cond, nat_eq, Some, None, List, ◌++◌, map}
use Rattle.std.specs.List.{flat_map, range_with_len}
use Rattle.std.specs.Ordering.{is_eq}
use Rattle.samr_box.specs.Lists.{Member}
use Rattle.samr_box.proofs.Members.{Member-map, Member-from_map, Member-flat_map, Member-from_flat_map, Member-filter, Member-from_filter, Member-append_left, Member-append_right, Member-from_append, member_from_contains, contains_from_member}
use Rattle.samr_stage.specs.declared.stage.Held.{Held}
use Rattle.samr_stage.specs.Row.{heard, column}
use Rattle.samr_stage.proofs.Rows.{along_in, along_out}
use Rattle.samr_level.specs.declared.parts.Move.{Move}
use Rattle.samr_level.specs.Refs.{Owned, Link, link, turned}
use Rattle.samr_level.specs.RefOrders.{ref_cmp, edge_cmp, in_order}
use Rattle.samr_level.specs.Levels.{own}
use Rattle.samr_level.specs.Overlaps.{Scale, is_true, IsTrueOverlap}
use Rattle.samr_level.proofs.RefLaws.{edge_total, same_from_edge_cmp}
use Rattle.samr_level.proofs.Sorting.{Member-in_order, Member-from_in_order, sorted-in_order}
use Rattle.samr_level.proofs.Overlapping.{connector_is}
use Rattle.samr_modify.specs.declared.entries.Replaced.{Replaced}
use Rattle.samr_modify.specs.Modify.{Modifying, IsModifying, IsOwned, news_of, forth_scale, back_scale, old_pair, modify_pair}
use Rattle.samr_modify.specs.Entries.{entries, all_entries, told_to, shown}
use Rattle.samr_modify.specs.ModifyRow.{addressed, modify_row}
use Rattle.samr_modify.specs.Found.{led_to, led, all_led, taken_by, taken, all_taken}
use Rattle.samr_modify.proofs.Lists.{Member-range, same_box, same_box-is, from_cond, in_cond, nat_same, nat_is_same}
use Rattle.samr_modify.proofs.Moves.{in_news, from_news, news_sorted, old_of, whole, whole_back}
use Rattle.samr_modify.proofs.EntryLaws.{IsKnown, HasEdges, entry_of, in_entries, from_entries, entry_known, entry_edges, shown_known, shown_edges, in_told, from_told, owner_concerns, head_concerns, news_concern, in_backs}
use Rattle.samr_modify.proofs.ModifyRowLaws.{forths, in_forths, from_forths, turn_forth, head_addressed, news_addressed, tells, tells_is}

-- edges led to new boxes
in_led_to : (n : Scale) (e : Link) (b : Owned) (news : List Owned) → Member b news → is_true n (link e.base b e.shift) ≡ true → Member (link e.base b e.shift) (led_to n e news)
unfolding led_to
in_led_to n e b news m t =
    Member-filter (λ e. is_true n e) (link e.base b e.shift) (map (λ b. link e.base b e.shift) news) (Member-map (λ b. link e.base b e.shift) b news m) t

from_led_to : (n : Scale) (e x : Link) (news : List Owned) → Member x (led_to n e news) → (b : Owned) × Member b news × (x ≡ link e.base b e.shift) × (is_true n x ≡ true)
unfolding led_to
from_led_to n e x news m =
    let f = Member-from_filter (λ e. is_true n e) x (map (λ b. link e.base b e.shift) news) m in
    let r = Member-from_map (λ b. link e.base b e.shift) x news f.0 in
    (r.0, r.1, r.2, f.1)

in_all_led : (n : Scale) (edges : List Link) (rs : List Replaced) (e : Link) (r : Replaced) (b : Owned)
    → Member e edges → Member r rs → e.head ≡ r.old → Member b r.news → is_true n (link e.base b e.shift) ≡ true → Member (link e.base b e.shift) (all_led n edges rs)
unfolding all_led
in_all_led n edges rs e r b p q same m t =
    Member-flat_map (λ e. flat_map (λ r. led n e r) rs) (link e.base b e.shift) e edges p
    (Member-flat_map (λ r. led n e r) (link e.base b e.shift) r rs q
    (in_cond (is_eq (ref_cmp e.head r.old)) (link e.base b e.shift) (led_to n e r.news) (same_box-is e.head r.old same) (in_led_to n e b r.news m t)))

from_all_led : (n : Scale) (edges : List Link) (rs : List Replaced) (x : Link) → Member x (all_led n edges rs)
    → (e : Link) × (r : Replaced) × (b : Owned) × Member e edges × Member r rs × (e.head ≡ r.old) × Member b r.news × (x ≡ link e.base b e.shift) × (is_true n x ≡ true)
unfolding all_led
from_all_led n edges rs x m =
    let p = Member-from_flat_map (λ e. flat_map (λ r. led n e r) rs) x edges m in
    let q = Member-from_flat_map (λ r. led n p.0 r) x rs p.2 in
    let e = p.0 in
    let r = q.0 in
    let c = from_cond (is_eq (ref_cmp e.head r.old)) x (led_to n e r.news) q.2 in
    let f = from_led_to n e x r.news c.1 in
    (e, r, f.0, p.1, q.1, same_box e.head r.old c.0, f.1, f.2, f.3)

-- edges that new boxes take
in_all_taken : (n : Scale) (rank : ℕ) (rs : List Replaced) (r : Replaced) (b : Owned) (e : Link)
    → Member r rs → Member b r.news → b.owner ≡ rank → Member e r.edges → is_true n (link b e.head e.shift) ≡ true → Member (link b e.head e.shift) (all_taken n rank rs)
unfolding all_taken taken taken_by own
in_all_taken n rank rs r b e p q o m t =
    let x = link b e.head e.shift in
    Member-flat_map (λ r. taken n rank r) x r rs p
    (Member-flat_map (λ b. taken_by n r.edges b) x b (own rank r.news) (Member-filter (λ b. nat_eq b.owner rank) b r.news q (nat_is_same b.owner rank o))
    (Member-filter (λ e. is_true n e) x (map (λ e. link b e.head e.shift) r.edges) (Member-map (λ e. link b e.head e.shift) e r.edges m) t))

from_all_taken : (n : Scale) (rank : ℕ) (rs : List Replaced) (x : Link) → Member x (all_taken n rank rs)
    → (r : Replaced) × (b : Owned) × (e : Link) × Member r rs × Member b r.news × (b.owner ≡ rank) × Member e r.edges × (x ≡ link b e.head e.shift) × (is_true n x ≡ true)
unfolding all_taken taken taken_by own
from_all_taken n rank rs x m =
    let p = Member-from_flat_map (λ r. taken n rank r) x rs m in
    let r = p.0 in
    let q = Member-from_flat_map (λ b. taken_by n r.edges b) x (own rank r.news) p.2 in
    let b = q.0 in
    let o = Member-from_filter (λ b. nat_eq b.owner rank) b r.news q.1 in
    let f = Member-from_filter (λ e. is_true n e) x (map (λ e. link b e.head e.shift) r.edges) q.2 in
    let g = Member-from_map (λ e. link b e.head e.shift) x r.edges f.0 in
    (r, b, g.0, p.1, o.0, nat_same b.owner rank o.1, g.1, g.2, f.1)

-- an old box among what a rank knows, with all its new boxes
pub record Has (w : Modifying) (known : List Replaced) (m : Move) : Type 0 where
  pub entry : Replaced
  pub is_in : Member entry known
  pub is_known : IsKnown w entry m

-- from what a rank knows it makes its connectors
module _ (w : Modifying) (b : IsModifying w) (rank : ℕ) (known : List Replaced)
    (only : (r : Replaced) → Member r known → (m : Move) × IsKnown w r m) where
  pub forth_is : ((m : Move) (e : Link) → Member m w.moves → IsTrueOverlap (back_scale w) w.olds w.anchors e → e.base ≡ m.old → e.head.owner ≡ rank → Has w known m)
      → in_order edge_cmp (all_led (forth_scale w) (forths w rank) known) ≡ (modify_pair w rank).forth.edges
  forth_is has =
      let n = forth_scale w in
      let xs = all_led n (forths w rank) known in
      connector_is n w.anchors (news_of w) rank (in_order edge_cmp xs) b.anchors (news_sorted w) (sorted-in_order edge_total xs)
      (λ x q.
      let f = from_all_led n (forths w rank) known x (Member-from_in_order edge_total x xs q) in
      let e = f.0 in
      let new = f.2 in
      let h = from_forths w rank e f.3 in
      let k = only f.1 f.4 in
      let there : IsTrueOverlap n w.anchors (news_of w) (link e.base new e.shift) = record {
        is_base = h.0.is_base;
        is_head = in_news w k.0 new k.1.is_move (k.1.news new f.6);
        is_shift = h.0.is_shift;
        is_near = subst (λ (v : Link). is_true n v ≡ true) f.7 f.8;
      } in
      (subst (λ (v : Link). IsTrueOverlap n w.anchors (news_of w) v) (sym f.7) there, ap (λ (v : Link). v.base.owner) f.7 ∙ h.1))
      (λ x h o.
      let r = from_news w x.head h.is_head in
      let m = r.0 in
      let e = link x.base m.old x.shift in
      let old : IsTrueOverlap n w.anchors w.olds e = record {
        is_base = h.is_base;
        is_head = old_of w b m r.1;
        is_shift = h.is_shift;
        is_near = whole w b x.base x.head m.old x.shift (m, r.1, refl, r.2) h.is_near;
      } in
      let k = has m (turned e) r.1 (turn_forth w e old) refl o in
      Member-in_order edge_total same_from_edge_cmp x xs
      (in_all_led n (forths w rank) known e k.entry x.head (in_forths w rank e old o) k.is_in (sym k.is_known.old) (k.is_known.all_news x.head r.2) h.is_near))

  pub back_is : ((m : Move) (n : Owned) → Member m w.moves → Member n m.news → n.owner ≡ rank → (h : Has w known m) × HasEdges w h.entry m)
      → in_order edge_cmp (all_taken (back_scale w) rank known) ≡ (modify_pair w rank).back.edges
  back_is has =
      let n = back_scale w in
      let xs = all_taken n rank known in
      connector_is n (news_of w) w.anchors rank (in_order edge_cmp xs) (news_sorted w) b.anchors (sorted-in_order edge_total xs)
      (λ x q.
      let f = from_all_taken n rank known x (Member-from_in_order edge_total x xs q) in
      let new = f.1 in
      let e = f.2 in
      let k = only f.0 f.3 in
      let h = (k.1.edges e f.6).0 in
      let there : IsTrueOverlap n (news_of w) w.anchors (link new e.head e.shift) = record {
        is_base = in_news w k.0 new k.1.is_move (k.1.news new f.4);
        is_head = h.is_head;
        is_shift = h.is_shift;
        is_near = subst (λ (v : Link). is_true n v ≡ true) f.7 f.8;
      } in
      (subst (λ (v : Link). IsTrueOverlap n (news_of w) w.anchors v) (sym f.7) there, ap (λ (v : Link). v.base.owner) f.7 ∙ f.5))
      (λ x h o.
      let r = from_news w x.base h.is_base in
      let m = r.0 in
      let e = link m.old x.head x.shift in
      let old : IsTrueOverlap n w.olds w.anchors e = record {
        is_base = old_of w b m r.1;
        is_head = h.is_head;
        is_shift = h.is_shift;
        is_near = whole_back w b m x.base x.head x.shift r.1 r.2 h.is_near;
      } in
      let k = has m x.base r.1 r.2 o in
      Member-in_order edge_total same_from_edge_cmp x xs
      (in_all_taken n rank known k.0.entry x.base e k.0.is_in (k.0.is_known.all_news x.base r.2) o (k.1 e old refl) h.is_near))

-- what a rank knows in the end: of its own old boxes, and what it was told
module _ (w : Modifying) (rank : ℕ) where
  abbrev pub letters_in : List (Held (List Replaced))
  letters_in = heard (column (modify_row w) rank) w.ranks

  abbrev pub all_known : List Replaced
  all_known = entries w rank ++ flat_map (λ (letter : Held (List Replaced)). letter.body) letters_in

  body_of : (t : Bool) (body other : List Replaced) → cond t (Some body) None ≡ Some other → other ≡ body
  body_of true body other e = cc
  body_of false body other e = absurd cc

  told_body : (q : ℕ) (body : List Replaced) (h : Held (List Replaced)) (r : Replaced) → modify_row w q rank ≡ Some body
      → (let x : Held (List Replaced) = record { sender = q; body = body } in x) ≡ h → Member r h.body → Member r (told_to rank (entries w q))
  unfolding modify_row
  told_body q body h r e f m =
      let there : Member r body = subst (λ (x : Held (List Replaced)). Member r x.body) (sym f) m in
      subst (λ (l : List Replaced). Member r l) (body_of (tells w q rank) (told_to rank (entries w q)) body e) there

  known_as : (r s : Replaced) (m : Move) → r ≡ s → IsKnown w s m → IsKnown w r m
  known_as r s m e k = subst (λ (v : Replaced). IsKnown w v m) (sym e) k

  from_own : (q : ℕ) (r : Replaced) → Member r (entries w q) → (m : Move) × IsKnown w r m
  from_own q r h =
      let f = from_entries w q r h in
      (f.0, known_as r (entry_of w q f.0) f.0 f.3 (entry_known w q f.0 f.1))

  only_known : (r : Replaced) → Member r all_known → (m : Move) × IsKnown w r m
  only_known r m = elim (Member-from_append r (entries w rank) (flat_map (λ (letter : Held (List Replaced)). letter.body) letters_in) m) [
    | inl own ↦ from_own rank r own
    | inr told ↦
        let p = Member-from_flat_map (λ (letter : Held (List Replaced)). letter.body) r letters_in told in
        let o = along_out (λ from body. let h : Held (List Replaced) = record { sender = from; body = body } in h) (column (modify_row w) rank) w.ranks p.0 (contains_from_member p.0 letters_in p.1) in
        let s = from_told rank r (entries w o.0) (told_body o.0 o.1 p.0 r o.3 o.4 p.2) in
        let k = from_own o.0 s.0 s.1 in
        (k.0, known_as r (shown rank s.0) k.0 s.2 (shown_known w rank s.0 k.0 k.1))
  ]

  own_known : (r : Replaced) → Member r (entries w rank) → Member r all_known
  own_known r m = Member-append_left r (entries w rank) (flat_map (λ (letter : Held (List Replaced)). letter.body) letters_in) m

  -- what another rank tells is known
  is_told : (q : ℕ) (r : Replaced) → q < w.ranks → rank < w.ranks → q ≢ rank → Member rank (addressed w q) → Member r (told_to rank (entries w q)) → Member r all_known
  unfolding modify_row
  is_told q r p within other m here =
      let body = told_to rank (entries w q) in
      let letter : Held (List Replaced) = record { sender = q; body = body } in
      let yes = tells_is w q rank p within (λ same. other (sym same)) m in
      let line = cond-true (tells w q rank) (Some body) None yes in
      let there = member_from_contains letter letters_in
      (along_in (λ from body. let h : Held (List Replaced) = record { sender = from; body = body } in h) (column (modify_row w) rank) w.ranks q body p line) in
      Member-append_right r (entries w rank) (flat_map (λ (letter : Held (List Replaced)). letter.body) letters_in)
      (Member-flat_map (λ (letter : Held (List Replaced)). letter.body) r letter letters_in there here)

  module _ (own : IsOwned w) (within : rank < w.ranks) where
    known_by_head : (m : Move) (e : Link) → Member m w.moves → IsTrueOverlap (back_scale w) w.olds w.anchors e → e.base ≡ m.old → e.head.owner ≡ rank → Has w all_known m
    known_by_head m e p h base o =
        let q = m.old.owner in
        let mine = ap (λ (v : Owned). v.owner) base in
        let r = entry_of w q m in
        elim (cases_eq q rank) [
          | inl same ↦
              record { entry = entry_of w rank m; is_in = own_known (entry_of w rank m) (in_entries w rank m p same); is_known = entry_known w rank m p }
          | inr other ↦
              let there = subst (λ (k : ℕ). Member k (addressed w q)) o (head_addressed w q e (in_backs w q e h mine)) in
              let concerned = head_concerns rank e r (entry_edges w q m refl e h base) o in
              record {
                entry = shown rank r;
                is_in = is_told q (shown rank r) (own.moved m p) within other there (in_told rank r (entries w q) (in_entries w q m p refl) concerned);
                is_known = shown_known w rank r m (entry_known w q m p);
              }
        ]

    known_by_news : (m : Move) (n : Owned) → Member m w.moves → Member n m.news → n.owner ≡ rank → (h : Has w all_known m) × HasEdges w h.entry m
    known_by_news m n p h o =
        let q = m.old.owner in
        let r = entry_of w q m in
        elim (cases_eq q rank) [
          | inl same ↦ (
            record { entry = entry_of w rank m; is_in = own_known (entry_of w rank m) (in_entries w rank m p same); is_known = entry_known w rank m p },
            entry_edges w rank m same,
          )
          | inr other ↦
              let there = subst (λ (k : ℕ). Member k (addressed w q)) o (news_addressed w m n p h) in
              let known = entry_known w q m p in
              let owner = owner_concerns rank n r.news (known.all_news n h) o in (
                record {
                  entry = shown rank r;
                  is_in = is_told q (shown rank r) (own.moved m p) within other there (in_told rank r (entries w q) (in_entries w q m p refl) (news_concern rank r owner));
                  is_known = shown_known w rank r m known;
                },
                shown_edges w rank r m owner (entry_edges w q m refl),
              )
        ]

    pub ends_forth : IsModifying w → in_order edge_cmp (all_led (forth_scale w) (forths w rank) all_known) ≡ (modify_pair w rank).forth.edges
    ends_forth b = forth_is w b rank all_known only_known known_by_head

    pub ends_back : IsModifying w → in_order edge_cmp (all_taken (back_scale w) rank all_known) ≡ (modify_pair w rank).back.edges
    ends_back b = back_is w b rank all_known only_known known_by_news

-- what all ranks know makes the connectors of each
module _ (w : Modifying) (b : IsModifying w) (rank : ℕ) where
  only_entries : (r : Replaced) → Member r (all_entries w) → (m : Move) × IsKnown w r m
  only_entries r h =
      let f = Member-from_flat_map (λ q. entries w q) r (range_with_len 0 w.ranks) h in
      from_own w rank f.0 r f.2

  abbrev has_entry : (m : Move) → Member m w.moves → Has w (all_entries w) m
  has_entry m p =
      let q = m.old.owner in
      let below = b.owned.moved m p in
      record {
        entry = entry_of w q m;
        is_in = Member-flat_map (λ q. entries w q) (entry_of w q m) q (range_with_len 0 w.ranks) (Member-range w.ranks 0 q (omega arith) (omega (arith, below))) (in_entries w q m p refl);
        is_known = entry_known w q m p;
      }

  pub all_forth : in_order edge_cmp (all_led (forth_scale w) (old_pair w rank).forth.edges (all_entries w)) ≡ (modify_pair w rank).forth.edges
  all_forth = forth_is w b rank (all_entries w) only_entries (λ m e p h base o. has_entry m p)

  pub all_back : in_order edge_cmp (all_taken (back_scale w) rank (all_entries w)) ≡ (modify_pair w rank).back.edges
  all_back = back_is w b rank (all_entries w) only_entries (λ m n p h o. (has_entry m p, entry_edges w m.old.owner m refl))
