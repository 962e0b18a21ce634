-- What a rank knows of its old boxes, and what it tells of them.
use Rattle.std.proofs.Common.{◌≡◌, ℕ, refl, sym, ap, subst, ◌∙◌}
use Rattle.std.proofs.lemmas.Bool.{or_left, or_right, cond-true}
use Rattle.std.specs.Prelude.{true, nat_eq, List, [], filter}
use Rattle.std.specs.Ordering.{is_eq}
use Rattle.samr_box.specs.Lists.{Member}
use Rattle.samr_box.proofs.Members.{Member-map, Member-from_map, Member-filter, Member-from_filter}
use Rattle.samr_level.specs.declared.parts.Move.{Move}
use Rattle.samr_level.specs.Refs.{Owned, Link}
use Rattle.samr_level.specs.RefOrders.{ref_cmp}
use Rattle.samr_level.specs.Overlaps.{true_overlaps, IsTrueOverlap}
use Rattle.samr_level.proofs.RefLaws.{ref_total, same_from_ref_cmp}
use Rattle.samr_level.proofs.Sorting.{Member-in_order, Member-from_in_order}
use Rattle.samr_level.proofs.Overlapping.{Member-overlaps, Member-from_overlaps, Member-of_rank, Member-from_of_rank}
use Rattle.samr_modify.specs.declared.entries.Replaced.{Replaced}
use Rattle.samr_modify.specs.Modify.{Modifying, back_scale, old_pair}
use Rattle.samr_modify.specs.Entries.{moves_of, edges_of, entry, entries, owns_one, owns_head, concerns, shown, told_to}
use Rattle.samr_modify.proofs.Lists.{same_box, same_box-is, any_is, from_cond, nat_same, nat_is_same}

-- the moves of a rank
pub in_moves : (rank : ℕ) (m : Move) (moves : List Move) → Member m moves → m.old.owner ≡ rank → Member m (moves_of rank moves)
unfolding moves_of
in_moves rank m moves p o = Member-filter (λ (m : Move). nat_eq m.old.owner rank) m moves p (nat_is_same m.old.owner rank o)

pub from_moves : (rank : ℕ) (m : Move) (moves : List Move) → Member m (moves_of rank moves) → Member m moves × (m.old.owner ≡ rank)
unfolding moves_of
from_moves rank m moves h =
    let f = Member-from_filter (λ (m : Move). nat_eq m.old.owner rank) m moves h in
    (f.0, nat_same m.old.owner rank f.1)

-- the edges of a box
in_edges : (b : Owned) (e : Link) (edges : List Link) → Member e edges → e.base ≡ b → Member e (edges_of b edges)
unfolding edges_of
in_edges b e edges m h = Member-filter (λ (e : Link). is_eq (ref_cmp e.base b)) e edges m (same_box-is e.base b h)

from_edges : (b : Owned) (e : Link) (edges : List Link) → Member e (edges_of b edges) → Member e edges × (e.base ≡ b)
unfolding edges_of
from_edges b e edges m =
    let f = Member-from_filter (λ (e : Link). is_eq (ref_cmp e.base b)) e edges m in
    (f.0, same_box e.base b f.1)

-- an old box is known: its new boxes are those of a move, and its edges are overlaps
pub record IsKnown (w : Modifying) (r : Replaced) (m : Move) : Type 0 where
  pub is_move : Member m w.moves
  pub old : r.old ≡ m.old
  pub news : (n : Owned) → Member n r.news → Member n m.news
  pub all_news : (n : Owned) → Member n m.news → Member n r.news
  pub edges : (e : Link) → Member e r.edges → IsTrueOverlap (back_scale w) w.olds w.anchors e × (e.base ≡ m.old)

-- and all its edges are
abbrev pub HasEdges : Modifying → Replaced → Move → Type 0
HasEdges w r m = (e : Link) → IsTrueOverlap (back_scale w) w.olds w.anchors e → e.base ≡ m.old → Member e r.edges

module _ (w : Modifying) (q : ℕ) where
  abbrev pub backs : List Link
  backs = (old_pair w q).back.edges

  abbrev pub entry_of : Move → Replaced
  entry_of m = entry backs m

  pub in_backs : (e : Link) → IsTrueOverlap (back_scale w) w.olds w.anchors e → e.base.owner ≡ q → Member e backs
  in_backs e h o =
      let all = true_overlaps (back_scale w) w.olds w.anchors in
      Member-of_rank q all e (Member-overlaps (back_scale w) w.olds w.anchors e h) o

  pub from_backs : (e : Link) → Member e backs → IsTrueOverlap (back_scale w) w.olds w.anchors e × (e.base.owner ≡ q)
  from_backs e m =
      let all = true_overlaps (back_scale w) w.olds w.anchors in
      let f = Member-from_of_rank q all e m in
      (Member-from_overlaps (back_scale w) w.olds w.anchors e f.0, f.1)

  pub in_entries : (m : Move) → Member m w.moves → m.old.owner ≡ q → Member (entry_of m) (entries w q)
  unfolding entries
  in_entries m p o = Member-map (λ (m : Move). entry (old_pair w q).back.edges m) m (moves_of q w.moves) (in_moves q m w.moves p o)

  pub from_entries : (r : Replaced) → Member r (entries w q) → (m : Move) × Member m w.moves × (m.old.owner ≡ q) × (r ≡ entry_of m)
  unfolding entries
  from_entries r h =
      let f = Member-from_map (λ (m : Move). entry (old_pair w q).back.edges m) r (moves_of q w.moves) h in
      let g = from_moves q f.0 w.moves f.1 in
      (f.0, g.0, g.1, f.2)

  pub entry_known : (m : Move) → Member m w.moves → IsKnown w (entry_of m) m
  entry_known m p = record {
    is_move = p;
    old = refl;
    news = λ n h. Member-from_in_order ref_total n m.news h;
    all_news = λ n h. Member-in_order ref_total same_from_ref_cmp n m.news h;
    edges = λ e h. let f = from_edges m.old e backs h in ((from_backs e f.0).0, f.1);
  }

  pub entry_edges : (m : Move) → m.old.owner ≡ q → HasEdges w (entry_of m) m
  entry_edges m o e h base = in_edges m.old e backs (in_backs e h (ap (λ (v : Owned). v.owner) base ∙ o)) base

-- what is told of an old box is known of it, and all of it to the owner of a new box
pub shown_known : (w : Modifying) (rank : ℕ) (r : Replaced) (m : Move) → IsKnown w r m → IsKnown w (shown rank r) m
shown_known w rank r m k = record {
  is_move = k.is_move;
  old = k.old;
  news = k.news;
  all_news = k.all_news;
  edges = λ e h. k.edges e (from_cond (owns_one rank r.news) e r.edges h).1;
}

pub shown_edges : (w : Modifying) (rank : ℕ) (r : Replaced) (m : Move) → owns_one rank r.news ≡ true → HasEdges w r m → HasEdges w (shown rank r) m
shown_edges w rank r m t all e h base =
    subst (λ (l : List Link). Member e l) (sym (cond-true (owns_one rank r.news) r.edges [] t)) (all e h base)

pub in_told : (rank : ℕ) (r : Replaced) (rs : List Replaced) → Member r rs → concerns rank r ≡ true → Member (shown rank r) (told_to rank rs)
unfolding told_to
in_told rank r rs m t =
    Member-map (λ (r : Replaced). shown rank r) r (filter (λ (r : Replaced). concerns rank r) rs) (Member-filter (λ (r : Replaced). concerns rank r) r rs m t)

pub from_told : (rank : ℕ) (s : Replaced) (rs : List Replaced) → Member s (told_to rank rs) → (r : Replaced) × Member r rs × (s ≡ shown rank r)
unfolding told_to
from_told rank s rs h =
    let f = Member-from_map (λ (r : Replaced). shown rank r) s (filter (λ (r : Replaced). concerns rank r) rs) h in
    (f.0, (Member-from_filter (λ (r : Replaced). concerns rank r) f.0 rs f.1).0, f.2)

-- whom an old box concerns
pub owner_concerns : (rank : ℕ) (n : Owned) (boxes : List Owned) → Member n boxes → n.owner ≡ rank → owns_one rank boxes ≡ true
owner_concerns rank n boxes m o = any_is (λ (b : Owned). nat_eq b.owner rank) n boxes m (nat_is_same n.owner rank o)

pub head_concerns : (rank : ℕ) (e : Link) (r : Replaced) → Member e r.edges → e.head.owner ≡ rank → concerns rank r ≡ true
head_concerns rank e r m o =
    or_left (owns_head rank r.edges) (owns_one rank r.news) (any_is (λ (e : Link). nat_eq e.head.owner rank) e r.edges m (nat_is_same e.head.owner rank o))

pub news_concern : (rank : ℕ) (r : Replaced) → owns_one rank r.news ≡ true → concerns rank r ≡ true
news_concern rank r t = or_right (owns_head rank r.edges) (owns_one rank r.news) t
