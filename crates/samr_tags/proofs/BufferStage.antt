-- A rank's stage against its part of the level's tags.
use Rattle.std.proofs.Common.{◌≡◌, ℕ, ◌<◌, refl, sym, ap, subst, ◌∙◌, inl, inr, arith, length, sum_by}
use Rattle.std.proofs.lemmas.Bool.{and_parts, and_from, or_cases, or_left, or_right, cases_eq}
use Rattle.std.proofs.lemmas.Bool.Decides.{nat_tests}
use Rattle.std.specs.Prelude.{pos, Bool, true, false, ◌&&◌, nat_eq, List, [], ◌∷◌, map, filter, Option, Some, None}
use Rattle.std.specs.List.{All, list_any}
use Rattle.std.specs.Ordering.{is_eq}
use Rattle.std.specs.Option.{option_map_or}
use Rattle.samr_box.specs.declared.vector.IVec.{IVec}
use Rattle.samr_box.specs.Vector.{alike, AtMost, InRange}
use Rattle.samr_box.specs.Corners.{Corners, IsBox, Holds, holds, met}
use Rattle.samr_box.specs.Space.{Space, finer}
use Rattle.samr_box.specs.Lists.{Member}
use Rattle.samr_box.proofs.Vectors.{AtMost-trans}
use Rattle.samr_box.proofs.CellSets.{holds-from, Holds-test}
use Rattle.samr_box.proofs.Members.{Member-map, Member-from_map, Member-filter, Member-from_filter, All-from_members}
use Rattle.samr_find.specs.Cells.{cells_in}
use Rattle.samr_stage.specs.declared.stage.Held.{Held}
use Rattle.samr_stage.specs.Row.{told, heard, column}
use Rattle.samr_level.specs.declared.parts.Pair.{Pair}
use Rattle.samr_level.specs.Refs.{Owned, Link, turned}
use Rattle.samr_level.specs.RefOrders.{ref_cmp}
use Rattle.samr_level.specs.Levels.{own, own_boxes}
use Rattle.samr_level.specs.Overlaps.{scale, true_overlaps, IsTrueOverlap}
use Rattle.samr_level.proofs.RefLaws.{same_owned}
use Rattle.samr_level.proofs.Overlapping.{Member-overlaps, Member-from_overlaps, Member-of_rank, Member-from_of_rank, turn}
use Rattle.samr_sign.specs.Fields.{Field, AreTags}
use Rattle.samr_peers.specs.Peers.{other_owners, peer_row, AreTransposes}
use Rattle.samr_peers.proofs.PeerRows.{letters_are, count_is, heard_in, heard_out}
use Rattle.samr_peers.proofs.PairTurns.{self_turns}
use Rattle.samr_tags.specs.declared.seen.Seen.{Seen}
use Rattle.samr_tags.specs.Buffer.{Tagging, IsOwned, IsTagging, IsTagged, space, selves, tags_of}
use Rattle.samr_tags.specs.Seeing.{about, seen_cells, seen, spread, marks, is_for, marked_by, told_to}
use Rattle.samr_tags.specs.Marking.{marked_at, AreMarked}
use Rattle.samr_tags.specs.BufferRow.{all_seen, told_by, buffer_row}
use Rattle.samr_tags.specs.BufferParts.{HasSelves, HasSeen}
use Rattle.samr_tags.proofs.Marks.{same_test}
use Rattle.samr_tags.proofs.Spots.{any_member, member_any, same_filter}
use Rattle.samr_tags.proofs.Buffering.{same_ref, ref_itself, part_in, seen_from, mark_tags, tags_mark, tags_from, tags_is}

-- the row as that of peers
pub row_is : (w : Tagging) → buffer_row w ≡ peer_row w.ranks (selves w) (told_by w)
unfolding buffer_row
row_is w = refl

pub edges_turn : (w : Tagging) → IsOwned w → AreTransposes w.ranks (selves w) (selves w)
edges_turn w o = self_turns w.frame w.width w.ratio w.level w.ranks o.owners

-- an edge of a rank
pub edge_facts : (w : Tagging) (rank : ℕ) (e : Link) → Member e (selves w rank)
    → IsTrueOverlap (scale w.frame w.width w.ratio w.ratio) w.level w.level e × (e.base.owner ≡ rank)
edge_facts w rank e m =
    let n = scale w.frame w.width w.ratio w.ratio in
    let f = Member-from_of_rank rank (true_overlaps n w.level w.level) e m in
    (Member-from_overlaps n w.level w.level e f.0, f.1)

pub edge_of : (w : Tagging) (e : Link) → IsTrueOverlap (scale w.frame w.width w.ratio w.ratio) w.level w.level e → Member e (selves w e.base.owner)
edge_of w e h =
    let n = scale w.frame w.width w.ratio w.ratio in
    Member-of_rank e.base.owner (true_overlaps n w.level w.level) e (Member-overlaps n w.level w.level e h) refl

-- the parts of what a box has for another
seen_edge : (d : Space) (buffer : IVec) (shape : IVec → Bool) (e : Link) → (seen d buffer shape e).edge ≡ e
unfolding seen
seen_edge d buffer shape e = refl

cells_are : (d : Space) (buffer : IVec) (shape : IVec → Bool) (e : Link) → (seen d buffer shape e).cells ≡ seen_cells d buffer shape e
unfolding seen
cells_are d buffer shape e = refl

-- cells of boxes are in range
in_range : (b : Corners) (c : IVec) → IsBox b → Holds b c → InRange c
in_range b c box h = record { low = AtMost-trans box.low h.low; high = AtMost-trans h.high box.high }

module _ (w : Tagging) (o : IsOwned w) (low : AtMost (alike (pos 0)) w.buffer) where
  one_fits : (rank : ℕ) (one : Seen) → Member one (all_seen w rank) → All InRange one.cells
  one_fits rank one m =
      let r = Member-from_map (λ e. seen (space w) w.buffer w.shape e) one (selves w rank) m in
      let e = r.0 in
      let h = (edge_facts w rank e r.1).0 in
      let base = o.boxes e.base h.is_base in
      let head = o.boxes e.head h.is_head in
      subst (λ (v : Seen). All InRange v.cells) (sym r.2)
      (subst (All InRange) (sym (cells_are (space w) w.buffer w.shape e))
      (All-from_members InRange (seen_cells (space w) w.buffer w.shape e)
      (λ c mc. in_range e.base.bx c base (seen_from (space w) w.buffer w.shape e c base.order head.order low mc).0)))

  pub seen_fit : (rank : ℕ) → All (λ (one : Seen). All InRange one.cells) (all_seen w rank)
  seen_fit rank = All-from_members (λ (one : Seen). All InRange one.cells) (all_seen w rank) (λ one m. one_fits rank one m)

  told_from : (rank from : ℕ) (one : Seen) → Member one (told_by w from rank) → Member one (all_seen w from)
  unfolding told_to
  told_from rank from one m = (Member-from_filter (λ (v : Seen). nat_eq v.edge.head.owner rank) one (all_seen w from) m).0

  pub told_fit : (rank from : ℕ) → All (λ (one : Seen). All InRange one.cells) (told_by w from rank)
  told_fit rank from = All-from_members (λ (one : Seen). All InRange one.cells) (told_by w from rank) (λ one m. one_fits from one (told_from rank from one m))

  pub heard_fit : (rank : ℕ) → rank < w.ranks → (held : List (Held (List Seen))) → held ≡ heard (column (buffer_row w) rank) w.ranks
      → All (λ (letter : Held (List Seen)). All (λ (one : Seen). All InRange one.cells) letter.body) held
  heard_fit rank within held are =
      All-from_members (λ (letter : Held (List Seen)). All (λ (one : Seen). All InRange one.cells) letter.body) held
      (λ letter m.
      let there = subst (λ (l : List (Held (List Seen))). Member letter l) (are ∙ ap (λ row. heard (column row rank) w.ranks) (row_is w)) m in
      let out = heard_out w.ranks (selves w) (selves w) (told_by w) (edges_turn w o) rank within letter there in
      subst (All (λ (one : Seen). All InRange one.cells)) (sym out.0) (told_fit rank letter.sender))

-- what edges mark are tags, and all tags are marked
module _ (w : Tagging) (t : IsTagging w) (a : Owned) (x : IVec) (ma : Member a w.level) (hx : Holds a.bx x) where
  d : Space
  d = space w

  by_own : (rank : ℕ) → marked_by (space w) w.buffer a (all_seen w rank) x ≡ true → IsTagged w x
  by_own rank test =
      let one = member_any (λ (v : Seen). is_for a v && marks (space w) w.buffer v x) (all_seen w rank) test in
      let r = Member-from_map (λ e. seen (space w) w.buffer w.shape e) one.0 (selves w rank) one.1 in
      let e = r.0 in
      let P : Seen → Type 0 = λ v. (is_for a v && marks (space w) w.buffer v x) ≡ true in
      let both = and_parts (is_for a (seen (space w) w.buffer w.shape e)) (marks (space w) w.buffer (seen (space w) w.buffer w.shape e) x) (subst P r.2 one.2) in
      let head : e.head ≡ a =
      ap (λ (v : Link). v.head) (sym (seen_edge (space w) w.buffer w.shape e)) ∙ same_ref (seen (space w) w.buffer w.shape e).edge.head a both.0 in
      let c = member_any (λ (c : IVec). holds (spread (space w) w.buffer (seen (space w) w.buffer w.shape e).edge.shift c) x) (seen (space w) w.buffer w.shape e).cells both.1 in
      mark_tags w t e c.0 x (edge_facts w rank e r.1).0
      (subst (λ (l : List IVec). Member c.0 l) (cells_are (space w) w.buffer w.shape e) c.1)
      (subst (λ (v : Link). Holds (spread (space w) w.buffer v.shift c.0) x) (seen_edge (space w) w.buffer w.shape e) (Holds-test c.2))
      (subst (λ (v : Owned). Holds v.bx x) (sym head) hx)

  by_told : (rank from : ℕ) → marked_by (space w) w.buffer a (told_by w from rank) x ≡ true → IsTagged w x
  unfolding told_to
  by_told rank from test =
      let p : Seen → Bool = λ v. is_for a v && marks (space w) w.buffer v x in
      let one = member_any p (told_by w from rank) test in
      by_own from (any_member p one.0 (all_seen w from) (Member-from_filter (λ (v : Seen). nat_eq v.edge.head.owner rank) one.0 (all_seen w from) one.1).0 one.2)

  is_marked : (e : Link) (c : IVec) → e.head ≡ a → Member c (seen_cells (space w) w.buffer w.shape e) → Holds (spread (space w) w.buffer e.shift c) x
      → (is_for a (seen (space w) w.buffer w.shape e) && marks (space w) w.buffer (seen (space w) w.buffer w.shape e) x) ≡ true
  unfolding seen
  is_marked e c head m h =
      and_from (is_for a (seen (space w) w.buffer w.shape e)) (marks (space w) w.buffer (seen (space w) w.buffer w.shape e) x)
      (ap (λ (v : Owned). is_eq (ref_cmp v a)) head ∙ ref_itself a)
      (any_member (λ (c : IVec). holds (spread (space w) w.buffer e.shift c) x) c (seen_cells (space w) w.buffer w.shape e) m (holds-from h))

  own_marks : (e : Link) (c : IVec) (rank : ℕ) → Member e (selves w rank) → e.head ≡ a → Member c (seen_cells (space w) w.buffer w.shape e)
      → Holds (spread (space w) w.buffer e.shift c) x → marked_by (space w) w.buffer a (all_seen w rank) x ≡ true
  own_marks e c rank me head m h =
      any_member (λ (v : Seen). is_for a v && marks (space w) w.buffer v x) (seen (space w) w.buffer w.shape e) (all_seen w rank)
      (Member-map (λ e. seen (space w) w.buffer w.shape e) e (selves w rank) me) (is_marked e c head m h)

  told_marks : (e : Link) (c : IVec) (rank : ℕ) → Member e (selves w e.base.owner) → e.head ≡ a → a.owner ≡ rank → Member c (seen_cells (space w) w.buffer w.shape e)
      → Holds (spread (space w) w.buffer e.shift c) x → marked_by (space w) w.buffer a (told_by w e.base.owner rank) x ≡ true
  unfolding told_to
  told_marks e c rank me head owner m h =
      let one = seen (space w) w.buffer w.shape e in
      let same : one.edge.head.owner ≡ rank = ap (λ (v : Link). v.head.owner) (seen_edge (space w) w.buffer w.shape e) ∙ ap (λ (v : Owned). v.owner) head ∙ owner in
      any_member (λ (v : Seen). is_for a v && marks (space w) w.buffer v x) one (told_by w e.base.owner rank)
      (Member-filter (λ (v : Seen). nat_eq v.edge.head.owner rank) one (all_seen w e.base.owner)
      (Member-map (λ e. seen (space w) w.buffer w.shape e) e (selves w e.base.owner) me) (grind (arith, nat_tests, same)))
      (is_marked e c head m h)

  pub marked_is : (rank : ℕ) → rank < w.ranks → a.owner ≡ rank → (mine : List Seen) (held : List (Held (List Seen))) → mine ≡ all_seen w rank
      → held ≡ heard (column (peer_row w.ranks (selves w) (told_by w)) rank) w.ranks → marked_at (space w) w.buffer a mine held x ≡ tags_of w x
  marked_is rank within owner mine held is are =
      let from_letter : Held (List Seen) → Bool = λ letter. marked_by (space w) w.buffer a letter.body x in
      let turns = edges_turn w t.owned in
      same_test (marked_at (space w) w.buffer a mine held x) (tags_of w x)
      (λ test. tags_is w x (elim (or_cases (marked_by (space w) w.buffer a mine x) (list_any from_letter held) test) [
        | inl here ↦ by_own rank (subst (λ (l : List Seen). marked_by (space w) w.buffer a l x ≡ true) is here)
        | inr there ↦
            let letter = member_any from_letter held there in
            let m = subst (λ (l : List (Held (List Seen))). Member letter.0 l) are letter.1 in
            let out = heard_out w.ranks (selves w) (selves w) (told_by w) turns rank within letter.0 m in
            by_told rank letter.0.sender (subst (λ (l : List Seen). marked_by (space w) w.buffer a l x ≡ true) out.0 letter.2)
      ]))
      (λ test.
      let r = tags_mark w t a x ma hx (tags_from w x t.buffer test) in
      let e = r.0 in
      let h = r.1 in
      let head = r.2 in
      let c = r.3 in
      elim (cases_eq e.base.owner rank) [
        | inl here ↦
            or_left (marked_by (space w) w.buffer a mine x) (list_any from_letter held)
            (subst (λ (l : List Seen). marked_by (space w) w.buffer a l x ≡ true) (sym is)
            (own_marks e c.0 rank (subst (λ (k : ℕ). Member e (selves w k)) here (edge_of w e h)) head c.1 c.2))
        | inr other ↦
            let back = turn w.frame w.width w.ratio w.ratio w.level w.level e h in
            let mine_too : Member (turned e) (selves w rank) =
            subst (λ (k : ℕ). Member (turned e) (selves w k)) (ap (λ (v : Owned). v.owner) head ∙ owner) (edge_of w (turned e) back) in
            let letter : Held (List Seen) = record { sender = e.base.owner; body = told_by w e.base.owner rank } in
            let m = heard_in w.ranks (selves w) (selves w) (told_by w) turns rank within (turned e) mine_too other in
            or_right (marked_by (space w) w.buffer a mine x) (list_any from_letter held)
            (any_member from_letter letter held (subst (λ (l : List (Held (List Seen))). Member letter l) (sym are) m)
            (told_marks e c.0 rank (edge_of w e h) head owner c.1 c.2))
      ])

-- the end of the stage
pub and_when : (h p q : Bool) → (h ≡ true → p ≡ q) → (h && p) ≡ (h && q)
and_when true p q e = e refl
and_when false p q e = refl

pub own_box : (level : List Owned) (rank : ℕ) (b : Corners) → Member b (own_boxes rank level) → Member (record { owner = rank; bx = b }) level
unfolding own
own_box level rank b m =
    let r = Member-from_map (λ (o : Owned). o.bx) b (own rank level) m in
    let f = Member-from_filter (λ (o : Owned). nat_eq o.owner rank) r.0 level r.1 in
    let t = f.1 in
    let same : r.0.owner ≡ rank = grind (arith, nat_tests, t) in
    subst (λ (o : Owned). Member o level) (same_owned same (sym r.2)) f.0

pub ends : (rank : ℕ) (frame : Space) (buffer : IVec) (boxes : List Corners) (mine : List Seen) (peers : List ℕ) (w : Tagging) (r : ℕ)
    → HasSeen rank frame buffer boxes mine peers w r → (held : List (Held (List Seen))) → held ≡ heard (column (buffer_row w) r) w.ranks
    → (fields : List Field) → AreMarked frame buffer rank mine held boxes fields → IsTagging w → AreTags (own_boxes r w.level) (tags_of w) fields
ends rank frame buffer boxes mine peers w r h held are fields marked t = record {
  same_boxes = marked.same_boxes ∙ h.same_boxes;
  cells = λ f x m.
      let there : Member f.bx (own_boxes r w.level) =
      subst (λ (l : List Corners). Member f.bx l) (marked.same_boxes ∙ h.same_boxes) (Member-map (λ (f : Field). f.bx) f fields m) in
      let a : Owned = record { owner = r; bx = f.bx } in
      marked.cells f x m
      ∙ ap (λ (k : ℕ). holds f.bx x && marked_at frame buffer (record { owner = k; bx = f.bx }) mine held x) h.same_rank
      ∙ ap (λ (d : Space). holds f.bx x && marked_at d buffer a mine held x) h.same_frame
      ∙ ap (λ (v : IVec). holds f.bx x && marked_at (space w) v a mine held x) h.same_buffer
      ∙ and_when (holds f.bx x) (marked_at (space w) w.buffer a mine held x) (tags_of w x)
      (λ test. marked_is w t a x (own_box w.level r f.bx there) (Holds-test test) r h.within refl mine held h.same_own
      (are ∙ ap (λ row. heard (column row r) w.ranks) (row_is w)));
}

-- what the rank tells, and how many letters come for it
pub tells : (rank : ℕ) (frame : Space) (buffer : IVec) (boxes : List Corners) (mine : List Seen) (peers : List ℕ) (w : Tagging) (r : ℕ)
    → HasSeen rank frame buffer boxes mine peers w r → map (λ to. (to, told_to to mine)) peers ≡ told (buffer_row w r) w.ranks
tells rank frame buffer boxes mine peers w r h =
    ap (map (λ (to : ℕ). (to, told_to to mine))) h.same_peers
    ∙ ap (λ (l : List Seen). map (λ (to : ℕ). (to, told_to to l)) (other_owners r (selves w r))) h.same_own
    ∙ sym (letters_are w.ranks (selves w) (selves w) (told_by w) (edges_turn w h.owned) r h.within)
    ∙ ap (λ row. told (row r) w.ranks) (sym (row_is w))

pub awaits : (w : Tagging) (r : ℕ) → IsOwned w → r < w.ranks → length (other_owners r (selves w r)) ≡ sum_by (λ (held : Held (List Seen)). 1) (heard (column (buffer_row w) r) w.ranks)
awaits w r o within =
    count_is w.ranks (selves w) (selves w) (told_by w) (edges_turn w o) r within
    ∙ ap (λ row. sum_by (λ (held : Held (List Seen)). 1) (heard (column row r) w.ranks)) (sym (row_is w))

-- the beginning: what a rank asks of its own cells is what all know of them
same_picked : (shape other : IVec → Bool) (o : Option Corners) → ((b : Corners) → o ≡ Some b → (c : IVec) → Member c (cells_in b) → shape c ≡ other c)
    → option_map_or (λ b. filter shape (cells_in b)) o [] ≡ option_map_or (λ b. filter other (cells_in b)) o []
same_picked shape other None h = refl
same_picked shape other (Some b) h = same_filter shape other (cells_in b) (h b refl)

same_seen : (d : Space) (buffer : IVec) (shape other : IVec → Bool) (e : Link) → ((x : IVec) → Holds e.base.bx x → shape x ≡ other x) → AtMost e.base.bx.lo e.base.bx.hi
    → AtMost e.head.bx.lo e.head.bx.hi → AtMost (alike (pos 0)) buffer → seen d buffer shape e ≡ seen d buffer other e
unfolding seen
same_seen d buffer shape other e same base head low =
    ap (λ (l : List IVec). let one : Seen = record { edge = e; cells = l } in one)
    (same_picked shape other (met e.base.bx (about d buffer e)) (λ b some c m. same c (part_in d buffer e b c base head low some m)))

map_same : {X Y : Type 0} (f g : X → Y) (xs : List X) → ((x : X) → Member x xs → f x ≡ g x) → map f xs ≡ map g xs
map_same f g [] h = refl
map_same {Y = Y} f g (x ∷ xs) h = ap (λ (y : Y). y ∷ map f xs) (h x (inl refl)) ∙ ap (λ (l : List Y). g x ∷ l) (map_same f g xs (λ y m. h y (inr m)))

pub begins : (rank ranks : ℕ) (frame : Space) (boxes : List Corners) (overlaps : Pair) (shape : IVec → Bool) (buffer : IVec) (w : Tagging) (r : ℕ)
    → HasSelves rank ranks frame boxes overlaps shape buffer w r → AtMost (alike (pos 0)) buffer → InRange buffer
    → (d : Space) (items : List Corners) (edges : List Link) (mine : List Seen) (peers : List ℕ) → d ≡ finer frame overlaps.forth.base_ratio → items ≡ boxes
    → edges ≡ overlaps.forth.edges → mine ≡ map (λ e. seen d buffer shape e) edges → peers ≡ other_owners rank edges → HasSeen rank d buffer items mine peers w r
begins rank ranks frame boxes overlaps shape buffer w r h low range d items edges mine peers finest copied these seen_here others =
    let same_d : d ≡ space w =
    finest ∙ ap (λ (s : Space). finer s overlaps.forth.base_ratio) h.same_frame ∙ ap (λ (p : Pair). finer w.frame p.forth.base_ratio) h.same_selves in
    let same_edges : edges ≡ selves w r = these ∙ ap (λ (p : Pair). p.forth.edges) h.same_selves in
    let low_too : AtMost (alike (pos 0)) w.buffer = subst (AtMost (alike (pos 0))) h.same_buffer low in
    record {
      owned = h.owned;
      same_rank = h.same_rank;
      within = h.within;
      same_frame = same_d;
      same_buffer = h.same_buffer;
      low = low;
      range = range;
      same_boxes = copied ∙ h.same_boxes;
      same_own =
          seen_here
          ∙ ap (λ (l : List Link). map (λ e. seen d buffer shape e) l) same_edges
          ∙ ap (λ (s : Space). map (λ e. seen s buffer shape e) (selves w r)) same_d
          ∙ ap (λ (v : IVec). map (λ e. seen (space w) v shape e) (selves w r)) h.same_buffer
          ∙ map_same (λ e. seen (space w) w.buffer shape e) (λ e. seen (space w) w.buffer w.shape e) (selves w r)
          (λ e m.
          let f = edge_facts w r e m in
          same_seen (space w) w.buffer shape w.shape e (λ x hx. h.same_shape e.base x f.0.is_base f.1 hx)
          (h.owned.boxes e.base f.0.is_base).order (h.owned.boxes e.head f.0.is_head).order low_too);
      same_peers = others ∙ ap (λ (k : ℕ). other_owners k edges) h.same_rank ∙ ap (λ (l : List Link). other_owners r l) same_edges;
    }
