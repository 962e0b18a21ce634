-- A rank's stage against its part of the cover.
use Rattle.std.proofs.Common.{◌≡◌, ℕ, ◌<◌, refl, sym, ap, subst, ◌∙◌, inl, inr, arith, length, sum_by}
use Rattle.std.proofs.lemmas.Int.{ints}
use Rattle.std.proofs.lemmas.Bool.{and_from, or_cases, or_left, or_right, cases_eq}
use Rattle.std.proofs.lemmas.Bool.Decides.{nat_tests}
use Rattle.std.specs.Prelude.{Bool, true, false, ◌&&◌, ◌||◌, nat_eq, List, [], ◌∷◌, ◌++◌, map, filter}
use Rattle.std.specs.List.{list_any}
use Rattle.samr_box.specs.declared.vector.IVec.{IVec}
use Rattle.samr_box.specs.Corners.{Corners, Holds, holds, meets}
use Rattle.samr_box.specs.Space.{image, opposite}
use Rattle.samr_box.specs.Lists.{Member}
use Rattle.samr_box.proofs.Totals.{corner_total, same_from_corner_cmp}
use Rattle.samr_box.proofs.Vectors.{same_cell}
use Rattle.samr_box.proofs.CellSets.{holds-from, Holds-test, meets-from, Meet-cell}
use Rattle.samr_box.proofs.Members.{Member-map, Member-from_map, Member-filter, Member-from_filter, Member-append_left, Member-append_right}
use Rattle.samr_stage.specs.declared.stage.Held.{Held}
use Rattle.samr_stage.specs.Row.{told, heard, column}
use Rattle.samr_level.specs.Refs.{Owned, Link, link, turned}
use Rattle.samr_level.specs.Levels.{own_boxes}
use Rattle.samr_level.specs.Overlaps.{scale, shifts, true_overlaps, IsTrueOverlap}
use Rattle.samr_level.proofs.Sorting.{Member-in_order, Member-from_in_order}
use Rattle.samr_level.proofs.Overlapping.{Member-overlaps, Member-from_overlaps, Member-of_rank, Member-from_of_rank, turn, opposite-shifts}
use Rattle.samr_sign.specs.Fields.{Field, tagged, AreTags}
use Rattle.samr_peers.specs.Peers.{other_owners, peer_row, AreTransposes}
use Rattle.samr_peers.proofs.PeerRows.{letters_are, count_is, heard_in, heard_out}
use Rattle.samr_peers.proofs.PairTurns.{pair_turns}
use Rattle.samr_tags.specs.declared.needs.Needs.{Needs}
use Rattle.samr_tags.specs.Cover.{Covering, IsCovering, AreOwned, frame_of, fine_ratio, covering, covered, cover_tags, downs, ups}
use Rattle.samr_tags.specs.CoverRow.{rule_of, below_head, is_below, needed_of, needed_by, cover_row}
use Rattle.samr_tags.specs.CoverParts.{is_needed, AreAdded, HasNeeds}
use Rattle.samr_tags.proofs.Marks.{same_test}
use Rattle.samr_tags.proofs.Spots.{any_member, member_any}
use Rattle.samr_tags.proofs.AllMarks.{last_or_before}
use Rattle.samr_tags.proofs.Buffering.{in_level_is}
use Rattle.samr_tags.proofs.BufferStage.{own_box, and_when}
use Rattle.samr_tags.proofs.CoverNear.{needs_near}
use Rattle.std.proofs.lemmas.List.{map_push}

-- the row as that of peers
pub row_is : (w : Covering) → cover_row w ≡ peer_row w.ranks (downs w) (needed_by w)
unfolding cover_row
row_is w = refl

pub edges_turn : (w : Covering) → AreOwned w → AreTransposes w.ranks (downs w) (ups w)
edges_turn w o = pair_turns w.frame w.width (fine_ratio w) w.ratio w.fine w.level w.ranks o.fine o.level

back_again : (s : IVec) → opposite (opposite s) ≡ s
back_again s = same_cell (omega (arith, ints)) (omega (arith, ints)) (omega (arith, ints))

-- what edges need
need_from : (n : Needs) (rank : ℕ) (edges : List Link) (b : Corners) → Member b (needed_of n rank edges) → (e : Link) × Member e edges × (b ≡ below_head n e)
unfolding needed_of
need_from n rank edges b m =
    let r = Member-from_map (λ e. below_head n e) b (filter (λ e. is_below n rank e) edges)
    (Member-from_in_order corner_total b (map (λ e. below_head n e) (filter (λ e. is_below n rank e) edges)) m) in
    (r.0, (Member-from_filter (λ e. is_below n rank e) r.0 edges r.1).0, r.2)

need_is : (n : Needs) (rank : ℕ) (edges : List Link) (e : Link) → Member e edges → is_below n rank e ≡ true → Member (below_head n e) (needed_of n rank edges)
unfolding needed_of
need_is n rank edges e m t =
    Member-in_order corner_total same_from_corner_cmp (below_head n e) (map (λ e. below_head n e) (filter (λ e. is_below n rank e) edges))
    (Member-map (λ e. below_head n e) e (filter (λ e. is_below n rank e) edges) (Member-filter (λ e. is_below n rank e) e edges m t))

module _ (w : Covering) where
  by_shift : Owned → IVec → IVec → Bool
  by_shift b x s = holds (image (frame_of w) (covering w.upper w.nest w.lower b.bx) s) x

  pub covered_is : (x : IVec) (b : Owned) (s : IVec) → Member b w.fine → Member s (shifts w.frame.periodic)
      → Holds (image (frame_of w) (covering w.upper w.nest w.lower b.bx) s) x → covered w x ≡ true
  unfolding covered
  covered_is x b s mb ms h =
      any_member (λ (b : Owned). list_any (λ (s : IVec). holds (image (frame_of w) (covering w.upper w.nest w.lower b.bx) s) x) (shifts w.frame.periodic)) b w.fine mb
      (any_member (λ (s : IVec). holds (image (frame_of w) (covering w.upper w.nest w.lower b.bx) s) x) s (shifts w.frame.periodic) ms (holds-from h))

  pub covered_from : (x : IVec) → covered w x ≡ true
      → (b : Owned) × Member b w.fine × ((s : IVec) × Member s (shifts w.frame.periodic) × Holds (image (frame_of w) (covering w.upper w.nest w.lower b.bx) s) x)
  unfolding covered
  covered_from x t =
      let b = member_any (λ (b : Owned). list_any (λ (s : IVec). holds (image (frame_of w) (covering w.upper w.nest w.lower b.bx) s) x) (shifts w.frame.periodic)) w.fine t in
      let s = member_any (λ (s : IVec). holds (image (frame_of w) (covering w.upper w.nest w.lower b.0.bx) s) x) (shifts w.frame.periodic) b.2 in
      (b.0, b.1, (s.0, s.1, Holds-test s.2))

  edge_facts : (rank : ℕ) (e : Link) → Member e (downs w rank) → IsTrueOverlap (scale w.frame w.width (fine_ratio w) w.ratio) w.fine w.level e
  edge_facts rank e m =
      let n = scale w.frame w.width (fine_ratio w) w.ratio in
      Member-from_overlaps n w.fine w.level e (Member-from_of_rank rank (true_overlaps n w.fine w.level) e m).0

  needed_covers : (rank from : ℕ) (x : IVec) → list_any (λ b. holds b x) (needed_by w from rank) ≡ true → covered w x ≡ true
  needed_covers rank from x t =
      let b = member_any (λ (b : Corners). holds b x) (needed_by w from rank) t in
      let r = need_from (rule_of w) rank (downs w from) b.0 b.1 in
      let e = r.0 in
      let h = edge_facts from e r.1 in
      covered_is x e.base (opposite e.shift) h.is_base (opposite-shifts w.frame.periodic e.shift h.is_shift) (subst (λ (v : Corners). Holds v x) r.2 (Holds-test b.2))

module _ (w : Covering) (t : IsCovering w) (a : Owned) (x : IVec) (ma : Member a w.level) (hx : Holds a.bx x) where
  -- a covered cell is needed by an edge
  edge_needs : (b : Owned) (s : IVec) → Member b w.fine → Member s (shifts w.frame.periodic) → Holds (image (frame_of w) (covering w.upper w.nest w.lower b.bx) s) x
      → IsTrueOverlap (scale w.frame w.width (fine_ratio w) w.ratio) w.fine w.level (link b a (opposite s))
  edge_needs b s mb ms h = record {
    is_base = mb;
    is_head = ma;
    is_shift = opposite-shifts w.frame.periodic s ms;
    is_near = needs_near w.frame w.width w.ratio w.upper w.nest w.lower b.bx a.bx s x t.ratio.low t.upper t.lower t.width hx h;
  }

  edge_marks : (rank : ℕ) (b : Owned) (s : IVec) → a.owner ≡ rank → Member b w.fine → Member s (shifts w.frame.periodic)
      → Holds (image (frame_of w) (covering w.upper w.nest w.lower b.bx) s) x → list_any (λ b. holds b x) (needed_by w b.owner rank) ≡ true
  edge_marks rank b s owner mb ms h =
      let n = scale w.frame w.width (fine_ratio w) w.ratio in
      let e : Link = link b a (opposite s) in
      let me = Member-of_rank b.owner (true_overlaps n w.fine w.level) e (Member-overlaps n w.fine w.level e (edge_needs b s mb ms h)) refl in
      let P : IVec → Type 0 = λ s. Holds (image (frame_of w) (covering w.upper w.nest w.lower b.bx) s) x in
      let there : Holds (below_head (rule_of w) e) x = subst P (sym (back_again s)) h in
      let below = and_from (nat_eq a.owner rank) (meets (below_head (rule_of w) e) a.bx) (grind (arith, nat_tests, owner)) (meets-from (Meet-cell {a = below_head (rule_of w) e} {b = a.bx} {x = x} there hx)) in
      any_member (λ (b : Corners). holds b x) (below_head (rule_of w) e) (needed_by w b.owner rank) (need_is (rule_of w) rank (downs w b.owner) e me below) (holds-from there)

  pub needed_is : (rank : ℕ) → rank < w.ranks → a.owner ≡ rank → (own : List Corners) (held : List (Held (List Corners))) → own ≡ needed_by w rank rank
      → held ≡ heard (column (peer_row w.ranks (downs w) (needed_by w)) rank) w.ranks → is_needed own held x ≡ covered w x
  needed_is rank within owner own held is are =
      let by : List Corners → Bool = λ l. list_any (λ b. holds b x) l in
      let by_letter : Held (List Corners) → Bool = λ letter. by letter.body in
      let turns = edges_turn w t.owned in
      same_test (is_needed own held x) (covered w x)
      (λ test. elim (or_cases (by own) (list_any by_letter held) test) [
        | inl here ↦ needed_covers w rank rank x (subst (λ (l : List Corners). by l ≡ true) is here)
        | inr there ↦
            let letter = member_any by_letter held there in
            let m = subst (λ (l : List (Held (List Corners))). Member letter.0 l) are letter.1 in
            let out = heard_out w.ranks (downs w) (ups w) (needed_by w) turns rank within letter.0 m in
            needed_covers w rank letter.0.sender x (subst (λ (l : List Corners). by l ≡ true) out.0 letter.2)
      ])
      (λ test.
      let r = covered_from w x test in
      let b = r.0 in
      let s = r.2.0 in
      let marks = edge_marks rank b s owner r.1 r.2.1 r.2.2 in
      elim (cases_eq b.owner rank) [
        | inl here ↦
            or_left (by own) (list_any by_letter held)
            (subst (λ (l : List Corners). by l ≡ true) (sym is) (subst (λ (k : ℕ). by (needed_by w k rank) ≡ true) here marks))
        | inr other ↦
            let e : Link = link b a (opposite s) in
            let n = scale w.frame w.width w.ratio (fine_ratio w) in
            let back = turn w.frame w.width (fine_ratio w) w.ratio w.fine w.level e (edge_needs b s r.1 r.2.1 r.2.2) in
            let mine = Member-of_rank rank (true_overlaps n w.level w.fine) (turned e) (Member-overlaps n w.level w.fine (turned e) back) owner in
            let letter : Held (List Corners) = record { sender = b.owner; body = needed_by w b.owner rank } in
            let m = heard_in w.ranks (downs w) (ups w) (needed_by w) turns rank within (turned e) mine other in
            or_right (by own) (list_any by_letter held)
            (any_member by_letter letter held (subst (λ (l : List (Held (List Corners))). Member letter l) (sym are) m) marks)
      ])

-- one more field with cells added
three : (h tags added : Bool) → ((h && added) || (h && tags)) ≡ (h && (tags || added))
three false tags added = refl
three true true true = refl
three true true false = refl
three true false true = refl
three true false false = refl

pub added_more : (old new after : List Field) (f g : Field) (added : IVec → Bool) → AreAdded old new added → g.bx ≡ f.bx
    → ((x : IVec) → tagged g x ≡ ((holds f.bx x && added x) || tagged f x)) → after ≡ new ++ g ∷ [] → AreAdded (old ++ f ∷ []) after added
added_more old new after f g added so_far same has pushed = record {
  same_boxes =
      ap (map (λ (f : Field). f.bx)) pushed ∙ map_push (λ (f : Field). f.bx) new g
      ∙ ap (λ (l : List Corners). l ++ g.bx ∷ []) so_far.same_boxes
      ∙ ap (λ (b : Corners). map (λ (f : Field). f.bx) old ++ b ∷ []) same
      ∙ sym (map_push (λ (f : Field). f.bx) old f);
  cells = λ tags before v x m. elim (last_or_before new after g v pushed m) [
    | inl there ↦ so_far.cells tags (λ o y mo. before o y (Member-append_left o old (f ∷ []) mo)) v x there
    | inr here ↦
        ap (λ (o : Field). tagged o x) here ∙ has x
        ∙ ap (λ (t : Bool). (holds f.bx x && added x) || t) (before f x (Member-append_right f old (f ∷ []) (inl refl)))
        ∙ three (holds f.bx x) (tags x) (added x)
        ∙ ap (λ (b : Corners). holds b x && (tags x || added x)) (sym same ∙ ap (λ (o : Field). o.bx) (sym here))
  ];
}

-- the end of the stage
pub ends : (rank : ℕ) (needs : Needs) (fields : List Field) (edges : List Link) (addressees senders : List ℕ) (w : Covering) (r : ℕ)
    → HasNeeds rank needs fields edges addressees senders w r → (held : List (Held (List Corners))) → held ≡ heard (column (cover_row w) r) w.ranks
    → (own : List Corners) (new : List Field) → own ≡ needed_of needs rank edges → AreAdded fields new (is_needed own held) → IsCovering w
    → AreTags (own_boxes r w.level) (cover_tags w) new
ends rank needs fields edges addressees senders w r h held are own new is added t =
    let boxes = added.same_boxes ∙ h.same_tags.same_boxes in
    record {
      same_boxes = boxes;
      cells = λ f x m.
          let there : Member f.bx (own_boxes r w.level) = subst (λ (l : List Corners). Member f.bx l) boxes (Member-map (λ (f : Field). f.bx) f new m) in
          let a : Owned = record { owner = r; bx = f.bx } in
          let home = own_box w.level r f.bx there in
          added.cells w.tags h.same_tags.cells f x m
          ∙ and_when (holds f.bx x) (w.tags x || is_needed own held x) (cover_tags w x)
          (λ test. ap (λ (v : Bool). w.tags x || v)
          (needed_is w t a x home (Holds-test test) r h.within refl own held
          (is
          ∙ ap (λ (k : ℕ). needed_of needs k edges) h.same_rank
          ∙ ap (λ (n : Needs). needed_of n r edges) h.same_rule
          ∙ ap (λ (l : List Link). needed_of (rule_of w) r l) h.same_edges)
          (are ∙ ap (λ row. heard (column row r) w.ranks) (row_is w))
          ∙ sym (ap (λ (v : Bool). v && covered w x) (in_level_is w.level x (a, home, Holds-test test)))));
    }

-- what the rank tells, and how many letters come for it
pub tells : (rank : ℕ) (needs : Needs) (fields : List Field) (edges : List Link) (addressees senders : List ℕ) (w : Covering) (r : ℕ)
    → HasNeeds rank needs fields edges addressees senders w r → map (λ to. (to, needed_of needs to edges)) addressees ≡ told (cover_row w r) w.ranks
tells rank needs fields edges addressees senders w r h =
    ap (map (λ (to : ℕ). (to, needed_of needs to edges))) h.same_addressees
    ∙ ap (λ (n : Needs). map (λ (to : ℕ). (to, needed_of n to edges)) (other_owners r (downs w r))) h.same_rule
    ∙ ap (λ (l : List Link). map (λ (to : ℕ). (to, needed_of (rule_of w) to l)) (other_owners r (downs w r))) h.same_edges
    ∙ sym (letters_are w.ranks (downs w) (ups w) (needed_by w) (edges_turn w h.owned) r h.within)
    ∙ ap (λ row. told (row r) w.ranks) (sym (row_is w))

pub awaits : (w : Covering) (r : ℕ) → AreOwned w → r < w.ranks → length (other_owners r (ups w r)) ≡ sum_by (λ (held : Held (List Corners)). 1) (heard (column (cover_row w) r) w.ranks)
awaits w r o within =
    count_is w.ranks (downs w) (ups w) (needed_by w) (edges_turn w o) r within
    ∙ ap (λ row. sum_by (λ (held : Held (List Corners)). 1) (heard (column row r) w.ranks)) (sym (row_is w))
