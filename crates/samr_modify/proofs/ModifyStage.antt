-- A rank's stage against its part of the modification.
use Rattle.std.proofs.Common.{◌≡◌, ℕ, sym, ap, ◌∙◌, ◌++◌, map, refl, subst, inl, inr}
use Rattle.std.proofs.lemmas.Int.{ints, clamps}
use Rattle.std.proofs.Common.{arith}
use Rattle.std.specs.Prelude.{List, nat_eq, filter}
use Rattle.std.specs.List.{flat_map}
use Rattle.samr_box.specs.declared.vector.IVec.{IVec}
use Rattle.samr_box.specs.Vector.{greatest}
use Rattle.samr_box.specs.Space.{Space, finer}
use Rattle.samr_box.specs.Lists.{Member}
use Rattle.samr_box.proofs.Vectors.{same_cell}
use Rattle.samr_box.proofs.Members.{Member-map, Member-from_map, Member-filter, Member-from_filter, Member-append_left, Member-append_right, Member-from_append}
use Rattle.samr_stage.specs.declared.stage.Held.{Held}
use Rattle.samr_stage.specs.Row.{told, heard, column}
use Rattle.samr_level.specs.declared.parts.Connector.{Connector}
use Rattle.samr_level.specs.declared.parts.Move.{Move}
use Rattle.samr_level.specs.declared.parts.Pair.{Pair}
use Rattle.samr_level.specs.Refs.{Owned, Link}
use Rattle.samr_level.specs.RefOrders.{edge_cmp, in_order}
use Rattle.samr_level.specs.Overlaps.{Scale, scale_in}
use Rattle.samr_level.proofs.RefLaws.{same_owned}
use Rattle.samr_modify.specs.declared.entries.Replaced.{Replaced}
use Rattle.samr_modify.specs.Pieces.{Piece}
use Rattle.samr_modify.specs.Modify.{Modifying, IsModifying, forth_scale, back_scale, old_pair, modify_pair}
use Rattle.samr_modify.specs.Entries.{entry, entries, owns_one, told_to}
use Rattle.samr_modify.specs.ModifyRow.{head_owners, owners, addressed, awaited, others, modify_row}
use Rattle.samr_modify.specs.Found.{all_led, all_taken}
use Rattle.samr_modify.specs.ModifyParts.{ArePieces, HasParts, HasEntries}
use Rattle.samr_modify.proofs.Lists.{any_from, nat_same, others_same}
use Rattle.samr_modify.proofs.EntryLaws.{owner_concerns}
use Rattle.samr_modify.proofs.ModifyRowLaws.{letters_are}
use Rattle.samr_modify.proofs.Ends.{all_known, ends_forth, ends_back}

-- connectors and pairs that are the same in each part
connectors : (width width' base base' head head' : IVec) (edges edges' : List Link) → width ≡ width' → base ≡ base' → head ≡ head' → edges ≡ edges'
    → (let x : Connector = record { width = width; base_ratio = base; head_ratio = head; edges = edges } in x)
    ≡ record { width = width'; base_ratio = base'; head_ratio = head'; edges = edges' }
connectors width width' base base' head head' edges edges' e f g h = rw (e, f, g, h)

pairs : (forth forth' back back' : Connector) → forth ≡ forth' → back ≡ back' → (let x : Pair = record { forth = forth; back = back } in x) ≡ record { forth = forth'; back = back' }
pairs forth forth' back back' e f = rw (e, f)

-- what the rank has in the end, from all that it knows then
pub ends : (rank : ℕ) (width anchor_ratio old_ratio : IVec) (forth back : Scale) (edges : List Link) (known : List Replaced) (addressees senders : List ℕ) (w : Modifying) (r : ℕ)
    → HasEntries rank width anchor_ratio old_ratio forth back edges known addressees senders w r
    → (held : List (Held (List Replaced))) → held ≡ heard (column (modify_row w) r) w.ranks
    → (all : List Replaced) (there here : List Link) → all ≡ known ++ flat_map (λ letter. letter.body) held
    → IsModifying w → there ≡ in_order edge_cmp (all_led forth edges all) → here ≡ in_order edge_cmp (all_taken back rank all)
    → (let x : Pair = record {
      forth = record { width = width; base_ratio = anchor_ratio; head_ratio = old_ratio; edges = there };
      back = record { width = width; base_ratio = old_ratio; head_ratio = anchor_ratio; edges = here };
    } in x) ≡ modify_pair w r
ends rank width anchor_ratio old_ratio forth back edges known addressees senders w r h held are all there here gathered modifying f b =
    let is : all ≡ all_known w r =
    gathered ∙ ap (λ (l : List Replaced). l ++ flat_map (λ letter. letter.body) held) h.same_entries ∙ ap (λ (l : List (Held (List Replaced))). entries w r ++ flat_map (λ letter. letter.body) l) are in
    let there_same = f
    ∙ ap (λ (n : Scale). in_order edge_cmp (all_led n edges all)) h.same_forth
    ∙ ap (λ (l : List Link). in_order edge_cmp (all_led (forth_scale w) l all)) h.same_edges
    ∙ ap (λ (l : List Replaced). in_order edge_cmp (all_led (forth_scale w) (old_pair w r).forth.edges l)) is
    ∙ ends_forth w r h.owned h.within modifying in
    let here_same = b
    ∙ ap (λ (n : Scale). in_order edge_cmp (all_taken n rank all)) h.same_back
    ∙ ap (λ (k : ℕ). in_order edge_cmp (all_taken (back_scale w) k all)) h.same_rank
    ∙ ap (λ (l : List Replaced). in_order edge_cmp (all_taken (back_scale w) r l)) is
    ∙ ends_back w r h.owned h.within modifying in
    pairs _ _ _ _
    (connectors width w.width anchor_ratio w.anchor_ratio old_ratio w.old_ratio there _ h.same_width h.same_anchor h.same_old there_same)
    (connectors width w.width old_ratio w.old_ratio anchor_ratio w.anchor_ratio here _ h.same_width h.same_old h.same_anchor here_same)

-- what the rank tells
pub tells : (rank : ℕ) (width anchor_ratio old_ratio : IVec) (forth back : Scale) (edges : List Link) (known : List Replaced) (addressees senders : List ℕ) (w : Modifying) (r : ℕ)
    → HasEntries rank width anchor_ratio old_ratio forth back edges known addressees senders w r
    → map (λ to. (to, told_to to known)) addressees ≡ told (modify_row w r) w.ranks
tells rank width anchor_ratio old_ratio forth back edges known addressees senders w r h =
    ap (map (λ (to : ℕ). (to, told_to to known))) h.same_addressees
    ∙ ap (λ (rs : List Replaced). map (λ (to : ℕ). (to, told_to to rs)) (others r (addressed w r))) h.same_entries
    ∙ sym (letters_are w h.owned r h.within)

-- the owners of the old boxes of a rank's new boxes
module _ (w : Modifying) (rank : ℕ) (pieces : List Piece) (are : ArePieces w rank pieces) where
  abbrev taking : List Move
  taking = filter (λ (m : Move). owns_one rank m.news) w.moves

  from_pieces : (k : ℕ) → Member k (map (λ (p : Piece). p.old_owner) pieces) → Member k (map (λ (m : Move). m.old.owner) taking)
  from_pieces k h =
      let f = Member-from_map (λ (p : Piece). p.old_owner) k pieces h in
      let r = are.only f.0 f.1 in
      let m = r.0 in
      let n : Owned = record { owner = rank; bx = f.0.bx } in
      subst (λ (v : ℕ). Member v (map (λ (m : Move). m.old.owner) taking)) (r.2 ∙ sym f.2)
      (Member-map (λ (m : Move). m.old.owner) m taking (Member-filter (λ (m : Move). owns_one rank m.news) m w.moves r.1 (owner_concerns rank n m.news r.3 refl)))

  to_pieces : (k : ℕ) → Member k (map (λ (m : Move). m.old.owner) taking) → Member k (map (λ (p : Piece). p.old_owner) pieces)
  to_pieces k h =
      let f = Member-from_map (λ (m : Move). m.old.owner) k taking h in
      let m = f.0 in
      let g = Member-from_filter (λ (m : Move). owns_one rank m.news) m w.moves f.1 in
      let n = any_from (λ (b : Owned). nat_eq b.owner rank) m.news g.1 in
      let p : Piece = record { bx = n.0.bx; old_owner = m.old.owner } in
      let there = subst (λ (v : Owned). Member v m.news) (same_owned (nat_same n.0.owner rank n.2) refl) n.1 in
      subst (λ (v : ℕ). Member v (map (λ (p : Piece). p.old_owner) pieces)) (sym f.2)
      (Member-map (λ (p : Piece). p.old_owner) p pieces (are.all p (m, g.0, refl, there)))

  pub awaits : others rank (head_owners (old_pair w rank).forth.edges ++ map (λ (p : Piece). p.old_owner) pieces) ≡ others rank (awaited w rank)
  awaits =
      let heads = head_owners (old_pair w rank).forth.edges in
      let olds = map (λ (p : Piece). p.old_owner) pieces in
      let theirs = map (λ (m : Move). m.old.owner) taking in
      others_same rank (heads ++ olds) (heads ++ theirs)
      (λ k m. elim (Member-from_append k heads olds m) [
        | inl p ↦ Member-append_left k heads theirs p
        | inr p ↦ Member-append_right k heads theirs (from_pieces k p)
      ])
      (λ k m. elim (Member-from_append k heads theirs m) [
        | inl p ↦ Member-append_left k heads olds p
        | inr p ↦ Member-append_right k heads olds (to_pieces k p)
      ])

greatest_comm : (a b : IVec) → greatest b a ≡ greatest a b
greatest_comm a b = same_cell (omega (arith, ints, clamps)) (omega (arith, ints, clamps)) (omega (arith, ints, clamps))

-- what the rank has once it has started
pub begins : (rank ranks : ℕ) (frame : Space) (anchor : Pair) (moves : List Move) (pieces : List Piece) (w : Modifying) (r : ℕ) → HasParts rank ranks frame anchor moves pieces w r
    → (d : Space) (forth back : Scale) (edges : List Link) (known : List Replaced) (addressees senders : List ℕ)
    → d ≡ finer frame (greatest anchor.forth.base_ratio anchor.forth.head_ratio)
    → forth ≡ scale_in d anchor.forth.width anchor.forth.base_ratio anchor.forth.head_ratio
    → back ≡ scale_in d anchor.forth.width anchor.forth.head_ratio anchor.forth.base_ratio
    → edges ≡ anchor.forth.edges
    → known ≡ map (λ m. entry anchor.back.edges m) moves
    → addressees ≡ others rank (head_owners anchor.back.edges ++ flat_map (λ m. owners m.news) moves)
    → senders ≡ others rank (head_owners anchor.forth.edges ++ map (λ p. p.old_owner) pieces)
    → HasEntries rank anchor.forth.width anchor.forth.base_ratio anchor.forth.head_ratio forth back edges known addressees senders w r
unfolding entries
begins rank ranks frame anchor moves pieces w r h d forth back edges known addressees senders finest f b e k to from =
    let a = old_pair w r in
    let same = h.same_anchor in
    let frame_is : d ≡ finer w.frame (greatest w.anchor_ratio w.old_ratio) =
    finest ∙ ap (λ (s : Space). finer s (greatest anchor.forth.base_ratio anchor.forth.head_ratio)) h.same_frame
    ∙ ap (λ (p : Pair). finer w.frame (greatest p.forth.base_ratio p.forth.head_ratio)) same in
    record {
      owned = h.owned;
      same_rank = h.same_rank;
      within = h.within;
      same_width = ap (λ (p : Pair). p.forth.width) same;
      same_anchor = ap (λ (p : Pair). p.forth.base_ratio) same;
      same_old = ap (λ (p : Pair). p.forth.head_ratio) same;
      same_forth =
          f ∙ ap (λ (p : Pair). scale_in d p.forth.width p.forth.base_ratio p.forth.head_ratio) same
          ∙ ap (λ (s : Space). scale_in s w.width w.anchor_ratio w.old_ratio) frame_is;
      same_back =
          b ∙ ap (λ (p : Pair). scale_in d p.forth.width p.forth.head_ratio p.forth.base_ratio) same
          ∙ ap (λ (s : Space). scale_in s w.width w.old_ratio w.anchor_ratio) frame_is
          ∙ ap (λ (g : IVec). scale_in (finer w.frame g) w.width w.old_ratio w.anchor_ratio) (greatest_comm w.old_ratio w.anchor_ratio);
      same_edges = e ∙ ap (λ (p : Pair). p.forth.edges) same;
      same_entries =
          k ∙ ap (λ (p : Pair). map (λ (m : Move). entry p.back.edges m) moves) same
          ∙ ap (λ (l : List Move). map (λ (m : Move). entry a.back.edges m) l) h.same_moves;
      same_addressees =
          to ∙ ap (λ (n : ℕ). others n (head_owners anchor.back.edges ++ flat_map (λ (m : Move). owners m.news) moves)) h.same_rank
          ∙ ap (λ (p : Pair). others r (head_owners p.back.edges ++ flat_map (λ (m : Move). owners m.news) moves)) same
          ∙ ap (λ (l : List Move). others r (head_owners a.back.edges ++ flat_map (λ (m : Move). owners m.news) l)) h.same_moves;
      same_senders =
          from ∙ ap (λ (n : ℕ). others n (head_owners anchor.forth.edges ++ map (λ (p : Piece). p.old_owner) pieces)) h.same_rank
          ∙ ap (λ (p : Pair). others r (head_owners p.forth.edges ++ map (λ (p : Piece). p.old_owner) pieces)) same
          ∙ awaits w r pieces h.are_pieces;
    }
