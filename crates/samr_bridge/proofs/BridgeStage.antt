-- A rank's stage against its part of the bridge.
use Rattle.std.proofs.Common.{◌≡◌, ℕ, sym, ap, ◌∙◌, ◌++◌, map}
use Rattle.std.specs.Prelude.{List}
use Rattle.std.specs.List.{flat_map}
use Rattle.samr_box.specs.declared.vector.IVec.{IVec}
use Rattle.samr_box.specs.Vector.{greatest}
use Rattle.samr_box.specs.Space.{Space, finer}
use Rattle.samr_stage.specs.declared.stage.Held.{Held}
use Rattle.samr_stage.specs.Row.{told, heard, column}
use Rattle.samr_level.specs.declared.parts.Connector.{Connector}
use Rattle.samr_level.specs.declared.parts.Pair.{Pair}
use Rattle.samr_level.specs.Refs.{Link, turned}
use Rattle.samr_level.specs.RefOrders.{edge_cmp, in_order}
use Rattle.samr_level.specs.Overlaps.{of_rank, scale_in}
use Rattle.samr_bridge.specs.Bridge.{Bridging, IsBridge}
use Rattle.samr_bridge.specs.Found.{found_by, found, east_pair, west_pair, bridge_pair}
use Rattle.samr_bridge.specs.BridgeRow.{from_centre, other_owners, about, bridge_row}
use Rattle.samr_bridge.specs.BridgeParts.{HasPairs, HasFound}
use Rattle.samr_bridge.proofs.BridgeRowLaws.{letters_are, ends_forth, ends_back}

-- connectors and pairs that are the same in each part
connectors : (width width' base base' head head' : IVec) (edges edges' : List Link) → width ≡ width' → base ≡ base' → head ≡ head' → edges ≡ edges'
    → (let x : Connector = record { width = width; base_ratio = base; head_ratio = head; edges = edges } in x)
    ≡ record { width = width'; base_ratio = base'; head_ratio = head'; edges = edges' }
connectors width width' base base' head head' edges edges' e f g h = rw (e, f, g, h)

pairs : (forth forth' back back' : Connector) → forth ≡ forth' → back ≡ back' → (let x : Pair = record { forth = forth; back = back } in x) ≡ record { forth = forth'; back = back' }
pairs forth forth' back back' e f = rw (e, f)

-- what the rank has in the end, from all edges that it holds
pub ends : (rank : ℕ) (width east_ratio west_ratio : IVec) (edges : List Link) (addressees senders : List ℕ) (w : Bridging) (r : ℕ)
    → HasFound rank width east_ratio west_ratio edges addressees senders w r
    → (held : List (Held (List Link))) → held ≡ heard (column (bridge_row w) r) w.ranks
    → (all forth back : List Link) → all ≡ edges ++ flat_map (λ letter. letter.body) held
    → IsBridge w → forth ≡ in_order edge_cmp (of_rank rank all) → back ≡ in_order edge_cmp (of_rank rank (map (λ e. turned e) all))
    → (let x : Pair = record {
      forth = record { width = width; base_ratio = east_ratio; head_ratio = west_ratio; edges = forth };
      back = record { width = width; base_ratio = west_ratio; head_ratio = east_ratio; edges = back };
    } in x) ≡ bridge_pair w r
ends rank width east_ratio west_ratio edges addressees senders w r h held are all forth back gathered bridge f b =
    let is : all ≡ found w r ++ flat_map (λ (letter : Held (List Link)). letter.body) (heard (column (bridge_row w) r) w.ranks) =
    gathered ∙ ap (λ (l : List Link). l ++ flat_map (λ letter. letter.body) held) h.same_edges ∙ ap (λ (l : List (Held (List Link))). found w r ++ flat_map (λ letter. letter.body) l) are in
    let forth_same = f ∙ ap (λ (k : ℕ). in_order edge_cmp (of_rank k all)) h.same_rank ∙ ap (λ (l : List Link). in_order edge_cmp (of_rank r l)) is ∙ ends_forth w h.owned r h.within bridge in
    let back_same = b ∙ ap (λ (k : ℕ). in_order edge_cmp (of_rank k (map (λ e. turned e) all))) h.same_rank ∙ ap (λ (l : List Link). in_order edge_cmp (of_rank r (map (λ e. turned e) l))) is ∙ ends_back w h.owned r h.within bridge in
    pairs _ _ _ _
    (connectors width w.width east_ratio w.east_ratio west_ratio w.west_ratio forth _ h.same_width h.same_east h.same_west forth_same)
    (connectors width w.width west_ratio w.west_ratio east_ratio w.east_ratio back _ h.same_width h.same_west h.same_east back_same)

-- what the rank tells
pub tells : (rank : ℕ) (width east_ratio west_ratio : IVec) (edges : List Link) (addressees senders : List ℕ) (w : Bridging) (r : ℕ)
    → HasFound rank width east_ratio west_ratio edges addressees senders w r
    → map (λ to. (to, about to edges)) addressees ≡ told (bridge_row w r) w.ranks
tells rank width east_ratio west_ratio edges addressees senders w r h =
    ap (map (λ (to : ℕ). (to, about to edges))) h.same_addressees
    ∙ ap (λ (es : List Link). map (λ (to : ℕ). (to, about to es)) (other_owners r (from_centre w r))) h.same_edges
    ∙ sym (letters_are w h.owned r h.within)

-- what the rank has once it has searched
searched : Space → Pair → Pair → IVec → List Link
searched d east west width =
    found_by (scale_in (finer d (greatest east.forth.base_ratio west.forth.head_ratio)) width east.forth.base_ratio west.forth.head_ratio) east.back.edges west.forth.edges

pub begins : (rank ranks : ℕ) (frame : Space) (east west : Pair) (width : IVec) (w : Bridging) (r : ℕ) → HasPairs rank ranks frame east west width w r
    → (d : Space) (edges : List Link) (addressees senders : List ℕ) → d ≡ finer frame (greatest east.forth.base_ratio west.forth.head_ratio)
    → edges ≡ found_by (scale_in d width east.forth.base_ratio west.forth.head_ratio) east.back.edges west.forth.edges
    → addressees ≡ other_owners rank (east.back.edges ++ west.forth.edges)
    → senders ≡ other_owners rank (east.forth.edges ++ west.back.edges)
    → HasFound rank width east.forth.base_ratio west.forth.head_ratio edges addressees senders w r
unfolding found searched
begins rank ranks frame east west width w r h d edges addressees senders finest e to from = record {
  owned = h.owned;
  same_rank = h.same_rank;
  within = h.within;
  same_width = h.same_width;
  same_east = ap (λ (p : Pair). p.forth.base_ratio) h.same_east;
  same_west = ap (λ (p : Pair). p.forth.head_ratio) h.same_west;
  same_edges =
      e
      ∙ ap (λ (s : Space). found_by (scale_in s width east.forth.base_ratio west.forth.head_ratio) east.back.edges west.forth.edges) finest
      ∙ ap (λ (s : Space). searched s east west width) h.same_frame
      ∙ ap (λ (p : Pair). searched w.frame p west width) h.same_east
      ∙ ap (λ (p : Pair). searched w.frame (east_pair w r) p width) h.same_west
      ∙ ap (λ (v : IVec). searched w.frame (east_pair w r) (west_pair w r) v) h.same_width;
  same_addressees =
      to
      ∙ ap (λ (k : ℕ). other_owners k (east.back.edges ++ west.forth.edges)) h.same_rank
      ∙ ap (λ (p : Pair). other_owners r (p.back.edges ++ west.forth.edges)) h.same_east
      ∙ ap (λ (p : Pair). other_owners r ((east_pair w r).back.edges ++ p.forth.edges)) h.same_west;
  same_senders =
      from
      ∙ ap (λ (k : ℕ). other_owners k (east.forth.edges ++ west.back.edges)) h.same_rank
      ∙ ap (λ (p : Pair). other_owners r (p.forth.edges ++ west.back.edges)) h.same_east
      ∙ ap (λ (p : Pair). other_owners r ((east_pair w r).forth.edges ++ p.back.edges)) h.same_west;
}
