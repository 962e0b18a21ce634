-- What a rank has when the modification begins, and when a bridge begins.
use Rattle.std.proofs.Common.{◌≡◌, ℕ, ◌<◌, ℤ, pos, ◌≤ℤ◌, true, false, refl, sym, subst, ◌∙◌, inl, inr, cond}
use Rattle.std.specs.Prelude.{◌⊎◌, ◌*ℤ◌, int_lt}
use Rattle.std.specs.Int.{int_max}
use Rattle.std.specs.Prelude.{List}
use Rattle.samr_box.specs.declared.vector.IVec.{IVec}
use Rattle.samr_box.specs.Vector.{InRange, greatest}
use Rattle.samr_box.specs.Space.{Space, IsSpace, finer}
use Rattle.samr_level.specs.declared.parts.Move.{Move}
use Rattle.samr_level.specs.declared.parts.Pair.{Pair}
use Rattle.samr_level.proofs.Reaches.{InRange-width}
use Rattle.samr_modify.specs.Pieces.{Piece}
use Rattle.samr_modify.specs.Modify.{old_pair}
use Rattle.samr_modify.specs.Entries.{moves_of}
use Rattle.samr_modify.specs.ModifyParts.{HasParts, ArePieces}
use Rattle.samr_bridge.specs.Bridge.{Bridging}
use Rattle.samr_bridge.specs.BridgeParts.{HasPairs}
use Rattle.samr_problem.specs.Fields.{Fields}
use Rattle.samr_mesh.specs.Domains.{area_of, ratio_to}
use Rattle.samr_mesh.specs.Passes.{Pass}
use Rattle.samr_mesh.specs.Soundness.{CanRun}
use Rattle.samr_mesh.proofs.Scaling.{space_of}
use Rattle.samr_wholes.specs.Wholes.{modifying}
use Rattle.samr_wholes.proofs.Moves.{is_modifying}
use Rattle.samr_wholes.proofs.PassStages.{width_low}
use Rattle.samr_msg.specs.Places.{AtPass}
use Rattle.samr_regrid.specs.Standing.{IsPassOf}
use Rattle.samr_connecting.specs.Joining.{HasSides}

max_is : (a b : ℤ) → (int_max a b ≡ a) ⊎ (int_max a b ≡ b)
max_is a b = elim (int_lt b a) as (λ v. (cond v a b ≡ a) ⊎ (cond v a b ≡ b)) [ true ↦ inl refl | false ↦ inr refl ]

max_has : (P : ℤ → Type 0) (a b : ℤ) → P a → P b → P (int_max a b)
max_has P a b h k = elim (max_is a b) [ inl e ↦ subst P (sym e) h | inr e ↦ subst P (sym e) k ]

abbrev Low : ℤ → ℤ → Type 0
Low n z = pos 1 ≤ℤ (n *ℤ z)

abbrev High : ℤ → ℤ → Type 0
High n z = (n *ℤ z) ≤ℤ pos 1073741824

-- the frame of the finer of two levels
pub greater_space : (d : Space) (a b : IVec) → IsSpace (finer d a) → IsSpace (finer d b) → IsSpace (finer d (greatest a b))
greater_space d a b g h = record {
  low = record { k = max_has (Low d.size.k) a.k b.k g.low.k h.low.k; j = max_has (Low d.size.j) a.j b.j g.low.j h.low.j; i = max_has (Low d.size.i) a.i b.i g.low.i h.low.i };
  high = record { k = max_has (High d.size.k) a.k b.k g.high.k h.high.k; j = max_has (High d.size.j) a.j b.j g.high.j h.high.j; i = max_has (High d.size.i) a.i b.i g.high.i h.high.i };
}

pub width_range : (p : Fields) (w : Pass) → CanRun p w → InRange p.width
width_range p w run = InRange-width (area_of p).frame p.width run.can.base (record { low = width_low p w run; high = run.can.width })

-- the clusters
pub cluster_width : (p : Fields) (w : Pass) (r : ℕ) (clusters : Pair) → CanRun p w → clusters ≡ old_pair (modifying p w) r → InRange clusters.forth.width
cluster_width p w r clusters run same = subst (λ (e : Pair). InRange e.forth.width) (sym same) (width_range p w run)

pub cluster_space : (p : Fields) (w : Pass) (r : ℕ) (frame : Space) (clusters : Pair) → CanRun p w → frame ≡ (area_of p).frame → clusters ≡ old_pair (modifying p w) r
    → IsSpace (finer frame (greatest clusters.forth.base_ratio clusters.forth.head_ratio))
cluster_space p w r frame clusters run same_frame same =
    let space = space_of p w.number run.can.here in
    let all = greater_space (area_of p).frame (ratio_to p w.number) (ratio_to p w.number) space space in
    subst (λ (f : Space). IsSpace (finer f (greatest clusters.forth.base_ratio clusters.forth.head_ratio))) (sym same_frame)
    (subst (λ (e : Pair). IsSpace (finer (area_of p).frame (greatest e.forth.base_ratio e.forth.head_ratio))) (sym same) all)

pub modify_begins : (w : AtPass) (r : ℕ) (rank ranks : ℕ) (frame : Space) (clusters : Pair) (moves entries : List Move) (pieces : List Piece) → IsPassOf w → r < w.at.setting.ranks
    → rank ≡ r → ranks ≡ w.pass.ranks → frame ≡ (area_of w.at.setting.problem).frame → clusters ≡ old_pair (modifying w.at.setting.problem w.pass) r
    → entries ≡ moves → moves ≡ moves_of r (modifying w.at.setting.problem w.pass).moves → ArePieces (modifying w.at.setting.problem w.pass) r pieces
    → HasParts rank ranks frame clusters entries pieces (modifying w.at.setting.problem w.pass) r
modify_begins w r rank ranks frame clusters moves entries pieces is within own many space same kept all are = record {
  owned = (is_modifying w.at.setting.problem w.pass is.can).owned;
  same_rank = own;
  same_ranks = many;
  within = subst (λ n. r < n) (sym is.same_ranks) within;
  same_frame = space;
  same_anchor = same;
  same_moves = kept ∙ all;
  are_pieces = are;
}

pub bridge_begins : (w : AtPass) (r : ℕ) (b : Bridging) (rank ranks : ℕ) (frame : Space) (width : IVec) (east west : Pair) → IsPassOf w → r < w.at.setting.ranks
    → rank ≡ r → ranks ≡ w.pass.ranks → frame ≡ (area_of w.at.setting.problem).frame → width ≡ w.at.setting.problem.width
    → HasSides east west w r b → HasPairs rank ranks frame east west width b r
bridge_begins w r b rank ranks frame width east west is within own many space wide sides = record {
  owned = sides.owned;
  same_rank = own;
  same_ranks = many ∙ sides.same_ranks;
  within = subst (λ n. r < n) (sym is.same_ranks ∙ sides.same_ranks) within;
  same_frame = space ∙ sides.same_frame;
  same_east = sides.same_east;
  same_west = sides.same_west;
  same_width = wide ∙ sides.same_width;
}

-- a bridge's frame, from those of its two levels
pub sides_space : (w : AtPass) (r : ℕ) (b : Bridging) (east west : Pair) → HasSides east west w r b → IsSpace (finer (area_of w.at.setting.problem).frame b.east_ratio)
    → IsSpace (finer (area_of w.at.setting.problem).frame b.west_ratio) → IsSpace (finer (area_of w.at.setting.problem).frame (greatest east.forth.base_ratio west.forth.head_ratio))
sides_space w r b east west sides first second =
    let d = (area_of w.at.setting.problem).frame in
    let all = greater_space d b.east_ratio b.west_ratio first second in
    subst (λ (e : Pair). IsSpace (finer d (greatest e.forth.base_ratio west.forth.head_ratio))) (sym sides.same_east)
    (subst (λ (e : Pair). IsSpace (finer d (greatest b.east_ratio e.forth.head_ratio))) (sym sides.same_west) all)
