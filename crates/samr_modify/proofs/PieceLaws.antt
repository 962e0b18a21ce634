-- The new boxes of a rank, in the order of the moves, are its new boxes.
use Rattle.std.proofs.Common.{◌≡◌, ℕ, refl, sym, ap, subst}
use Rattle.std.specs.Prelude.{map, nat_eq}
use Rattle.samr_box.specs.Lists.{Member}
use Rattle.samr_box.proofs.Members.{Member-map, Member-from_map, Member-flat_map, Member-from_flat_map, Member-filter, Member-from_filter}
use Rattle.samr_level.specs.declared.parts.Move.{Move}
use Rattle.samr_level.specs.Refs.{Owned}
use Rattle.samr_level.specs.Levels.{own}
use Rattle.samr_level.proofs.RefLaws.{same_owned}
use Rattle.samr_modify.specs.Pieces.{Piece, piece, pieces_of}
use Rattle.samr_modify.specs.Modify.{Modifying}
use Rattle.samr_modify.specs.ModifyParts.{IsPiece, ArePieces}
use Rattle.samr_modify.proofs.Lists.{nat_same, nat_is_same}

-- a box of a rank
abbrev of_rank : ℕ → Piece → Owned
of_rank rank p = record { owner = rank; bx = p.bx }

only : (w : Modifying) (rank : ℕ) (p : Piece) → Member p (pieces_of rank w.moves) → IsPiece w rank p
unfolding pieces_of own
only w rank p h =
    let f = Member-from_flat_map (λ (m : Move). map (λ b. piece m.old.owner b) (own rank m.news)) p w.moves h in
    let m = f.0 in
    let g = Member-from_map (λ b. piece m.old.owner b) p (own rank m.news) f.2 in
    let o = Member-from_filter (λ (b : Owned). nat_eq b.owner rank) g.0 m.news g.1 in
    let same : g.0 ≡ of_rank rank p = same_owned (nat_same g.0.owner rank o.1) (sym (ap (λ (v : Piece). v.bx) g.2)) in
    (m, f.1, sym (ap (λ (v : Piece). v.old_owner) g.2), subst (λ (v : Owned). Member v m.news) same o.0)

all : (w : Modifying) (rank : ℕ) (p : Piece) → IsPiece w rank p → Member p (pieces_of rank w.moves)
unfolding pieces_of own
all w rank p (m, q, o, h) =
    let b = of_rank rank p in
    let same : piece m.old.owner b ≡ p = ap (λ (n : ℕ). piece n b) o in
    Member-flat_map (λ (m : Move). map (λ b. piece m.old.owner b) (own rank m.news)) p m w.moves q
    (subst (λ (v : Piece). Member v (map (λ b. piece m.old.owner b) (own rank m.news))) same
    (Member-map (λ b. piece m.old.owner b) b (own rank m.news) (Member-filter (λ (b : Owned). nat_eq b.owner rank) b m.news h (nat_is_same rank rank refl))))

pub pieces_are : (w : Modifying) (rank : ℕ) → ArePieces w rank (pieces_of rank w.moves)
pieces_are w rank = record { only = only w rank; all = all w rank }
