-- The tags of a rank, by a look at each box of the level.
use Rattle.std.proofs.Common.{◌≡◌, ℕ, sym, ap, ◌∙◌}
use Rattle.std.specs.Prelude.{Bool, true, false, ◌&&◌, nat_eq, List}
use Rattle.std.specs.List.{list_any}
use Rattle.samr_box.specs.declared.vector.IVec.{IVec}
use Rattle.samr_box.specs.Corners.{Corners, holds}
use Rattle.samr_boxlist.specs.Covers.{held}
use Rattle.samr_level.specs.Refs.{Owned}
use Rattle.samr_level.specs.Levels.{own, own_boxes}
use Rattle.samr_rounds.specs.Owners.{own_tags}
use Rattle.samr_rounds.proofs.Lists.{any_map}
use Rattle.samr_mesh_plain.proofs.CellFields.{any_filter}

own_cells : (level : List Owned) (rank : ℕ) (x : IVec) → held x (own_boxes rank level) ≡ list_any (λ b. nat_eq b.owner rank && holds b.bx x) level
unfolding own
own_cells level rank x =
    any_map (λ (c : Corners). holds c x) (λ (b : Owned). b.bx) (own rank level)
    ∙ any_filter (λ (b : Owned). holds b.bx x) (λ (b : Owned). nat_eq b.owner rank) level

pub not_tag : (t : IVec → Bool) (level : List Owned) (rank : ℕ) (x : IVec) → t x ≡ false → false ≡ own_tags t level rank x
unfolding own_tags
not_tag t level rank x e = sym (ap (λ v. v && held x (own_boxes rank level)) e)

pub own_tag : (t : IVec → Bool) (level : List Owned) (rank : ℕ) (x : IVec) (own : Bool) → t x ≡ true → own ≡ list_any (λ b. nat_eq b.owner rank && holds b.bx x) level
    → own ≡ own_tags t level rank x
unfolding own_tags
own_tag t level rank x own e f = f ∙ sym (own_cells level rank x) ∙ sym (ap (λ v. v && held x (own_boxes rank level)) e)
