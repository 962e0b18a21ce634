-- The first patches have the first values.
use Rattle.std.proofs.Common.{◌≡◌, ℕ, sym, ap, ◌∙◌, subst}
use Rattle.std.specs.Prelude.{pos, List, map, slice_get}
use Rattle.std.specs.List.{All}
use Rattle.samr_box.specs.declared.vector.IVec.{IVec}
use Rattle.samr_box.specs.Vector.{alike, AtMost}
use Rattle.samr_box.specs.Corners.{Holds}
use Rattle.samr_box.specs.Lists.{Member}
use Rattle.samr_box.proofs.Members.{member_of_All, Member-from_map}
use Rattle.samr_level.specs.Refs.{Owned}
use Rattle.samr_data.specs.Grids.{Grid, value_at}
use Rattle.samr_values.specs.Patches.{HasField, HasValues}
use Rattle.samr_trials_levels.specs.First.{first_value, first_patch, first_field, first_fields, HasRooms}
use Rattle.samr_trials_levels.proofs.Steps.{item_at}
use Rattle.samr_trials_levels.proofs.FirstPatches.{first_boxes, first_at, its_field}

has_field : (bound start field : ℕ) (width : IVec) (boxes : List Owned) (patches : List Grid) → AtMost (alike (pos 0)) width
    → patches ≡ first_field bound start boxes (field, width) → HasField (first_value bound start field) patches
has_field bound start field width boxes patches positive is p x m has =
    let o = Member-from_map (λ (b : Owned). first_patch bound start field width b.bx) p boxes (subst (λ (l : List Grid). Member p l) is m) in
    ap (λ (g : Grid). value_at g x) o.2 ∙ first_at bound start field width o.0.bx x positive (subst (λ (g : Grid). Holds g.bx x) o.2 has)

-- the first patches have the first values
pub has_first : (bound start : ℕ) (widths : List IVec) (boxes : List Owned) (fields : List (List Grid)) → fields ≡ first_fields bound start widths boxes → All (HasRooms boxes) widths → HasValues (first_value bound start) boxes fields
has_first bound start widths boxes fields is h = record {
  full = λ f field there.
      let r = its_field bound start widths boxes f field (ap (λ (l : List (List Grid)). slice_get l f) (sym is) ∙ there) in
      ap (map (λ p. p.bx)) r.2 ∙ first_boxes bound start (f, r.0) boxes;
  same = λ f field there.
      let r = its_field bound start widths boxes f field (ap (λ (l : List (List Grid)). slice_get l f) (sym is) ∙ there) in
      has_field bound start f r.0 boxes field (member_of_All (HasRooms boxes) r.0 widths h (item_at widths f r.0 r.1)).positive r.2;
}
