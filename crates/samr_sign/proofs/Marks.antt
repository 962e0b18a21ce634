-- What marking a row changes.
use Rattle.std.proofs.Common.{◌≡◌, ℕ, ◌+◌, ◌*◌, ◌%◌, ◌≤◌, Bool, true, false, ◌||◌, List, length, refl, ap, ◌∙◌, arith}
use Rattle.std.proofs.lemmas.Bool.{or_from}
use Rattle.std.specs.Prelude.{nat_le, nat_lt, ◌&&◌}
use Rattle.samr_box.specs.declared.vector.Axis.TheVariants.{I}
use Rattle.samr_box.specs.declared.vector.IVec.{IVec}
use Rattle.samr_box.specs.Corners.{Corners, holds, span}
use Rattle.samr_box.proofs.CellSets.{Holds-test, holds-from}
use Rattle.samr_bits.specs.Bits.{is_set}
use Rattle.samr_sign.specs.Fields.{IsField, row_words, place, tagged}
use Rattle.samr_sign.proofs.Places.{RowOf, row_run, run_bits, part_Holds}

cases : (h r a b : Bool) → (h ≡ true → a ≡ (r || b)) → (r ≡ true → h ≡ true) → (h && a) ≡ (r || (h && b))
cases true r a b p q = p refl
cases false true a b p q = q refl
cases false false a b p q = refl

pub marked_row : (b row : Corners) (old new : List ℕ) → RowOf b row
    → ((q : ℕ) → is_set new q ≡ ((nat_le (place b row.lo) q && nat_lt q (place b row.lo + span I row)) || is_set old q))
    → (x : IVec) → tagged (record { bx = b; words = new }) x ≡ (holds row x || tagged (record { bx = b; words = old }) x)
marked_row b row old new r sets x =
    cases (holds b x) (holds row x) (is_set new (place b x)) (is_set old (place b x))
    (λ t. sets (place b x) ∙ ap (λ v. v || is_set old (place b x)) (row_run b row x r (Holds-test t)))
    (λ t. holds-from (part_Holds b row x r.inside (Holds-test t)))

pub marked_zeros : (b row : Corners) (old new : List ℕ) → RowOf b row
    → ((q : ℕ) → is_set new q ≡ ((nat_le (place b row.lo) q && nat_lt q (place b row.lo + span I row)) || is_set old q))
    → ((p : ℕ) → span I b ≤ p % (64 * row_words b) → is_set old p ≡ false)
    → (p : ℕ) → span I b ≤ p % (64 * row_words b) → is_set new p ≡ false
marked_zeros b row old new r sets zeros p h = sets p ∙ or_from (nat_le (place b row.lo) p && nat_lt p (place b row.lo + span I row)) (is_set old p) (run_bits b row p r h) (zeros p h)

pub marked_field : (b row : Corners) (old new : List ℕ) → IsField (record { bx = b; words = old }) → RowOf b row → length new ≡ length old
    → ((q : ℕ) → is_set new q ≡ ((nat_le (place b row.lo) q && nat_lt q (place b row.lo + span I row)) || is_set old q))
    → IsField (record { bx = b; words = new })
marked_field b row old new h r e sets = record {
  whole = h.whole;
  rows = e ∙ h.rows;
  few = omega (arith, h.few, e);
  zeros = marked_zeros b row old new r sets h.zeros;
}
