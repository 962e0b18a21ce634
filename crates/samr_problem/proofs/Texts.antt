-- The test for UTF-8, from what is known of the bytes.
use Rattle.std.proofs.Common.{◌≡◌, ℕ, true, false, List, inl, inr}
use Rattle.std.proofs.lemmas.Bool.{cases_Bool}
use Rattle.std.proofs.lemmas.Str.{IsUtf8-from_is_utf8, is_utf8-from_IsUtf8}
use Rattle.std.specs.Str.{IsUtf8, is_utf8}

pub is_utf8_of : (bs : List ℕ) → IsUtf8 bs → is_utf8 bs ≡ true
is_utf8_of bs text = is_utf8-from_IsUtf8 bs text

pub not_utf8_of : (bs : List ℕ) → ¬ (IsUtf8 bs) → is_utf8 bs ≡ false
not_utf8_of bs wrong = elim (cases_Bool (is_utf8 bs)) [ inl good ↦ absurd (wrong (IsUtf8-from_is_utf8 bs good)) | inr broken ↦ broken ]
