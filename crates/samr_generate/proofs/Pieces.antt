-- Texts put together of pieces.
use Rattle.std.proofs.Common.{◌≡◌, ℕ, List, [], ◌++◌, append_assoc, ap, ◌∙◌}

-- a text that begins empty, of four pieces
pub four_pieces : (a b c d begun one two three now : List ℕ) → begun ≡ [] → one ≡ begun ++ a → two ≡ one ++ b → three ≡ two ++ c → now ≡ three ++ d
    → now ≡ a ++ b ++ c ++ d
four_pieces a b c d begun one two three now empty p q r s =
    let first : one ≡ a = p ∙ ap (λ text. text ++ a) empty in
    s ∙ ap (λ text. text ++ d) (r ∙ ap (λ text. text ++ c) (q ∙ ap (λ text. text ++ b) first))

-- five and six pieces behind a text
pub five_pieces : (old a b c d e one two three four now : List ℕ) → one ≡ old ++ a → two ≡ one ++ b → three ≡ two ++ c → four ≡ three ++ d → now ≡ four ++ e
    → now ≡ old ++ (a ++ b ++ c ++ d ++ e)
five_pieces old a b c d e one two three four now p q r s t =
    let two_is = q ∙ ap (λ text. text ++ b) p ∙ append_assoc old a b in
    let three_is = r ∙ ap (λ text. text ++ c) two_is ∙ append_assoc old (a ++ b) c in
    let four_is = s ∙ ap (λ text. text ++ d) three_is ∙ append_assoc old (a ++ b ++ c) d in
    t ∙ ap (λ text. text ++ e) four_is ∙ append_assoc old (a ++ b ++ c ++ d) e

pub six_pieces : (old a b c d e f one two three four five now : List ℕ) → one ≡ old ++ a → two ≡ one ++ b → three ≡ two ++ c → four ≡ three ++ d → five ≡ four ++ e → now ≡ five ++ f
    → now ≡ old ++ (a ++ b ++ c ++ d ++ e ++ f)
six_pieces old a b c d e f one two three four five now p q r s t u =
    let five_is = five_pieces old a b c d e one two three four five p q r s t in
    u ∙ ap (λ text. text ++ f) five_is ∙ append_assoc old (a ++ b ++ c ++ d ++ e) f
