-- Texts put together of pieces.
use Rattle.std.proofs.Common.{◌≡◌, ℕ, pos, List, [], ◌∷◌, codes, ◌++◌, append_assoc, ap, ◌∙◌}
use Rattle.samr_level.specs.Refs.{Link}
use Rattle.std.proofs.Common.{append-nil, sym}
use Rattle.std.specs.Prelude.{ℤ}
use Rattle.std.specs.Fmt.{signed_decimal}
use Rattle.samr_report.specs.Lines.{blank_numbers, part}
use Rattle.samr_report.specs.LevelLines.{link_line, edge_line}

pub three_pieces : (old a b c one two now : List ℕ) → one ≡ old ++ a → two ≡ one ++ b → now ≡ two ++ c → now ≡ old ++ (a ++ b ++ c)
three_pieces old a b c one two now p q r =
    r ∙ ap (λ t. t ++ c) (q ∙ ap (λ t. t ++ b) p ∙ append_assoc old a b) ∙ append_assoc old (a ++ b) c

pub edge_pieces : (l m : ℕ) (e inside : Link) (old one now : List ℕ) → inside ≡ e → one ≡ old ++ part (codes "edge") (pos l ∷ pos m ∷ []) → now ≡ one ++ link_line inside
    → now ≡ old ++ edge_line l m e
unfolding edge_line
edge_pieces l m e inside old one now is first second =
    second ∙ ap (λ t. t ++ link_line inside) first ∙ append_assoc old (part (codes "edge") (pos l ∷ pos m ∷ [])) (link_line inside)
    ∙ ap (λ v. old ++ (part (codes "edge") (pos l ∷ pos m ∷ []) ++ link_line v)) is

-- a text that begins empty, of five pieces
pub five_pieces : (a b c d e begun one two three four now : List ℕ) → begun ≡ [] → one ≡ begun ++ a → two ≡ one ++ b → three ≡ two ++ c → four ≡ three ++ d → now ≡ four ++ e
    → now ≡ a ++ b ++ c ++ d ++ e
five_pieces a b c d e begun one two three four now empty p q r s t =
    let first : one ≡ a = p ∙ ap (λ text. text ++ a) empty in
    t ∙ ap (λ text. text ++ e) (s ∙ ap (λ text. text ++ d) (r ∙ ap (λ text. text ++ c) (q ∙ ap (λ text. text ++ b) first)))

pub six_pieces : (old a b c d e f one two three four five now : List ℕ) → one ≡ old ++ a → two ≡ one ++ b → three ≡ two ++ c → four ≡ three ++ d → five ≡ four ++ e → now ≡ five ++ f
    → now ≡ old ++ (a ++ b ++ c ++ d ++ e ++ f)
six_pieces old a b c d e f one two three four five now p q r s t u =
    let two_is = q ∙ ap (λ t. t ++ b) p ∙ append_assoc old a b in
    let three_is = r ∙ ap (λ t. t ++ c) two_is ∙ append_assoc old (a ++ b) c in
    let four_is = s ∙ ap (λ t. t ++ d) three_is ∙ append_assoc old (a ++ b ++ c) d in
    let five_is = t ∙ ap (λ t. t ++ e) four_is ∙ append_assoc old (a ++ b ++ c ++ d) e in
    u ∙ ap (λ t. t ++ f) five_is ∙ append_assoc old (a ++ b ++ c ++ d ++ e) f

pub four_pieces : (old a b c d one two three now : List ℕ) → one ≡ old ++ a → two ≡ one ++ b → three ≡ two ++ c → now ≡ three ++ d → now ≡ old ++ (a ++ b ++ c ++ d)
four_pieces old a b c d one two three now p q r s =
    let two_is = q ∙ ap (λ t. t ++ b) p ∙ append_assoc old a b in
    let three_is = r ∙ ap (λ t. t ++ c) two_is ∙ append_assoc old (a ++ b) c in
    s ∙ ap (λ t. t ++ d) three_is ∙ append_assoc old (a ++ b ++ c) d

-- words with one number behind them, and with two
pub one_number : (words old one now : List ℕ) (n : ℤ) → one ≡ old ++ words → now ≡ one ++ 32 ∷ signed_decimal n → now ≡ old ++ part words (n ∷ [])
unfolding part blank_numbers
one_number words old one now n first second =
    second ∙ ap (λ t. t ++ 32 ∷ signed_decimal n) first ∙ append_assoc old words (32 ∷ signed_decimal n)
    ∙ ap (λ t. old ++ (words ++ t)) (sym (append-nil (32 ∷ signed_decimal n)))

pub two_numbers : (words old one now : List ℕ) (m n : ℤ) → one ≡ old ++ part words (m ∷ []) → now ≡ one ++ part [] (n ∷ []) → now ≡ old ++ part words (m ∷ n ∷ [])
unfolding part blank_numbers
two_numbers words old one now m n first second =
    second ∙ ap (λ t. t ++ ((32 ∷ signed_decimal n) ++ [])) first
    ∙ append_assoc old (words ++ ((32 ∷ signed_decimal m) ++ [])) ((32 ∷ signed_decimal n) ++ [])
    ∙ ap (λ t. old ++ t) (append_assoc words ((32 ∷ signed_decimal m) ++ []) ((32 ∷ signed_decimal n) ++ [])
    ∙ ap (λ t. words ++ (t ++ ((32 ∷ signed_decimal n) ++ []))) (append-nil (32 ∷ signed_decimal m)))
