-- Numbers that a word prints.
use Rattle.std.proofs.Common.{◌≡◌, ℕ, ℤ, pos, negsuc, List, Some, Result, Ok, FitsSigned, w64, to_z, of_z, sym, ap, subst, ◌∙◌, arith}
use Rattle.std.proofs.lemmas.Fmt.{parse-signed_decimal, IsAscii-signed}
use Rattle.std.proofs.lemmas.Int.{to_z-of_z}
use Rattle.std.proofs.lemmas.Str.{IsUtf8-from_ascii}
use Rattle.std.specs.Fmt.{signed_decimal}
use Rattle.std.specs.Str.{IsUtf8, IsAscii}
use Rattle.std.specs.Str.Parse.{ParsesSigned}
use Rattle.samr_verify.specs.Words.{IsNumber}

fits : (n : ℤ) → IsNumber n → FitsSigned w64 n
fits (pos n) small = record { sfits = omega (arith, small) }
fits (negsuc n) small = record { sfits = omega (arith, small) }

ascii : (n : ℤ) → IsNumber n → IsAscii (signed_decimal n)
ascii (pos n) small = IsAscii-signed (pos n) small
ascii (negsuc n) small = IsAscii-signed (negsuc n) (omega (arith, small))

-- a number's text is one of letters, and is read as the number
pub prints_letters : (n : ℤ) (word : List ℕ) → IsNumber n → signed_decimal n ≡ word → IsUtf8 word
prints_letters n word small writes = subst IsUtf8 writes (IsUtf8-from_ascii (signed_decimal n) (ascii n small))

pub is_read : {E : Type 0} (r : Result ℤ E) (n : ℤ) (word : List ℕ) → IsNumber n → ParsesSigned w64 10 word r → signed_decimal n ≡ word → r ≡ Ok n
is_read r (pos n) word small parses writes = parse-signed_decimal w64 (pos n) word r (fits (pos n) small) small (sym writes) parses
is_read r (negsuc n) word small parses writes = parse-signed_decimal w64 (negsuc n) word r (fits (negsuc n) small) (omega (arith, small)) (sym writes) parses

same_number : {E : Type 0} (r : Result ℤ E) (m n : ℤ) → r ≡ Ok m → r ≡ Ok n → m ≡ n
same_number r m n p q = cc

pub held : {E : Type 0} (r : Result ℤ E) (m n : ℤ) → IsNumber n → r ≡ Ok m → r ≡ Ok n → to_z w64 (of_z w64 m) ≡ n
held r m n small p q = ap (λ (k : ℤ). to_z w64 (of_z w64 k)) (same_number r m n p q) ∙ to_z-of_z w64 n (fits n small)

pub one_number : {E : Type 0} (r : Result ℤ E) (m n : ℤ) → IsNumber n → r ≡ Ok m → r ≡ Ok n → Some (to_z w64 (of_z w64 m)) ≡ Some n
one_number r m n small p q = ap (λ (k : ℤ). Some k) (held r m n small p q)

pub same_held : (m n : ℤ) → IsNumber n → m ≡ n → to_z w64 (of_z w64 m) ≡ n
same_held m n small e = ap (λ (k : ℤ). to_z w64 (of_z w64 k)) e ∙ to_z-of_z w64 n (fits n small)
