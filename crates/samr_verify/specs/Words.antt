-- The words of a line, and what a reader of the front of a text has to answer.
use Rattle.std.specs.Prelude.{◌≡◌, ℕ, ℤ, ◌<◌, ◌≤◌, ◌^◌, nat_abs, nat_lt, List, [], ◌∷◌, ◌++◌, Option, Some, IfSome}
use Rattle.std.specs.List.{prefix_len}

-- a number whose size is below 2^63
abbrev pub IsNumber : ℤ → Type 0
IsNumber n = nat_abs n < 2 ^ 63

-- how many bytes stand before the first blank or line feed
unfoldable pub word_len : List ℕ → ℕ
word_len text = prefix_len (λ c. nat_lt 32 c) text

-- a part of a line: what it tells, in which range, and how that is printed
pub record Part : Type 1 where
  pub Told : Type 0
  pub IsRight : Told → Type 0
  pub print : Told → List ℕ

-- a text begins with a blank, a line feed or the like, so that a word before it has ended
abbrev pub IsParted : List ℕ → Type 0
IsParted [] = ⊥
IsParted (c ∷ cs) = c ≤ 32

-- what is found at the front of a text is in range, and the text is what is printed of it and the rest; and what is in range and printed there is found
pub record Reads (p : Part) (text : List ℕ) (found : Option (p.Told × List ℕ)) : Type 0 where
  pub some : IfSome found (λ r. p.IsRight r.0 × (p.print r.0 ++ r.1 ≡ text))
  pub each : (x : p.Told) (rest : List ℕ) → p.IsRight x → IsParted rest → p.print x ++ rest ≡ text → found ≡ Some (x, rest)
