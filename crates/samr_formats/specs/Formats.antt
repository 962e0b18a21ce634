-- A format: how each value of a type is spelled as bytes, and how one is read from the front of bytes.
use Rattle.std.specs.Prelude.{◌≡◌, ℕ, zero, suc, ◌<◌, ◌^◌, Bool, List, [], ◌∷◌, ◌++◌, length, take, drop, get_or, Option, Some, None, Result, Ok, Err, nat_lt, if◌then◌else◌}
use Rattle.std.specs.Int.{Width, w64, byte_len, from_be_bytes, to_be_bytes}
use Rattle.std.specs.List.{flat_map, AllByRecursion}
use Rattle.samr_formats.specs.declared.unread.Unread.{Unread}
use Rattle.samr_formats.specs.declared.unread.Unread.TheVariants as unread

infixl 10 ◌>>=◌
abbrev pub ◌>>=◌ : {A B : Type 0} → Option A → (A → Option B) → Option B
(Some x) >>= f = f x
None >>= f = None

-- a call gives what reading gives, or memory was short
abbrev pub Fails : {Y : Type 0} → Unread → Option Y → Type 0
Fails unread.Memory read = Unit {0}
Fails unread.Malformed read = read ≡ None

abbrev pub Gives : {X Y : Type 0} → (X → Y) → Result X Unread → Option Y → Type 0
Gives view (Ok x) read = read ≡ Some (view x)
Gives view (Err e) read = Fails e read

abbrev pub IsBytes : List ℕ → Type 0
IsBytes bytes = (i : ℕ) → get_or bytes i 0 < 256

-- bytes are a text and a rest
pub record Takes (bytes text rest : List ℕ) : Type 0 where
  pub parts : bytes ≡ text ++ rest
  pub rest_fits : IsBytes rest

-- what is read is spelled so, and what is spelled so is read, whatever follows
pub record IsFormat {A : Type 0} (spell : A → List ℕ) (Fits : A → Type 0) (read : List ℕ → Option (A × List ℕ)) : Type 0 where
  pub takes : (bytes : List ℕ) (x : A) (rest : List ℕ) → IsBytes bytes → read bytes ≡ Some (x, rest) → Takes bytes (spell x) rest × Fits x
  pub again : (x : A) (rest : List ℕ) → Fits x → read (spell x ++ rest) ≡ Some (x, rest)

-- numbers
abbrev pub read_byte : List ℕ → Option (ℕ × List ℕ)
read_byte [] = None
read_byte (b ∷ rest) = Some (b, rest)

abbrev pub read_number : Width → List ℕ → Option (ℕ × List ℕ)
read_number w bytes = if nat_lt (length bytes) (byte_len w) then None else Some (from_be_bytes w (take (byte_len w) bytes), drop (byte_len w) bytes)

-- one after the other
abbrev pub spell_pair : {A B : Type 0} → (A → List ℕ) → (B → List ℕ) → A × B → List ℕ
spell_pair first second x = first x.0 ++ second x.1

abbrev pub FitsPair : {A B : Type 0} → (A → Type 0) → (B → Type 0) → A × B → Type 0
FitsPair first second x = first x.0 × second x.1

abbrev pub read_pair : {A B : Type 0} → (List ℕ → Option (A × List ℕ)) → (List ℕ → Option (B × List ℕ)) → List ℕ → Option ((A × B) × List ℕ)
read_pair first second bytes = first bytes >>= λ x. second x.1 >>= λ y. Some ((x.0, y.0), y.1)

-- so many, one after the other
abbrev pub read_many : {A : Type 0} → (List ℕ → Option (A × List ℕ)) → ℕ → List ℕ → Option (List A × List ℕ)
read_many read zero bytes = Some ([], bytes)
read_many read (suc n) bytes = read bytes >>= λ x. read_many read n x.1 >>= λ more. Some (x.0 ∷ more.0, more.1)

-- a count, and so many
abbrev pub spell_list : {A : Type 0} → (A → List ℕ) → List A → List ℕ
spell_list spell xs = to_be_bytes w64 (length xs) ++ flat_map spell xs

abbrev pub FitsList : {A : Type 0} → (A → Type 0) → List A → Type 0
FitsList fits xs = (length xs < 2 ^ 64) × AllByRecursion fits xs

abbrev pub read_list : {A : Type 0} → (List ℕ → Option (A × List ℕ)) → List ℕ → Option (List A × List ℕ)
read_list read bytes = read_number w64 bytes >>= λ n. read_many read n.0 n.1

-- a value that is spelled as another one
abbrev pub read_as : {A B : Type 0} → (A → B) → (List ℕ → Option (A × List ℕ)) → List ℕ → Option (B × List ℕ)
read_as from read bytes = read bytes >>= λ x. Some (from x.0, x.1)

-- a value that passes a test
abbrev pub read_only : {A : Type 0} → (A → Bool) → (List ℕ → Option (A × List ℕ)) → List ℕ → Option (A × List ℕ)
read_only test read bytes = read bytes >>= λ x. if test x.0 then Some x else None
