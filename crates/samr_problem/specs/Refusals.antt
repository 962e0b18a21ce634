-- Refusals, and what an answer that may refuse says of them.
use Rattle.std.specs.Prelude.{◌≡◌, ℕ, List, [], ◌∷◌, map, Option, Some, None, Result, Ok, Err}
use Rattle.samr_problem.specs.declared.refusal.Refusal.{Refusal}
use Rattle.samr_problem.specs.declared.refusal.Unread.{Unread}
use Rattle.samr_problem.specs.declared.refusal.Unread.TheVariants.{Refused, NoMemory}

-- the first of a list
abbrev pub first : {X : Type 0} → List X → Option X
first [] = None
first (x ∷ xs) = Some x

-- the refusal by a cause at a key
abbrev pub refusal_at : ℕ → List ℕ → Refusal
refusal_at cause name = record { cause = cause; key = name }

-- a refusal that shows no key
abbrev pub plain : ℕ → Refusal
plain cause = refusal_at cause []

-- the refusals by a cause at each of some keys
abbrev pub refusals : ℕ → List (List ℕ) → List Refusal
refusals cause names = map (refusal_at cause) names

-- the answer is this refusal, or want of memory
abbrev pub IsRefusal : Unread → Refusal → Type 0
IsRefusal (Refused r) refusal = r ≡ refusal
IsRefusal NoMemory refusal = Unit {0}

-- the answer is the refusal where there is one, or want of memory
abbrev pub Refuses : {T : Type 0} → Result T Unread → Option Refusal → Type 0
Refuses (Ok x) refusal = refusal ≡ None
Refuses (Err (Refused r)) refusal = refusal ≡ Some r
Refuses (Err NoMemory) refusal = Unit {0}
