-- Reading and writing values one after the other, as loops do.
use Rattle.std.proofs.Common.{◌≡◌, ℕ, suc, ◌-◌, ◌+◌, ◌≤◌, ◌<◌, List, [], ◌∷◌, ◌++◌, Option, Some, None, refl, sym, ap, ◌∙◌, append_assoc, arith}
use Rattle.std.proofs.lemmas.List.{append-nil}
use Rattle.samr_formats.specs.declared.unread.Unread.{Unread}
use Rattle.samr_formats.specs.declared.unread.Unread.TheVariants as unread
use Rattle.samr_formats.specs.Formats.{◌>>=◌, Fails, read_many}

-- what was read before, and what is still read
abbrev pub with_front : {A : Type 0} → List A → Option (List A × List ℕ) → Option (List A × List ℕ)
with_front front read = read >>= λ x. Some (front ++ x.0, x.1)

regroup : {A : Type 0} (front : List A) (n : A) (read : Option (List A × List ℕ)) → with_front front (read >>= λ x. Some (n ∷ x.0, x.1)) ≡ with_front (front ++ n ∷ []) read
regroup {A} front n (Some x) = ap (λ (ns : List A). Some (ns, x.1)) (simp append_assoc)
regroup front n None = refl

starts_with : {A : Type 0} (total : Option (List A × List ℕ)) → with_front [] total ≡ total
starts_with (Some x) = refl
starts_with None = refl

pub starts : {A : Type 0} (one : List ℕ → Option (A × List ℕ)) (count : ℕ) (bytes : List ℕ) → with_front [] (read_many one (count - 0) bytes) ≡ read_many one count bytes
starts one count bytes =
    let none : count - 0 ≡ count = omega arith in
    rw none (starts_with (read_many one count bytes))

pub goes_on : {A : Type 0} (one : List ℕ → Option (A × List ℕ)) (front : List A) (count i : ℕ) (bytes : List ℕ) (n : A) (after : List ℕ) (total : Option (List A × List ℕ)) → i < count → one bytes ≡ Some (n, after)
    → with_front front (read_many one (count - i) bytes) ≡ total → with_front (front ++ n ∷ []) (read_many one (count - (i + 1)) after) ≡ total
goes_on one front count i bytes n after total lt h so_far =
    let k : count - i ≡ suc (count - (i + 1)) = omega arith in
    let step : with_front front (read_many one (count - i) bytes) ≡ with_front (front ++ n ∷ []) (read_many one (count - (i + 1)) after) = rw (k, h) (regroup front n (read_many one (count - (i + 1)) after)) in
    sym step ∙ so_far

pub ends : {A : Type 0} (one : List ℕ → Option (A × List ℕ)) (e : Unread) (front : List A) (count i : ℕ) (bytes : List ℕ) (total : Option (List A × List ℕ)) → i < count → Fails e (one bytes)
    → with_front front (read_many one (count - i) bytes) ≡ total → Fails e total
ends one unread.Memory front count i bytes total lt h so_far = tt
ends {A} one unread.Malformed front count i bytes total lt h so_far =
    let none : Option (List A × List ℕ) = None in
    let k : count - i ≡ suc (count - (i + 1)) = omega arith in
    let step : with_front front (read_many one (count - i) bytes) ≡ none = rw (k, h) refl in
    sym so_far ∙ step

pub is_done : {A : Type 0} (one : List ℕ → Option (A × List ℕ)) (front : List A) (count i : ℕ) (bytes : List ℕ) (total : Option (List A × List ℕ)) → count ≤ i → with_front front (read_many one (count - i) bytes) ≡ total → total ≡ Some (front, bytes)
is_done {A} one front count i bytes total le so_far =
    let k : count - i ≡ 0 = omega arith in
    let step : with_front front (read_many one (count - i) bytes) ≡ Some (front, bytes) = rw k (ap (λ (ns : List A). Some (ns, bytes)) (append-nil front)) in
    sym so_far ∙ step
