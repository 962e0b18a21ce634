-- The finding that is told first.
use Rattle.std.proofs.Common.{◌≡◌, ◌∙◌, sym, refl, ap, ℕ, zero, suc, ◌+◌, ◌<◌, ◌≤◌, Bool, true, false, cond, List, [], ◌∷◌, ◌++◌, map, filter, take, length, get_or, Option, Some, None, option_map, inl, inr, add-one, append-nil, arith}
use Rattle.std.proofs.lemmas.Bool.{cases_lt, le-leb, lt-leb}
use Rattle.std.proofs.lemmas.List.{take_more, map-append}
use Rattle.std.proofs.lemmas.List.Concat.{flat_map-append}
use Rattle.std.specs.List.{flat_map, range_with_len}
use Rattle.samr_problem.specs.declared.keys.Fault.{Fault}
use Rattle.samr_problem.specs.declared.keys.Row.{Row}
use Rattle.samr_problem.specs.Faults.{all_faults, cause_of, has_fault, refusals_by}
use Rattle.samr_problem.specs.Findings.{Found, found_at, least, or_worse, or_else, rank_from, cause_at, refusal_of}
use Rattle.samr_problem.specs.Keys.{Key, key_of}
use Rattle.samr_problem.specs.Refusals.{first, refusal_at}
use Rattle.samr_problem.specs.Slots.{Slot}
use Rattle.samr_problem.proofs.Firsts.{first_append, first_map}

worse_left : (a b : Found) → a.rank ≤ b.rank → or_worse (Some a) (Some b) ≡ Some a
worse_left a b low = rw (le-leb a.rank b.rank low) refl

worse_right : (a b : Found) → b.rank < a.rank → or_worse (Some a) (Some b) ≡ Some b
worse_right a b low = rw (lt-leb a.rank b.rank low) refl

pub or_worse_none : (o : Option Found) → or_worse o None ≡ o
or_worse_none None = refl
or_worse_none (Some a) = refl

three : (a b c : Found) → or_worse (or_worse (Some a) (Some b)) (Some c) ≡ or_worse (Some a) (or_worse (Some b) (Some c))
three a b c = elim (cases_lt b.rank a.rank) [
  | inl right ↦ elim (cases_lt c.rank b.rank) [
    | inl last ↦ let low : c.rank < a.rank = omega arith in rw (worse_right a b right, worse_right b c last, worse_right a c low) refl
    | inr middle ↦ rw (worse_right a b right, worse_left b c middle, worse_right a b right) refl
  ]
  | inr left ↦ elim (cases_lt c.rank b.rank) [
    | inl last ↦ rw (worse_left a b left, worse_right b c last) refl
    | inr middle ↦ let low : a.rank ≤ c.rank = omega arith in rw (worse_left a b left, worse_left b c middle, worse_left a b left, worse_left a c low) refl
  ]
]

pub or_worse_assoc : (a b c : Option Found) → or_worse (or_worse a b) c ≡ or_worse a (or_worse b c)
or_worse_assoc None b c = refl
or_worse_assoc (Some a) None c = refl
or_worse_assoc (Some a) (Some b) None = or_worse_none (or_worse (Some a) (Some b))
or_worse_assoc (Some a) (Some b) (Some c) = three a b c

pub least_append : (xs ys : List Slot) → least (xs ++ ys) ≡ or_worse (least xs) (least ys)
least_append [] ys = refl
least_append (x ∷ xs) ys = ap (or_worse (found_at x)) (least_append xs ys) ∙ sym (or_worse_assoc (found_at x) (least xs) (least ys))

-- one more row
pub rows_more : (f : Key → Slot) (rows : List Row) (n : ℕ) (d : Row) → n < length rows
    → least (map f (map key_of (take (n + 1) rows))) ≡ or_worse (least (map f (map key_of (take n rows)))) (found_at (f (key_of (get_or rows n d))))
rows_more f rows n d below =
    let r = get_or rows n d in
    ap (λ xs. least (map f (map key_of xs))) (take_more rows n d below)
    ∙ ap (λ xs. least (map f xs)) (map-append key_of (take n rows) (r ∷ []))
    ∙ ap least (map-append f (map key_of (take n rows)) (key_of r ∷ []))
    ∙ least_append (map f (map key_of (take n rows))) (f (key_of r) ∷ [])
    ∙ ap (or_worse (least (map f (map key_of (take n rows))))) (or_worse_none (found_at (f (key_of r))))

-- what is found at a place, with its rank counted from n among some faults
found_from : ℕ → List Fault → Slot → Option Found
found_from n fs s = option_map (λ rank. record { rank = rank; shown = s.shown }) (rank_from n fs s)

least_from : ℕ → List Fault → List Slot → Option Found
least_from n fs [] = None
least_from n fs (s ∷ ss) = or_worse (found_from n fs s) (least_from n fs ss)

-- no finding has a rank below n
LowFrom : ℕ → Option Found → Type 0
LowFrom n None = Unit {0}
LowFrom n (Some a) = n ≤ a.rank

ranked : ℕ → Slot → Found
ranked n s = record { rank = n; shown = s.shown }

low_weaker : (n : ℕ) (o : Option Found) → LowFrom (n + 1) o → LowFrom n o
unfolding LowFrom
low_weaker n None low = tt
low_weaker n (Some a) low = omega (arith, low)

low_cond : (n : ℕ) (b : Bool) (shown : List ℕ) (o : Option ℕ)
    → LowFrom n (option_map (λ rank. record { rank = rank; shown = shown }) o)
    → LowFrom n (option_map (λ rank. record { rank = rank; shown = shown }) (cond b (Some n) o))
unfolding LowFrom
low_cond n true shown o low = omega arith
low_cond n false shown o low = low

found_low : (n : ℕ) (fs : List Fault) (s : Slot) → LowFrom n (found_from n fs s)
unfolding LowFrom found_from
found_low n [] s = tt
found_low n (f ∷ fs) s = low_cond n (has_fault f s) s.shown (rank_from (n + 1) fs s) (low_weaker n (found_from (n + 1) fs s) (found_low (n + 1) fs s))

low_worse : (n : ℕ) (a b : Option Found) → LowFrom n a → LowFrom n b → LowFrom n (or_worse a b)
unfolding LowFrom
low_worse n None b low_a low_b = low_b
low_worse n (Some a) None low_a low_b = low_a
low_worse n (Some a) (Some b) low_a low_b = elim (cases_lt b.rank a.rank) [
  | inl right ↦ rw (worse_right a b right) low_b
  | inr left ↦ rw (worse_left a b left) low_a
]

least_low : (n : ℕ) (fs : List Fault) (ss : List Slot) → LowFrom n (least_from n fs ss)
unfolding LowFrom least_from
least_low n fs [] = tt
least_low n fs (s ∷ ss) = low_worse n (found_from n fs s) (least_from n fs ss) (found_low n fs s) (least_low n fs ss)

keeps : (a : Found) (o : Option Found) → LowFrom a.rank o → or_worse (Some a) o ≡ Some a
unfolding LowFrom
keeps a None low = refl
keeps a (Some b) low = worse_left a b low

yields : (a : Found) (o : Option Found) → LowFrom (a.rank + 1) o → or_worse o (Some a) ≡ Some a
unfolding LowFrom
yields a None low = refl
yields a (Some b) low = worse_right b a (omega (arith, low))

low_else : (n : ℕ) (o : Option Slot) (later : Option Found) → LowFrom n later → LowFrom n (or_else (option_map (ranked n) o) later)
unfolding LowFrom ranked
low_else n None later low = low
low_else n (Some s) later low = omega arith

past : (n : ℕ) (a : Option Slot) (o later : Option Found) → LowFrom (n + 1) o
    → or_worse o (or_else (option_map (ranked n) a) later) ≡ or_else (option_map (ranked n) a) (or_worse o later)
unfolding ranked
past n None o later low = refl
past n (Some s) o later low = yields (ranked n s) o low

-- one place more, by whether it has the first fault
step_by : (b : Bool) (n : ℕ) (s : Slot) (o : Option ℕ) (hits : List Slot) (later : Option Found)
    → LowFrom (n + 1) (option_map (λ rank. record { rank = rank; shown = s.shown }) o) → LowFrom (n + 1) later
    → or_worse (option_map (λ rank. record { rank = rank; shown = s.shown }) (cond b (Some n) o)) (or_else (option_map (ranked n) (first hits)) later)
    ≡ or_else (option_map (ranked n) (first (cond b (s ∷ hits) hits))) (or_worse (option_map (λ rank. record { rank = rank; shown = s.shown }) o) later)
unfolding ranked
step_by true n s o hits later low_o low = keeps (ranked n s) (or_else (option_map (ranked n) (first hits)) later) (low_else n (first hits) later (low_weaker n later low))
step_by false n s o hits later low_o low = past n (first hits) (option_map (λ rank. record { rank = rank; shown = s.shown }) o) later low_o

step : (n : ℕ) (f : Fault) (fs : List Fault) (ss : List Slot)
    → least_from n (f ∷ fs) ss ≡ or_else (option_map (ranked n) (first (filter (has_fault f) ss))) (least_from (n + 1) fs ss)
unfolding least_from found_from
step n f fs [] = refl
step n f fs (s ∷ ss) =
    ap (or_worse (found_from n (f ∷ fs) s)) (step n f fs ss)
    ∙ step_by (has_fault f s) n s (rank_from (n + 1) fs s) (filter (has_fault f) ss) (least_from (n + 1) fs ss) (found_low (n + 1) fs s) (least_low (n + 1) fs ss)

none_left : (n : ℕ) (ss : List Slot) → least_from n [] ss ≡ None
unfolding least_from found_from
none_left n [] = refl
none_left n (s ∷ ss) = none_left n ss

-- the causes of some faults are those of their ranks, counted from n
Causes : ℕ → List Fault → Type 0
Causes n [] = Unit {0}
Causes n (f ∷ fs) = (cause_at n ≡ cause_of f) × Causes (n + 1) fs

map_else : {A B : Type 0} (g : A → B) (a b : Option A) → option_map g (or_else a b) ≡ or_else (option_map g a) (option_map g b)
map_else g None b = refl
map_else g (Some x) b = refl

told : (n : ℕ) (f : Fault) (o : Option Slot) → cause_at n ≡ cause_of f
    → option_map refusal_of (option_map (ranked n) o) ≡ option_map (λ s. refusal_at (cause_of f) s.shown) o
unfolding ranked
told n f None same = refl
told n f (Some s) same = ap (λ cause. Some (refusal_at cause s.shown)) same

in_order : (n : ℕ) (fs : List Fault) (ss : List Slot) → Causes n fs → option_map refusal_of (least_from n fs ss) ≡ first (flat_map (refusals_by ss) fs)
unfolding Causes
in_order n [] ss same = ap (option_map refusal_of) (none_left n ss)
in_order n (f ∷ fs) ss same =
    ap (option_map refusal_of) (step n f fs ss)
    ∙ map_else refusal_of (option_map (ranked n) (first (filter (has_fault f) ss))) (least_from (n + 1) fs ss)
    ∙ ap (λ o. or_else o (option_map refusal_of (least_from (n + 1) fs ss))) (told n f (first (filter (has_fault f) ss)) same.0 ∙ sym (first_map (λ s. refusal_at (cause_of f) s.shown) (filter (has_fault f) ss)))
    ∙ ap (or_else (first (refusals_by ss f))) (in_order (n + 1) fs ss same.1)
    ∙ sym (first_append (refusals_by ss f) (flat_map (refusals_by ss) fs))

least_is : (ss : List Slot) → least ss ≡ least_from 0 all_faults ss
unfolding found_at least_from found_from
least_is [] = refl
least_is (s ∷ ss) = ap (or_worse (found_at s)) (least_is ss)

-- the finding that is told first is the first refusal, cause by cause
pub least_told : (ss : List Slot) → option_map refusal_of (least ss) ≡ first (flat_map (refusals_by ss) all_faults)
unfolding all_faults Causes
least_told ss = ap (option_map refusal_of) (least_is ss) ∙ in_order 0 all_faults ss (refl, (refl, (refl, (refl, (refl, tt)))))

pub rows_step : (f : Key → Slot) (rows : List Row) (n : ℕ) (d : Row) (before found now : Option Found) → n < length rows
    → before ≡ least (map f (map key_of (take n rows))) → found ≡ found_at (f (key_of (get_or rows n d))) → now ≡ or_worse before found
    → now ≡ least (map f (map key_of (take (n + 1) rows)))
rows_step f rows n d before found now below so_far at step =
    step ∙ ap (or_worse before) at ∙ ap (λ o. or_worse o (found_at (f (key_of (get_or rows n d))))) so_far ∙ sym (rows_more f rows n d below)

range_more : (a n : ℕ) → range_with_len a (suc n) ≡ range_with_len a n ++ (a + n) ∷ []
range_more a zero = ap (λ (k : ℕ). k ∷ []) (omega arith)
range_more a (suc n) =
    ap (λ (xs : List ℕ). a ∷ xs) (range_more (a + 1) n ∙ ap (λ (k : ℕ). range_with_len (a + 1) n ++ k ∷ []) (omega arith))

pub flat_map_range_more : {X : Type 0} (f : ℕ → List X) (n : ℕ) → flat_map f (range_with_len 0 (n + 1)) ≡ flat_map f (range_with_len 0 n) ++ f n
flat_map_range_more {X} f n =
    ap (λ (k : ℕ). flat_map f (range_with_len 0 k)) (add-one n)
    ∙ ap (flat_map f) (range_more 0 n)
    ∙ flat_map-append f (range_with_len 0 n) ((0 + n) ∷ [])
    ∙ ap (λ (xs : List X). flat_map f (range_with_len 0 n) ++ xs) (append-nil (f (0 + n)) ∙ ap f (omega arith))

-- one more table
pub tables_step : (f : ℕ → List Slot) (n : ℕ) (before found now : Option Found)
    → before ≡ least (flat_map f (range_with_len 0 n)) → found ≡ least (f n) → now ≡ or_worse before found
    → now ≡ least (flat_map f (range_with_len 0 (n + 1)))
tables_step f n before found now so_far at step =
    step ∙ ap (or_worse before) at ∙ ap (λ o. or_worse o (least (f n))) so_far
    ∙ sym (ap least (flat_map_range_more f n) ∙ least_append (flat_map f (range_with_len 0 n)) (f n))

-- five parts of a list, one behind another
pub five : (a b c d e : List Slot) → least (a ++ b ++ c ++ d ++ e) ≡ or_worse (or_worse (or_worse (or_worse (least a) (least b)) (least c)) (least d)) (least e)
five a b c d e =
    least_append (a ++ b ++ c ++ d) e
    ∙ ap (λ o. or_worse o (least e)) (least_append (a ++ b ++ c) d
    ∙ ap (λ o. or_worse o (least d)) (least_append (a ++ b) c
    ∙ ap (λ o. or_worse o (least c)) (least_append a b)))
