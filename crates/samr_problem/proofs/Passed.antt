-- What a document has passed whose keys have no fault, place by place.
use Rattle.std.proofs.Common.{◌≡◌, ◌∙◌, sym, refl, Bool, true, false, cond, List, [], ◌∷◌, ◌++◌, map, filter, Option, Some, None, option_map}
use Rattle.std.specs.List.{AllByRecursion, find, flat_map}
use Rattle.toml.specs.Data.{Members}
use Rattle.samr_problem.specs.declared.context.Document.{Document}
use Rattle.samr_problem.specs.declared.keys.Fault.{Fault}
use Rattle.samr_problem.specs.declared.keys.Fault.TheVariants.{Missing, Mistyped, Mislong, Outside}
use Rattle.samr_problem.specs.Contexts.{document_of}
use Rattle.samr_problem.specs.Faults.{all_faults, cause_of, has_fault, refusals_by}
use Rattle.samr_problem.specs.Keys.{top_keys, fields_list, parts_list, boxes_list, balls_list}
use Rattle.samr_problem.specs.Refusals.{first, refusal_at}
use Rattle.samr_problem.specs.Slots.{Slot, slots, list_slots, top_slot}
use Rattle.samr_problem.proofs.Firsts.{first_filter, first_map}

pub append_none : {A : Type 0} (xs ys : List A) → first (xs ++ ys) ≡ None → (first xs ≡ None) × (first ys ≡ None)
append_none [] ys none = (refl, none)
append_none (x ∷ xs) ys none = absurd (cc)

pub map_none : {A B : Type 0} (f : A → B) (o : Option A) → option_map f o ≡ None → o ≡ None
map_none f None none = refl
map_none f (Some x) none = absurd (cc)

pub cond_none : {A : Type 0} (b : Bool) (x : A) (o : Option A) → cond b (Some x) o ≡ None → (b ≡ false) × (o ≡ None)
cond_none true x o none = absurd (cc)
cond_none false x o none = (refl, none)

find_none : {A : Type 0} (test : A → Bool) (xs : List A) → find test xs ≡ None → AllByRecursion (λ x. test x ≡ false) xs
find_none test [] none = tt
find_none test (x ∷ xs) none = let (here, rest) = cond_none (test x) x (find test xs) none in (here, find_none test xs rest)

-- none of these places has the fault
abbrev pub Free : Fault → List Slot → Type 0
Free fault ss = AllByRecursion (λ s. has_fault fault s ≡ false) ss

free : (fault : Fault) (ss : List Slot) → first (refusals_by ss fault) ≡ None → Free fault ss
free fault ss none =
    find_none (has_fault fault) ss (sym (first_filter (has_fault fault) ss)
    ∙ map_none (λ s. refusal_at (cause_of fault) s.shown) (first (filter (has_fault fault) ss)) (sym (first_map (λ s. refusal_at (cause_of fault) s.shown) (filter (has_fault fault) ss)) ∙ none))

flat_none : {A B : Type 0} (f : B → List A) (xs : List B) → first (flat_map f xs) ≡ None → AllByRecursion (λ x. first (f x) ≡ None) xs
flat_none f [] none = tt
flat_none f (x ∷ xs) none = let (here, rest) = append_none (f x) (flat_map f xs) none in (here, flat_none f xs rest)

-- the places are free of each fault
pub record AllFree (ss : List Slot) : Type 0 where
  pub missing : Free Missing ss
  pub mistyped : Free Mistyped ss
  pub mislong : Free Mislong ss
  pub outside : Free Outside ss

all_free : (ss : List Slot) → first (flat_map (refusals_by ss) all_faults) ≡ None → AllFree ss
unfolding all_faults
all_free ss none =
    let (missing, (mistyped, (_, (mislong, (outside, _))))) = flat_none (refusals_by ss) all_faults none in
    record {
      missing = free Missing ss missing;
      mistyped = free Mistyped ss mistyped;
      mislong = free Mislong ss mislong;
      outside = free Outside ss outside;
    }

pub all_parts : {A : Type 0} (P : A → Type 0) (xs ys : List A) → AllByRecursion P (xs ++ ys) → AllByRecursion P xs × AllByRecursion P ys
all_parts P [] ys all = (tt, all)
all_parts P (x ∷ xs) ys all = let (front, back) = all_parts P xs ys all.1 in ((all.0, front), back)

free_parts : (xs ys : List Slot) → AllFree (xs ++ ys) → AllFree xs × AllFree ys
free_parts xs ys all =
    let missing = all_parts (λ s. has_fault Missing s ≡ false) xs ys all.missing in
    let mistyped = all_parts (λ s. has_fault Mistyped s ≡ false) xs ys all.mistyped in
    let mislong = all_parts (λ s. has_fault Mislong s ≡ false) xs ys all.mislong in
    let outside = all_parts (λ s. has_fault Outside s ≡ false) xs ys all.outside in (
      record { missing = missing.0; mistyped = mistyped.0; mislong = mislong.0; outside = outside.0 },
      record { missing = missing.1; mistyped = mistyped.1; mislong = mislong.1; outside = outside.1 },
    )

-- each part of a list of places
pub record Passed (document : Document) (doc : Members) : Type 0 where
  pub top : AllFree (map (top_slot document doc) top_keys)
  pub fields : AllFree (list_slots document doc fields_list)
  pub parts : AllFree (list_slots document doc parts_list)
  pub boxes : AllFree (list_slots document doc boxes_list)
  pub balls : AllFree (list_slots document doc balls_list)

five_parts : (a b c d e : List Slot) → AllFree (a ++ b ++ c ++ d ++ e) → AllFree a × AllFree b × AllFree c × AllFree d × AllFree e
five_parts a b c d e all =
    let four = free_parts (a ++ b ++ c ++ d) e all in
    let three = free_parts (a ++ b ++ c) d four.0 in
    let two = free_parts (a ++ b) c three.0 in
    let one = free_parts a b two.0 in
    (one.0, one.1, two.1, three.1, four.1)

pub passed : (doc : Members) → first (flat_map (refusals_by (slots doc)) all_faults) ≡ None → Passed (document_of doc) doc
unfolding slots
passed doc none =
    let document = document_of doc in
    let all = five_parts (map (top_slot document doc) top_keys) (list_slots document doc fields_list) (list_slots document doc parts_list) (list_slots document doc boxes_list) (list_slots document doc balls_list) (all_free (slots doc) none) in
    record { top = all.0; fields = all.1; parts = all.2; boxes = all.3; balls = all.4 }
