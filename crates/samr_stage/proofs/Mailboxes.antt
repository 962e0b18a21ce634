-- What the boxes of the ranks have once one more letter is in, and once one more rank has told its letters.
use Rattle.std.proofs.Common.{◌≡◌, ◌≢◌, ℕ, zero, suc, ◌+◌, ◌<◌, ◌≤◌, List, [], ◌∷◌, ◌++◌, length, get_or, refl, sym, ap, ◌∙◌, subst, arith, add-one, ◌⊎◌, inl, inr, All, Contains, eqb, cond, Option, Some, None, slice_get, slice_set}
use Rattle.std.specs.List.{cons_option, zip}
use Rattle.std.specs.Option.{option_map}
use Rattle.std.proofs.lemmas.Bool.{cases_eq, eq-eqb, ne_eqb}
use Rattle.std.proofs.lemmas.List.{append-nil, append_assoc, length-set, get_or-set_same, get_or-set_other}
use Rattle.std.proofs.lemmas.List.Elements.{filter_map-append, Contains-get_or}
use Rattle.std.proofs.lemmas.Option.{slice_get_within, slice_get-get_or, get_or_from_slice_get, same_Some}
use Rattle.samr_stage.specs.declared.stage.Held.{Held}
use Rattle.samr_stage.specs.Row.{told, heard, column}
use Rattle.samr_stage.specs.Exchange.{AreParts, AreResults}
use Rattle.samr_stage.specs.Mailboxes.{for_rank, HoldHeard, Deliver, AreTelling}
use Rattle.samr_stage.proofs.Rows.{along_none, along_more, along_out}

-- an element after a write: the one that was written, or one that was there before
pub slice_get-set_cases : {X : Type 0} (xs : List X) (i j : ℕ) (v x : X) → slice_get (slice_set xs i v) j ≡ Some x → ((j ≡ i) × (v ≡ x)) ⊎ ((j ≢ i) × (slice_get xs j ≡ Some x))
slice_get-set_cases xs i j v x there =
    let inside = slice_get_within (slice_set xs i v) j x there in
    let within : j < length xs = omega (arith, inside, length-set xs i v) in
    let value = get_or_from_slice_get (slice_set xs i v) j x v there in
    elim (cases_eq j i) [
      | inl same ↦
          let here : i < length xs = omega arith in
          inl (same, sym (get_or-set_same xs i v v here) ∙ ap (λ k. get_or (slice_set xs i v) k v) (sym same) ∙ value)
      | inr other ↦
          inr (other, slice_get-get_or xs j v within ∙ ap Some (sym (get_or-set_other xs i j v v other) ∙ value))
    ]

-- an element of a list with one more: the last one, or one that was there before
pub slice_get-push_cases : {X : Type 0} (xs : List X) (v x : X) (j : ℕ) → slice_get (xs ++ v ∷ []) j ≡ Some x → ((j ≡ length xs) × (v ≡ x)) ⊎ (slice_get xs j ≡ Some x)
slice_get-push_cases [] v x zero there = inl (refl, same_Some v x there)
slice_get-push_cases [] v x (suc j) there = cc
slice_get-push_cases (y ∷ ys) v x zero there = inr there
slice_get-push_cases (y ∷ ys) v x (suc j) there = elim (slice_get-push_cases ys v x j there) [
  | inl last ↦ inl (ap suc last.0, last.1)
  | inr before ↦ inr before
]

-- the two elements at a place of two lists side by side
pub zip_places : {X Y : Type 0} (xs : List X) (ys : List Y) (k : ℕ) (p d : X × Y) → k < length (zip xs ys) → p ≡ get_or (zip xs ys) k d → (slice_get xs k ≡ Some p.0) × (slice_get ys k ≡ Some p.1)
zip_places [] ys k p d within is = absurd (omega arith)
zip_places (x ∷ xs) [] k p d within is = absurd (omega arith)
zip_places (x ∷ xs) (y ∷ ys) zero p d within is = (ap (λ q. Some q.0) (sym is), ap (λ q. Some q.1) (sym is))
zip_places (x ∷ xs) (y ∷ ys) (suc k) p d within is = zip_places xs ys k p d (omega arith) is

module _ {B : Type 0} (sender rank : ℕ) where
  -- the letter that a line has for a rank is its letter there
  for_rank-append : (xs ys : List (ℕ × B)) → for_rank sender rank (xs ++ ys) ≡ for_rank sender rank xs ++ for_rank sender rank ys
  unfolding for_rank
  for_rank-append xs ys =
      filter_map-append (λ (letter : ℕ × B). cond (eqb letter.0 rank) (Some (record { sender = sender; body = letter.1 })) None) xs ys

module _ {B : Type 0} (sender rank : ℕ) where
  abbrev letter_of : Option B → List (Held B)
  letter_of o = cons_option (option_map (λ body. record { sender = sender; body = body }) o) []

  from_rank : (k : ℕ) (o : Option B) → k ≡ rank → for_rank sender rank (cons_option (option_map (λ b. (k, b)) o) []) ≡ letter_of o
  unfolding for_rank
  from_rank k None same = refl
  from_rank k (Some b) same = rw (eq-eqb k rank same) refl

  from_other : (k : ℕ) (o : Option B) → k ≢ rank → for_rank sender rank (cons_option (option_map (λ b. (k, b)) o) []) ≡ []
  unfolding for_rank
  from_other k None other = refl
  from_other k (Some b) other = rw (ne_eqb k rank other) refl

  from_none : for_rank {B = B} sender rank [] ≡ []
  unfolding for_rank
  from_none = refl

  told_before : (line : ℕ → Option B) (n : ℕ) → n ≤ rank → for_rank sender rank (told line n) ≡ []
  told_before line zero upto = ap (for_rank sender rank) (along_none (λ to b. (to, b)) line) ∙ from_none
  told_before line (suc n) upto =
      let Family : ℕ → Type 0 = λ m. for_rank sender rank (told line m) ≡ [] in
      subst Family (add-one n) (ap (for_rank sender rank) (along_more (λ to b. (to, b)) line n) ∙ for_rank-append sender rank (told line n) _ ∙ ap (λ xs. xs ++ for_rank sender rank (cons_option (option_map (λ b. (n, b)) (line n)) [])) (told_before line n (omega arith)) ∙ from_other n (line n) (λ e. omega arith))

  pub for_rank-told : (line : ℕ → Option B) (n : ℕ) → rank < n → for_rank sender rank (told line n) ≡ letter_of (line rank)
  for_rank-told line zero within = absurd (omega arith)
  for_rank-told line (suc n) within =
      let Family : ℕ → Type 0 = λ m. for_rank sender rank (told line m) ≡ letter_of (line rank) in
      let last = for_rank sender rank (cons_option (option_map (λ b. (n, b)) (line n)) []) in
      let split = ap (for_rank sender rank) (along_more (λ to b. (to, b)) line n) ∙ for_rank-append sender rank (told line n) _ in
      subst Family (add-one n) (elim (cases_eq n rank) [
        | inl same ↦ split ∙ ap (λ xs. xs ++ last) (told_before line n (omega arith)) ∙ from_rank n (line n) same ∙ ap (λ k. letter_of (line k)) same
        | inr other ↦ split ∙ ap (λ xs. for_rank sender rank (told line n) ++ xs) (from_other n (line n) other) ∙ append-nil (for_rank sender rank (told line n)) ∙ for_rank-told line n (omega arith)
      ])

module _ {V B : Type 0} (items : V → List (Held B)) where
  pub Deliver-none : (sender : ℕ) (boxes : List V) → Deliver items sender [] boxes boxes
  Deliver-none sender boxes = record {
    same_ranks = refl;
    box = λ rank a b before after.
        let same = same_Some a b (sym before ∙ after) in
        ap items (sym same) ∙ sym (append-nil (items a)) ∙ ap (λ xs. items a ++ xs) (sym (from_none sender rank));
  }

  -- one letter more
  pub Deliver-more : (sender place to : ℕ) (body : B) (letters : List (ℕ × B)) (old mid : List V) (v w : V) → place ≡ to → Deliver items sender letters old mid → slice_get mid place ≡ Some v
      → items w ≡ items v ++ record { sender = sender; body = body } ∷ [] → Deliver items sender (letters ++ (to, body) ∷ []) old (slice_set mid place w)
  Deliver-more sender place to body letters old mid v w at before here pushed = record {
    same_ranks = length-set mid place w ∙ before.same_ranks;
    box = λ rank a b was is.
        let split = for_rank-append sender rank letters ((to, body) ∷ []) in
        elim (slice_get-set_cases mid place rank w b is) [
          | inl same ↦
              let one = from_rank sender rank to (Some body) (sym at ∙ sym same.0) in
              let mine = before.box rank a v was (ap (slice_get mid) same.0 ∙ here) in
              ap items (sym same.1) ∙ pushed ∙ ap (λ xs. xs ++ record { sender = sender; body = body } ∷ []) mine ∙ append_assoc (items a) (for_rank sender rank letters) _ ∙ ap (λ xs. items a ++ (for_rank sender rank letters ++ xs)) (sym one) ∙ ap (λ xs. items a ++ xs) (sym split)
          | inr other ↦
              let none = from_other sender rank to (Some body) (λ e. other.0 (sym (at ∙ e))) in
              before.box rank a b was other.1 ∙ ap (λ xs. items a ++ xs) (sym (append-nil (for_rank sender rank letters)) ∙ ap (λ xs. for_rank sender rank letters ++ xs) (sym none) ∙ sym split)
        ];
  }

  -- empty boxes have what none told
  pub HoldHeard-none : (row : ℕ → ℕ → Option B) (boxes : List V) → All (λ box. items box ≡ []) boxes → HoldHeard items row 0 boxes
  HoldHeard-none row boxes empty = record {
    box = λ rank b is.
        let within = slice_get_within boxes rank b is in
        let IsEmpty : V → Type 0 = λ v. items v ≡ [] in
        subst IsEmpty (get_or_from_slice_get boxes rank b b is) (empty rank b within) ∙ sym (along_none (λ from body. record { sender = from; body = body }) (column row rank));
  }

  -- one rank more has told its letters
  pub HoldHeard-more : (row : ℕ → ℕ → Option B) (n sender : ℕ) (letters : List (ℕ × B)) (old new : List V) → length old ≡ n → letters ≡ told (row sender) n → HoldHeard items row sender old → Deliver items sender letters old new → HoldHeard items row (sender + 1) new
  HoldHeard-more row n sender letters old new count told_there before delivered = record {
    box = λ rank b is.
        let inside = slice_get_within new rank b is in
        let within : rank < length old = omega (arith, delivered.same_ranks) in
        let below : rank < n = omega arith in
        let there = ex old rank within in
        delivered.box rank there.0 b there.1 is ∙ ap (λ xs. xs ++ for_rank sender rank letters) (before.box rank there.0 there.1) ∙ ap (λ ls. heard (column row rank) sender ++ for_rank sender rank ls) told_there ∙ ap (λ xs. heard (column row rank) sender ++ xs) (for_rank-told sender rank (row sender) n below) ∙ sym (along_more (λ from body. record { sender = from; body = body }) (column row rank) sender);
  }
    where
      ex : (xs : List V) (k : ℕ) → k < length xs → (x : V) × (slice_get xs k ≡ Some x)
      ex [] k within = absurd (omega arith)
      ex (x ∷ xs) zero within = (x, refl)
      ex (x ∷ xs) (suc k) within = ex xs k (omega arith)

-- the addressees of a rank's letters are ranks
pub told_within : {B : Type 0} (line : ℕ → Option B) (n m : ℕ) (letters : List (ℕ × B)) → n ≡ m → letters ≡ told line n → All (λ letter. letter.0 < m) letters
told_within line n m letters count is = λ k d within.
    let among : Contains letters (get_or letters k d) = Contains-get_or letters k d within in
    let found = along_out (λ to b. (to, b)) line n (get_or letters k d) (subst (λ ls. Contains ls (get_or letters k d)) is among) in
    let below = found.2 in
    let same = ap (λ p. p.0) found.4 in
    omega arith

module _ {S W : Type 0} (starts waits : S → W → ℕ → Type 0) (ranks : W → ℕ) (w : W) where
  -- at first no rank has told its letters, and at the end all have
  pub AreTelling-none : (stages : List S) → AreParts starts ranks w stages → AreTelling starts waits w 0 stages
  AreTelling-none stages parts = record {
    told = λ rank stage below is. absurd (omega arith);
    silent = λ rank stage upto is. parts.part rank stage is;
  }

  pub AreTelling-more : (n : ℕ) (stages : List S) (s : S) → AreTelling starts waits w n stages → waits s w n → AreTelling starts waits w (n + 1) (slice_set stages n s)
  AreTelling-more n stages s before waiting = record {
    told = λ rank stage below is. elim (slice_get-set_cases stages n rank s stage is) [
      | inl same ↦
          let Waits : S → ℕ → Type 0 = λ t k. waits t w k in
          subst (λ t. Waits t rank) same.1 (subst (λ k. Waits s k) (sym same.0) waiting)
      | inr other ↦ let differs = other.0 in before.told rank stage (omega arith) other.1
    ];
    silent = λ rank stage upto is. elim (slice_get-set_cases stages n rank s stage is) [
      | inl same ↦ let e = same.0 in absurd (omega arith)
      | inr other ↦ before.silent rank stage (omega arith) other.1
    ];
  }

  pub AreTelling-all : (old stages : List S) (n : ℕ) → AreParts starts ranks w old → length stages ≡ length old → length old ≤ n → AreTelling starts waits w n stages → AreParts waits ranks w stages
  AreTelling-all old stages n parts same upto telling = record {
    same_ranks = parts.same_ranks ∙ sym same;
    part = λ rank stage is. let within = slice_get_within stages rank stage is in telling.told rank stage (omega arith) is;
  }

-- one result more
pub AreResults-more : {W O : Type 0} (gives : W → ℕ → O → Type 0) (w : W) (outs : List O) (out : O) → AreResults gives w outs → gives w (length outs) out → AreResults gives w (outs ++ out ∷ [])
AreResults-more {W} {O} gives w outs out before here = λ rank o is. elim (slice_get-push_cases outs out o rank is) [
  | inl last ↦
      let Gives : ℕ → O → Type 0 = gives w in
      subst (λ k. Gives k o) (sym last.0) (subst (λ x. Gives (length outs) x) last.1 here)
  | inr earlier ↦ before rank o earlier
]
