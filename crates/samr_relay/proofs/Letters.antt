-- The letters of a relay: those that a rank gives out and awaits in a round, and the number in what it holds.
use Rattle.std.proofs.Common.{◌≡◌, ◌≢◌, ℕ, zero, suc, ◌+◌, ◌<◌, List, [], ◌∷◌, ◌++◌, length, map, refl, sym, ap, ◌∙◌, subst, arith, add-one, inl, inr, Bool, true, false, ◌&&◌, cond, nat_eq, nat_lt, Some, None, is_some, All, slice_get, ◌⊎◌}
use Rattle.std.specs.List.{filter, range_with_len}
use Rattle.std.proofs.lemmas.Bool.{cases_eq, cases_lt, eq-eqb, ne_eqb, lt-ltb, le-ltb}
use Rattle.std.proofs.lemmas.List.{append-nil, map-append}
use Rattle.std.proofs.lemmas.List.Elements.{filter-append, All-head}
use Rattle.std.proofs.lemmas.Option.{same_Some}
use Rattle.samr_stage.specs.declared.label.Name.{Name}
use Rattle.samr_stage.specs.Course.{name_of, IsOver, label_at, passing, sent, awaited}
use Rattle.samr_relay.specs.declared.run.RelayRun.{RelayRun}
use Rattle.samr_relay.specs.Relay.{round_label, teller, hears, relay_row, is_round, relay_course, told_in, IsRelay}
use Rattle.samr_relay.specs.Placed.{IsPlaced}
use Rattle.samr_relay.specs.RelayLaws.{teller_below}
use Rattle.samr_relay.proofs.Rounds.{range_more, ranks_is, is_going_on, label_here}

-- the letters of a round are those of its row
pub letter_is : (run : RelayRun) (round from to : ℕ) → round < run.rounds → (relay_course run).letter (name_of (round_label round) from to) ≡ relay_row run round from to
unfolding relay_course is_round
letter_is run round from to below = let test : nat_lt round run.rounds ≡ true = lt-ltb round run.rounds below in rw test refl

pub number_of : (run : RelayRun) (round from to : ℕ) → from ≡ teller run round → hears run round to ≡ true → relay_row run round from to ≡ Some (round + 1)
unfolding relay_row
number_of run round from to tells told = let test : nat_eq from (teller run round) ≡ true = eq-eqb _ _ tells in rw (test, told) refl

some_row : (run : RelayRun) (round from to : ℕ) → is_some (relay_row run round from to) ≡ (nat_eq from (teller run round) && hears run round to)
unfolding relay_row
some_row run round from to = by (nat_eq from (teller run round) && hears run round to)
  where
    by : (b : Bool) → is_some (cond b (Some (round + 1)) None) ≡ b
    by true = refl
    by false = refl

pub some_is : (run : RelayRun) (round from to : ℕ) → round < run.rounds → is_some ((relay_course run).letter (name_of (round_label round) from to)) ≡ (nat_eq from (teller run round) && hears run round to)
some_is run round from to below = ap is_some (letter_is run round from to below) ∙ some_row run round from to

-- the numbers below n + 1 that pass, and those below n where one passes at most
pub passing_none : (p : ℕ → Bool) → passing p 0 ≡ []
unfolding passing
passing_none p = refl

pub passing_more : (p : ℕ → Bool) (n : ℕ) → passing p (n + 1) ≡ passing p n ++ cond (p n) (n ∷ []) []
unfolding passing
passing_more p n = ap (filter p) (range_more n) ∙ filter-append p (range_with_len 0 n) (n ∷ [])

passing_one : (p : ℕ → Bool) (t : ℕ) (b : Bool) → ((k : ℕ) → p k ≡ (nat_eq k t && b)) → (n : ℕ) → passing p n ≡ cond (nat_lt t n && b) (t ∷ []) []
passing_one p t b is zero = let test : nat_lt t 0 ≡ false = le-ltb t 0 (omega arith) in passing_none p ∙ rw test refl
passing_one p t b is (suc n) =
    let Family : ℕ → Type 0 = λ m. passing p m ≡ cond (nat_lt t m && b) (t ∷ []) [] in
    let rest = passing_one p t b is n in
    subst Family (add-one n) (passing_more p n ∙ ap (λ xs. xs ++ cond (p n) (n ∷ []) []) rest ∙ ap (λ c. cond (nat_lt t n && b) (t ∷ []) [] ++ cond c (n ∷ []) []) (is n) ∙ step (cases_eq n t))
  where
    step : (n ≡ t) ⊎ (n ≢ t) → cond (nat_lt t n && b) (t ∷ []) [] ++ cond (nat_eq n t && b) (n ∷ []) [] ≡ cond (nat_lt t (n + 1) && b) (t ∷ []) []
    step (inl same) =
        let before : nat_lt t n ≡ false = le-ltb t n (omega (arith, same)) in
        let after : nat_lt t (n + 1) ≡ true = lt-ltb t (n + 1) (omega (arith, same)) in
        let here : nat_eq n t ≡ true = eq-eqb n t same in
        rw (before, after, here) (ap (λ k. cond b (k ∷ []) []) same)
    step (inr other) =
        let here : nat_eq n t ≡ false = ne_eqb n t other in
        elim (cases_lt t n) [
          | inl below ↦
              let before : nat_lt t n ≡ true = lt-ltb t n below in
              let after : nat_lt t (n + 1) ≡ true = lt-ltb t (n + 1) (omega arith) in rw (before, after, here) (append-nil (cond b (t ∷ []) []))
          | inr above ↦
              let before : nat_lt t n ≡ false = le-ltb t n above in
              let after : nat_lt t (n + 1) ≡ false = le-ltb t (n + 1) (omega (arith, above, other)) in rw (before, after, here) refl
        ]

passing_never : (p : ℕ → Bool) → ((k : ℕ) → p k ≡ false) → (n : ℕ) → passing p n ≡ []
passing_never p never zero = passing_none p
passing_never p never (suc n) =
    let Family : ℕ → Type 0 = λ m. passing p m ≡ [] in
    let rest = passing_never p never n in
    subst Family (add-one n) (passing_more p n ∙ ap (λ xs. xs ++ cond (p n) (n ∷ []) []) rest ∙ ap (λ b. cond b (n ∷ []) []) (never n))

passing_same : (p q : ℕ → Bool) → ((k : ℕ) → p k ≡ q k) → (n : ℕ) → passing p n ≡ passing q n
passing_same p q same zero = passing_none p ∙ sym (passing_none q)
passing_same p q same (suc n) =
    let Family : ℕ → Type 0 = λ m. passing p m ≡ passing q m in
    let rest = passing_same p q same n in
    subst Family (add-one n) (passing_more p n ∙ ap (λ xs. xs ++ cond (p n) (n ∷ []) []) rest ∙ ap (λ b. passing q n ++ cond b (n ∷ []) []) (same n) ∙ sym (passing_more q n))

module _ (run : RelayRun) (round rank : ℕ) (below : round < run.rounds) where
  -- a rank that does not tell gives out nothing
  pub sent_none : rank ≢ teller run round → [] ≡ sent (relay_course run) (round_label round) rank
  unfolding sent
  sent_none other =
      let test : ℕ → Bool = λ to. is_some ((relay_course run).letter (name_of (round_label round) rank to)) in
      let quiet : nat_eq rank (teller run round) ≡ false = ne_eqb _ _ other in
      let none = passing_never test (λ to. some_is run round rank to below ∙ ap (λ b. b && hears run round to) quiet) (relay_course run).ranks in
      sym (ap (map (λ to. name_of (round_label round) rank to)) none)

  -- and the one that tells has a letter for each rank that is told one
  pub sent_all : rank ≡ teller run round → map (λ to. name_of (round_label round) rank to) (passing (hears run round) run.ranks) ≡ sent (relay_course run) (round_label round) rank
  unfolding sent
  sent_all same =
      let test : ℕ → Bool = λ to. is_some ((relay_course run).letter (name_of (round_label round) rank to)) in
      let turn : nat_eq rank (teller run round) ≡ true = eq-eqb _ _ same in
      let all = passing_same test (hears run round) (λ to. some_is run round rank to below ∙ ap (λ b. b && hears run round to) turn) (relay_course run).ranks in
      sym (ap (map (λ to. name_of (round_label round) rank to)) (all ∙ ap (passing (hears run round)) (ranks_is run)))

  pub letter_told : (to : ℕ) → rank ≡ teller run round → hears run round to ≡ true → (relay_course run).letter (name_of (round_label round) rank to) ≡ Some (round + 1)
  letter_told to same told = letter_is run round rank to below ∙ number_of run round rank to same told

-- the names so far, after one rank more
pub names_begin : (f : ℕ → Name) (p : ℕ → Bool) → [] ≡ map f (passing p 0)
names_begin f p = sym (ap (map f) (passing_none p))

pub names_more : (f : ℕ → Name) (p : ℕ → Bool) (n : ℕ) (now next : List Name) → now ≡ map f (passing p n) → next ≡ now ++ cond (p n) (f n ∷ []) [] → next ≡ map f (passing p (n + 1))
names_more f p n now next so_far step =
    step ∙ ap (λ xs. xs ++ cond (p n) (f n ∷ []) []) so_far ∙ by (p n) ∙ sym (ap (map f) (passing_more p n) ∙ map-append f (passing p n) (cond (p n) (n ∷ []) []))
  where
    by : (b : Bool) → map f (passing p n) ++ cond b (f n ∷ []) [] ≡ map f (passing p n) ++ map f (cond b (n ∷ []) [])
    by true = refl
    by false = refl

-- a rank awaits the letter of the rank that tells, where it is told one
pub awaited_is : (run : RelayRun) (round rank : ℕ) → IsRelay run → round < run.rounds
    → awaited (relay_course run) (round_label round) rank ≡ cond (hears run round rank) (name_of (round_label round) (teller run round) rank ∷ []) []
unfolding awaited
awaited_is run round rank relay below =
    let names : List ℕ → List Name = map (λ from. name_of (round_label round) from rank) in
    let test : ℕ → Bool = λ from. is_some ((relay_course run).letter (name_of (round_label round) from rank)) in
    let one = passing_one test (teller run round) (hears run round rank) (λ from. some_is run round from rank below) (relay_course run).ranks in
    let count = ranks_is run in
    let inside : teller run round < (relay_course run).ranks = let tells = teller_below run round relay in omega (arith, tells, count) in
    let among : nat_lt (teller run round) (relay_course run).ranks ≡ true = lt-ltb _ _ inside in
    ap names one ∙ ap (λ b. names (cond (b && hears run round rank) (teller run round ∷ []) [])) among ∙ by (hears run round rank)
  where
    by : (b : Bool) → map (λ from. name_of (round_label round) from rank) (cond b (teller run round ∷ []) []) ≡ cond b (name_of (round_label round) (teller run round) rank ∷ []) []
    by true = refl
    by false = refl

pub count_awaited : (run : RelayRun) (round rank : ℕ) → IsRelay run → round < run.rounds → length (awaited (relay_course run) (round_label round) rank) ≡ cond (hears run round rank) 1 0
count_awaited run round rank relay below = ap length (awaited_is run round rank relay below) ∙ by (hears run round rank)
  where
    by : (b : Bool) → length (cond b (name_of (round_label round) (teller run round) rank ∷ []) []) ≡ cond b 1 0
    by true = refl
    by false = refl

-- and as many letters as a test counts that says whether it is told one
pub count_held : (run : RelayRun) (rank round total : ℕ) → IsPlaced run rank round total → ¬ IsOver (relay_course run) rank round → (n : ℕ) → n ≡ cond (hears run round rank) 1 0
    → n ≡ length (awaited (relay_course run) (label_at ((relay_course run).labels rank) round) rank)
count_held run rank round total placed going_on n count =
    let below = is_going_on run rank round total placed going_on in
    count ∙ sym (ap (λ at. length (awaited (relay_course run) at rank)) (label_here run rank round below) ∙ count_awaited run round rank placed.relay below)

-- the number in what a rank holds, whatever its letters are
module _ {M : Type 0} (run_of : M → RelayRun) (name : M → Name) (run : RelayRun) (round rank : ℕ) (relay : IsRelay run) (below : round < run.rounds)
    (held : List M) (own : All (λ x. run_of x ≡ run) held) (all : map name held ≡ awaited (relay_course run) (round_label round) rank) where
  names_are : map name held ≡ cond (hears run round rank) (name_of (round_label round) (teller run round) rank ∷ []) []
  names_are = all ∙ awaited_is run round rank relay below

  pub none_told : None ≡ slice_get held 0 → 0 ≡ told_in run rank round
  none_told first = by held (hears run round rank) refl names_are first
    where
      by : (xs : List M) (b : Bool) → hears run round rank ≡ b → map name xs ≡ cond b (name_of (round_label round) (teller run round) rank ∷ []) [] → None ≡ slice_get xs 0 → 0 ≡ told_in run rank round
      by [] true e names none = cc
      by [] false e names none = rw e refl
      by (x ∷ xs) b e names none = cc

  pub one_told : (x : M) (number : ℕ) → Some x ≡ slice_get held 0 → Some number ≡ (relay_course (run_of x)).letter (name x) → number ≡ told_in run rank round
  one_told x number first has = by held (hears run round rank) refl own names_are first
    where
      by : (xs : List M) (b : Bool) → hears run round rank ≡ b → All (λ y. run_of y ≡ run) xs → map name xs ≡ cond b (name_of (round_label round) (teller run round) rank ∷ []) [] → Some x ≡ slice_get xs 0 → number ≡ told_in run rank round
      by [] b e mine names some = cc
      by (y ∷ ys) false e mine names some = cc
      by (y ∷ ys) true e mine names some =
          let same : x ≡ y = same_Some x y some in
          let named : name y ≡ name_of (round_label round) (teller run round) rank = cc in
          let of_run : run_of y ≡ run = All-head (λ y. run_of y ≡ run) y ys mine in
          let Has : M → Type 0 = λ z. Some number ≡ (relay_course (run_of z)).letter (name z) in
          let there = subst Has same has ∙ ap (λ r. (relay_course r).letter (name y)) of_run ∙ ap (relay_course run).letter named ∙ letter_is run round (teller run round) rank below ∙ number_of run round (teller run round) rank refl e in
          same_Some number (round + 1) there ∙ rw e refl
