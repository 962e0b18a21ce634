-- The letters of a run at a label against the row of a stage there: what is told, what is heard, and what it weighs.
use Rattle.std.proofs.Common.{◌≡◌, ℕ, ◌+◌, ◌<◌, ◌≤◌, List, [], ◌∷◌, ◌++◌, length, get_or, map, filter, refl, sym, ap, ◌∙◌, subst, arith, true, cond, Contains, Option, Some, None, is_some, unwrap_or, IsTrue, slice_get, sum_by}
use Rattle.std.specs.List.{range_with_len, filter_map, cons_option, AllZip}
use Rattle.std.specs.Option.{option_map}
use Rattle.std.specs.declared.cmp.Ordering.TheVariants.{Less}
use Rattle.std.proofs.lemmas.List.Elements.{filter_agree}
use Rattle.std.proofs.lemmas.List.Sums.{sum_by-cons}
use Rattle.samr_stage.specs.declared.label.Label.{Label}
use Rattle.samr_stage.specs.declared.label.Name.{Name}
use Rattle.samr_stage.specs.declared.stage.Held.{Held}
use Rattle.samr_stage.specs.Label.{name_cmp}
use Rattle.samr_stage.specs.LabelLaws.{name_cmp_total}
use Rattle.samr_stage.specs.Course.{Course, name_of, passing, sent, awaited}
use Rattle.samr_stage.specs.Held.{IsHeld}
use Rattle.samr_stage.specs.Row.{along, told, heard, column}
use Rattle.samr_stage.specs.Carried.{CarriesRow}
use Rattle.samr_stage.specs.Fragments.{Fragment, composed, carried, IsRun}
use Rattle.samr_stage.proofs.Orders.{never_less}
use Rattle.samr_stage.proofs.Lists.{Contains-map, same_by_weight, lighter}
use Rattle.samr_stage.proofs.Courses.{from_awaited, rising-map, rising-awaited}
use Rattle.samr_stage.proofs.HeldLetters.{held_awaited}
use Rattle.samr_stage.proofs.Rows.{along_out}
use Rattle.samr_stage.proofs.RunLemmas.{composed_is_course, ranks-composed, letter-composed}

-- a letter that is held is the one of a name
abbrev pub IsBodyOf : {B : Type 0} → (Name → B → Type 0) → Name → Held B → Type 0
IsBodyOf {B} has_body n held = (held.sender ≡ n.sender) × ((b : B) → has_body n b → held.body ≡ b)

-- what the letter of a name for a rank weighs
abbrev pub load : {B : Type 0} → (B → ℕ) → (ℕ → ℕ → Option B) → ℕ → Name → ℕ
load weight row to n = unwrap_or (option_map weight (row n.sender to)) 0

held_is : {B : Type 0} (h : Held B) (k : ℕ) (b : B) → h.sender ≡ k → h.body ≡ b → h ≡ record { sender = k; body = b }
held_is h k b sender body = held_same h.sender k h.body b sender body
  where
    held_same : {B : Type 0} (i k : ℕ) (a b : B) → i ≡ k → a ≡ b → ◌≡◌ {A = Held B} (record { sender = i; body = a }) (record { sender = k; body = b })
    held_same i k a b e f = rw (e, f)

-- one more pair
pub AllZip-more : {A B : Type 0} (R : A → B → Type 0) (xs : List A) (ys : List B) (x : A) (y : B) → AllZip R xs ys → R x y → AllZip R (xs ++ x ∷ []) (ys ++ y ∷ [])
AllZip-more R [] [] x y each here = (here, tt)
AllZip-more R [] (b ∷ ys) x y each here = absurd each
AllZip-more R (a ∷ xs) [] x y each here = absurd each
AllZip-more R (a ∷ xs) (b ∷ ys) x y each here = (each.0, AllZip-more R xs ys x y each.1 here)

-- what is made of what a line has, where the ranks that have something are picked
map_picked : {B X Y : Type 0} (make : ℕ → B → X) (fit : X → Y) (place : ℕ → Y) (line : ℕ → Option B) → ((k : ℕ) (b : B) → fit (make k b) ≡ place k)
    → (ks : List ℕ) → map fit (filter_map (λ k. option_map (make k) (line k)) ks) ≡ map place (filter (λ k. is_some (line k)) ks)
map_picked make fit place line same [] = refl
map_picked {B = B} make fit place line same (k ∷ ks) = by (map_picked make fit place line same ks) (line k) refl
  where
    by : map fit (filter_map (λ k. option_map (make k) (line k)) ks) ≡ map place (filter (λ k. is_some (line k)) ks) → (o : Option B) → line k ≡ o
        → map fit (filter_map (λ k. option_map (make k) (line k)) (k ∷ ks)) ≡ map place (filter (λ k. is_some (line k)) (k ∷ ks))
    by rest None e = rw e rest
    by rest (Some b) e = rw (e, same k b) (ap (λ ys. place k ∷ ys) rest)

load_more : {B : Type 0} (weight : B → ℕ) (at : Label) (row : ℕ → ℕ → Option B) (to k : ℕ) (ks : List ℕ)
    → sum_by (λ (h : Held B). weight h.body) (filter_map (λ from. option_map (λ body. record { sender = from; body = body }) (row from to)) ks) ≡ sum_by (load weight row to) (map (λ from. name_of at from to) (filter (λ from. is_some (row from to)) ks))
    → (o : Option B) → row k to ≡ o
    → sum_by (λ (h : Held B). weight h.body) (filter_map (λ from. option_map (λ body. record { sender = from; body = body }) (row from to)) (k ∷ ks)) ≡ sum_by (load weight row to) (map (λ from. name_of at from to) (filter (λ from. is_some (row from to)) (k ∷ ks)))
load_more weight at row to k ks rest None e = rw e rest
load_more {B} weight at row to k ks rest (Some b) e =
    let bodies = filter_map (λ from. option_map (λ body. record { sender = from; body = body }) (row from to)) ks in
    let places = filter (λ from. is_some (row from to)) ks in
    let left = ap (λ o. sum_by (λ (h : Held B). weight h.body) (cons_option (option_map (λ body. record { sender = k; body = body }) o) bodies)) e ∙ sum_by-cons (λ (h : Held B). weight h.body) (record { sender = k; body = b }) bodies in
    let right = ap (λ o. sum_by (load weight row to) (map (λ from. name_of at from to) (cond (is_some o) (k ∷ places) places))) e ∙ sum_by-cons (load weight row to) (name_of at k to) (map (λ from. name_of at from to) places) in
    let here : load weight row to (name_of at k to) ≡ weight b = ap (λ o. unwrap_or (option_map weight o) 0) e in
    left ∙ ap (λ n. weight b + n) rest ∙ ap (λ n. n + sum_by (load weight row to) (map (λ from. name_of at from to) places)) (sym here) ∙ sym right

module _ {B C : Type 0} (course : Course C) (has_body : Name → B → Type 0) (at : Label) (ranks : ℕ) (row : ℕ → ℕ → Option B) (carries : CarriesRow course has_body at ranks row) where
  -- the letters that a rank tells have the names of those that it gives out
  pub sent_told : (from : ℕ) → map (λ (p : ℕ × B). name_of at from p.0) (told (row from) ranks) ≡ sent course at from
  unfolding along sent passing
  sent_told from =
      map_picked (λ to b. (to, b)) (λ p. name_of at from p.0) (λ to. name_of at from to) (row from) (λ to b. refl) (range_with_len 0 ranks) ∙ ap (λ ks. map (λ to. name_of at from to) ks) (filter_agree (λ to. is_some (row from to)) (λ to. is_some (course.letter (name_of at from to))) (λ to. sym (carries.there from to)) (range_with_len 0 ranks)) ∙ ap (λ n. map (λ to. name_of at from to) (filter (λ to. is_some (course.letter (name_of at from to))) (range_with_len 0 n))) carries.same_ranks

  awaited_picked : (to : ℕ) → awaited course at to ≡ map (λ from. name_of at from to) (filter (λ from. is_some (row from to)) (range_with_len 0 ranks))
  unfolding awaited passing
  awaited_picked to =
      ap (λ ks. map (λ from. name_of at from to) ks) (filter_agree (λ from. is_some (course.letter (name_of at from to))) (λ from. is_some (row from to)) (λ from. carries.there from to) (range_with_len 0 course.ranks)) ∙ ap (λ n. map (λ from. name_of at from to) (filter (λ from. is_some (row from to)) (range_with_len 0 n))) (sym carries.same_ranks)

  -- a letter that a rank awaits has its body in the row
  pub body_there : (to : ℕ) (n : Name) → Contains (awaited course at to) n → (b : B) × (row n.sender to ≡ Some b) × has_body n b
  body_there to n among =
      let found = from_awaited course at to n among in
      let HasLetter : Label → ℕ → Type 0 = λ l k. IsTrue (is_some (course.letter (name_of l n.sender k))) in
      let letter = subst (λ l. HasLetter l to) found.0 (subst (λ k. HasLetter n.label k) found.1 found.3) in
      let body = some (row n.sender to) (sym (carries.there n.sender to) ∙ letter) in
      let HasBody : Label → ℕ → Type 0 = λ l k. has_body (name_of l n.sender k) body.0 in
      (body.0, body.1, subst (λ l. HasBody l n.addressee) (sym found.0) (subst (λ k. HasBody at k) (sym found.1) (carries.body n.sender to body.0 body.1)))
    where
      some : (o : Option B) → is_some o ≡ true → (b : B) × (o ≡ Some b)
      some None h = cc
      some (Some b) h = (b, refl)

  -- the letters held one by one are what the rank hears
  abbrev IsPicked : ℕ → List ℕ → List Name → List (Held B) → Type 0
  IsPicked to ks names bodies =
      AllZip (IsBodyOf has_body) names bodies → names ≡ map (λ from. name_of at from to) (filter (λ from. is_some (row from to)) ks) → bodies ≡ filter_map (λ from. option_map (λ body. record { sender = from; body = body }) (row from to)) ks

  pick_more : (to k : ℕ) (ks : List ℕ) → ((names : List Name) (bodies : List (Held B)) → IsPicked to ks names bodies) → (o : Option B) → row k to ≡ o → (names : List Name) (bodies : List (Held B)) → IsPicked to (k ∷ ks) names bodies
  pick_more to k ks rest None e ns hs each same = rw e (rest ns hs each (rw e at same))
  pick_more to k ks rest (Some b) e [] hs each same = let there = rw e at same in cc
  pick_more to k ks rest (Some b) e (n ∷ ns) [] each same = absurd each
  pick_more to k ks rest (Some b) e (n ∷ ns) (h ∷ hs) each same =
      let there = rw e at same in
      let name : n ≡ name_of at k to = cc in
      let others : ns ≡ map (λ from. name_of at from to) (filter (λ from. is_some (row from to)) ks) = cc in
      let body = each.0.1 b (subst (λ m. has_body m b) (sym name) (carries.body k to b e)) in
      let sender = each.0.0 ∙ ap (λ m. m.sender) name in
      rw (e, sym (rest ns hs each.1 others)) (ap (λ g. g ∷ hs) (held_is h k b sender body))

  picked : (to : ℕ) (ks : List ℕ) (names : List Name) (bodies : List (Held B)) → IsPicked to ks names bodies
  picked to [] [] [] each same = refl
  picked to [] [] (h ∷ hs) each same = absurd each
  picked to [] (n ∷ ns) hs each same = cc
  picked to (k ∷ ks) ns hs each same = pick_more to k ks (picked to ks) (row k to) refl ns hs each same

  pub heard_held : (to : ℕ) (names : List Name) (bodies : List (Held B)) → AllZip (IsBodyOf has_body) names bodies → names ≡ awaited course at to → bodies ≡ heard (column row to) ranks
  unfolding along
  heard_held to names bodies each ready = picked to (range_with_len 0 ranks) names bodies each (ready ∙ awaited_picked to)

  -- what is heard weighs as much as the names that are awaited
  load_picked : (weight : B → ℕ) (to : ℕ) (ks : List ℕ)
      → sum_by (λ (h : Held B). weight h.body) (filter_map (λ from. option_map (λ body. record { sender = from; body = body }) (row from to)) ks) ≡ sum_by (load weight row to) (map (λ from. name_of at from to) (filter (λ from. is_some (row from to)) ks))
  load_picked weight to [] = refl
  load_picked weight to (k ∷ ks) = load_more weight at row to k ks (load_picked weight to ks) (row k to) refl

  pub load-heard : (weight : B → ℕ) (to : ℕ) → sum_by (λ (h : Held B). weight h.body) (heard (column row to) ranks) ≡ sum_by (load weight row to) (awaited course at to)
  unfolding along
  load-heard weight to = load_picked weight to (range_with_len 0 ranks) ∙ ap (sum_by (load weight row to)) (sym (awaited_picked to))

sum_by-map : {X Y : Type 0} (f : Y → ℕ) (g : X → Y) (xs : List X) → sum_by f (map g xs) ≡ sum_by (λ x. f (g x)) xs
sum_by-map f g [] = refl
sum_by-map f g (x ∷ xs) =
    sum_by-cons f (g x) (map g xs) ∙ ap (λ n. f (g x) + n) (sum_by-map f g xs) ∙ sym (sum_by-cons (λ y. f (g y)) x xs)

module _ {M R B C : Type 0} (run : M → R) (name : M → Name) (body : M → C) (course : R → Course C) (truth : (x : M) → (course (run x)).letter (name x) ≡ Some (body x)) (r : R) (has_body : Name → B → Type 0)
    (at : Label) (ranks : ℕ) (row : ℕ → ℕ → Option B) (carries : CarriesRow (course r) has_body at ranks row) (to : ℕ) (held : List M) (is_held : IsHeld run name r at to held) where
  -- each letter that is held is awaited, with a body in the row
  awaits : (n : Name) → Contains (map name held) n → Contains (awaited (course r) at to) n
  awaits = held_awaited run name body course truth r carries.on_course at to held is_held

  pub held_body : (x : M) → Contains held x → (b : B) × (row (name x).sender to ≡ Some b) × has_body (name x) b
  held_body x among =
      body_there (course r) has_body at ranks row carries to (name x) (awaits (name x) (Contains-map name held x among))

  module _ (weight : B → ℕ) where
    -- the letters held weigh no more than all that are awaited
    pub held_within : sum_by (λ x. load weight row to (name x)) held ≤ sum_by (λ (h : Held B). weight h.body) (heard (column row to) ranks)
    held_within =
        let less = lighter (λ a b. name_cmp a b ≡ Less) (never_less name_cmp_total) name_cmp_total.trans (load weight row to) (map name held) (awaited (course r) at to) (rising-map name held is_held.rising) (rising-awaited (course r) at to) awaits in
        omega (arith, less, sum_by-map (load weight row to) name held, load-heard (course r) has_body at ranks row carries weight to)

    -- they weigh as much exactly where they are all
    pub ready_by_weight : ((from : ℕ) (b : B) → row from to ≡ Some b → 0 < weight b) → sum_by (λ x. load weight row to (name x)) held ≡ sum_by (λ (h : Held B). weight h.body) (heard (column row to) ranks) → map name held ≡ awaited (course r) at to
    ready_by_weight positive same =
        let heavy : (n : Name) → Contains (awaited (course r) at to) n → 0 < load weight row to n =
        λ n among.
        let there = body_there (course r) has_body at ranks row carries to n among in
        let weighs : load weight row to n ≡ weight there.0 = ap (λ o. unwrap_or (option_map weight o) 0) there.1 in
        let above = positive n.sender there.0 there.1 in
        omega arith in
        let enough : sum_by (load weight row to) (awaited (course r) at to) ≤ sum_by (load weight row to) (map name held) =
        omega (arith, same, sum_by-map (load weight row to) name held, load-heard (course r) has_body at ranks row carries weight to) in
        same_by_weight (λ a b. name_cmp a b ≡ Less) (never_less name_cmp_total) name_cmp_total.trans (load weight row to) (map name held) (awaited (course r) at to) (rising-map name held is_held.rising) (rising-awaited (course r) at to) awaits heavy enough

    pub weight_by_ready : map name held ≡ awaited (course r) at to → sum_by (λ x. load weight row to (name x)) held ≡ sum_by (λ (h : Held B). weight h.body) (heard (column row to) ranks)
    weight_by_ready all =
        sym (sum_by-map (load weight row to) name held) ∙ ap (sum_by (load weight row to)) all ∙ sym (load-heard (course r) has_body at ranks row carries weight to)

-- the letters that a rank tells carry bodies of the row
pub told_body : {B C : Type 0} (course : Course C) (has_body : Name → B → Type 0) (at : Label) (ranks : ℕ) (row : ℕ → ℕ → Option B) (from : ℕ) (letters : List (ℕ × B)) (k to : ℕ) (body : B) → CarriesRow course has_body at ranks row
    → letters ≡ told (row from) ranks → k < length letters → ◌≡◌ {A = ℕ × B} (to, body) (get_or letters k (to, body)) → has_body (name_of at from to) body
told_body {B} course has_body at ranks row from letters k to body carries all within is =
    let among : Contains letters (to, body) = (k, within, sym is) in
    let found = along_out (λ k b. (k, b)) (row from) ranks (to, body) (subst (λ ls. Contains ls (to, body)) all among) in
    let HasBody : ℕ × B → Type 0 = λ p. has_body (name_of at from p.0) p.1 in
    subst HasBody found.4 (carries.body from found.0 found.1 found.3)

-- a stage whose row stands wrapped in a fragment of a run
pub CarriesRow-fragment : {B C : Type 0} (total ranks : ℕ) (fs : List (Fragment C)) (i : ℕ) (f : Fragment C) (wrap : B → C) (row : ℕ → ℕ → Option B) → IsRun total fs → slice_get fs i ≡ Some f → ranks ≡ total → ((from to : ℕ) → f.row from to ≡ carried wrap row from to)
    → CarriesRow (composed total fs) (λ n b. (composed total fs).letter n ≡ Some (wrap b)) f.label ranks row
CarriesRow-fragment {B = B} total ranks fs i f wrap row run here count same = record {
  on_course = composed_is_course total fs run;
  same_ranks = count ∙ sym (ranks-composed total fs);
  there = λ from to. ap is_some (letter-composed total fs i f run here from to ∙ same from to) ∙ some_carried (row from to);
  body = λ from to b is. letter-composed total fs i f run here from to ∙ same from to ∙ ap (option_map wrap) is;
}
  where
    some_carried : (o : Option B) → is_some (option_map wrap o) ≡ is_some o
    some_carried None = refl
    some_carried (Some b) = refl
