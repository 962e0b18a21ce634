-- Lists that are put together in order of a range, with one place of their own.
use Rattle.std.proofs.Common.{◌≡◌, ◌≢◌, ℕ, zero, suc, ◌+◌, ◌<◌, ◌≤◌, refl, sym, ap, ◌∙◌, inl, inr, arith, length, not, map, filter, ◌++◌, take, drop}
use Rattle.std.proofs.lemmas.Bool.{cases_eq, lt-ltb}
use Rattle.std.proofs.lemmas.Bool.Decides.{nat_tests}
use Rattle.std.proofs.lemmas.List.{append-nil}
use Rattle.std.proofs.lemmas.Grind.{flat_map-append}
use Rattle.std.specs.Prelude.{Bool, true, false, cond, nat_eq, nat_lt, List, [], ◌∷◌, if◌then◌else◌}
use Rattle.std.specs.List.{flat_map, range_with_len}
use Rattle.samr_box.specs.Lists.{Member}
use Rattle.samr_box.proofs.Members.{Member-from_filter}
use Rattle.samr_peers.proofs.PeerRows.{Member-from_range, not_same}
use Rattle.samr_cluster.proofs.SomeRowLaws.{flat_kept}

-- tests of numbers
pub not_below : (a b : ℕ) → b ≤ a → nat_lt a b ≡ false
not_below a b h = grind (arith, nat_tests, h)

pub differs : (a b : ℕ) → a ≢ b → nat_eq a b ≡ false
differs a b h = by (nat_eq a b) refl
  where
    by : (t : Bool) → nat_eq a b ≡ t → t ≡ false
    by true e = absurd (h (grind (arith, nat_tests, e)))
    by false e = refl

pub itself : (a : ℕ) → nat_eq a a ≡ true
itself a = grind (arith, nat_tests)

-- filters that keep all, or none
pub kept_all : {X : Type 0} (p : X → Bool) (xs : List X) → ((x : X) → Member x xs → p x ≡ true) → filter p xs ≡ xs
kept_all p [] all = refl
kept_all p (x ∷ xs) all = by (p x) (all x (inl refl)) (kept_all p xs (λ y m. all y (inr m)))
  where
    by : (t : Bool) → t ≡ true → filter p xs ≡ xs → cond t (x ∷ filter p xs) (filter p xs) ≡ x ∷ xs
    by true e rest = ap (λ l. x ∷ l) rest
    by false e rest = cc

pub kept_none : {X : Type 0} (p : X → Bool) (xs : List X) → ((x : X) → Member x xs → p x ≡ false) → filter p xs ≡ []
kept_none p [] none = refl
kept_none p (x ∷ xs) none = by (p x) (none x (inl refl)) (kept_none p xs (λ y m. none y (inr m)))
  where
    by : (t : Bool) → t ≡ false → filter p xs ≡ [] → cond t (x ∷ filter p xs) (filter p xs) ≡ []
    by true e rest = cc
    by false e rest = rest

pub filter_of_map : {X Y : Type 0} (p : Y → Bool) (f : X → Y) (xs : List X) → filter p (map f xs) ≡ map f (filter (λ x. p (f x)) xs)
filter_of_map p f [] = refl
filter_of_map p f (x ∷ xs) = by (p (f x)) (filter_of_map p f xs)
  where
    by : (t : Bool) → filter p (map f xs) ≡ map f (filter (λ x. p (f x)) xs)
        → cond t (f x ∷ filter p (map f xs)) (filter p (map f xs)) ≡ map f (cond t (x ∷ filter (λ x. p (f x)) xs) (filter (λ x. p (f x)) xs))
    by true rest = ap (λ l. f x ∷ l) rest
    by false rest = rest

pub flat_flat : {X Y Z : Type 0} (f : Y → List Z) (g : X → List Y) (xs : List X) → flat_map f (flat_map g xs) ≡ flat_map (λ x. flat_map f (g x)) xs
flat_flat f g [] = refl
flat_flat f g (x ∷ xs) = flat_map-append f (g x) (flat_map g xs) ∙ ap (λ l. flat_map f (g x) ++ l) (flat_flat f g xs)

-- what one number among others gives
module _ {Y : Type 0} (v : List Y) (d : ℕ) where
  abbrev at_one : ℕ → List Y
  at_one k = if nat_eq k d then v else []

  given_none : (ks : List ℕ) → ((k : ℕ) → Member k ks → k ≢ d) → flat_map at_one ks ≡ []
  given_none [] other = refl
  given_none (k ∷ ks) other =
      ap (λ (t : Bool). (if t then v else []) ++ flat_map at_one ks) (differs k d (other k (inl refl)))
      ∙ given_none ks (λ j m. other j (inr m))

  later : (a k : ℕ) → a + 1 ≤ k → a ≡ d → k ≢ d
  later a k p e same = absurd (omega (arith, p, e, same))

  head_here : (k : ℕ) (rest : List Y) → k ≡ d → at_one k ++ rest ≡ v ++ rest
  head_here k rest here = ap (λ (t : Bool). (if t then v else []) ++ rest) (ap (λ (j : ℕ). nat_eq j d) here ∙ itself d)

  head_other : (k : ℕ) (rest : List Y) → k ≢ d → at_one k ++ rest ≡ rest
  head_other k rest other = ap (λ (t : Bool). (if t then v else []) ++ rest) (differs k d other)

  pub given_once : (n a : ℕ) → a ≤ d → d < a + n → flat_map at_one (range_with_len a n) ≡ v
  given_once zero a low high = absurd (omega arith)
  given_once (suc n) a low high = elim (cases_eq a d) [
    | inl here ↦
        head_here a (flat_map at_one (range_with_len (a + 1) n)) here
        ∙ ap (λ l. v ++ l) (given_none (range_with_len (a + 1) n) (λ k m. let p = (Member-from_range n (a + 1) k m).0 in later a k (omega (arith, p)) here))
        ∙ append-nil v
    | inr other ↦ head_other a (flat_map at_one (range_with_len (a + 1) n)) other ∙ given_once n (a + 1) (omega (arith, low, other)) (omega (arith, high))
  ]

  without : (r : ℕ) (ks : List ℕ) → r ≢ d → flat_map at_one (filter (λ k. not (nat_eq k r)) ks) ≡ flat_map at_one ks
  without r ks other =
      flat_kept at_one at_one (λ k. not (nat_eq k r)) (λ k. true) ks (λ k m. refl) (λ k t. refl)
      (λ k m t p. ap (λ (b : Bool). if b then v else []) (differs k d (λ e. other (sym (same k t) ∙ e))))
      ∙ ap (flat_map at_one) (kept_all (λ k. true) ks (λ k m. refl))
    where
      same : (k : ℕ) → not (nat_eq k r) ≡ false → k ≡ r
      same k t = by (nat_eq k r) refl t
        where
          by : (b : Bool) → nat_eq k r ≡ b → not b ≡ false → k ≡ r
          by true e h = grind (arith, nat_tests, e)
          by false e h = cc

  -- also where another one is first
  pub given_first : (r n : ℕ) → r < n → d < n → flat_map at_one (r ∷ filter (λ k. not (nat_eq k r)) (range_with_len 0 n)) ≡ v
  given_first r n p q =
      let all = range_with_len 0 n in
      let others = filter (λ k. not (nat_eq k r)) all in
      elim (cases_eq r d) [
        | inl here ↦
            head_here r (flat_map at_one others) here
            ∙ ap (λ l. v ++ l) (given_none others (λ k m e. not_same k r (Member-from_filter (λ k. not (nat_eq k r)) k all m).1 (e ∙ sym here)))
            ∙ append-nil v
        | inr other ↦ head_other r (flat_map at_one others) other ∙ without r all other ∙ given_once n 0 (omega arith) (omega (arith, q))
      ]

-- what is made of those numbers of a range that pass a test, with one more at its place
module _ {H : Type 0} (make : ℕ → H) (sender : H → ℕ) (tells : ℕ → Bool) (r : ℕ) (is : (k : ℕ) → sender (make k) ≡ k) (none : tells r ≡ false) where
  abbrev below : H → Bool
  below h = nat_lt (sender h) r

  abbrev made : ℕ → ℕ → List H
  made a n = map make (filter tells (range_with_len a n))

  abbrev placed : List H → List H
  placed l = take (length (filter below l)) l ++ make r ∷ drop (length (filter below l)) l

  no_more : (a n : ℕ) → r ≤ a → filter below (made a n) ≡ []
  no_more a n low =
      filter_of_map below make (filter tells (range_with_len a n))
      ∙ ap (map make)
      (kept_none (λ k. below (make k)) (filter tells (range_with_len a n))
      (λ k m. let p = (Member-from_range n a k (Member-from_filter tells k (range_with_len a n) m).0).0 in
      ap (λ (j : ℕ). nat_lt j r) (is k) ∙ not_below k r (omega (arith, low, p))))

  first_placed : (l : List H) → filter below l ≡ [] → placed l ≡ make r ∷ l
  first_placed l e = ap (λ (m : List H). take (length m) l ++ make r ∷ drop (length m) l) e

  one_placed : (k : ℕ) (l : List H) → k < r → placed (make k ∷ l) ≡ make k ∷ placed l
  one_placed k l less =
      ap (λ (t : Bool). let m = cond t (make k ∷ filter below l) (filter below l) in take (length m) (make k ∷ l) ++ make r ∷ drop (length m) (make k ∷ l))
      (ap (λ (j : ℕ). nat_lt j r) (is k) ∙ lt-ltb k r less)

  module _ {Y : Type 0} (f : H → List Y) (g : ℕ → List Y) (top : ℕ) (same : (k : ℕ) → k < top → f (make k) ≡ g k) (silent : (k : ℕ) → k < top → k ≢ r → tells k ≡ false → g k ≡ []) where
    -- one more at the front
    made_more : (a n : ℕ) (t : Bool) → tells a ≡ t → flat_map f (cond t (make a ∷ made (a + 1) n) (made (a + 1) n)) ≡ flat_map f (cond t (make a ∷ []) []) ++ flat_map f (made (a + 1) n)
    made_more a n true e = ap (λ l. l ++ flat_map f (made (a + 1) n)) (sym (append-nil (f (make a))))
    made_more a n false e = refl

    given : (a : ℕ) (t : Bool) → tells a ≡ t → a < top → a ≢ r → flat_map f (cond t (make a ∷ []) []) ≡ g a
    given a true e less other = append-nil (f (make a)) ∙ same a less
    given a false e less other = sym (silent a less other e)

    made_cons : (a n : ℕ) (t : Bool) → tells a ≡ t → map make (cond t (a ∷ filter tells (range_with_len (a + 1) n)) (filter tells (range_with_len (a + 1) n))) ≡ cond t (make a ∷ made (a + 1) n) (made (a + 1) n)
    made_cons a n true e = refl
    made_cons a n false e = refl

    -- behind its place
    behind : (n a : ℕ) → a + n ≤ top → r < a → flat_map f (made a n) ≡ flat_map g (range_with_len a n)
    behind zero a high low = refl
    behind (suc n) a high low =
        let other : a ≢ r = λ e. omega (arith, low, e) in
        ap (flat_map f) (made_cons a n (tells a) refl)
        ∙ made_more a n (tells a) refl
        ∙ ap (λ l. l ++ flat_map f (made (a + 1) n)) (given a (tells a) refl (omega (arith, high)) other)
        ∙ ap (λ l. g a ++ l) (behind n (a + 1) (omega (arith, high)) (omega (arith, low)))

    -- up to its place
    pub in_order_of_sender : (n a : ℕ) → a + n ≤ top → a ≤ r → r < a + n → flat_map f (placed (made a n)) ≡ flat_map g (range_with_len a n)
    in_order_of_sender zero a high low within = absurd (omega arith)
    in_order_of_sender (suc n) a high low within = elim (cases_eq a r) [
      | inl here ↦
          ap (flat_map f) (first_placed (made a (suc n)) (no_more a (suc n) (omega (arith, here))))
          ∙ ap (λ l. f (make r) ++ l) (here_none here (tells a) refl)
          ∙ ap (λ l. l ++ flat_map g (range_with_len (a + 1) n)) (same r (omega (arith, high, here)) ∙ ap g (sym here))
      | inr other ↦
          let less : a < r = omega (arith, low, other) in
          ap (λ l. flat_map f (placed l)) (made_cons a n (tells a) refl)
          ∙ before_place less (tells a) refl
          ∙ ap (λ l. l ++ flat_map f (placed (made (a + 1) n))) (given a (tells a) refl (omega (arith, high)) other)
          ∙ ap (λ l. g a ++ l) (in_order_of_sender n (a + 1) (omega (arith, high)) (omega (arith, less)) (omega (arith, within)))
    ]
      where
        here_none : a ≡ r → (t : Bool) → tells a ≡ t → flat_map f (map make (cond t (a ∷ filter tells (range_with_len (a + 1) n)) (filter tells (range_with_len (a + 1) n)))) ≡ flat_map g (range_with_len (a + 1) n)
        here_none here true e = absurd (no_truth (sym e ∙ ap tells here ∙ none))
          where
            no_truth : ◌≡◌ {A = Bool} true false → ⊥
            no_truth h = cc
        here_none here false e = behind n (a + 1) (omega (arith, high)) (omega (arith, here))

        before_place : a < r → (t : Bool) → tells a ≡ t → flat_map f (placed (cond t (make a ∷ made (a + 1) n) (made (a + 1) n))) ≡ flat_map f (cond t (make a ∷ []) []) ++ flat_map f (placed (made (a + 1) n))
        before_place less true e = ap (flat_map f) (one_placed a (made (a + 1) n) less) ∙ ap (λ l. l ++ flat_map f (placed (made (a + 1) n))) (sym (append-nil (f (make a))))
        before_place less false e = refl
