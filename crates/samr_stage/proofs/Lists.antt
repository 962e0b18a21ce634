-- Lists in which each element is related to all later ones, their members and their parts.
use Rattle.std.proofs.Common.{◌≡◌, ℕ, zero, suc, ◌<◌, ◌≤◌, List, [], ◌∷◌, length, take, drop, map, refl, sym, ap, ◌∙◌, subst, arith, Bool, true, false, ◌⊎◌, inl, inr, All, AllPairs, Contains, filter, sum_by}
use Rattle.std.proofs.lemmas.List.Elements.{All-nil, All-head, All-tail}
use Rattle.std.proofs.lemmas.List.{length-map, get_or-map}
use Rattle.std.proofs.lemmas.List.Sums.{sum_by-cons}
use Rattle.std.proofs.lemmas.Bool.{cases_Bool}

-- members of a list and its tail
pub Contains-cases : {X : Type 0} (x y : X) (ys : List X) → Contains (y ∷ ys) x → (y ≡ x) ⊎ Contains ys x
Contains-cases x y ys (zero, within, is) = inl is
Contains-cases x y ys (suc k, within, is) = inr (k, omega arith, is)

pub Contains-head : {X : Type 0} (x : X) (xs : List X) → Contains (x ∷ xs) x
Contains-head x xs = (0, omega arith, refl)

pub Contains-tail : {X : Type 0} (x y : X) (ys : List X) → Contains ys x → Contains (y ∷ ys) x
Contains-tail x y ys h = (suc h.0, omega (arith, h.1), h.2)

-- a function of the members of a list
pub Contains-map : {X Y : Type 0} (f : X → Y) (xs : List X) (x : X) → Contains xs x → Contains (map f xs) (f x)
Contains-map f [] x c = absurd (omega (arith, c.1))
Contains-map f (y ∷ ys) x (zero, within, is) = (0, omega arith, ap f is)
Contains-map f (y ∷ ys) x (suc k, within, is) = Contains-tail (f x) (f y) (map f ys) (Contains-map f ys x (k, omega arith, is))

pub Contains-from_map : {X Y : Type 0} (f : X → Y) (xs : List X) (y : Y) → Contains (map f xs) y → (x : X) × Contains xs x × (f x ≡ y)
Contains-from_map f [] y c = absurd (omega (arith, c.1))
Contains-from_map f (x ∷ xs) y (zero, within, is) = (x, Contains-head x xs, is)
Contains-from_map f (x ∷ xs) y (suc k, within, is) =
    let rest = Contains-from_map f xs y (k, omega arith, is) in (rest.0, Contains-tail rest.0 x xs rest.1, rest.2)

-- what a filter keeps
pub Contains-filter : {X : Type 0} (p : X → Bool) (xs : List X) (x : X) → p x ≡ true → Contains xs x → Contains (filter p xs) x
Contains-filter p [] x h c = absurd (omega (arith, c.1))
Contains-filter p (y ∷ ys) x h c = elim (Contains-cases x y ys c) [
  | inl e ↦ let head : p y ≡ true = ap p e ∙ h in rw head (0, omega arith, e)
  | inr t ↦ elim (cases_Bool (p y)) [
    | inl e ↦ rw e (Contains-tail x y (filter p ys) (Contains-filter p ys x h t))
    | inr e ↦ rw e (Contains-filter p ys x h t)
  ]
]

pub Contains-from_filter : {X : Type 0} (p : X → Bool) (xs : List X) (x : X) → Contains (filter p xs) x → Contains xs x × (p x ≡ true)
Contains-from_filter p [] x c = absurd (omega (arith, c.1))
Contains-from_filter p (y ∷ ys) x c = elim (cases_Bool (p y)) [
  | inl e ↦ elim (Contains-cases x y (filter p ys) (rw e at c)) [
    | inl h ↦ ((0, omega arith, h), ap p (sym h) ∙ e)
    | inr t ↦ let rest = Contains-from_filter p ys x t in (Contains-tail x y ys rest.0, rest.1)
  ]
  | inr e ↦ let rest = Contains-from_filter p ys x (rw e at c) in (Contains-tail x y ys rest.0, rest.1)
]

-- the first element of a list is related to all others, and the others to their later ones
pub AllPairs-head : {X : Type 0} (R : X → X → Type 0) (x : X) (xs : List X) → AllPairs R (x ∷ xs) → All (R x) xs
AllPairs-head R x xs h = λ k d within. h 0 (suc k) d (omega arith) (omega arith)

pub AllPairs-tail : {X : Type 0} (R : X → X → Type 0) (x : X) (xs : List X) → AllPairs R (x ∷ xs) → AllPairs R xs
AllPairs-tail R x xs h = λ i j d below within. h (suc i) (suc j) d (omega arith) (omega arith)

-- a function that keeps a relation
pub AllPairs-map : {X Y : Type 0} (R : X → X → Type 0) (S : Y → Y → Type 0) (f : X → Y) → ((a b : X) → R a b → S (f a) (f b)) → (xs : List X) → AllPairs R xs → AllPairs S (map f xs)
AllPairs-map R S f keeps [] h = λ i j d below within. absurd (omega arith)
AllPairs-map R S f keeps (x ∷ xs) h = λ i j d below within.
    let here : j < length (x ∷ xs) = omega (arith, length-map (x ∷ xs) f) in
    rw (get_or-map f (x ∷ xs) i x d (omega arith), get_or-map f (x ∷ xs) j x d here) (keeps _ _ (h i j x below here))

-- the elements that pass a test stand first: they are what a filter by it keeps, and the others are the rest
pub filter_front : {X : Type 0} (p : X → Bool) (xs : List X) (n : ℕ) → All (λ x. p x ≡ true) (take n xs) → All (λ x. p x ≡ false) (drop n xs) → filter p xs ≡ take n xs
filter_front p [] zero front rest = refl
filter_front p [] (suc n) front rest = refl
filter_front p (x ∷ xs) zero front rest =
    rw (All-head (λ y. p y ≡ false) x xs rest) (filter_front p xs 0 (All-nil (λ y. p y ≡ true)) (All-tail (λ y. p y ≡ false) x xs rest))
filter_front p (x ∷ xs) (suc n) front rest =
    rw (All-head (λ y. p y ≡ true) x (take n xs) front) (ap (λ ys. x ∷ ys) (filter_front p xs n (All-tail (λ y. p y ≡ true) x (take n xs) front) rest))

pub filter_rest : {X : Type 0} (p : X → Bool) (xs : List X) (n : ℕ) → All (λ x. p x ≡ false) (take n xs) → All (λ x. p x ≡ true) (drop n xs) → filter p xs ≡ drop n xs
filter_rest p [] zero front rest = refl
filter_rest p [] (suc n) front rest = refl
filter_rest p (x ∷ xs) zero front rest =
    rw (All-head (λ y. p y ≡ true) x xs rest) (ap (λ ys. x ∷ ys) (filter_rest p xs 0 (All-nil (λ y. p y ≡ false)) (All-tail (λ y. p y ≡ true) x xs rest)))
filter_rest p (x ∷ xs) (suc n) front rest =
    rw (All-head (λ y. p y ≡ false) x (take n xs) front) (filter_rest p xs n (All-tail (λ y. p y ≡ false) x (take n xs) front) rest)

-- the sum of one for each element is the length
count_all : {X : Type 0} (xs : List X) → sum_by (λ _. 1) xs ≡ length xs
count_all [] = refl
count_all (x ∷ xs) = omega (arith, sum_by-cons (λ _. 1) x xs, count_all xs)

-- two lists that ascend and have the same members are equal
module _ {X : Type 0} (R : X → X → Type 0) (never : (x : X) → R x x → ⊥) (further : (x y z : X) → R x y → R y z → R x z) where
  member : (x : X) (xs : List X) (y : X) → AllPairs R (x ∷ xs) → Contains xs y → R x y
  member x xs y h c =
      let P : X → Type 0 = R x in
      let related = AllPairs-head R x xs h c.0 y c.1 in subst P c.2 related

  not_there : (x : X) (xs : List X) → AllPairs R (x ∷ xs) → Contains xs x → ⊥
  not_there x xs h c = never x (member x xs x h c)

  heads : (x y : X) (xs ys : List X) → AllPairs R (x ∷ xs) → AllPairs R (y ∷ ys) → Contains (y ∷ ys) x → Contains (x ∷ xs) y → x ≡ y
  heads x y xs ys h k cx cy = elim (Contains-cases x y ys cx) [
    | inl e ↦ sym e
    | inr in_ys ↦ elim (Contains-cases y x xs cy) [
      | inl e ↦ e
      | inr in_xs ↦ absurd (never x (further x y x (member x xs y h in_xs) (member y ys x k in_ys)))
    ]
  ]

  pub same_ascending : (xs ys : List X) → AllPairs R xs → AllPairs R ys → ((x : X) → Contains xs x → Contains ys x) → ((x : X) → Contains ys x → Contains xs x) → xs ≡ ys
  same_ascending [] [] h k there back = refl
  same_ascending [] (y ∷ ys) h k there back = absurd (let c = back y (Contains-head y ys) in omega (arith, c.1))
  same_ascending (x ∷ xs) [] h k there back = absurd (let c = there x (Contains-head x xs) in omega (arith, c.1))
  same_ascending (x ∷ xs) (y ∷ ys) h k there back =
      let e = heads x y xs ys h k (there x (Contains-head x xs)) (back y (Contains-head y ys)) in
      let forth : (z : X) → Contains xs z → Contains ys z =
      λ z c. elim (Contains-cases z y ys (there z (Contains-tail z x xs c))) [
        | inl same ↦ absurd (not_there x xs h (let P : X → Type 0 = Contains xs in subst P (sym same ∙ sym e) c))
        | inr t ↦ t
      ] in
      let again : (z : X) → Contains ys z → Contains xs z =
      λ z c. elim (Contains-cases z x xs (back z (Contains-tail z y ys c))) [
        | inl same ↦ absurd (not_there y ys k (let P : X → Type 0 = Contains ys in subst P (sym same ∙ e) c))
        | inr t ↦ t
      ] in
      rw (e, same_ascending xs ys (AllPairs-tail R x xs h) (AllPairs-tail R y ys k) forth again)

  -- what a list whose first element stands in another has beyond it, the other has beyond its own first
  rest_there : (x y : X) (xs ys : List X) → AllPairs R (x ∷ xs) → ((z : X) → Contains (x ∷ xs) z → Contains (y ∷ ys) z) → y ≡ x → (z : X) → Contains xs z → Contains ys z
  rest_there x y xs ys h there e z c = elim (Contains-cases z y ys (there z (Contains-tail z x xs c))) [
    | inl same ↦ absurd (not_there x xs h (let P : X → Type 0 = Contains xs in subst P (sym same ∙ e) c))
    | inr t ↦ t
  ]

  -- and where that first one stands further on, it has all of them there
  all_there : (x y : X) (xs ys : List X) → AllPairs R (x ∷ xs) → AllPairs R (y ∷ ys) → ((z : X) → Contains (x ∷ xs) z → Contains (y ∷ ys) z) → Contains ys x → (z : X) → Contains (x ∷ xs) z → Contains ys z
  all_there x y xs ys h k there further_on z c = elim (Contains-cases z y ys (there z c)) [
    | inr t ↦ t
    | inl same ↦
        let before = member y ys x k further_on in
        elim (Contains-cases z x xs c) [
          | inl first ↦ let P : X → Type 0 = Contains ys in subst P first further_on
          | inr later ↦ let Q : X → Type 0 = R y in absurd (never y (subst Q (sym same) (further y x z before (member x xs z h later))))
        ]
  ]

  -- of two lists that ascend, one whose members are all in the other weighs no more
  pub lighter : (weight : X → ℕ) (xs ys : List X) → AllPairs R xs → AllPairs R ys → ((z : X) → Contains xs z → Contains ys z) → sum_by weight xs ≤ sum_by weight ys
  lighter weight [] ys h k there = omega arith
  lighter weight (x ∷ xs) [] h k there = absurd (let c = there x (Contains-head x xs) in omega (arith, c.1))
  lighter weight (x ∷ xs) (y ∷ ys) h k there = elim (Contains-cases x y ys (there x (Contains-head x xs))) [
    | inl e ↦
        let less = lighter weight xs ys (AllPairs-tail R x xs h) (AllPairs-tail R y ys k) (rest_there x y xs ys h there e) in
        omega (arith, less, sum_by-cons weight x xs, sum_by-cons weight y ys, ap weight e)
    | inr t ↦
        let less = lighter weight (x ∷ xs) ys h (AllPairs-tail R y ys k) (all_there x y xs ys h k there t) in
        omega (arith, less, sum_by-cons weight y ys)
  ]

  -- and where it weighs as much, and each member of the other weighs something, they are equal
  pub same_by_weight : (weight : X → ℕ) (xs ys : List X) → AllPairs R xs → AllPairs R ys → ((z : X) → Contains xs z → Contains ys z)
      → ((z : X) → Contains ys z → 0 < weight z) → sum_by weight ys ≤ sum_by weight xs → xs ≡ ys
  same_by_weight weight [] [] h k there heavy enough = refl
  same_by_weight weight [] (y ∷ ys) h k there heavy enough =
      absurd (omega (arith, enough, heavy y (Contains-head y ys), sum_by-cons weight y ys))
  same_by_weight weight (x ∷ xs) [] h k there heavy enough = absurd (let c = there x (Contains-head x xs) in omega (arith, c.1))
  same_by_weight weight (x ∷ xs) (y ∷ ys) h k there heavy enough = elim (Contains-cases x y ys (there x (Contains-head x xs))) [
    | inl e ↦
        let heavy_rest : (z : X) → Contains ys z → 0 < weight z = λ z c. heavy z (Contains-tail z y ys c) in
        let enough_rest : sum_by weight ys ≤ sum_by weight xs = omega (arith, enough, sum_by-cons weight x xs, sum_by-cons weight y ys, ap weight e) in
        rw (e, same_by_weight weight xs ys (AllPairs-tail R x xs h) (AllPairs-tail R y ys k) (rest_there x y xs ys h there e) heavy_rest enough_rest)
    | inr t ↦
        let less = lighter weight (x ∷ xs) ys h (AllPairs-tail R y ys k) (all_there x y xs ys h k there t) in
        absurd (omega (arith, less, enough, heavy y (Contains-head y ys), sum_by-cons weight y ys))
  ]

  -- the same where each member counts one
  pub same_by_count : (xs ys : List X) → AllPairs R xs → AllPairs R ys → ((z : X) → Contains xs z → Contains ys z) → length xs ≡ length ys → xs ≡ ys
  same_by_count xs ys h k there same =
      same_by_weight (λ _. 1) xs ys h k there (λ _ _. omega arith) (omega (arith, count_all xs, count_all ys))
