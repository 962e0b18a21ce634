-- The first of some counts with the most tags, found by comparing one with the next.
use Rattle.std.proofs.Common.{◌≡◌, ℕ, ◌<◌, ◌≤◌, Bool, true, false, List, [], ◌∷◌, refl, sym, ap, ◌∙◌, arith}
use Rattle.std.proofs.lemmas.Bool.{cond-true, cond-false, eqb-true, eqb-false, ltb-true, ltb-false}
use Rattle.std.specs.Prelude.{nat_eq, nat_lt, max, cond, Option, Some, None}
use Rattle.std.specs.List.{fold, find}
use Rattle.std.specs.Option.{option_map_or}
use Rattle.samr_rounds.specs.declared.owner.RankTags.{RankTags}
use Rattle.samr_rounds.specs.Owners.{better, most, owner_in}

abbrev most_from : ℕ → List RankTags → ℕ
most_from n counts = fold (λ m (c : RankTags). max m c.tags) n counts

abbrev first_with : ℕ → List RankTags → Option RankTags
first_with n counts = find (λ (c : RankTags). nat_eq c.tags n) counts

at_least : (n : ℕ) (counts : List RankTags) → n ≤ most_from n counts
at_least n [] = omega arith
at_least n (c ∷ counts) = omega (arith, at_least (max n c.tags) counts)

-- the best from one on: this one, or the first with more where there is one
abbrev best_from : RankTags → ℕ → List RankTags → Option RankTags
best_from b n counts = cond (nat_lt b.tags n) (first_with n counts) (Some b)

less_not : (a k : ℕ) → a ≤ k → (v : Bool) → nat_lt a k ≡ v → (w : Bool) → nat_eq a k ≡ w → {X : Type 0} (p q : X) → cond v p q ≡ cond w q p
less_not a k h true e true f p q = let l = ltb-true a k e in let s = eqb-true a k f in absurd (omega (arith, l, s))
less_not a k h true e false f p q = refl
less_not a k h false e true f p q = refl
less_not a k h false e false f p q = let l = ltb-false a k e in let s = eqb-false a k f in absurd (omega (arith, h, l, s))

not_less : (n : ℕ) (v : Bool) → nat_lt n n ≡ v → v ≡ false
not_less n true e = let l = ltb-true n n e in absurd (omega (arith, l))
not_less n false e = refl

more_max : (a b : ℕ) → a < b → max a b ≡ b
more_max a b h = omega (arith, h)

less_max : (a b : ℕ) → b ≤ a → max a b ≡ a
less_max a b h = omega (arith, h)

-- a count that is not the greatest is passed over
passed : (b c : RankTags) (k : ℕ) (counts : List RankTags) → c.tags ≤ b.tags → (v : Bool) → nat_lt b.tags k ≡ v → (w : Bool) → nat_eq c.tags k ≡ w
    → cond v (first_with k counts) (Some b) ≡ cond v (cond w (Some c) (first_with k counts)) (Some b)
passed b c k counts h true e true f = let l = ltb-true b.tags k e in let s = eqb-true c.tags k f in absurd (omega (arith, h, l, s))
passed b c k counts h true e false f = refl
passed b c k counts h false e w f = refl

best_step : (b c : RankTags) (counts : List RankTags) (v : Bool) → nat_lt b.tags c.tags ≡ v
    → fold better (Some b) counts ≡ best_from b (most_from b.tags counts) counts
    → fold better (Some c) counts ≡ best_from c (most_from c.tags counts) counts
    → fold better (cond v (Some c) (Some b)) counts ≡ best_from b (most_from (max b.tags c.tags) counts) (c ∷ counts)
best_step b c counts true e stays goes =
    let less = ltb-true b.tags c.tags e in
    let k = most_from c.tags counts in
    let high = at_least c.tags counts in
    goes
    ∙ less_not c.tags k high (nat_lt c.tags k) refl (nat_eq c.tags k) refl (first_with k counts) (Some c)
    ∙ sym (cond-true (nat_lt b.tags k) (first_with k (c ∷ counts)) (Some b) (is_less b.tags k (omega (arith, less, high))))
    ∙ ap (λ n. best_from b (most_from n counts) (c ∷ counts)) (sym (more_max b.tags c.tags less))
  where
    is_less : (a n : ℕ) → a < n → nat_lt a n ≡ true
    is_less a n h = by_test (nat_lt a n) refl
      where
        by_test : (w : Bool) → nat_lt a n ≡ w → w ≡ true
        by_test true f = refl
        by_test false f = let l = ltb-false a n f in absurd (omega (arith, h, l))
best_step b c counts false e stays goes =
    let most_b = ltb-false b.tags c.tags e in
    let k = most_from b.tags counts in
    stays
    ∙ passed b c k counts most_b (nat_lt b.tags k) refl (nat_eq c.tags k) refl
    ∙ ap (λ n. best_from b (most_from n counts) (c ∷ counts)) (sym (less_max b.tags c.tags most_b))

best_is : (b : RankTags) (counts : List RankTags) → fold better (Some b) counts ≡ best_from b (most_from b.tags counts) counts
best_is b [] = sym (cond-false (nat_lt b.tags b.tags) None (Some b) (not_less b.tags (nat_lt b.tags b.tags) refl))
best_is b (c ∷ counts) = best_step b c counts (nat_lt b.tags c.tags) refl (best_is b counts) (best_is c counts)

-- of a list from its start
best_first : (counts : List RankTags) → fold better None counts ≡ first_with (most_from 0 counts) counts
best_first [] = refl
best_first (c ∷ counts) =
    let k = most_from c.tags counts in
    best_is c counts
    ∙ less_not c.tags k (at_least c.tags counts) (nat_lt c.tags k) refl (nat_eq c.tags k) refl (first_with k counts) (Some c)
    ∙ ap (λ n. first_with (most_from n counts) (c ∷ counts)) (from_zero c.tags)
  where
    from_zero : (n : ℕ) → n ≡ max 0 n
    from_zero n = omega arith

pub owner_best : (counts : List RankTags) → option_map_or (λ (c : RankTags). c.rank) (fold better None counts) 0 ≡ owner_in counts
unfolding owner_in most
owner_best counts = ap (λ (o : Option RankTags). option_map_or (λ (c : RankTags). c.rank) o 0) (best_first counts)

pub owner_some : (counts : List RankTags) (c : RankTags) → Some c ≡ fold better None counts → c.rank ≡ owner_in counts
owner_some counts c e = ap (λ (o : Option RankTags). option_map_or (λ (d : RankTags). d.rank) o 0) e ∙ owner_best counts

pub owner_none : (counts : List RankTags) → None ≡ fold better None counts → 0 ≡ owner_in counts
owner_none counts e = ap (λ (o : Option RankTags). option_map_or (λ (d : RankTags). d.rank) o 0) e ∙ owner_best counts
