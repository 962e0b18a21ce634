-- The owner: the first rank with the most tags, whichever ranks without tags are left out.
use Rattle.std.proofs.Common.{◌≡◌, ℕ, zero, suc, ◌+◌, ◌<◌, ◌≤◌, Bool, true, false, List, [], ◌∷◌, refl, sym, ap, subst, ◌∙◌, inl, inr, arith}
use Rattle.std.proofs.lemmas.Bool.{and_parts, cond-true, cond-false, eqb-true, eqb-false, ltb-true, ltb-false}
use Rattle.std.specs.Prelude.{nat_eq, nat_lt, max, ◌⊎◌, pos, filter, map, sum_by, cond, Option, Some}
use Rattle.std.specs.List.{fold, find, range_with_len}
use Rattle.std.specs.Option.{option_map_or}
use Rattle.samr_box.specs.declared.vector.IVec.{IVec}
use Rattle.samr_box.specs.Vector.{alike, AtMost}
use Rattle.samr_box.specs.Corners.{Corners}
use Rattle.samr_box.specs.Space.{Space}
use Rattle.samr_box.specs.Lists.{Member}
use Rattle.samr_box.proofs.Members.{Member-filter}
use Rattle.samr_boxlist.specs.Covers.{held}
use Rattle.samr_level.specs.Refs.{Owned}
use Rattle.samr_level.specs.Levels.{own_boxes, IsLevel}
use Rattle.samr_level.specs.Regions.{Area}
use Rattle.samr_sign.specs.declared.rule.CutRule.{CutRule}
use Rattle.samr_sign.specs.Counts.{tally}
use Rattle.samr_rounds.specs.declared.owner.RankTags.{RankTags}
use Rattle.samr_rounds.specs.Clusters.{accepted, decided}
use Rattle.samr_rounds.specs.Near.{is_near}
use Rattle.samr_rounds.specs.Owners.{own_tags, AreTagsOf, most, owner_in, counts_of, owner_of}
use Rattle.samr_rounds.specs.Laws.{IsNode}
use Rattle.samr_rounds.specs.Ranks.{near_ranks}
use Rattle.samr_rounds.proofs.Lists.{Member-range, Member-from_range, sum_zero}
use Rattle.samr_rounds.proofs.Nodes.{Shrinks, accepted_shrinks, accepted_tags, tally_shrunk}
use Rattle.samr_rounds.proofs.NearLaws.{far_none}
use Rattle.samr_rounds.proofs.Adding.{own_counts}

abbrev counted : (ℕ → ℕ) → List ℕ → List RankTags
counted f ranks = map (λ r. record { rank = r; tags = f r }) ranks

-- the greatest of some numbers and a first one
abbrev top : (ℕ → ℕ) → ℕ → List ℕ → ℕ
top f n ranks = fold (λ m (c : RankTags). max m c.tags) n (counted f ranks)

max_cases : (a b : ℕ) → (max a b ≡ a) ⊎ (max a b ≡ b)
max_cases a b = by_test (nat_lt a b) refl
  where
    by_test : (v : Bool) → nat_lt a b ≡ v → (max a b ≡ a) ⊎ (max a b ≡ b)
    by_test true e = let less = ltb-true a b e in inr (omega (arith, less))
    by_test false e = let less = ltb-false a b e in inl (omega (arith, less))

top_start : (f : ℕ → ℕ) (n : ℕ) (ranks : List ℕ) → n ≤ top f n ranks
top_start f n [] = omega arith
top_start f n (r ∷ ranks) = omega (arith, top_start f (max n (f r)) ranks)

top_each : (f : ℕ → ℕ) (n : ℕ) (ranks : List ℕ) (r : ℕ) → Member r ranks → f r ≤ top f n ranks
top_each f n [] r m = absurd m
top_each f n (s ∷ ranks) r (inl e) = omega (arith, ap f e, top_start f (max n (f s)) ranks)
top_each f n (s ∷ ranks) r (inr m) = top_each f (max n (f s)) ranks r m

top_reached : (f : ℕ → ℕ) (n : ℕ) (ranks : List ℕ) → (top f n ranks ≡ n) ⊎ ((r : ℕ) × Member r ranks × (f r ≡ top f n ranks))
top_reached f n [] = inl refl
top_reached f n (s ∷ ranks) =
    elim (top_reached f (max n (f s)) ranks) [
      | inl e ↦ elim (max_cases n (f s)) [ inl p ↦ inl (e ∙ p) | inr p ↦ inr (s, inl refl, sym (e ∙ p)) ]
      | inr found ↦ inr (found.0, inr found.1, found.2)
    ]

-- the first of a range at which a number is reached
record IsFirst (f : ℕ → ℕ) (m a n o : ℕ) : Type 0 where
  low : a ≤ o
  high : o < a + n
  has : f o ≡ m
  before : (r : ℕ) → a ≤ r → r < o → f r ≡ m → ⊥

abbrev found : (ℕ → ℕ) → ℕ → List ℕ → ℕ
found f m ranks = option_map_or (λ (c : RankTags). c.rank) (find (λ (c : RankTags). nat_eq c.tags m) (counted f ranks)) 0

found_step : (f : ℕ → ℕ) (m r : ℕ) (ranks : List ℕ) (v : Bool) → nat_eq (f r) m ≡ v → found f m (r ∷ ranks) ≡ cond v r (found f m ranks)
found_step f m r ranks true e =
    ap (λ (o : Option RankTags). option_map_or (λ (c : RankTags). c.rank) o 0) (cond-true (nat_eq (f r) m) (Some (record { rank = r; tags = f r })) (find (λ (c : RankTags). nat_eq c.tags m) (counted f ranks)) e)
found_step f m r ranks false e =
    ap (λ (o : Option RankTags). option_map_or (λ (c : RankTags). c.rank) o 0) (cond-false (nat_eq (f r) m) (Some (record { rank = r; tags = f r })) (find (λ (c : RankTags). nat_eq c.tags m) (counted f ranks)) e)

first_is : (f : ℕ → ℕ) (m n a i : ℕ) → a ≤ i → i < a + n → f i ≡ m → IsFirst f m a n (found f m (range_with_len a n))
first_is f m zero a i low high e = absurd (omega (arith, low, high))
first_is f m (suc n) a i low high e = by_test (nat_eq (f a) m) refl (λ other. first_is f m n (a + 1) i (later i a low other) (omega (arith, high)) e)
  where
    later : (i a : ℕ) → a ≤ i → (a ≡ i → ⊥) → a + 1 ≤ i
    later i a low other = omega (arith, low, other)

    by_test : (v : Bool) → nat_eq (f a) m ≡ v → ((a ≡ i → ⊥) → IsFirst f m (a + 1) n (found f m (range_with_len (a + 1) n))) → IsFirst f m a (suc n) (found f m (range_with_len a (suc n)))
    by_test true t rest =
        subst (λ o. IsFirst f m a (suc n) o) (sym (found_step f m a (range_with_len (a + 1) n) true t))
        (record { low = omega arith; high = omega arith; has = eqb-true (f a) m t; before = λ r p q k. omega (arith, p, q) })
    by_test false t rest =
        let differs = eqb-false (f a) m t in
        let is = rest (λ same. differs (ap f same ∙ e)) in
        subst (λ o. IsFirst f m a (suc n) o) (sym (found_step f m a (range_with_len (a + 1) n) false t))
        (record {
          low = omega (arith, is.low);
          high = omega (arith, is.high);
          has = is.has;
          before = λ r p q k. is.before r (later r a p (λ same. differs (ap f same ∙ k))) q k;
        })

-- the owner in a range of ranks
owner_first : (f : ℕ → ℕ) (n r : ℕ) → r < n → IsFirst f (top f 0 (range_with_len 0 n)) 0 n (found f (top f 0 (range_with_len 0 n)) (range_with_len 0 n))
owner_first f n r less =
    let m = top f 0 (range_with_len 0 n) in
    elim (top_reached f 0 (range_with_len 0 n)) [
      | inl none ↦ first_is f m n 0 r (omega arith) (omega (arith, less)) (omega (arith, none, top_each f 0 (range_with_len 0 n) r (Member-range n 0 r (omega arith) (omega (arith, less)))))
      | inr some ↦ let s = Member-from_range n 0 some.0 some.1 in first_is f m n 0 some.0 (omega arith) s.1 some.2
    ]

abbrev own_count : (IVec → Bool) → List Owned → Corners → ℕ → ℕ
own_count t level b r = tally (own_tags t level r) b

owner_is : (t : IVec → Bool) (level : List Owned) (ranks : ℕ) (b : Corners) → owner_of t level ranks b ≡ found (own_count t level b) (top (own_count t level b) 0 (range_with_len 0 ranks)) (range_with_len 0 ranks)
unfolding owner_of owner_in counts_of most
owner_is t level ranks b = refl

pub owner_most : (t : IVec → Bool) (level : List Owned) (ranks : ℕ) (b : Corners) (r : ℕ) → r < ranks
    → (owner_of t level ranks b < ranks) × (tally (own_tags t level r) b ≤ tally (own_tags t level (owner_of t level ranks b)) b)
    × (r < owner_of t level ranks b → tally (own_tags t level r) b < tally (own_tags t level (owner_of t level ranks b)) b)
owner_most t level ranks b r less =
    let f = own_count t level b in
    let m = top f 0 (range_with_len 0 ranks) in
    let is : IsFirst f m 0 ranks (owner_of t level ranks b) = subst (λ o. IsFirst f m 0 ranks o) (sym (owner_is t level ranks b)) (owner_first f ranks r less) in
    let each = top_each f 0 (range_with_len 0 ranks) r (Member-range ranks 0 r (omega arith) (omega (arith, less))) in
    let has = is.has in
    (omega (arith, is.high), omega (arith, each, has), λ before. less_still (f r) m (f (owner_of t level ranks b)) each has (λ e. is.before r (omega arith) before e))
  where
    less_still : (a m o : ℕ) → a ≤ m → o ≡ m → (a ≡ m → ⊥) → a < o
    less_still a m o p e differs = omega (arith, p, e, differs)

-- ranks without tags do not matter, where there are tags
top_step : (f : ℕ → ℕ) (n r : ℕ) (kept ranks : List ℕ) (v : Bool) → (v ≡ false → f r ≡ 0) → top f (max n (f r)) kept ≡ top f (max n (f r)) ranks → top f n kept ≡ top f n ranks
    → top f n (cond v (r ∷ kept) kept) ≡ top f n (r ∷ ranks)
top_step f n r kept ranks true none e d = e
top_step f n r kept ranks false none e d = d ∙ ap (λ k. top f k ranks) (stays n (f r) (none refl))
  where
    stays : (a b : ℕ) → b ≡ 0 → a ≡ max a b
    stays a b e = omega (arith, e)

top_filter : (f : ℕ → ℕ) (p : ℕ → Bool) (n : ℕ) (ranks : List ℕ) → ((r : ℕ) → p r ≡ false → f r ≡ 0) → top f n (filter p ranks) ≡ top f n ranks
top_filter f p n [] none = refl
top_filter f p n (r ∷ ranks) none = top_step f n r (filter p ranks) ranks (p r) (none r) (top_filter f p (max n (f r)) ranks none) (top_filter f p n ranks none)

found_kept : (f : ℕ → ℕ) (m r : ℕ) (kept ranks : List ℕ) (v w : Bool) → nat_eq (f r) m ≡ w → (v ≡ false → f r ≡ 0) → 0 < m → found f m kept ≡ found f m ranks
    → found f m (cond v (r ∷ kept) kept) ≡ found f m (r ∷ ranks)
found_kept f m r kept ranks true w e none some same = found_step f m r kept w e ∙ ap (λ o. cond w r o) same ∙ sym (found_step f m r ranks w e)
found_kept f m r kept ranks false true e none some same = absurd (omega (arith, none refl, some, eqb-true (f r) m e))
found_kept f m r kept ranks false false e none some same = same ∙ sym (found_step f m r ranks false e)

found_filter : (f : ℕ → ℕ) (p : ℕ → Bool) (m : ℕ) (ranks : List ℕ) → ((r : ℕ) → p r ≡ false → f r ≡ 0) → 0 < m → found f m (filter p ranks) ≡ found f m ranks
found_filter f p m [] none some = refl
found_filter f p m (r ∷ ranks) none some = found_kept f m r (filter p ranks) ranks (p r) (nat_eq (f r) m) refl (none r) some (found_filter f p m ranks none some)

some_top : (f : ℕ → ℕ) (ranks : List ℕ) → 0 < sum_by f ranks → 0 < top f 0 ranks
some_top f ranks some = positive (top f 0 ranks) (λ none. none_left none)
  where
    none_left : top f 0 ranks ≡ 0 → ⊥
    none_left none = let z = sum_zero f ranks (λ r m. omega (arith, none, top_each f 0 ranks r m)) in omega (arith, z, some)

    positive : (n : ℕ) → (n ≡ 0 → ⊥) → 0 < n
    positive zero h = absurd (h refl)
    positive (suc n) h = omega arith

own_tag : (t : IVec → Bool) (level : List Owned) (r : ℕ) (x : IVec) → own_tags t level r x ≡ true → t x ≡ true
unfolding own_tags
own_tag t level r x e = (and_parts (t x) (held x (own_boxes r level)) e).0

counts_kept : (t : IVec → Bool) (level : List Owned) (b c : Corners) (ranks : List ℕ) → IsNode b → Shrinks t b c → counts_of t level b ranks ≡ counted (own_count t level c) ranks
unfolding counts_of
counts_kept t level b c ranks h s =
    ap (λ (f : ℕ → ℕ). counted f ranks) (λ i r. tally_shrunk t (own_tags t level r) b c h s (λ x e. own_tag t level r x e) i)

owner_counted : (f : ℕ → ℕ) (ranks : List ℕ) → owner_in (counted f ranks) ≡ found f (top f 0 ranks) ranks
unfolding owner_in most
owner_counted f ranks = refl

is_near_rank : (v : Bool) → (v ≡ false → ⊥) → v ≡ true
is_near_rank true h = refl
is_near_rank false h = absurd (h refl)

reached : (f : ℕ → ℕ) (ranks : ℕ) → 0 < top f 0 (range_with_len 0 ranks) → (r : ℕ) × (r < ranks)
reached f ranks some =
    elim (top_reached f 0 (range_with_len 0 ranks)) [
      | inl none ↦ absurd (omega (arith, none, some))
      | inr found_at ↦ let s = Member-from_range ranks 0 found_at.0 found_at.1 in (found_at.0, omega (arith, s.1))
    ]

owner_member : (f : ℕ → ℕ) (near : ℕ → Bool) (ranks o : ℕ) → o ≡ found f (top f 0 (range_with_len 0 ranks)) (range_with_len 0 ranks) → 0 < top f 0 (range_with_len 0 ranks) → ((r : ℕ) → near r ≡ false → f r ≡ 0)
    → Member o (filter near (range_with_len 0 ranks))
owner_member f near ranks o e some none =
    let m = top f 0 (range_with_len 0 ranks) in
    let is : IsFirst f m 0 ranks o = subst (λ v. IsFirst f m 0 ranks v) (sym e) (owner_first f ranks (reached f ranks some).0 (reached f ranks some).1) in
    Member-filter near o (range_with_len 0 ranks) (Member-range ranks 0 o is.low is.high)
    (is_near_rank (near o) (λ far. let z = none o far in let has = is.has in omega (arith, z, has, some)))

pub near_owner : (frame : Space) (w : IVec) (area : Area) (ranks : ℕ) (level : List Owned) (t : IVec → Bool) (rule : CutRule) (b c : Corners) → AtMost (alike (pos 0)) w → IsNode b → IsLevel area ranks level → AreTagsOf level t → Member c (accepted (decided t rule b))
    → (owner_in (counts_of t level b (near_ranks frame w level ranks b)) ≡ owner_of t level ranks c) × Member (owner_of t level ranks c) (near_ranks frame w level ranks b)
near_owner frame w area ranks level t rule b c wide h is tags m =
    let near : ℕ → Bool = λ r. is_near frame w (own_boxes r level) b in
    let s = accepted_shrinks t rule b c h m in
    let f = own_count t level c in
    let all = range_with_len 0 ranks in
    let same : (r : ℕ) → own_count t level b r ≡ f r = λ r. tally_shrunk t (own_tags t level r) b c h s (λ x e. own_tag t level r x e) in
    let none : (r : ℕ) → near r ≡ false → f r ≡ 0 = λ r far. sym (same r) ∙ far_none frame w t level r b wide h.whole far in
    let sums = own_counts area ranks level t c is tags in
    let some : 0 < top f 0 all = some_top f all (omega (arith, sums, accepted_tags t rule b c h m)) in
    let whole : owner_of t level ranks c ≡ found f (top f 0 all) all = owner_is t level ranks c in
    let told : owner_in (counts_of t level b (near_ranks frame w level ranks b)) ≡ owner_of t level ranks c =
    ap owner_in (counts_kept t level b c (near_ranks frame w level ranks b) h s)
    ∙ owner_counted f (near_ranks frame w level ranks b)
    ∙ ap (λ k. found f k (filter near all)) (top_filter f near 0 all none)
    ∙ found_filter f near (top f 0 all) all none some
    ∙ sym whole in
    (told, owner_member f near ranks (owner_of t level ranks c) whole some none)
