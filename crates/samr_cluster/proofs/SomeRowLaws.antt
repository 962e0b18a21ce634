-- What a rank tells by a row of those that have something to say, how many tell it, and what they tell.
use Rattle.std.proofs.Common.{◌≡◌, ◌≢◌, ℕ, ◌<◌, refl, sym, ap, ◌∙◌, inl, inr, arith, length, sum_by, not, map, filter, ◌++◌}
use Rattle.std.proofs.lemmas.Bool.{and_parts, and_from, ltb-true, lt-ltb, cases_Bool}
use Rattle.std.proofs.lemmas.Cmp.{nat_cmp_total}
use Rattle.std.proofs.lemmas.List.Kept.{IsStrictlySortedBy-filter}
use Rattle.std.specs.Prelude.{Bool, true, false, ◌&&◌, cond, nat_eq, nat_lt, List, [], ◌∷◌, ◌↔◌}
use Rattle.std.specs.List.{flat_map, range_with_len}
use Rattle.std.specs.List.Sorted.{IsStrictlySortedBy}
use Rattle.std.specs.Ordering.{nat_cmp}
use Rattle.samr_box.specs.Lists.{Member}
use Rattle.samr_box.proofs.Members.{Member-filter, Member-from_filter}
use Rattle.samr_box.proofs.Ascending.{same_from_members}
use Rattle.samr_stage.specs.declared.stage.Held.{Held}
use Rattle.samr_stage.specs.Row.{told, heard, column}
use Rattle.samr_peers.proofs.PeerRows.{along_picked, Member-range, Member-from_range, range_sorted, not_same, is_not_same, count_map}
use Rattle.samr_cluster.specs.SomeRows.{tells_some, some_row}

no_truth : ◌≡◌ {A = Bool} true false → ⊥
no_truth h = cc

-- who passes both a test and what it stands for
abbrev Passes : ℕ → ℕ → (ℕ → Bool) → ℕ → Type 0
Passes n r test k = (k < n) × (k ≢ r) × (test k ≡ true)

-- what is put together of a filtered list
module _ {X Y : Type 0} (f g : X → List Y) where
  pub flat_agree : (xs : List X) → ((x : X) → Member x xs → f x ≡ g x) → flat_map f xs ≡ flat_map g xs
  flat_agree [] same = refl
  flat_agree (x ∷ xs) same = ap (λ l. l ++ flat_map f xs) (same x (inl refl)) ∙ ap (λ l. g x ++ l) (flat_agree xs (λ y m. same y (inr m)))

  pub flat_kept : (t p : X → Bool) (xs : List X) → ((x : X) → Member x xs → f x ≡ g x) → ((x : X) → t x ≡ true → p x ≡ true) → ((x : X) → Member x xs → t x ≡ false → p x ≡ true → g x ≡ [])
      → flat_map f (filter t xs) ≡ flat_map g (filter p xs)
  flat_kept t p [] same less none = refl
  flat_kept t p (x ∷ xs) same less none = by (t x) (p x) refl refl (flat_kept t p xs (λ y m. same y (inr m)) less (λ y m. none y (inr m)))
    where
      by : (u v : Bool) → t x ≡ u → p x ≡ v → flat_map f (filter t xs) ≡ flat_map g (filter p xs)
          → flat_map f (cond u (x ∷ filter t xs) (filter t xs)) ≡ flat_map g (cond v (x ∷ filter p xs) (filter p xs))
      by true true e h rest = ap (λ l. l ++ flat_map f (filter t xs)) (same x (inl refl)) ∙ ap (λ l. g x ++ l) rest
      by true false e h rest = absurd (no_truth (sym (less x e) ∙ h))
      by false true e h rest = rest ∙ sym (ap (λ l. l ++ flat_map g (filter p xs)) (none x (inl refl) e h))
      by false false e h rest = rest

pub flat_of_map : {W X Y : Type 0} (f : X → List Y) (v : W → X) (ws : List W) → flat_map f (map v ws) ≡ flat_map (λ w. f (v w)) ws
flat_of_map f v [] = refl
flat_of_map f v (w ∷ ws) = ap (λ l. f (v w) ++ l) (flat_of_map f v ws)

pub map_agree : {X Y : Type 0} (f g : X → Y) (xs : List X) → ((x : X) → Member x xs → f x ≡ g x) → map f xs ≡ map g xs
map_agree f g [] same = refl
map_agree f g (x ∷ xs) same = ap (λ y. y ∷ map f xs) (same x (inl refl)) ∙ ap (λ l. g x ∷ l) (map_agree f g xs (λ y m. same y (inr m)))

module _ {B : Type 0} (n : ℕ) (some : ℕ → ℕ → Bool) (body : ℕ → ℕ → B) where
  pub tells_from : (from to : ℕ) → tells_some n some from to ≡ true → (from < n) × (to < n) × (to ≢ from) × (some from to ≡ true)
  tells_from from to t =
      let first = and_parts (nat_lt from n) (nat_lt to n && (not (nat_eq to from) && some from to)) t in
      let second = and_parts (nat_lt to n) (not (nat_eq to from) && some from to) first.1 in
      let third = and_parts (not (nat_eq to from)) (some from to) second.1 in
      (ltb-true from n first.0, ltb-true to n second.0, not_same to from third.0, third.1)

  pub tells_is : (from to : ℕ) → from < n → to < n → to ≢ from → some from to ≡ true → tells_some n some from to ≡ true
  tells_is from to p q other t =
      and_from (nat_lt from n) (nat_lt to n && (not (nat_eq to from) && some from to)) (lt-ltb from n p)
      (and_from (nat_lt to n) (not (nat_eq to from) && some from to) (lt-ltb to n q)
      (and_from (not (nat_eq to from)) (some from to) (is_not_same to from other) t))

  pub to_are : (r : ℕ) (ranks : List ℕ) → r < n → IsStrictlySortedBy nat_cmp ranks → ((k : ℕ) → Member k ranks ↔ Passes n r (λ k. some r k) k)
      → filter (λ to. tells_some n some r to) (range_with_len 0 n) ≡ ranks
  to_are r ranks within sorted same =
      same_from_members nat_cmp_total (filter (λ to. tells_some n some r to) (range_with_len 0 n)) ranks
      (IsStrictlySortedBy-filter nat_cmp (λ to. tells_some n some r to) (range_with_len 0 n) (range_sorted n 0)) sorted
      (λ k m. let f = Member-from_filter (λ to. tells_some n some r to) k (range_with_len 0 n) m in let t = tells_from r k f.1 in (same k).1 (t.1, t.2, t.3))
      (λ k m. let p = (same k).0 m in let less = p.0 in
      Member-filter (λ to. tells_some n some r to) k (range_with_len 0 n) (Member-range n 0 k (omega arith) (omega (arith, less))) (tells_is r k within p.0 p.1 p.2))

  pub from_are : (r : ℕ) (ranks : List ℕ) → r < n → IsStrictlySortedBy nat_cmp ranks → ((k : ℕ) → Member k ranks ↔ Passes n r (λ k. some k r) k)
      → filter (λ from. tells_some n some from r) (range_with_len 0 n) ≡ ranks
  from_are r ranks within sorted same =
      same_from_members nat_cmp_total (filter (λ from. tells_some n some from r) (range_with_len 0 n)) ranks
      (IsStrictlySortedBy-filter nat_cmp (λ from. tells_some n some from r) (range_with_len 0 n) (range_sorted n 0)) sorted
      (λ k m. let f = Member-from_filter (λ from. tells_some n some from r) k (range_with_len 0 n) m in let t = tells_from k r f.1 in (same k).1 (t.0, (λ e. t.2 (sym e)), t.3))
      (λ k m. let p = (same k).0 m in let less = p.0 in
      Member-filter (λ from. tells_some n some from r) k (range_with_len 0 n) (Member-range n 0 k (omega arith) (omega (arith, less))) (tells_is k r p.0 within (λ e. p.1 (sym e)) p.2))

  pub some_told : (r : ℕ) (ranks : List ℕ) → r < n → IsStrictlySortedBy nat_cmp ranks → ((k : ℕ) → Member k ranks ↔ Passes n r (λ k. some r k) k)
      → told (some_row n some body r) n ≡ map (λ to. (to, body r to)) ranks
  unfolding some_row
  some_told r ranks within sorted same =
      along_picked (λ to b. (to, b)) (λ to. tells_some n some r to) (λ to. body r to) n
      ∙ ap (map (λ to. (to, body r to))) (to_are r ranks within sorted same)

  pub some_count : (r : ℕ) (ranks : List ℕ) → r < n → IsStrictlySortedBy nat_cmp ranks → ((k : ℕ) → Member k ranks ↔ Passes n r (λ k. some k r) k)
      → length ranks ≡ sum_by (λ (held : Held B). 1) (heard (column (some_row n some body) r) n)
  unfolding some_row
  some_count r ranks within sorted same =
      let make : ℕ → B → Held B = λ from b. record { sender = from; body = b } in
      sym (ap (sum_by (λ (held : Held B). 1)) (along_picked make (λ from. tells_some n some from r) (λ from. body from r) n
      ∙ ap (map (λ from. make from (body from r))) (from_are r ranks within sorted same))
      ∙ count_map (λ from. make from (body from r)) ranks)

  -- what the letters for a rank give is what all other ranks have for it
  pub some_heard : {Y : Type 0} (r : ℕ) (f : Held B → List Y) (g : ℕ → List Y) → r < n
      → ((k : ℕ) → k < n → f (record { sender = k; body = body k r }) ≡ g k) → ((k : ℕ) → k < n → some k r ≡ false → g k ≡ [])
      → flat_map f (heard (column (some_row n some body) r) n) ≡ flat_map g (filter (λ k. not (nat_eq k r)) (range_with_len 0 n))
  unfolding some_row
  some_heard r f g within same none =
      let make : ℕ → B → Held B = λ from b. record { sender = from; body = b } in
      let all = range_with_len 0 n in
      ap (flat_map f) (along_picked make (λ from. tells_some n some from r) (λ from. body from r) n)
      ∙ flat_of_map f (λ k. make k (body k r)) (filter (λ from. tells_some n some from r) all)
      ∙ flat_kept (λ k. f (make k (body k r))) g (λ from. tells_some n some from r) (λ k. not (nat_eq k r)) all
      (λ k m. let less = (Member-from_range n 0 k m).1 in same k (omega (arith, less)))
      (λ k t. let h = tells_from k r t in is_not_same k r (λ e. h.2 (sym e)))
      (λ k m u v. let less = (Member-from_range n 0 k m).1 in
      elim (cases_Bool (some k r)) [
        | inl yes_some ↦ absurd (no_truth (sym (tells_is k r (omega (arith, less)) within (λ e. not_same k r v (sym e)) yes_some) ∙ u))
        | inr no_some ↦ none k (omega (arith, less)) no_some
      ])
