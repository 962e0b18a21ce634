-- What a rank tells by a peer row, how many tell it, and what they tell.
use Rattle.std.proofs.Common.{◌≡◌, ◌≢◌, ℕ, zero, suc, ◌+◌, ◌<◌, refl, sym, ap, subst, ◌∙◌, inl, inr, arith, length, sum_by, not}
use Rattle.std.proofs.lemmas.Bool.{and_parts, and_from, or_cases, or_left, or_right, cases_eq, false≢true, ltb-true, lt-ltb}
use Rattle.std.proofs.lemmas.Bool.Decides.{nat_tests}
use Rattle.std.proofs.lemmas.Cmp.{nat_cmp_total}
use Rattle.std.proofs.lemmas.List.Kept.{IsStrictlySortedBy-filter}
use Rattle.std.proofs.lemmas.List.Sums.{sum_by-cons}
use Rattle.std.specs.Prelude.{Bool, true, false, ◌&&◌, cond, nat_eq, nat_lt, Some, None, List, [], ◌∷◌, map, filter}
use Rattle.std.specs.List.{range_with_len, filter_map, cons_option}
use Rattle.std.specs.List.Sorted.{IsStrictlySortedBy}
use Rattle.std.specs.Option.{option_map}
use Rattle.std.specs.Ordering.{nat_cmp}
use Rattle.std.specs.declared.cmp.Ordering.TheVariants.{Less}
use Rattle.samr_box.specs.Lists.{Member}
use Rattle.samr_box.proofs.Members.{Member-map, Member-from_map, Member-filter, Member-from_filter}
use Rattle.samr_box.proofs.Ascending.{sorted-nil, sorted-cons, same_from_members}
use Rattle.samr_stage.specs.declared.stage.Held.{Held}
use Rattle.samr_stage.specs.Row.{along, told, heard, column}
use Rattle.samr_level.specs.Refs.{Link, turned}
use Rattle.samr_level.proofs.RefLaws.{same_nat}
use Rattle.samr_level.proofs.Sorting.{Member-in_order, Member-from_in_order, sorted-in_order}
use Rattle.samr_peers.specs.Peers.{owns_head, other_owners, tells, peer_row, AreTransposes}

-- a line that has a body exactly where a test holds
module _ {B X : Type 0} (make : ℕ → B → X) (test : ℕ → Bool) (body : ℕ → B) where
  picked : (xs : List ℕ) → filter_map (λ k. option_map (make k) (cond (test k) (Some (body k)) None)) xs ≡ map (λ k. make k (body k)) (filter test xs)
  picked [] = refl
  picked (x ∷ xs) = by (test x) (picked xs)
    where
      by : (t : Bool) → filter_map (λ k. option_map (make k) (cond (test k) (Some (body k)) None)) xs ≡ map (λ k. make k (body k)) (filter test xs)
          → cons_option (option_map (make x) (cond t (Some (body x)) None)) (filter_map (λ k. option_map (make k) (cond (test k) (Some (body k)) None)) xs)
          ≡ map (λ k. make k (body k)) (cond t (x ∷ filter test xs) (filter test xs))
      by true e = ap (λ l. make x (body x) ∷ l) e
      by false e = e

  pub along_picked : (n : ℕ) → along make (λ k. cond (test k) (Some (body k)) None) n ≡ map (λ k. make k (body k)) (filter test (range_with_len 0 n))
  unfolding along
  along_picked n = picked (range_with_len 0 n)

-- ranges of numbers
pub Member-range : (n a k : ℕ) → a < k + 1 → k < a + n → Member k (range_with_len a n)
Member-range zero a k low high = absurd (omega arith)
Member-range (suc n) a k low high = elim (cases_eq k a) [
  | inl here ↦ inl here
  | inr later ↦ inr (Member-range n (a + 1) k (omega (arith, later, low)) (omega (arith, high)))
]

pub Member-from_range : (n a k : ℕ) → Member k (range_with_len a n) → (a < k + 1) × (k < a + n)
Member-from_range zero a k m = absurd m
Member-from_range (suc n) a k (inl here) = (omega arith, omega arith)
Member-from_range (suc n) a k (inr later) = let r = Member-from_range n (a + 1) k later in let low = r.0 in let high = r.1 in (omega arith, omega arith)

nat_less : (x y : ℕ) → x < y → nat_cmp x y ≡ Less
nat_less x y less = let test : nat_lt x y ≡ true = lt-ltb x y less in rw test refl

pub range_sorted : (n a : ℕ) → IsStrictlySortedBy nat_cmp (range_with_len a n)
range_sorted zero a = sorted-nil nat_cmp
range_sorted (suc n) a =
    sorted-cons nat_cmp a (range_with_len (a + 1) n)
    (λ k m. let low = (Member-from_range n (a + 1) k m).0 in nat_less a k (omega arith)) (range_sorted n (a + 1))

-- owning the head of an edge
pub owner_from : (rank : ℕ) (edges : List Link) → owns_head rank edges ≡ true → (e : Link) × Member e edges × (e.head.owner ≡ rank)
owner_from rank [] t = absurd (false≢true t)
owner_from rank (e ∷ edges) t = elim (or_cases (nat_eq e.head.owner rank) (owns_head rank edges) t) [
  | inl here ↦ (e, inl refl, grind (arith, nat_tests, here))
  | inr later ↦ let r = owner_from rank edges later in (r.0, inr r.1, r.2)
]

pub owner_is : (rank : ℕ) (edges : List Link) (e : Link) → Member e edges → e.head.owner ≡ rank → owns_head rank edges ≡ true
owner_is rank [] e m o = absurd m
owner_is rank (x ∷ edges) e (inl same) o =
    let h : x.head.owner ≡ rank = ap (λ (v : Link). v.head.owner) (sym same) ∙ o in
    or_left (nat_eq x.head.owner rank) (owns_head rank edges) (grind (arith, nat_tests, h))
owner_is rank (x ∷ edges) e (inr m) o = or_right (nat_eq x.head.owner rank) (owns_head rank edges) (owner_is rank edges e m o)

pub not_same : (r rank : ℕ) → not (nat_eq r rank) ≡ true → r ≢ rank
not_same r rank t same = grind (arith, nat_tests, t, same)

pub is_not_same : (r rank : ℕ) → r ≢ rank → not (nat_eq r rank) ≡ true
is_not_same r rank other = grind (arith, nat_tests, other)

pub count_map : {X Y : Type 0} (f : X → Y) (xs : List X) → sum_by (λ (y : Y). 1) (map f xs) ≡ length xs
count_map f [] = refl
count_map f (x ∷ xs) = omega (arith, sum_by-cons (λ _. 1) (f x) (map f xs), count_map f xs)

-- the other owners are the ranks that pass a test
module _ (rank : ℕ) (edges : List Link) where
  pub Member-others : (e : Link) → Member e edges → e.head.owner ≢ rank → Member e.head.owner (other_owners rank edges)
  unfolding other_owners
  Member-others e m other =
      let owners = map (λ e. e.head.owner) edges in
      Member-in_order nat_cmp_total same_nat e.head.owner (filter (λ r. not (nat_eq r rank)) owners)
      (Member-filter (λ r. not (nat_eq r rank)) e.head.owner owners (Member-map (λ e. e.head.owner) e edges m) (is_not_same e.head.owner rank other))

  pub Member-from_others : (k : ℕ) → Member k (other_owners rank edges) → (e : Link) × Member e edges × (e.head.owner ≡ k) × (k ≢ rank)
  unfolding other_owners
  Member-from_others k m =
      let owners = map (λ e. e.head.owner) edges in
      let f = Member-from_filter (λ r. not (nat_eq r rank)) k owners (Member-from_in_order nat_cmp_total k (filter (λ r. not (nat_eq r rank)) owners) m) in
      let r = Member-from_map (λ e. e.head.owner) k edges f.0 in
      (r.0, r.1, sym r.2, not_same k rank f.1)

  pub others_sorted : IsStrictlySortedBy nat_cmp (other_owners rank edges)
  unfolding other_owners
  others_sorted = sorted-in_order nat_cmp_total (filter (λ r. not (nat_eq r rank)) (map (λ e. e.head.owner) edges))

  pub others_are : (test : ℕ → Bool) (n : ℕ)
      → ((k : ℕ) → test k ≡ true → (e : Link) × Member e edges × (e.head.owner ≡ k) × (k ≢ rank))
      → ((e : Link) → Member e edges → e.head.owner ≢ rank → (e.head.owner < n) × (test e.head.owner ≡ true))
      → filter test (range_with_len 0 n) ≡ other_owners rank edges
  others_are test n only all =
      same_from_members nat_cmp_total (filter test (range_with_len 0 n)) (other_owners rank edges)
      (IsStrictlySortedBy-filter nat_cmp test (range_with_len 0 n) (range_sorted n 0)) others_sorted
      (λ k m.
      let f = Member-from_filter test k (range_with_len 0 n) m in
      let r = only k f.1 in
      subst (λ (v : ℕ). Member v (other_owners rank edges)) r.2 (Member-others r.0 r.1 (λ same. r.3 (sym r.2 ∙ same))))
      (λ k m.
      let r = Member-from_others k m in
      let e = r.0 in
      let h = all e r.1 (λ same. r.3 (sym r.2 ∙ same)) in
      let below = h.0 in
      subst (λ (v : ℕ). Member v (filter test (range_with_len 0 n))) r.2
      (Member-filter test e.head.owner (range_with_len 0 n) (Member-range n 0 e.head.owner (omega arith) (omega (arith, below))) h.1))

-- the row of ranks with edges one way and back
module _ {B : Type 0} (ranks : ℕ) (there back : ℕ → List Link) (body : ℕ → ℕ → B) (turns : AreTransposes ranks there back) where
  tells_from : (from to : ℕ) → tells ranks there from to ≡ true → (from < ranks) × (to < ranks) × (to ≢ from) × ((e : Link) × Member e (there from) × (e.head.owner ≡ to))
  tells_from from to t =
      let first = and_parts (nat_lt from ranks) (nat_lt to ranks && (not (nat_eq to from) && owns_head to (there from))) t in
      let second = and_parts (nat_lt to ranks) (not (nat_eq to from) && owns_head to (there from)) first.1 in
      let third = and_parts (not (nat_eq to from)) (owns_head to (there from)) second.1 in
      (ltb-true from ranks first.0, ltb-true to ranks second.0, not_same to from third.0, owner_from to (there from) third.1)

  tells_is : (from to : ℕ) (e : Link) → from < ranks → to < ranks → to ≢ from → Member e (there from) → e.head.owner ≡ to → tells ranks there from to ≡ true
  tells_is from to e p q other m o =
      and_from (nat_lt from ranks) (nat_lt to ranks && (not (nat_eq to from) && owns_head to (there from))) (lt-ltb from ranks p)
      (and_from (nat_lt to ranks) (not (nat_eq to from) && owns_head to (there from)) (lt-ltb to ranks q)
      (and_from (not (nat_eq to from)) (owns_head to (there from)) (is_not_same to from other) (owner_is to (there from) e m o)))

  addressees_are : (rank : ℕ) → rank < ranks → filter (λ to. tells ranks there rank to) (range_with_len 0 ranks) ≡ other_owners rank (there rank)
  addressees_are rank within =
      others_are rank (there rank) (λ to. tells ranks there rank to) ranks
      (λ to t. let r = tells_from rank to t in (r.3.0, r.3.1, r.3.2, r.2))
      (λ e m other. let h = turns.forth rank e m in (h.1, tells_is rank e.head.owner e within h.1 other m refl))

  senders_are : (rank : ℕ) → rank < ranks → filter (λ from. tells ranks there from rank) (range_with_len 0 ranks) ≡ other_owners rank (back rank)
  senders_are rank within =
      others_are rank (back rank) (λ from. tells ranks there from rank) ranks
      (λ from t.
      let r = tells_from from rank t in
      let e = r.3.0 in
      let h = turns.forth from e r.3.1 in
      (turned e, subst (λ (k : ℕ). Member (turned e) (back k)) r.3.2 h.2, h.0, λ same. r.2 (sym same)))
      (λ e m other.
      let h = turns.home rank e m in
      (h.1, tells_is e.head.owner rank (turned e) h.1 within (λ same. other (sym same)) h.2 h.0))

  -- the letters that a rank gives out, by addressee
  pub letters_are : (rank : ℕ) → rank < ranks → told (peer_row ranks there body rank) ranks ≡ map (λ to. (to, body rank to)) (other_owners rank (there rank))
  unfolding peer_row
  letters_are rank within =
      along_picked (λ to b. (to, b)) (λ to. tells ranks there rank to) (λ to. body rank to) ranks
      ∙ ap (map (λ to. (to, body rank to))) (addressees_are rank within)

  -- the letters that come for it, by sender, and how many they are
  pub held_are : (rank : ℕ) → rank < ranks
      → heard (column (peer_row ranks there body) rank) ranks ≡ map (λ from. let h : Held B = record { sender = from; body = body from rank } in h) (other_owners rank (back rank))
  unfolding peer_row
  held_are rank within =
      let make : ℕ → B → Held B = λ from b. record { sender = from; body = b } in
      along_picked make (λ from. tells ranks there from rank) (λ from. body from rank) ranks
      ∙ ap (map (λ from. make from (body from rank))) (senders_are rank within)

  pub count_is : (rank : ℕ) → rank < ranks → length (other_owners rank (back rank)) ≡ sum_by (λ (held : Held B). 1) (heard (column (peer_row ranks there body) rank) ranks)
  count_is rank within =
      let make : ℕ → Held B = λ from. record { sender = from; body = body from rank } in
      sym (ap (sum_by (λ (held : Held B). 1)) (held_are rank within) ∙ count_map make (other_owners rank (back rank)))

  -- a letter that is there is of another rank that an edge joins, and what that tells
  pub heard_out : (rank : ℕ) → rank < ranks → (h : Held B) → Member h (heard (column (peer_row ranks there body) rank) ranks)
      → (h.body ≡ body h.sender rank) × (h.sender < ranks) × (h.sender ≢ rank)
  heard_out rank within h m =
      let make : ℕ → Held B = λ from. record { sender = from; body = body from rank } in
      let there' = subst (λ (l : List (Held B)). Member h l) (held_are rank within) m in
      let r = Member-from_map make h (other_owners rank (back rank)) there' in
      let q = Member-from_others rank (back rank) r.0 r.1 in
      let e = q.0 in
      let below = (turns.home rank e q.1).1 in
      subst (λ (v : Held B). (v.body ≡ body v.sender rank) × (v.sender < ranks) × (v.sender ≢ rank)) (sym r.2)
      (refl, subst (λ (k : ℕ). k < ranks) q.2 below, q.3)

  -- what another owner of a head of the edges back tells is there
  pub heard_in : (rank : ℕ) → rank < ranks → (e : Link) → Member e (back rank) → e.head.owner ≢ rank
      → Member (let h : Held B = record { sender = e.head.owner; body = body e.head.owner rank } in h) (heard (column (peer_row ranks there body) rank) ranks)
  heard_in rank within e m other =
      let make : ℕ → Held B = λ from. record { sender = from; body = body from rank } in
      subst (λ (l : List (Held B)). Member (make e.head.owner) l) (sym (held_are rank within))
      (Member-map make e.head.owner (other_owners rank (back rank)) (Member-others rank (back rank) e m other))
