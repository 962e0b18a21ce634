-- What a rank has in a round, by whether it has anything, and what follows where it has nothing.
use Rattle.std.specs.Prelude.{◌≡◌, ◌↔◌, ℕ, zero, suc, ◌+◌, ◌<◌, ◌≤◌, Bool, true, false, List, [], ◌∷◌, map, filter, length, sum_by, refl}
use Rattle.std.specs.List.{flat_map, list_any, range_with_len}
use Rattle.std.proofs.Common.{arith, ap, sym, ◌∙◌, subst, inl, inr}
use Rattle.std.proofs.lemmas.Bool.{cases_lt, cases_eq, false≢true}
use mathlib.Core.Path.{fun_ext}
use Rattle.samr_box.specs.Corners.{Corners}
use Rattle.samr_box.specs.Space.{finer}
use Rattle.samr_box.specs.Lists.{Member}
use Rattle.samr_box.proofs.Members.{Member-flat_map, Member-from_flat_map, Member-from_filter}
use Rattle.samr_level.specs.Levels.{own_boxes}
use Rattle.samr_sign.specs.Laws.{depth}
use Rattle.samr_rounds.specs.Clusters.{parts, decided}
use Rattle.samr_rounds.specs.Sorted.{sorted}
use Rattle.samr_rounds.specs.Rounds.{below, opened, told, directed}
use Rattle.samr_rounds.proofs.Lists.{any_member, member_any, any_map, any_flat_map}
use Rattle.samr_rounds.proofs.NearLaws.{near_told}
use Rattle.samr_rounds.proofs.Open.{Member-below, Member-from_below, rounds_end}
use Rattle.samr_peers.proofs.PeerRows.{Member-range, Member-from_range}
use Rattle.samr_cluster.specs.declared.accepted.Accepted.{Accepted}
use Rattle.samr_cluster.specs.declared.nodes.Told.{Told}
use Rattle.samr_cluster.specs.declared.nodes.Directed.{Directed}
use Rattle.samr_cluster.specs.Cluster.{Clustering, IsClustering, near, near_to, accepted_in}
use Rattle.samr_cluster.specs.Accepting.{accepted_as, near_accepted}
use Rattle.samr_cluster.specs.Rounds.{Round, open_of, told_of, near_of, directors, from_director, told_state, near_state, asked_of, directed_less, directed_after, accepted_state}
use Rattle.samr_cluster.specs.ReportRow.{was_told}
use Rattle.samr_cluster.proofs.DecideLaws.{directed_nodes, directors_below, Member-directors}
use Rattle.samr_cluster.proofs.ListLaws.{part_of_sum}
use Rattle.samr_cluster.proofs.ReportLaws.{nodes_directed}
use Rattle.samr_cluster.proofs.RoundLaws.{directed_open, open_directed, rounds_tell}
use Rattle.samr_clustering.specs.Fronts.{IsFront, is_front}

abbrev pub some : {X : Type 0} → List X → Bool
some xs = list_any (λ x. true) xs

pub no_items : {X : Type 0} (xs : List X) → some xs ≡ false → xs ≡ []
no_items [] e = refl
no_items (x ∷ xs) e = absurd (false≢true (sym e))

same_tests : (a b : Bool) → (a ≡ true → b ≡ true) → (b ≡ true → a ≡ true) → a ≡ b
same_tests true b f g = sym (f refl)
same_tests false true f g = g refl
same_tests false false f g = refl

none_at : {X : Type 0} (f : X → Bool) (xs : List X) (x : X) → list_any f xs ≡ false → Member x xs → f x ≡ false
none_at f xs x e m = by (f x) refl
  where
    by : (t : Bool) → f x ≡ t → f x ≡ false
    by false h = h
    by true h = absurd (false≢true (sym e ∙ any_member f x xs m h))

all_none : {X : Type 0} (f : X → Bool) (xs : List X) → ((x : X) → Member x xs → f x ≡ false) → list_any f xs ≡ false
all_none f xs each = by (list_any f xs) refl
  where
    by : (t : Bool) → list_any f xs ≡ t → list_any f xs ≡ false
    by false h = h
    by true h = let s = member_any f xs h in absurd (false≢true (sym (each s.0 s.1) ∙ s.2))

module _ (c : Clustering) (is : IsClustering c) where
  abbrev pub at : ℕ → Round
  at n = record { whole = c; number = n }

  abbrev pub ranks_of : List ℕ
  ranks_of = range_with_len 0 c.ranks

  -- a node is open
  abbrev pub some_open : ℕ → Bool
  some_open q = some (opened c.tags c.rule c.roots q)

  abbrev pub open_many : ℕ
  open_many = length (filter some_open (range_with_len 0 (sum_by depth c.roots)))

  open_before : (q : ℕ) → some_open (suc q) ≡ true → some_open q ≡ true
  unfolding opened
  open_before q h =
      let s = member_any (λ b. true) (below c.tags c.rule (opened c.tags c.rule c.roots q)) h in
      let b = Member-from_below c.tags c.rule s.0 (opened c.tags c.rule c.roots q) s.1 in
      any_member (λ b. true) b.0 (opened c.tags c.rule c.roots q) b.1 refl

  front : IsFront some_open (sum_by depth c.roots) open_many
  front = is_front some_open open_before (sum_by depth c.roots)

  none_deep : (q : ℕ) → ((b : Corners) → Member b c.roots → depth b ≤ q) → opened c.tags c.rule c.roots q ≡ []
  none_deep q deep = rounds_end c.tags c.rule q c.roots is.roots deep

  -- none is after so many rounds, and one is in each before
  pub none_open : (q : ℕ) → open_many ≤ q → opened c.tags c.rule c.roots q ≡ []
  none_open q late = elim (cases_lt q (sum_by depth c.roots)) [
    | inl less ↦ no_items (opened c.tags c.rule c.roots q) (front.back q late less)
    | inr more ↦ none_deep q (λ b m. let part = part_of_sum depth b c.roots m in omega (arith, part, more))
  ]

  pub open_early : (q : ℕ) → some_open q ≡ true → q < open_many
  open_early q h = elim (cases_lt q open_many) [
    | inl less ↦ less
    | inr late ↦ absurd (false≢true (sym (ap some (none_open q late)) ∙ h))
  ]

  pub few_rounds : (n : ℕ) → ((b : Corners) → Member b c.roots → depth b ≤ n) → open_many ≤ n
  few_rounds n deep = elim (cases_lt n open_many) [
    | inl less ↦ absurd (false≢true (sym (ap some (none_deep n deep)) ∙ front.front n less))
    | inr more ↦ more
  ]

  module _ (r : ℕ) (within : r < c.ranks) where
    -- the directors of a rank are all ranks
    directors_any : (f : ℕ → Bool) → list_any f (directors c r) ≡ list_any f ranks_of
    directors_any f =
        same_tests (list_any f (directors c r)) (list_any f ranks_of)
        (λ t. let s = member_any f (directors c r) t in
        any_member f s.0 ranks_of (Member-range c.ranks 0 s.0 (omega arith) (let less = directors_below (at 0) is r s.0 within s.1 in omega (arith, less))) s.2)
        (λ t. let s = member_any f ranks_of t in any_member f s.0 (directors c r) (director s.0 (Member-from_range c.ranks 0 s.0 s.1).1) s.2)
      where
        director : (k : ℕ) → k < 0 + c.ranks → Member k (directors c r)
        director k less = elim (cases_eq k r) [
          | inl same ↦ inl same
          | inr other ↦ Member-directors (at 0) is r k (omega (arith, less)) other
        ]

    by_director : {X : Type 0} (f : ℕ → List X) → some (flat_map f (directors c r)) ≡ list_any (λ d. some (f d)) ranks_of
    by_director f = any_flat_map (λ x. true) f (directors c r) ∙ directors_any (λ d. some (f d))

    some_from : (g : ℕ → List Corners) → list_any (λ d. some (from_director d (g d))) ranks_of ≡ list_any (λ d. some (g d)) ranks_of
    some_from g = ap (λ (t : ℕ → Bool). list_any t ranks_of) (fun_ext (λ d. any_map (λ x. true) (λ b. let t : Told = record { director = d; node = b } in t) (g d)))

    -- whether it was told anything, is near anything, directs anything
    pub any_told : (n : ℕ) → some (told_state (at n) r) ≡ list_any (λ d. was_told (at n) r d) ranks_of
    unfolding told_state
    any_told n = by_director (λ d. from_director d (told_of (at n) d r)) ∙ some_from (λ d. told_of (at n) d r)

    pub any_near : (n : ℕ) → some (near_state (at n) r) ≡ list_any (λ d. some (near_of (at n) d r)) ranks_of
    unfolding near_state
    any_near n = by_director (λ d. from_director d (near_of (at n) d r)) ∙ some_from (λ d. near_of (at n) d r)

    pub any_directed : (n : ℕ) → some (directed_after c r n) ≡ some (open_of (at n) r)
    any_directed n = sym (any_map (λ x. true) (λ (p : Directed). p.node) (directed_after c r n)) ∙ ap some (nodes_directed (at n) is r)

    is_rank : (d : ℕ) → Member d ranks_of → d < c.ranks
    is_rank d m = let less = (Member-from_range c.ranks 0 d m).1 in omega (arith, less)

    -- who was told nothing is near nothing, and is told nothing any more
    pub far : (n : ℕ) → list_any (λ d. was_told (at n) r d) ranks_of ≡ false → list_any (λ d. some (near_of (at n) d r)) ranks_of ≡ false
    far n none =
        all_none (λ d. some (near_of (at n) d r)) ranks_of
        (λ d m.
        let told_none = no_items (told_of (at n) d r) (none_at (λ d. was_told (at n) r d) ranks_of d none m) in
        ap some
        (sym (near_told (finer c.frame c.ratio) c.width (own_boxes r c.level) c.tags c.rule (directed c.ranks d c.roots) n (directed_nodes (at n) is d (is_rank d m)))
        ∙ ap (filter (λ b. near c r b)) told_none))

    told_after : (n d : ℕ) → d < c.ranks → told_of (at (suc n)) d r ≡ below c.tags c.rule (near_of (at n) d r)
    unfolding told
    told_after n d less =
        ap (below c.tags c.rule) (near_told (finer c.frame c.ratio) c.width (own_boxes r c.level) c.tags c.rule (directed c.ranks d c.roots) n (directed_nodes (at n) is d less))

    none_below : below c.tags c.rule [] ≡ []
    unfolding below sorted
    none_below = refl

    pub untold : (n : ℕ) → list_any (λ d. some (near_of (at n) d r)) ranks_of ≡ false → told_state (at (suc n)) r ≡ []
    untold n none =
        no_items (told_state (at (suc n)) r)
        (any_told (suc n)
        ∙ all_none (λ d. was_told (at (suc n)) r d) ranks_of
        (λ d m.
        ap some
        (told_after n d (is_rank d m)
        ∙ ap (below c.tags c.rule) (no_items (near_of (at n) d r) (none_at (λ d. some (near_of (at n) d r)) ranks_of d none m))
        ∙ none_below)))

    pub undirected : (n : ℕ) → open_of (at n) r ≡ [] → directed_after c r (suc n) ≡ []
    unfolding directed_after sorted
    undirected n none = ap (λ (l : List Corners). sorted directed_less (flat_map (λ b. asked_of (near_to c b) (parts (decided c.tags c.rule b))) l)) none

    taken_of : List Corners → List Accepted
    taken_of nodes = flat_map (λ b. map (λ e. accepted_as c b e) (accepted_in c b)) nodes

    pub unaccepted : (n : ℕ) → list_any (λ d. some (near_of (at n) d r)) ranks_of ≡ false → accepted_state (at n) r ≡ []
    unfolding accepted_state taken_of
    unaccepted n none =
        no_items (flat_map (λ d. taken_of (near_of (at n) d r)) (directors c r))
        (by_director (λ d. taken_of (near_of (at n) d r))
        ∙ all_none (λ d. some (taken_of (near_of (at n) d r))) ranks_of
        (λ d m. ap (λ (l : List Corners). some (taken_of l)) (no_items (near_of (at n) d r) (none_at (λ d. some (near_of (at n) d r)) ranks_of d none m))))

    -- in the first round all are told the roots
    pub told_first : some_open 0 ≡ true → list_any (λ d. was_told (at 0) r d) ranks_of ≡ true
    unfolding told opened
    told_first h =
        let s = member_any (λ b. true) c.roots h in
        let d = open_directed c is 0 s.0 (omega (arith, within)) s.1 in
        any_member (λ d. was_told (at 0) r d) d.0 ranks_of (Member-range c.ranks 0 d.0 (omega arith) (let less = d.1 in omega (arith, less))) (any_member (λ b. true) s.0 (told_of (at 0) d.0 r) d.2 refl)

    pub first_open : 0 < open_many → some_open 0 ≡ true
    first_open more = front.front 0 more

    -- the rounds in which a node is open tell it all
    none_accepted : (q : ℕ) (a : Accepted) → open_many ≤ q → Member a (accepted_state (at q) r) → ⊥
    unfolding accepted_state
    none_accepted q a late m =
        let taken : Corners → List Accepted = λ b. map (λ e. accepted_as c b e) (accepted_in c b) in
        let s = Member-from_flat_map (λ d. flat_map taken (near_of (at q) d r)) a (directors c r) m in
        let t = Member-from_flat_map taken a (near_of (at q) s.0 r) s.2 in
        let f = Member-from_filter (λ b. near c r b) t.0 (open_of (at q) s.0) t.1 in
        subst (λ (l : List Corners). Member t.0 l) (none_open q late) (directed_open c is q s.0 t.0 (directors_below (at q) is r s.0 within s.1) f.0)

    pub all_found : (n : ℕ) (a : Accepted) → open_many ≤ n → Member a (flat_map (λ q. accepted_state (at q) r) (range_with_len 0 n)) ↔ Member a (near_accepted c r)
    all_found n a late = (
      λ m.
          let s = Member-from_flat_map (λ q. accepted_state (at q) r) a (range_with_len 0 n) m in
          (rounds_tell c is r a within).1 (s.0, s.2),
      λ m.
          let s = (rounds_tell c is r a within).0 m in
          elim (cases_lt s.0 n) [
            | inl early ↦ Member-flat_map (λ q. accepted_state (at q) r) a s.0 (range_with_len 0 n) (Member-range n 0 s.0 (omega arith) (omega (arith, early))) s.1
            | inr more ↦ absurd (none_accepted s.0 a (omega (arith, late, more)) s.1)
          ],
    )

    -- who was told a node, or directs one, is in a round in which one is open
    told_inside : (n d : ℕ) (b : Corners) → d < c.ranks → Member b (told_of (at n) d r) → Member b (opened c.tags c.rule c.roots n)
    unfolding told opened
    told_inside zero d b less m = directed_open c is 0 d b less m
    told_inside (suc n) d b less m =
        let s = Member-from_below c.tags c.rule b (near_of (at n) d r) (subst (λ (l : List Corners). Member b l) (told_after n d less) m) in
        let f = Member-from_filter (λ b. near c r b) s.0 (open_of (at n) d) s.1 in
        Member-below c.tags c.rule s.0 b (opened c.tags c.rule c.roots n) (directed_open c is n d s.0 less f.0) s.2

    pub told_early : (n : ℕ) → list_any (λ d. was_told (at n) r d) ranks_of ≡ true → n < open_many
    told_early n h =
        let s = member_any (λ d. was_told (at n) r d) ranks_of h in
        let b = member_any (λ b. true) (told_of (at n) s.0 r) s.2 in
        open_early n (any_member (λ b. true) b.0 (opened c.tags c.rule c.roots n) (told_inside n s.0 b.0 (is_rank s.0 s.1) b.1) refl)

    pub directed_early : (n : ℕ) → some (open_of (at n) r) ≡ true → n < open_many
    directed_early n h =
        let b = member_any (λ b. true) (open_of (at n) r) h in
        open_early n (any_member (λ b. true) b.0 (opened c.tags c.rule c.roots n) (directed_open c is n r b.0 within b.1) refl)
