-- A Decide round against the whole.
use Rattle.std.proofs.Common.{◌≡◌, ◌≢◌, ℕ, suc, ◌<◌, refl, sym, ap, subst, ◌∙◌, inl, inr, arith, map, filter, ◌++◌, not, nat_eq}
use Rattle.std.proofs.lemmas.Cmp.{nat_cmp_total}
use Rattle.std.specs.Prelude.{Bool, true, false, ◌||◌, cond, List, [], ◌∷◌, ◌↔◌, if◌then◌else◌}
use Rattle.std.specs.List.{flat_map, list_any, range_with_len}
use Rattle.std.specs.List.Sorted.{IsStrictlySortedBy}
use Rattle.std.specs.Ordering.{nat_cmp}
use Rattle.samr_box.specs.Corners.{Corners}
use Rattle.samr_box.specs.Space.{finer}
use Rattle.samr_box.specs.Lists.{Member}
use Rattle.samr_box.proofs.Members.{Member-map, Member-from_map, Member-filter, Member-from_filter, Member-flat_map, Member-from_flat_map}
use Rattle.samr_level.proofs.Sorting.{Member-in_order, Member-from_in_order, sorted-in_order}
use Rattle.samr_level.proofs.RefLaws.{same_nat}
use Rattle.samr_level.proofs.Steps.{map_append}
use Rattle.samr_level.specs.Levels.{own_boxes}
use Rattle.samr_sign.specs.declared.decision.Decision.{Decision}
use Rattle.samr_sign.specs.declared.decision.Decision.TheVariants.{Drop, Accept, Split}
use Rattle.samr_sign.specs.Decide.{decide_of}
use Rattle.samr_sign.specs.Counts.{sign}
use Rattle.samr_rounds.specs.declared.owner.RankTags.{RankTags}
use Rattle.samr_rounds.specs.Clusters.{accepted, parts, decided}
use Rattle.samr_rounds.specs.Sorted.{sorted, corner_less}
use Rattle.samr_rounds.specs.Rounds.{below, told, directed}
use Rattle.samr_rounds.specs.Owners.{counts_of, owner_in}
use Rattle.samr_rounds.specs.Laws.{IsNode, AreNodes}
use Rattle.samr_rounds.proofs.Lists.{any_member, member_any}
use Rattle.samr_rounds.proofs.Open.{opened_nodes}
use Rattle.samr_rounds.proofs.NearLaws.{near_told}
use Rattle.samr_rounds.proofs.DirectedRoots.{each_directed}
use Rattle.samr_rounds.proofs.OwnerLaws.{near_owner}
use Rattle.samr_peers.proofs.PeerRows.{not_same, is_not_same, Member-range, Member-from_range}
use Rattle.samr_cluster.specs.declared.accepted.Accepted.{Accepted}
use Rattle.samr_cluster.specs.declared.nodes.Told.{Told}
use Rattle.samr_cluster.specs.declared.verdict.Verdict.{Verdict}
use Rattle.samr_cluster.specs.declared.verdict.Verdict.TheVariants.{Taken}
use Rattle.samr_cluster.specs.declared.verdict.Ruling.{Ruling}
use Rattle.samr_cluster.specs.declared.verdict.Judged.{Judged}
use Rattle.samr_cluster.specs.Cluster.{Clustering, IsClustering, near, near_to, accepted_in, owner}
use Rattle.samr_cluster.specs.Accepting.{accepted_as}
use Rattle.samr_cluster.specs.Rounds.{Round, open_of, told_of, near_of, directors, from_director, near_state, asked_of, directed_less, directed_after, counted_as, next}
use Rattle.samr_cluster.specs.DecideRow.{verdict_of, parts_in, parts_on, taken_in, verdict, ruling, judged_as, judge, told_to, rulings_for}
use Rattle.samr_cluster.specs.DecideParts.{other_directors, others_near}
use Rattle.samr_cluster.proofs.ListLaws.{among, is_among}
use Rattle.samr_cluster.proofs.NodeLaws.{near_below, near_member}
use Rattle.samr_cluster.proofs.SomeRowLaws.{flat_agree, flat_of_map, map_agree}

-- verdicts by decisions
parts_verdict : (d : Decision) (o : Corners → ℕ) (n : List ℕ) → parts_in (verdict_of d o n) ≡ parts d
parts_verdict Drop o n = refl
parts_verdict (Accept b) o n = refl
parts_verdict (Split p q) o n = refl

taken_verdict : (d : Decision) (o : Corners → ℕ) (n : List ℕ) → taken_in (verdict_of d o n) ≡ map (λ c. let a : Accepted = record { bx = c; owner = o c; near = n } in a) (accepted d)
taken_verdict Drop o n = refl
taken_verdict (Accept b) o n = refl
taken_verdict (Split p q) o n = refl

verdict_same : (d : Decision) (o p : Corners → ℕ) (n : List ℕ) → ((c : Corners) → Member c (accepted d) → o c ≡ p c) → verdict_of d o n ≡ verdict_of d p n
verdict_same Drop o p n h = refl
verdict_same (Accept b) o p n h = ap (λ (k : ℕ). Taken (record { bx = b; owner = k; near = n })) (h b (inl refl))
verdict_same (Split u v) o p n h = refl

same_tests : (a b : Bool) → (a ≡ true → b ≡ true) → (b ≡ true → a ≡ true) → a ≡ b
same_tests true b f g = sym (f refl)
same_tests false true f g = g refl
same_tests false false f g = refl

pub map_flat : {X Y Z : Type 0} (f : Y → Z) (g : X → List Y) (xs : List X) → map f (flat_map g xs) ≡ flat_map (λ x. map f (g x)) xs
map_flat f g [] = refl
map_flat f g (x ∷ xs) = map_append f (g x) (flat_map g xs) ∙ ap (λ l. map f (g x) ++ l) (map_flat f g xs)

pub map_of_map : {X Y Z : Type 0} (f : Y → Z) (g : X → Y) (xs : List X) → map f (map g xs) ≡ map (λ x. f (g x)) xs
map_of_map f g [] = refl
map_of_map f g (x ∷ xs) = ap (λ l. f (g x) ∷ l) (map_of_map f g xs)

pub picked_map : {X Y : Type 0} (t p : X → Bool) (v : X → Y) (xs : List X) → ((x : X) → t x ≡ p x) → flat_map (λ x. if t x then v x ∷ [] else []) xs ≡ map v (filter p xs)
picked_map t p v [] same = refl
picked_map t p v (x ∷ xs) same = by (t x) (p x) (same x) (picked_map t p v xs same)
  where
    by : (a b : Bool) → a ≡ b → flat_map (λ x. if t x then v x ∷ [] else []) xs ≡ map v (filter p xs)
        → (if a then v x ∷ [] else []) ++ flat_map (λ x. if t x then v x ∷ [] else []) xs ≡ map v (cond b (x ∷ filter p xs) (filter p xs))
    by true true e rest = ap (λ l. v x ∷ l) rest
    by true false e rest = cc
    by false true e rest = cc
    by false false e rest = rest

ranks_counted : (t : _) (level : _) (b : Corners) (ranks : List ℕ) → map (λ (n : RankTags). n.rank) (counts_of t level b ranks) ≡ ranks
unfolding counts_of
ranks_counted t level b [] = refl
ranks_counted t level b (r ∷ ranks) = ap (λ l. r ∷ l) (ranks_counted t level b ranks)

module _ (x : Round) (is : IsClustering x.whole) where
  abbrev w : Clustering
  w = x.whole

  -- the nodes that a director has open are nodes
  pub directed_nodes : (d : ℕ) → d < w.ranks → AreNodes (directed w.ranks d w.roots)
  directed_nodes d less b m = is.roots b ((each_directed w.ranks w.roots b (omega (arith, less))).1 (d, less, m))

  pub open_nodes : (d : ℕ) → d < w.ranks → AreNodes (open_of x d)
  open_nodes d less = opened_nodes w.tags w.rule (directed w.ranks d w.roots) x.number (directed_nodes d less)

  -- the tests for near
  pub near_test : (b : Corners) (r : ℕ) → r < w.ranks → list_any (λ k. nat_eq k r) (near_to w b) ≡ near w r b
  near_test b r less =
      same_tests (list_any (λ k. nat_eq k r) (near_to w b)) (near w r b)
      (λ t. (near_below w is b r (is_among r (near_to w b) t)).1)
      (λ t. among r (near_to w b) (near_member w is b r less t))

  -- the verdict from the counts
  pub judged_same : (b : Corners) → IsNode b → judge w.rule (counted_as w b) ≡ judged_as w b
  unfolding verdict decided
  judged_same b node =
      let ranks = ranks_counted w.tags w.level b (near_to w b) in
      let d = decide_of (sign w.tags b) w.rule in
      let same = verdict_same d (λ c. owner_in (counts_of w.tags w.level b (near_to w b))) (owner w) (near_to w b)
      (λ c m. (near_owner (finer w.frame w.ratio) w.width is.area w.ranks w.level w.tags w.rule b c is.width node is.level is.tags m).0) in
      ap (λ (n : List ℕ). let j : Judged = record { node = b; verdict = verdict_of d (λ c. owner_in (counts_of w.tags w.level b (near_to w b))) n; near = n } in j) ranks
      ∙ ap (λ (v : Verdict). let j : Judged = record { node = b; verdict = v; near = near_to w b } in j) same

  pub all_judged : (r : ℕ) → r < w.ranks → map (λ c. judge w.rule c) (map (λ b. counted_as w b) (open_of x r)) ≡ map (λ b. judged_as w b) (open_of x r)
  all_judged r less =
      map_of_map (λ c. judge w.rule c) (λ b. counted_as w b) (open_of x r)
      ∙ map_agree (λ b. judge w.rule (counted_as w b)) (λ b. judged_as w b) (open_of x r) (λ b m. judged_same b (open_nodes r less b m))

  -- the verdicts for a rank
  pub rulings_are : (d r : ℕ) → r < w.ranks → rulings_for r (map (λ b. judged_as w b) (open_of x d)) ≡ map (λ b. ruling w b) (near_of x d r)
  unfolding rulings_for
  rulings_are d r less =
      flat_of_map (λ j. told_to r j) (λ b. judged_as w b) (open_of x d)
      ∙ picked_map (λ b. list_any (λ k. nat_eq k r) (near_to w b)) (λ b. near w r b) (λ b. ruling w b) (open_of x d) (λ b. near_test b r less)

  -- what follows from the verdicts of a director
  parts_are : (nodes : List Corners) → parts_on (map (λ b. ruling w b) nodes) ≡ below w.tags w.rule nodes
  unfolding verdict parts_on below
  parts_are nodes =
      ap (sorted corner_less)
      (flat_of_map (λ (v : Ruling). parts_in v.verdict) (λ b. ruling w b) nodes
      ∙ flat_agree (λ b. parts_in (verdict w b)) (λ b. parts (decided w.tags w.rule b)) nodes
      (λ b m. parts_verdict (decided w.tags w.rule b) (owner w) (near_to w b)))

  pub told_by : (d r : ℕ) → d < w.ranks → from_director d (parts_on (map (λ b. ruling w b) (near_of x d r))) ≡ from_director d (told_of (next x) d r)
  unfolding told
  told_by d r less =
      ap (from_director d)
      (parts_are (near_of x d r)
      ∙ ap (below w.tags w.rule)
      (sym (near_told (finer w.frame w.ratio) w.width (own_boxes r w.level) w.tags w.rule (directed w.ranks d w.roots) x.number (directed_nodes d less))))

  pub taken_by : (nodes : List Corners) → flat_map (λ (v : Ruling). taken_in v.verdict) (map (λ b. ruling w b) nodes) ≡ flat_map (λ b. map (λ c. accepted_as w b c) (accepted_in w b)) nodes
  unfolding verdict
  taken_by nodes =
      flat_of_map (λ (v : Ruling). taken_in v.verdict) (λ b. ruling w b) nodes
      ∙ flat_agree (λ b. taken_in (verdict w b)) (λ b. map (λ c. accepted_as w b c) (accepted_in w b)) nodes
      (λ b m. taken_verdict (decided w.tags w.rule b) (owner w) (near_to w b))

  pub directed_by : (r : ℕ) → sorted directed_less (flat_map (λ j. asked_of j.near (parts_in j.verdict)) (map (λ b. judged_as w b) (open_of x r))) ≡ directed_after w r (suc x.number)
  unfolding verdict directed_after
  directed_by r =
      ap (sorted directed_less)
      (flat_of_map (λ j. asked_of j.near (parts_in j.verdict)) (λ b. judged_as w b) (open_of x r)
      ∙ flat_agree (λ b. asked_of (near_to w b) (parts_in (verdict w b))) (λ b. asked_of (near_to w b) (parts (decided w.tags w.rule b))) (open_of x r)
      (λ b m. ap (asked_of (near_to w b)) (parts_verdict (decided w.tags w.rule b) (owner w) (near_to w b))))

  -- nothing is told where no node is near
  pub none_near : (r : ℕ) (nodes : List Corners) → list_any (λ b. near w r b) nodes ≡ false → filter (λ b. near w r b) nodes ≡ []
  none_near r [] e = refl
  none_near r (b ∷ nodes) e = by (near w r b) e (none_near r nodes)
    where
      by : (v : Bool) → (v || list_any (λ b. near w r b) nodes) ≡ false → (list_any (λ b. near w r b) nodes ≡ false → filter (λ b. near w r b) nodes ≡ [])
          → cond v (b ∷ filter (λ b. near w r b) nodes) (filter (λ b. near w r b) nodes) ≡ []
      by true h rest = cc
      by false h rest = rest h

  -- the ranks that are told, and those that tell
  pub others_near_sorted : (r : ℕ) (judged : List Judged) → IsStrictlySortedBy nat_cmp (others_near r judged)
  unfolding others_near
  others_near_sorted r judged = sorted-in_order nat_cmp_total (flat_map (λ j. filter (λ k. not (nat_eq k r)) j.near) judged)

  pub near_others : (r k : ℕ) → Member k (others_near r (map (λ b. judged_as w b) (open_of x r))) ↔ ((k < w.ranks) × (k ≢ r) × (list_any (λ b. near w k b) (open_of x r) ≡ true))
  unfolding others_near
  near_others r k =
      let other : ℕ → Bool = λ k. not (nat_eq k r) in
      let judged = map (λ b. judged_as w b) (open_of x r) in
      let all = flat_map (λ j. filter other j.near) judged in (
        λ m.
            let s = Member-from_flat_map (λ (j : Judged). filter other j.near) k judged (Member-from_in_order nat_cmp_total k all m) in
            let f = Member-from_filter other k s.0.near s.2 in
            let t = Member-from_map (λ b. judged_as w b) s.0 (open_of x r) s.1 in
            let n = near_below w is t.0 k (subst (λ (j : Judged). Member k j.near) t.2 f.0) in
            (n.0, not_same k r f.1, any_member (λ b. near w k b) t.0 (open_of x r) t.1 n.1),
        λ p.
            let s = member_any (λ b. near w k b) (open_of x r) p.2 in
            Member-in_order nat_cmp_total same_nat k all
            (Member-flat_map (λ (j : Judged). filter other j.near) k (judged_as w s.0) judged (Member-map (λ b. judged_as w b) s.0 (open_of x r) s.1)
            (Member-filter other k (near_to w s.0) (near_member w is s.0 k p.0 s.2) (is_not_same k r p.1))),
      )

  pub other_directors_sorted : (r : ℕ) (nodes : List Told) → IsStrictlySortedBy nat_cmp (other_directors r nodes)
  unfolding other_directors
  other_directors_sorted r nodes = sorted-in_order nat_cmp_total (filter (λ k. not (nat_eq k r)) (map (λ t. t.director) nodes))

  pub Member-directors : (r k : ℕ) → k < w.ranks → k ≢ r → Member k (directors w r)
  Member-directors r k less other =
      inr (Member-filter (λ d. not (nat_eq d r)) k (range_with_len 0 w.ranks) (Member-range w.ranks 0 k (omega arith) (omega (arith, less))) (is_not_same k r other))

  pub directors_below : (r k : ℕ) → r < w.ranks → Member k (directors w r) → k < w.ranks
  directors_below r k less (inl e) = omega (arith, less, e)
  directors_below r k less (inr m) =
      let f = Member-from_filter (λ d. not (nat_eq d r)) k (range_with_len 0 w.ranks) m in
      let p = (Member-from_range w.ranks 0 k f.0).1 in
      omega (arith, p)

  pub near_directors : (r k : ℕ) → r < w.ranks → Member k (other_directors r (near_state x r)) ↔ ((k < w.ranks) × (k ≢ r) × (list_any (λ b. near w r b) (open_of x k) ≡ true))
  unfolding other_directors near_state
  near_directors r k less =
      let other : ℕ → Bool = λ k. not (nat_eq k r) in
      let told : List Told = flat_map (λ d. from_director d (near_of x d r)) (directors w r) in
      let ranks : List ℕ = map (λ t. t.director) told in (
        λ m.
            let f = Member-from_filter other k ranks (Member-from_in_order nat_cmp_total k (filter other ranks) m) in
            let s = Member-from_map (λ (t : Told). t.director) k told f.0 in
            let g = Member-from_flat_map (λ d. from_director d (near_of x d r)) s.0 (directors w r) s.1 in
            let t = Member-from_map (λ b. let t : Told = record { director = g.0; node = b } in t) s.0 (near_of x g.0 r) g.2 in
            let same : k ≡ g.0 = s.2 ∙ ap (λ (t : Told). t.director) t.2 in
            let n = Member-from_filter (λ b. near w r b) t.0 (open_of x g.0) t.1 in (
              subst (λ (v : ℕ). v < w.ranks) (sym same) (directors_below r g.0 less g.1),
              not_same k r f.1,
              subst (λ (v : ℕ). list_any (λ b. near w r b) (open_of x v) ≡ true) (sym same) (any_member (λ b. near w r b) t.0 (open_of x g.0) n.0 n.1),
            ),
        λ p.
            let s = member_any (λ b. near w r b) (open_of x k) p.2 in
            let node : Told = record { director = k; node = s.0 } in
            let here : Member node (from_director k (near_of x k r)) =
            Member-map (λ b. let t : Told = record { director = k; node = b } in t) s.0 (near_of x k r) (Member-filter (λ b. near w r b) s.0 (open_of x k) s.1 s.2) in
            let there = Member-flat_map (λ d. from_director d (near_of x d r)) node k (directors w r) (Member-directors r k p.0 p.1) here in
            Member-in_order nat_cmp_total same_nat k (filter other ranks)
            (Member-filter other k ranks (Member-map (λ (t : Told). t.director) node told there) (is_not_same k r p.1)),
      )
