-- A Report round against the whole.
use Rattle.std.proofs.Common.{◌≡◌, ◌≢◌, ℕ, zero, suc, ◌<◌, ◌^◌, refl, sym, ap, subst, ◌∙◌, inl, inr, arith, sum_by, map, filter, not, nat_eq}
use Rattle.std.proofs.lemmas.Cmp.{nat_cmp_total}
use Rattle.std.proofs.lemmas.Bool.{false_from_ne_true}
use Rattle.std.specs.Prelude.{Bool, true, false, ◌&&◌, ◌||◌, cond, List, [], ◌∷◌, ◌↔◌, if◌then◌else◌, Some}
use Rattle.std.specs.Option.{option_map_or}
use Rattle.std.specs.declared.cmp.Ordering.{Ordering}
use Rattle.std.specs.declared.cmp.Ordering.TheVariants.{Less, Equal, Greater}
use Rattle.std.proofs.lemmas.List.Concat.{flat_map_single}
use Rattle.std.specs.List.{flat_map, list_any, range_with_len, find}
use Rattle.std.specs.List.Sorted.{IsStrictlySortedBy}
use Rattle.std.specs.Ordering.{nat_cmp, is_eq, ordering_reverse}
use Rattle.samr_box.specs.declared.vector.Axis.TheVariants.{K}
use Rattle.samr_box.specs.declared.vector.IVec.{IVec}
use Rattle.samr_box.specs.Corners.{Corners, holds}
use Rattle.samr_box.specs.Orders.{corner_cmp}
use Rattle.samr_box.specs.Space.{finer}
use Rattle.samr_box.specs.Lists.{Member}
use Rattle.samr_box.proofs.Totals.{same_from_corner_cmp, corner_total}
use Rattle.samr_box.proofs.Members.{Member-map, Member-from_map, Member-filter, Member-from_filter, Member-flat_map, Member-from_flat_map}
use Rattle.samr_level.proofs.Searches.{filter-flat_map}
use Rattle.samr_level.proofs.Sorting.{Member-in_order, Member-from_in_order, sorted-in_order}
use Rattle.samr_level.proofs.RefLaws.{same_nat}
use Rattle.samr_level.specs.Levels.{own_boxes}
use Rattle.samr_sign.specs.Counts.{Sign, sign, total, tally}
use Rattle.samr_sign.specs.Fields.{Field, tagged, tagged_in, AreTags}
use Rattle.samr_sign.proofs.Sums.{sum_planes}
use Rattle.samr_sign.proofs.Tallies.{tally_most}
use Rattle.samr_rounds.specs.declared.owner.RankTags.{RankTags}
use Rattle.samr_rounds.specs.Clusters.{parts, decided}
use Rattle.samr_rounds.specs.Rounds.{below, opened, directed}
use Rattle.samr_rounds.specs.Owners.{own_tags, counts_of}
use Rattle.samr_rounds.specs.Ranks.{sum_of_signs}
use Rattle.samr_rounds.specs.Laws.{IsNode}
use Rattle.samr_rounds.proofs.Lists.{any_map, any_member, member_any, sum_map, sum_filter}
use Rattle.samr_rounds.proofs.Adding.{near_signs, own_counts}
use Rattle.samr_rounds.specs.Sorted.{sorted, corner_less}
use Rattle.samr_rounds.proofs.Sorting.{Member-from_sorted, map-sorted}
use Rattle.samr_rounds.proofs.NearLaws.{near_told, far_none}
use Rattle.samr_peers.proofs.PeerRows.{not_same, is_not_same, Member-from_range}
use Rattle.samr_cluster.specs.declared.nodes.Told.{Told}
use Rattle.samr_cluster.specs.declared.nodes.Directed.{Directed}
use Rattle.samr_cluster.specs.Cluster.{Clustering, IsClustering, near, near_to}
use Rattle.samr_cluster.specs.Rounds.{Round, open_of, told_of, near_of, directors, from_director, told_state, near_state, asked_of, directed_less, directed_after}
use Rattle.samr_cluster.specs.DecideParts.{other_directors}
use Rattle.samr_cluster.specs.ReportRow.{was_told, signs_of, sign_for, signs_for, signed, tags_from}
use Rattle.samr_cluster.specs.ReportParts.{others_asked}
use Rattle.samr_cluster.proofs.ListLaws.{same_number}
use Rattle.samr_cluster.proofs.NodeLaws.{near_below}
use Rattle.samr_cluster.proofs.SomeRowLaws.{flat_agree, flat_of_map, map_agree}
use Rattle.samr_cluster.proofs.DecideLaws.{map_flat, picked_map, directed_nodes, open_nodes, Member-directors, directors_below}
use Rattle.samr_cluster.proofs.AskedLaws.{asked_told}
use Rattle.samr_cluster.proofs.CountLaws.{is_equal}
use Rattle.samr_cluster.proofs.ReportLists.{filter_of_map, flat_flat, given_first}

no_truth : ◌≡◌ {A = Bool} true false → ⊥
no_truth h = cc

and_true : (b : Bool) → (b && true) ≡ b
and_true true = refl
and_true false = refl

and_false : (b : Bool) → (b && false) ≡ false
and_false true = refl
and_false false = refl

-- the tags of a rank are those of its fields
shared : {X : Type 0} (p q : X → Bool) (v : Bool) (xs : List X) → ((x : X) → Member x xs → p x ≡ (q x && v)) → list_any p xs ≡ (v && list_any q xs)
shared p q true [] h = refl
shared p q false [] h = refl
shared p q true (x ∷ xs) h = ap (λ (b : Bool). b || list_any p xs) (h x (inl refl) ∙ and_true (q x)) ∙ ap (λ (b : Bool). q x || b) (shared p q true xs (λ y m. h y (inr m)))
shared p q false (x ∷ xs) h = ap (λ (b : Bool). b || list_any p xs) (h x (inl refl) ∙ and_false (q x)) ∙ shared p q false xs (λ y m. h y (inr m))

pub field_tags : (w : Clustering) (r : ℕ) (fields : List Field) → AreTags (own_boxes r w.level) w.tags fields → (y : IVec) → tagged_in fields y ≡ own_tags w.tags w.level r y
unfolding own_tags
field_tags w r fields are y =
    shared (λ f. tagged f y) (λ f. holds f.bx y) (w.tags y) fields (λ f m. are.cells f y m)
    ∙ ap (λ (b : Bool). w.tags y && b) (sym (any_map (λ b. holds b y) (λ (f : Field). f.bx) fields) ∙ ap (λ (boxes : List Corners). list_any (λ b. holds b y) boxes) are.same_boxes)

pub field_sign : (w : Clustering) (r : ℕ) (fields : List Field) → AreTags (own_boxes r w.level) w.tags fields → (b : Corners) → sign (tagged_in fields) b ≡ sign (own_tags w.tags w.level r) b
field_sign w r fields are b = ap (λ (t : IVec → Bool). sign t b) (λ i y. field_tags w r fields are y i)

-- the signature of a node among those of nodes
self_equal : (o : Ordering) → o ≡ ordering_reverse o → is_eq o ≡ true
self_equal Less e = cc
self_equal Equal e = refl
self_equal Greater e = cc

box_itself : (b c : Corners) → b ≡ c → is_eq (corner_cmp c b) ≡ true
box_itself b c e = ap (λ (v : Corners). is_eq (corner_cmp c v)) e ∙ self_equal (corner_cmp c c) (corner_total.antisymm c c)

abbrev is_of : Corners → Sign → Bool
is_of b s = is_eq (corner_cmp s.bx b)

pub signed_found : (u : IVec → Bool) (b : Corners) (nodes : List Corners) → Member b nodes → signed b (map (λ c. sign u c) nodes) ≡ sign u b ∷ []
unfolding signed
signed_found u b [] m = absurd m
signed_found u b (c ∷ nodes) m = by (is_eq (corner_cmp c b)) refl (λ k. signed_found u b nodes k) m
  where
    by : (t : Bool) → is_eq (corner_cmp c b) ≡ t → (Member b nodes → signed b (map (λ c. sign u c) nodes) ≡ sign u b ∷ []) → Member b (c ∷ nodes)
        → option_map_or (λ (s : Sign). s ∷ []) (cond t (Some (sign u c)) (find (is_of b) (map (λ c. sign u c) nodes))) [] ≡ sign u b ∷ []
    by true e later k = ap (λ (v : Corners). sign u v ∷ []) (same_from_corner_cmp c b (is_equal (corner_cmp c b) e))
    by false e later (inl same) = absurd (no_truth (sym (box_itself b c same) ∙ e))
    by false e later (inr k) = later k

pub signed_missing : (u : IVec → Bool) (b : Corners) (nodes : List Corners) → (Member b nodes → ⊥) → signed b (map (λ c. sign u c) nodes) ≡ []
unfolding signed
signed_missing u b [] none = refl
signed_missing u b (c ∷ nodes) none = by (is_eq (corner_cmp c b)) refl (signed_missing u b nodes (λ k. none (inr k)))
  where
    by : (t : Bool) → is_eq (corner_cmp c b) ≡ t → signed b (map (λ c. sign u c) nodes) ≡ []
        → option_map_or (λ (s : Sign). s ∷ []) (cond t (Some (sign u c)) (find (is_of b) (map (λ c. sign u c) nodes))) [] ≡ []
    by true e later = absurd (none (inl (sym (same_from_corner_cmp c b (is_equal (corner_cmp c b) e)))))
    by false e later = later

flat_none : {X Y : Type 0} (xs : List X) → flat_map {X = X} {A = Y} (λ x. []) xs ≡ []
flat_none [] = refl
flat_none {X = X} {Y = Y} (x ∷ xs) = flat_none {X = X} {Y = Y} xs

empty_member : {X : Type 0} (xs : List X) (y : X) → list_any (λ x. true) xs ≡ false → Member y xs → ⊥
empty_member xs y e m = no_truth (sym (any_member (λ x. true) y xs m refl) ∙ e)

abbrev told_as : ℕ → Corners → Told
told_as d b = record { director = d; node = b }

abbrev asked_as : List ℕ → Corners → Directed
asked_as ranks b = record { node = b; asked = ranks }

module _ (x : Round) (is : IsClustering x.whole) where
  abbrev w : Clustering
  w = x.whole

  abbrev own : ℕ → IVec → Bool
  own r = own_tags w.tags w.level r

  -- the nodes that a rank is near, of those that it was told
  near_of_told : (d r : ℕ) → d < w.ranks → filter (λ b. near w r b) (told_of x d r) ≡ near_of x d r
  near_of_told d r less = near_told (finer w.frame w.ratio) w.width (own_boxes r w.level) w.tags w.rule (directed w.ranks d w.roots) x.number (directed_nodes x is d less)

  pub near_is : (r : ℕ) → r < w.ranks → filter (λ t. near w r t.node) (told_state x r) ≡ near_state x r
  unfolding told_state near_state
  near_is r within =
      filter-flat_map (λ (t : Told). near w r t.node) (λ d. from_director d (told_of x d r)) (directors w r)
      ∙ flat_agree (λ d. filter (λ (t : Told). near w r t.node) (from_director d (told_of x d r))) (λ d. from_director d (near_of x d r)) (directors w r)
      (λ d m. filter_of_map (λ (t : Told). near w r t.node) (told_as d) (told_of x d r) ∙ ap (from_director d) (near_of_told d r (directors_below x is r d within m)))

  -- its signatures for a director
  module _ (fields : List Field) (d r : ℕ) (are : AreTags (own_boxes r w.level) w.tags fields) where
    from_one : (k : ℕ) (t : Bool) → nat_eq k d ≡ t → flat_map (λ b. if t then sign (tagged_in fields) b ∷ [] else []) (near_of x k r) ≡ (if t then signs_of x r d else [])
    from_one k true e =
        flat_map_single (λ b. sign (tagged_in fields) b) (near_of x k r)
        ∙ map_agree (λ b. sign (tagged_in fields) b) (λ b. sign (own r) b) (near_of x k r) (λ b m. field_sign w r fields are b)
        ∙ ap (λ (j : ℕ). signs_of x r j) (same_number k d e)
    from_one k false e = flat_none (near_of x k r)

    pub signs_are : d < w.ranks → r < w.ranks → signs_for d fields (near_state x r) ≡ signs_of x r d
    unfolding signs_for near_state
    signs_are less within =
        flat_flat (λ t. sign_for d fields t) (λ k. from_director k (near_of x k r)) (directors w r)
        ∙ flat_agree (λ k. flat_map (λ t. sign_for d fields t) (from_director k (near_of x k r))) (λ k. if nat_eq k d then signs_of x r d else []) (directors w r)
        (λ k m. flat_of_map (λ t. sign_for d fields t) (told_as k) (near_of x k r) ∙ from_one k (nat_eq k d) refl)
        ∙ given_first (signs_of x r d) d r w.ranks within less

  -- whom it reports to
  pub told_directors : (r k : ℕ) → r < w.ranks → Member k (other_directors r (told_state x r)) ↔ ((k < w.ranks) × (k ≢ r) × (was_told x r k ≡ true))
  unfolding other_directors told_state
  told_directors r k less =
      let other : ℕ → Bool = λ k. not (nat_eq k r) in
      let told : List Told = flat_map (λ d. from_director d (told_of x d r)) (directors w r) in
      let ranks : List ℕ = map (λ t. t.director) told in (
        λ m.
            let f = Member-from_filter other k ranks (Member-from_in_order nat_cmp_total k (filter other ranks) m) in
            let s = Member-from_map (λ (t : Told). t.director) k told f.0 in
            let g = Member-from_flat_map (λ d. from_director d (told_of x d r)) s.0 (directors w r) s.1 in
            let t = Member-from_map (told_as g.0) s.0 (told_of x g.0 r) g.2 in
            let same : k ≡ g.0 = s.2 ∙ ap (λ (t : Told). t.director) t.2 in (
              subst (λ (v : ℕ). v < w.ranks) (sym same) (directors_below x is r g.0 less g.1),
              not_same k r f.1,
              subst (λ (v : ℕ). was_told x r v ≡ true) (sym same) (any_member (λ b. true) t.0 (told_of x g.0 r) t.1 refl),
            ),
        λ p.
            let s = member_any (λ b. true) (told_of x k r) p.2 in
            let node : Told = told_as k s.0 in
            let here : Member node (from_director k (told_of x k r)) = Member-map (told_as k) s.0 (told_of x k r) s.1 in
            let there = Member-flat_map (λ d. from_director d (told_of x d r)) node k (directors w r) (Member-directors x is r k p.0 p.1) here in
            Member-in_order nat_cmp_total same_nat k (filter other ranks)
            (Member-filter other k ranks (Member-map (λ (t : Told). t.director) node told there) (is_not_same k r p.1)),
      )

  -- who reports to it
  asked_below : (r k q : ℕ) (p : Directed) → Member p (directed_after w r q) → Member k p.asked → k < w.ranks
  unfolding directed_after
  asked_below r k zero p m n =
      let s = Member-from_map (asked_as (range_with_len 0 w.ranks)) p (directed w.ranks r w.roots) m in
      let g = (Member-from_range w.ranks 0 k (subst (λ (v : Directed). Member k v.asked) s.2 n)).1 in
      omega (arith, g)
  asked_below r k (suc q) p m n =
      let s = Member-from_flat_map (λ b. asked_of (near_to w b) (parts (decided w.tags w.rule b))) p (opened w.tags w.rule (directed w.ranks r w.roots) q)
      (Member-from_sorted directed_less p (flat_map (λ b. asked_of (near_to w b) (parts (decided w.tags w.rule b))) (opened w.tags w.rule (directed w.ranks r w.roots) q)) m) in
      let t = Member-from_map (asked_as (near_to w s.0)) p (parts (decided w.tags w.rule s.0)) s.2 in
      (near_below w is s.0 k (subst (λ (v : Directed). Member k v.asked) t.2 n)).0

  pub others_asked_sorted : (r : ℕ) (nodes : List Directed) → IsStrictlySortedBy nat_cmp (others_asked r nodes)
  unfolding others_asked
  others_asked_sorted r nodes = sorted-in_order nat_cmp_total (flat_map (λ p. filter (λ k. not (nat_eq k r)) p.asked) nodes)

  pub asked_others : (r k : ℕ) → r < w.ranks → Member k (others_asked r (directed_after w r x.number)) ↔ ((k < w.ranks) × (k ≢ r) × (was_told x k r ≡ true))
  unfolding others_asked
  asked_others r k less =
      let other : ℕ → Bool = λ k. not (nat_eq k r) in
      let nodes = directed_after w r x.number in
      let all = flat_map (λ p. filter other p.asked) nodes in (
        λ m.
            let s = Member-from_flat_map (λ (p : Directed). filter other p.asked) k nodes (Member-from_in_order nat_cmp_total k all m) in
            let f = Member-from_filter other k s.0.asked s.2 in
            let rank = asked_below r k x.number s.0 s.1 f.0 in
            let here = (asked_told w is r k less rank x.number s.0.node).1 (s.0, s.1, refl, f.0) in
            (rank, not_same k r f.1, any_member (λ b. true) s.0.node (told_of x r k) here refl),
        λ p.
            let s = member_any (λ b. true) (told_of x r k) p.2 in
            let d = (asked_told w is r k less p.0 x.number s.0).0 s.1 in
            Member-in_order nat_cmp_total same_nat k all
            (Member-flat_map (λ (p : Directed). filter other p.asked) k d.0 nodes d.1 (Member-filter other k d.0.asked d.3 (is_not_same k r p.1))),
      )

  -- the nodes that it directs
  nodes_asked : (ranks : List ℕ) (nodes : List Corners) → map (λ (p : Directed). p.node) (asked_of ranks nodes) ≡ nodes
  nodes_asked ranks [] = refl
  nodes_asked ranks (b ∷ nodes) = ap (λ l. b ∷ l) (nodes_asked ranks nodes)

  nodes_after : (r q : ℕ) → map (λ (p : Directed). p.node) (directed_after w r q) ≡ opened w.tags w.rule (directed w.ranks r w.roots) q
  unfolding directed_after opened below
  nodes_after r zero = nodes_asked (range_with_len 0 w.ranks) (directed w.ranks r w.roots)
  nodes_after r (suc q) =
      map-sorted (λ (p : Directed). p.node) corner_less (flat_map (λ b. asked_of (near_to w b) (parts (decided w.tags w.rule b))) (opened w.tags w.rule (directed w.ranks r w.roots) q))
      ∙ ap (sorted corner_less)
      (map_flat (λ (p : Directed). p.node) (λ b. asked_of (near_to w b) (parts (decided w.tags w.rule b))) (opened w.tags w.rule (directed w.ranks r w.roots) q)
      ∙ flat_agree (λ b. map (λ (p : Directed). p.node) (asked_of (near_to w b) (parts (decided w.tags w.rule b)))) (λ b. parts (decided w.tags w.rule b)) (opened w.tags w.rule (directed w.ranks r w.roots) q)
      (λ b m. nodes_asked (near_to w b) (parts (decided w.tags w.rule b))))

  pub nodes_directed : (r : ℕ) → map (λ (p : Directed). p.node) (directed_after w r x.number) ≡ open_of x r
  nodes_directed r = nodes_after r x.number

  -- what the ranks report of a node
  module _ (r : ℕ) (within : r < w.ranks) (b : Corners) (here : Member b (open_of x r)) where
    pub node : IsNode b
    node = open_nodes x is r within b here

    abbrev pub report : ℕ → List Sign
    report k = if near w k b then sign (own k) b ∷ [] else []

    pub reported_by : (k : ℕ) → signed b (signs_of x k r) ≡ report k
    reported_by k = by (near w k b) refl
      where
        by : (t : Bool) → near w k b ≡ t → signed b (signs_of x k r) ≡ (if t then sign (own k) b ∷ [] else [])
        by true e = signed_found (own k) b (near_of x r k) (Member-filter (λ b. near w k b) b (open_of x r) here e)
        by false e = signed_missing (own k) b (near_of x r k) (λ m. no_truth (sym (Member-from_filter (λ b. near w k b) b (open_of x r) m).1 ∙ e))

    pub untold : (k : ℕ) → was_told x k r ≡ false → near w k b ≡ false
    untold k e =
        false_from_ne_true (near w k b)
        (λ t. empty_member (told_of x r k) b e (Member-from_filter (λ b. near w k b) b (told_of x r k)
        (subst (λ l. Member b l) (sym (near_of_told r k within)) (Member-filter (λ b. near w k b) b (open_of x r) here t))).0)

    -- and what all of them come to
    pub all_signs : flat_map report (range_with_len 0 w.ranks) ≡ map (λ k. sign (own k) b) (near_to w b)
    all_signs = picked_map (λ k. near w k b) (λ k. near w k b) (λ k. sign (own k) b) (range_with_len 0 w.ranks) (λ k. refl)

    pub all_sum : sum_of_signs b (map (λ k. sign (own k) b) (near_to w b)) ≡ sign w.tags b
    all_sum = near_signs (finer w.frame w.ratio) w.width is.area w.ranks w.level w.tags b is.width node.whole is.level is.tags

    tags_of_one : (k : ℕ) (t : Bool) → tags_from k (if t then sign (own k) b ∷ [] else []) ≡ (if t then (let c : RankTags = record { rank = k; tags = tally (own k) b } in c) ∷ [] else [])
    tags_of_one k true = ap (λ (n : ℕ). (let c : RankTags = record { rank = k; tags = n } in c) ∷ []) (sum_planes K (own k) b)
    tags_of_one k false = refl

    pub all_tags : flat_map (λ k. tags_from k (report k)) (range_with_len 0 w.ranks) ≡ counts_of w.tags w.level b (near_to w b)
    unfolding counts_of
    all_tags =
        flat_agree (λ k. tags_from k (report k)) (λ k. if near w k b then (let c : RankTags = record { rank = k; tags = tally (own k) b } in c) ∷ [] else []) (range_with_len 0 w.ranks)
        (λ k m. tags_of_one k (near w k b))
        ∙ picked_map (λ k. near w k b) (λ k. near w k b) (λ k. let c : RankTags = record { rank = k; tags = tally (own k) b } in c) (range_with_len 0 w.ranks) (λ k. refl)

    pub few_tags : sum_by total (map (λ k. sign (own k) b) (near_to w b)) < 2 ^ 63
    few_tags =
        let one_by_one : sum_by total (map (λ k. sign (own k) b) (near_to w b)) ≡ sum_by (λ k. total (sign (own k) b)) (near_to w b) = sum_map total (λ k. sign (own k) b) (near_to w b) in
        let tallies : sum_by (λ k. total (sign (own k) b)) (near_to w b) ≡ sum_by (λ k. tally (own k) b) (near_to w b) = ap (λ (f : ℕ → ℕ). sum_by f (near_to w b)) (λ i k. sum_planes K (own k) b i) in
        let near_all = sum_filter (λ k. near w k b) (λ k. tally (own k) b) (range_with_len 0 w.ranks)
        (λ k far. far_none (finer w.frame w.ratio) w.width w.tags w.level k b is.width node.whole far) in
        let all = own_counts is.area w.ranks w.level w.tags b is.level is.tags in
        let most = tally_most w.tags b in
        let few = node.few in
        omega (arith, one_by_one, tallies, near_all, all, most, few)
