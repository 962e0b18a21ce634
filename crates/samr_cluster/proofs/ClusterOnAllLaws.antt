-- The rounds of a clustering on all ranks, and what they come to.
use Rattle.std.proofs.Common.{◌≡◌, ℕ, ◌+◌, ◌<◌, ◌≤◌, refl, sym, ap, subst, ◌∙◌, inl, inr, arith, length, map, filter, ◌++◌, not, nat_eq, add-one}
use Rattle.std.proofs.lemmas.Bool.{cases_lt}
use Rattle.std.proofs.lemmas.List.{same_lists, length-map, flat_map_more}
use Rattle.std.proofs.lemmas.List.FromFn.{length-map-range_with_len, get_or-map-range_with_len, map-range_with_len_more}
use Rattle.std.proofs.lemmas.Option.{slice_get-get_or, slice_get_within, slice_get-map}
use Rattle.std.specs.Prelude.{Bool, true, false, cond, List, [], ◌∷◌, ◌↔◌, get_or, Option, Some, None, slice_get, option_map, if◌then◌else◌}
use Rattle.std.specs.List.{All, flat_map, range_with_len}
use Rattle.samr_box.specs.declared.vector.IVec.{IVec}
use Rattle.samr_box.specs.Corners.{Corners}
use Rattle.samr_box.specs.Space.{Space}
use Rattle.samr_box.specs.Lists.{Member}
use Rattle.samr_box.proofs.Members.{Member-flat_map, Member-from_flat_map, Member-from_map, Member-from_filter, All-from_members, member_of_All}
use Rattle.samr_stage.specs.Exchange.{AreResults}
use Rattle.samr_sign.specs.declared.rule.CutRule.{CutRule}
use Rattle.samr_sign.specs.Fields.{Field}
use Rattle.samr_sign.specs.Laws.{depth}
use Rattle.samr_rounds.specs.Rounds.{opened, told, directed}
use Rattle.samr_rounds.proofs.Open.{rounds_end}
use Rattle.samr_peers.proofs.PeerRows.{Member-range}
use Rattle.samr_cluster.specs.declared.accepted.Accepted.{Accepted}
use Rattle.samr_cluster.specs.declared.nodes.Told.{Told}
use Rattle.samr_cluster.specs.declared.nodes.OpenNodes.{OpenNodes}
use Rattle.samr_cluster.specs.declared.nodes.Reported.{Reported}
use Rattle.samr_cluster.specs.declared.nodes.Decided.{Decided}
use Rattle.samr_cluster.specs.Cluster.{Clustering, near, accepted_in}
use Rattle.samr_cluster.specs.Accepting.{accepted_as, near_accepted}
use Rattle.samr_cluster.specs.Rounds.{Round, open_of, near_of, directors, from_director, told_state, directed_after, accepted_state}
use Rattle.samr_cluster.specs.DecideParts.{HaveAllReported, reported_state, decided_state}
use Rattle.samr_cluster.specs.ReportParts.{HaveAllTold}
use Rattle.samr_cluster.specs.EdgesParts.{HaveAllAccepted}
use Rattle.samr_cluster.specs.ClusterOnAll.{first_told, first_nodes, nodes_after, in_rounds, HaveAllTags}
use Rattle.samr_cluster.proofs.RoundLaws.{directed_open, rounds_tell}
use Rattle.samr_cluster.proofs.DecideLaws.{map_of_map, directors_below}

-- the list of a function over all ranks
some_same : {X : Type 0} (x y : X) → Some x ≡ Some y → x ≡ y
some_same x y e = cc

pub at_map : {X : Type 0} (f : ℕ → X) (xs : List X) (n k : ℕ) (x : X) → xs ≡ map f (range_with_len 0 n) → slice_get xs k ≡ Some x → (k < n) × (x ≡ f k)
at_map f xs n k x is got =
    let within = slice_get_within xs k x got in
    let long : length xs ≡ n = ap length is ∙ length-map-range_with_len f 0 n in
    let less : k < n = omega (arith, within, long) in (
      less,
      some_same x (f k) (sym got ∙ slice_get-get_or xs k x within ∙ ap (λ l. Some (get_or l k x)) is ∙ ap Some (get_or-map-range_with_len f 0 n k k x less (omega arith))),
    )

pub all_results : {W O : Type 0} (f : W → ℕ → O) (w : W) (n : ℕ) (outs : List O) → length outs ≡ n → AreResults (λ w rank out. out ≡ f w rank) w outs → outs ≡ map (f w) (range_with_len 0 n)
all_results f w n outs long are =
    same_lists outs (map (f w) (range_with_len 0 n)) (long ∙ sym (length-map-range_with_len (f w) 0 n))
    (λ k d less. are k (get_or outs k d) (slice_get-get_or outs k d less) ∙ sym (get_or-map-range_with_len (f w) 0 n k k d (omega (arith, less, long)) (omega arith)))

pub in_map : {X Y : Type 0} (f : X → Y) (xs : List X) (k : ℕ) (y : Y) → slice_get (map f xs) k ≡ Some y → (x : X) × (slice_get xs k ≡ Some x) × (y ≡ f x)
in_map {X = X} f xs k y got = by (slice_get xs k) refl (sym (slice_get-map f xs k) ∙ got)
  where
    by : (o : Option X) → slice_get xs k ≡ o → option_map f o ≡ Some y → (x : X) × (slice_get xs k ≡ Some x) × (y ≡ f x)
    by None e h = absurd (no_some h)
      where
        no_some : None ≡ Some y → ⊥
        no_some g = cc
    by (Some x) e h = (x, e, some_same y (f x) (sym h))

pub kept_given : {X Y : Type 0} (t : X → Bool) (g : X → List Y) (xs : List X) → flat_map (λ x. if t x then g x else []) xs ≡ flat_map g (filter t xs)
kept_given t g [] = refl
kept_given t g (x ∷ xs) = by (t x) (kept_given t g xs)
  where
    by : (b : Bool) → flat_map (λ x. if t x then g x else []) xs ≡ flat_map g (filter t xs)
        → (if b then g x else []) ++ flat_map (λ x. if t x then g x else []) xs ≡ flat_map g (cond b (x ∷ filter t xs) (filter t xs))
    by true rest = ap (λ l. g x ++ l) rest
    by false rest = rest

abbrev pub at_round : Clustering → ℕ → Round
at_round w n = record { whole = w; number = n }

abbrev pub nodes_at : Clustering → ℕ → ℕ → OpenNodes
nodes_at w n r = record { told = told_state (at_round w n) r; directed = directed_after w r n }

abbrev pub all_nodes : Clustering → ℕ → List OpenNodes
all_nodes w n = map (λ r. nodes_at w n r) (range_with_len 0 w.ranks)

-- the first nodes, and the next
pub nodes_begin : (w : Clustering) → map (λ r. first_nodes w.ranks w.roots r) (range_with_len 0 w.ranks) ≡ all_nodes w 0
unfolding first_told told_state directed_after told
nodes_begin w = refl

pub nodes_go_on : (w : Clustering) (n : ℕ) (decided : List Decided) (nodes : List OpenNodes) → decided ≡ map (λ r. decided_state (at_round w n) r) (range_with_len 0 w.ranks) → nodes ≡ map (λ o. nodes_after o) decided
    → nodes ≡ all_nodes w (n + 1)
nodes_go_on w n decided nodes d e =
    e
    ∙ ap (map (λ o. nodes_after o)) d
    ∙ map_of_map (λ o. nodes_after o) (λ r. decided_state (at_round w n) r) (range_with_len 0 w.ranks)
    ∙ ap (all_nodes w) (sym (add-one n))

pub rounds_go_on : (w : Clustering) (n : ℕ) (decided : List Decided) (before after : List (List (List Accepted))) → decided ≡ map (λ r. decided_state (at_round w n) r) (range_with_len 0 w.ranks)
    → before ≡ in_rounds w n → after ≡ before ++ map (λ o. o.accepted) decided ∷ [] → after ≡ in_rounds w (n + 1)
unfolding in_rounds
rounds_go_on w n decided before after d b e =
    let row : ℕ → List (List Accepted) = λ q. map (λ r. accepted_state (at_round w q) r) (range_with_len 0 w.ranks) in
    e
    ∙ ap (λ (l : List (List (List Accepted))). l ++ map (λ (o : Decided). o.accepted) decided ∷ []) b
    ∙ ap (λ (l : List (List Accepted)). map row (range_with_len 0 n) ++ l ∷ [])
    (ap (map (λ (o : Decided). o.accepted)) d ∙ map_of_map (λ (o : Decided). o.accepted) (λ r. decided_state (at_round w n) r) (range_with_len 0 w.ranks))
    ∙ sym (map-range_with_len_more row 0 n n (omega arith))

-- a round's parts
module _ (frame : Space) (fields : List (List Field)) (roots : List Corners) (rule : CutRule) (width ratio : IVec) (w : Clustering) (h : HaveAllTags frame fields roots rule width ratio w) where
  pub told_on_all : (n : ℕ) (nodes : List OpenNodes) → nodes ≡ all_nodes w n → HaveAllTold frame fields nodes width ratio (at_round w n)
  told_on_all n nodes e = record {
    same_ranks = ap length e ∙ length-map-range_with_len (λ r. nodes_at w n r) 0 w.ranks;
    part = λ r f v got here.
        let at = at_map (λ r. nodes_at w n r) nodes w.ranks r v e here in
        record {
          is = h.is;
          same_rank = refl;
          within = at.0;
          same_frame = h.same_frame;
          same_tags = h.same_tags r f got;
          same_told = ap (λ (o : OpenNodes). o.told) at.1;
          same_directed = ap (λ (o : OpenNodes). o.directed) at.1;
          same_width = h.same_width;
          same_ratio = h.same_ratio;
        };
  }

  -- no node is open behind the depth of all roots
  module _ (n : ℕ) (deep : All (λ b. depth b ≤ n) roots) where
    none_open : (q : ℕ) → n ≤ q → opened w.tags w.rule w.roots q ≡ []
    none_open q late =
        rounds_end w.tags w.rule q w.roots h.is.roots
        (λ b m. let p = member_of_All (λ b. depth b ≤ n) b roots deep (subst (λ l. Member b l) (sym h.same_roots) m) in omega (arith, p, late))

    none_accepted : (q r : ℕ) (a : Accepted) → n ≤ q → r < w.ranks → Member a (accepted_state (at_round w q) r) → ⊥
    unfolding accepted_state
    none_accepted q r a late less m =
        let taken : Corners → List Accepted = λ b. map (λ c. accepted_as w b c) (accepted_in w b) in
        let s = Member-from_flat_map (λ d. flat_map taken (near_of (at_round w q) d r)) a (directors w r) m in
        let t = Member-from_flat_map taken a (near_of (at_round w q) s.0 r) s.2 in
        let f = Member-from_filter (λ b. near w r b) t.0 (open_of (at_round w q) s.0) t.1 in
        subst (λ l. Member t.0 l) (none_open q late) (directed_open w h.is q s.0 t.0 (directors_below (at_round w q) h.is r s.0 less s.1) f.0)

    -- so the rounds tell each rank all that is accepted near it
    pub told_in_all : (r : ℕ) (a : Accepted) → r < w.ranks → Member a (flat_map (λ q. accepted_state (at_round w q) r) (range_with_len 0 n)) ↔ Member a (near_accepted w r)
    told_in_all r a less = (
      λ m.
          let s = Member-from_flat_map (λ q. accepted_state (at_round w q) r) a (range_with_len 0 n) m in
          (rounds_tell w h.is r a less).1 (s.0, s.2),
      λ m.
          let s = (rounds_tell w h.is r a less).0 m in
          elim (cases_lt s.0 n) [
            | inl early ↦ Member-flat_map (λ q. accepted_state (at_round w q) r) a s.0 (range_with_len 0 n) (Member-range n 0 s.0 (omega arith) (omega (arith, early))) s.1
            | inr late ↦ absurd (none_accepted s.0 r a late less s.1)
          ],
    )

    rounds_of_rank : (r : ℕ) → r < w.ranks → flat_map (λ q. get_or q r []) (in_rounds w n) ≡ flat_map (λ q. accepted_state (at_round w q) r) (range_with_len 0 n)
    unfolding in_rounds
    rounds_of_rank r less =
        let row : ℕ → List (List Accepted) = λ q. map (λ r. accepted_state (at_round w q) r) (range_with_len 0 w.ranks) in
        each (range_with_len 0 n)
      where
        each : (qs : List ℕ) → flat_map (λ q. get_or q r []) (map (λ q. map (λ r. accepted_state (at_round w q) r) (range_with_len 0 w.ranks)) qs) ≡ flat_map (λ q. accepted_state (at_round w q) r) qs
        each [] = refl
        each (q ∷ qs) =
            ap (λ (l : List Accepted). l ++ flat_map (λ q. get_or q r []) (map (λ q. map (λ r. accepted_state (at_round w q) r) (range_with_len 0 w.ranks)) qs))
            (get_or-map-range_with_len (λ r. accepted_state (at_round w q) r) 0 w.ranks r r [] less (omega arith))
            ∙ ap (λ (l : List Accepted). accepted_state (at_round w q) r ++ l) (each qs)

    pub accepted_on_all : (rounds : List (List (List Accepted))) (boxes : List (List Corners)) (accepted : List (List Accepted)) → rounds ≡ in_rounds w n → boxes ≡ map (λ l. map (λ f. f.bx) l) fields
        → accepted ≡ map (λ r. flat_map (λ q. get_or q r []) rounds) (range_with_len 0 (length fields)) → HaveAllAccepted frame boxes accepted width ratio w
    accepted_on_all rounds boxes accepted e b a = record {
      same_ranks = ap length b ∙ length-map fields (λ l. map (λ f. f.bx) l) ∙ h.same_ranks;
      part = λ r own near got here.
          let f = in_map (λ l. map (λ (f : Field). f.bx) l) fields r own (ap (λ l. slice_get l r) (sym b) ∙ got) in
          let at = at_map (λ r. flat_map (λ q. get_or q r []) rounds) accepted (length fields) r near a here in
          let within = at.0 in
          let same = h.same_ranks in
          let less : r < w.ranks = omega (arith, within, same) in
          let list : near ≡ flat_map (λ q. accepted_state (at_round w q) r) (range_with_len 0 n) = at.1 ∙ ap (flat_map (λ q. get_or q r [])) e ∙ rounds_of_rank r less in
          record {
            is = h.is;
            same_rank = refl;
            within = less;
            same_frame = h.same_frame;
            same_boxes = f.2 ∙ (h.same_tags r f.0 f.1).same_boxes;
            same_accepted = λ v. subst (λ l. Member v l ↔ Member v (near_accepted w r)) (sym list) (told_in_all r v less);
            same_width = h.same_width;
            same_ratio = h.same_ratio;
          };
    }

pub rounds_long : (w : Clustering) (n m : ℕ) (rounds : List (List (List Accepted))) → rounds ≡ in_rounds w n → m ≡ w.ranks → All (λ q. m ≤ length q) rounds
unfolding in_rounds
rounds_long w n m rounds e same =
    All-from_members (λ q. m ≤ length q) rounds
    (λ l k.
    let s = Member-from_map (λ q. map (λ r. accepted_state (at_round w q) r) (range_with_len 0 w.ranks)) l (range_with_len 0 n) (subst (λ v. Member l v) e k) in
    let long = ap length s.2 ∙ length-map-range_with_len (λ r. accepted_state (at_round w s.0) r) 0 w.ranks in
    omega (arith, long, same))

pub reported_on_all : (x : Round) (frame : Space) (fields : List (List Field)) (nodes : List OpenNodes) (width ratio : IVec) (rule : CutRule) (outs : List Reported) → HaveAllTold frame fields nodes width ratio x
    → length fields ≡ length nodes → length outs ≡ length nodes → AreResults (λ x rank out. out ≡ reported_state x rank) x outs → rule ≡ x.whole.rule → HaveAllReported outs rule x
reported_on_all x frame fields nodes width ratio rule outs h same long are e = record {
  same_ranks = long ∙ h.same_ranks;
  part = λ r v got.
      let within = slice_get_within outs r v got in
      let node = slice_get-get_or nodes r (let o : OpenNodes = record { told = []; directed = [] } in o) (omega (arith, within, long)) in
      let field = slice_get-get_or fields r [] (omega (arith, within, long, same)) in
      let part = h.part r _ _ field node in
      record {
        is = part.is;
        same_rank = refl;
        within = part.within;
        same_rule = e;
        same_reported = are r v got;
      };
}

-- loops over the ranks
pub one_pushed : {X : Type 0} (f : ℕ → X) (n : ℕ) (before after : List X) (v : X) → after ≡ before ++ v ∷ [] → before ≡ map f (range_with_len 0 n) → v ≡ f n → after ≡ map f (range_with_len 0 (n + 1))
one_pushed f n before after v e b s =
    e ∙ ap (λ l. l ++ v ∷ []) b ∙ ap (λ y. map f (range_with_len 0 n) ++ y ∷ []) s ∙ sym (map-range_with_len_more f 0 n n (omega arith))

map_same : {X : Type 0} (xs : List X) → map (λ x. x) xs ≡ xs
map_same [] = refl
map_same (x ∷ xs) = ap (λ l. x ∷ l) (map_same xs)

pub range_more : (n : ℕ) → range_with_len 0 (n + 1) ≡ range_with_len 0 n ++ n ∷ []
range_more n =
    sym (map_same (range_with_len 0 (n + 1)))
    ∙ map-range_with_len_more (λ (k : ℕ). k) 0 n n (omega arith)
    ∙ ap (λ l. l ++ n ∷ []) (map_same (range_with_len 0 n))

pub one_given : {X : Type 0} (g : ℕ → List X) (n : ℕ) (head before after : List X) → after ≡ before ++ g n → before ≡ head ++ flat_map g (range_with_len 0 n) → after ≡ head ++ flat_map g (range_with_len 0 (n + 1))
one_given g n head before after e b =
    e
    ∙ ap (λ l. l ++ g n) b
    ∙ flat_map_more g head (range_with_len 0 n) n
    ∙ ap (λ l. head ++ flat_map g l) (sym (range_more n))

pub first_told_is : (ranks : ℕ) (roots : List Corners) (r n : ℕ) (list : List Told)
    → list ≡ from_director r (directed ranks r roots) ++ flat_map (λ d. if not (nat_eq d r) then from_director d (directed ranks d roots) else []) (range_with_len 0 n) → n ≡ ranks → list ≡ first_told ranks roots r
unfolding first_told
first_told_is ranks roots r n list e same =
    e
    ∙ ap (λ (k : ℕ). from_director r (directed ranks r roots) ++ flat_map (λ d. if not (nat_eq d r) then from_director d (directed ranks d roots) else []) (range_with_len 0 k)) same
    ∙ ap (λ l. from_director r (directed ranks r roots) ++ l) (kept_given (λ d. not (nat_eq d r)) (λ d. from_director d (directed ranks d roots)) (range_with_len 0 ranks))

-- the loop over the rounds
pub nodes_first : (w : Clustering) (ranks : ℕ) (roots : List Corners) (nodes : List OpenNodes) → nodes ≡ map (λ r. first_nodes ranks roots r) (range_with_len 0 ranks) → ranks ≡ w.ranks → roots ≡ w.roots → nodes ≡ all_nodes w 0
nodes_first w ranks roots nodes e same those =
    e
    ∙ ap (λ (n : ℕ). map (λ r. first_nodes n roots r) (range_with_len 0 n)) same
    ∙ ap (λ (l : List Corners). map (λ r. first_nodes w.ranks l r) (range_with_len 0 w.ranks)) those
    ∙ nodes_begin w

pub rounds_first : (w : Clustering) → in_rounds w 0 ≡ []
unfolding in_rounds
rounds_first w = refl

pub nodes_long : (w : Clustering) (n : ℕ) (nodes : List OpenNodes) → nodes ≡ all_nodes w n → length nodes ≡ w.ranks
nodes_long w n nodes e = ap length e ∙ length-map-range_with_len (λ r. nodes_at w n r) 0 w.ranks
