-- A rank's stage of the reports against the whole.
use Rattle.std.proofs.Common.{◌≡◌, ℕ, ◌<◌, ◌^◌, refl, sym, ap, subst, ◌∙◌, arith, length, sum_by, map, filter, ◌++◌, take, drop, ◌≢◌}
use Rattle.std.proofs.lemmas.Bool.{false_from_ne_true}
use Rattle.std.specs.Prelude.{Bool, true, false, List, [], ◌∷◌, if◌then◌else◌}
use Rattle.std.specs.List.{All, flat_map, range_with_len}
use Rattle.samr_box.specs.declared.vector.IVec.{IVec}
use Rattle.samr_box.specs.Corners.{Corners}
use Rattle.samr_box.specs.Space.{Space, finer}
use Rattle.samr_box.specs.Lists.{Member}
use Rattle.samr_box.proofs.Members.{Member-map, All-from_members}
use Rattle.samr_level.specs.Levels.{own_boxes}
use Rattle.samr_stage.specs.declared.stage.Held.{Held}
use Rattle.samr_stage.specs.Row.{told, heard, column}
use Rattle.samr_peers.proofs.PeerRows.{along_picked}
use Rattle.samr_sign.specs.Counts.{Sign, sign, total}
use Rattle.samr_sign.specs.Fields.{Field}
use Rattle.samr_rounds.specs.declared.owner.RankTags.{RankTags}
use Rattle.samr_rounds.specs.Near.{is_near}
use Rattle.samr_rounds.specs.Owners.{own_tags, counts_of}
use Rattle.samr_rounds.specs.Ranks.{sum_of_signs}
use Rattle.samr_cluster.specs.declared.nodes.Told.{Told}
use Rattle.samr_cluster.specs.declared.nodes.Directed.{Directed}
use Rattle.samr_cluster.specs.declared.nodes.Counted.{Counted}
use Rattle.samr_cluster.specs.declared.nodes.Reported.{Reported}
use Rattle.samr_cluster.specs.Cluster.{Clustering, near, near_to}
use Rattle.samr_cluster.specs.Rounds.{Round, open_of, near_state, told_state, directed_after, counted_as}
use Rattle.samr_cluster.specs.SomeRows.{tells_some, some_row}
use Rattle.samr_cluster.specs.DecideParts.{other_directors, reported_state}
use Rattle.samr_cluster.specs.ReportRow.{was_told, signs_of, report_row, signs_for, count_below, with_own, signed, signs_on, tags_from, count_in}
use Rattle.samr_cluster.specs.ReportParts.{HasTold, HasSigned, others_asked, CanCount}
use Rattle.samr_cluster.proofs.SomeRowLaws.{map_agree, some_told, some_count, tells_from, tells_is}
use Rattle.samr_cluster.proofs.DecideLaws.{map_of_map, other_directors_sorted}
use Rattle.samr_cluster.proofs.ReportLists.{in_order_of_sender}
use Rattle.samr_cluster.proofs.ReportLaws.{near_is, signs_are, told_directors, others_asked_sorted, asked_others, nodes_directed, node, report, reported_by, untold, all_signs, all_sum, all_tags, few_tags}

no_truth : ◌≡◌ {A = Bool} true false → ⊥
no_truth h = cc

-- the start of the stage
module _ (rank : ℕ) (frame : Space) (fields : List Field) (nodes : List Told) (directed : List Directed) (width ratio : IVec) (x : Round) (r : ℕ) (h : HasTold rank frame fields nodes directed width ratio x r)
    (boxes : List Corners) (boxes_are : boxes ≡ map (λ f. f.bx) fields) (nears : List Told) (nears_are : nears ≡ filter (λ t. is_near (finer frame ratio) width boxes t.node) nodes) where
  pub starts_near : nears ≡ near_state x r
  starts_near =
      nears_are
      ∙ ap (λ (l : List Corners). filter (λ t. is_near (finer frame ratio) width l t.node) nodes) (boxes_are ∙ h.same_tags.same_boxes)
      ∙ ap (λ (s : Space). filter (λ t. is_near (finer s ratio) width (own_boxes r x.whole.level) t.node) nodes) h.same_frame
      ∙ ap (λ (v : IVec). filter (λ t. is_near (finer x.whole.frame v) width (own_boxes r x.whole.level) t.node) nodes) h.same_ratio
      ∙ ap (λ (v : IVec). filter (λ t. is_near (finer x.whole.frame x.whole.ratio) v (own_boxes r x.whole.level) t.node) nodes) h.same_width
      ∙ ap (filter (λ t. near x.whole r t.node)) h.same_told
      ∙ near_is x h.is r h.within

  pub starts_with : (own : List Sign) (senders : List ℕ) → own ≡ signs_for rank fields nears → senders ≡ others_asked rank directed → HasSigned rank nears own directed senders x r
  starts_with own senders o s = record {
    is = h.is;
    same_rank = h.same_rank;
    within = h.within;
    same_near = starts_near;
    same_own =
        o
        ∙ ap (λ (k : ℕ). signs_for k fields nears) h.same_rank
        ∙ ap (signs_for r fields) starts_near
        ∙ signs_are x h.is fields r r h.same_tags h.within h.within;
    same_directed = h.same_directed;
    same_senders = s ∙ ap (λ (k : ℕ). others_asked k directed) h.same_rank ∙ ap (others_asked r) h.same_directed;
  }

  pub starts_letters : (letters : List (ℕ × List Sign)) (directors : List ℕ) → letters ≡ map (λ to. (to, signs_for to fields nears)) directors → directors ≡ other_directors rank nodes
      → letters ≡ told (report_row x r) x.whole.ranks
  unfolding report_row
  starts_letters letters directors l d =
      let others = other_directors r (told_state x r) in
      l
      ∙ ap (map (λ (to : ℕ). (to, signs_for to fields nears))) (d ∙ ap (λ (k : ℕ). other_directors k nodes) h.same_rank ∙ ap (other_directors r) h.same_told)
      ∙ ap (λ (m : List Told). map (λ (to : ℕ). (to, signs_for to fields m)) others) starts_near
      ∙ map_agree (λ (to : ℕ). (to, signs_for to fields (near_state x r))) (λ (to : ℕ). (to, signs_of x r to)) others
      (λ to m. ap (λ (s : List Sign). (to, s)) (signs_are x h.is fields to r h.same_tags ((told_directors x h.is r to h.within).0 m).0 h.within))
      ∙ sym (some_told x.whole.ranks (λ from to. was_told x from to) (λ from to. signs_of x from to) r others h.within (other_directors_sorted x h.is r (told_state x r)) (λ k. told_directors x h.is r k h.within))

-- its end
module _ (rank : ℕ) (nears : List Told) (own : List Sign) (directed : List Directed) (senders : List ℕ) (x : Round) (r : ℕ) (h : HasSigned rank nears own directed senders x r) where
  abbrev w : Clustering
  w = x.whole

  pub counts : length senders ≡ sum_by (λ (held : Held (List Sign)). 1) (heard (column (report_row x) r) x.whole.ranks)
  unfolding report_row
  counts =
      ap length h.same_senders
      ∙ some_count x.whole.ranks (λ from to. was_told x from to) (λ from to. signs_of x from to) r (others_asked r (directed_after x.whole r x.number)) h.within
      (others_asked_sorted x h.is r (directed_after x.whole r x.number)) (λ k. asked_others x h.is r k h.within)

  abbrev letter : ℕ → Held (List Sign)
  letter k = record { sender = k; body = signs_of x k r }

  abbrev tells : ℕ → Bool
  tells k = tells_some w.ranks (λ from to. was_told x from to) k r

  not_itself : tells r ≡ false
  not_itself = false_from_ne_true (tells r) (λ t. (tells_from w.ranks (λ from to. was_told x from to) (λ from to. signs_of x from to) r r t).2 refl)

  silent : (k : ℕ) → k < w.ranks → k ≢ r → tells k ≡ false → was_told x k r ≡ false
  silent k less other e =
      false_from_ne_true (was_told x k r)
      (λ t. no_truth (sym (tells_is w.ranks (λ from to. was_told x from to) (λ from to. signs_of x from to) k r less h.within (λ same. other (sym same)) t) ∙ e))

  module _ (held : List (Held (List Sign))) (are : held ≡ heard (column (report_row x) r) x.whole.ranks) where
    held_are : held ≡ map letter (filter tells (range_with_len 0 w.ranks))
    unfolding report_row some_row
    held_are = are ∙ along_picked (λ from body. let l : Held (List Sign) = record { sender = from; body = body } in l) tells (λ k. signs_of x k r) w.ranks

    abbrev reports : List (Held (List Sign))
    reports = with_own r (signs_of x r r) held

    all_given : {Y : Type 0} (f : Held (List Sign) → List Y) (g : ℕ → List Y) → ((k : ℕ) → k < w.ranks → f (letter k) ≡ g k) → ((k : ℕ) → k < w.ranks → k ≢ r → tells k ≡ false → g k ≡ [])
        → flat_map f reports ≡ flat_map g (range_with_len 0 w.ranks)
    unfolding with_own
    all_given f g same none =
        ap (λ (l : List (Held (List Sign))). flat_map f (take (count_below r l) l ++ letter r ∷ drop (count_below r l) l)) held_are
        ∙ in_order_of_sender letter (λ (l : Held (List Sign)). l.sender) tells r (λ k. refl) not_itself f g w.ranks same none w.ranks 0 (omega arith) (omega arith) (omega (arith, h.within))

    module _ (b : Corners) (here : Member b (open_of x r)) where
      none_from : (k : ℕ) → k < w.ranks → k ≢ r → tells k ≡ false → report x h.is r h.within b here k ≡ []
      none_from k less other e =
          ap (λ (t : Bool). if t then sign (own_tags w.tags w.level k) b ∷ [] else []) (untold x h.is r h.within b here k (silent k less other e))

      signs_all : signs_on b reports ≡ map (λ k. sign (own_tags w.tags w.level k) b) (near_to w b)
      signs_all =
          all_given (λ (l : Held (List Sign)). signed b l.body) (report x h.is r h.within b here) (λ k less. reported_by x h.is r h.within b here k) none_from
          ∙ all_signs x h.is r h.within b here

      tags_all : flat_map (λ (l : Held (List Sign)). tags_from l.sender (signed b l.body)) reports ≡ counts_of w.tags w.level b (near_to w b)
      tags_all =
          all_given (λ (l : Held (List Sign)). tags_from l.sender (signed b l.body)) (λ k. tags_from k (report x h.is r h.within b here k))
          (λ k less. ap (tags_from k) (reported_by x h.is r h.within b here k)) (λ k less other e. ap (tags_from k) (none_from k less other e))
          ∙ all_tags x h.is r h.within b here

      counted : count_in reports b ≡ counted_as w b
      unfolding count_in
      counted =
          ap (λ (l : List Sign). let c : Counted = record { node = b; sum = sum_of_signs b l; tags = flat_map (λ (l : Held (List Sign)). tags_from l.sender (signed b l.body)) reports } in c) signs_all
          ∙ ap (λ (s : Sign). let c : Counted = record { node = b; sum = s; tags = flat_map (λ (l : Held (List Sign)). tags_from l.sender (signed b l.body)) reports } in c) (all_sum x h.is r h.within b here)
          ∙ ap (λ (l : List RankTags). let c : Counted = record { node = b; sum = sign w.tags b; tags = l } in c) tags_all

      can : CanCount reports b
      can = record { cells = (node x h.is r h.within b here).few; tags = subst (λ (l : List Sign). sum_by total l < 2 ^ 63) (sym signs_all) (few_tags x h.is r h.within b here) }

    same_reports : with_own rank own held ≡ reports
    same_reports = ap (λ (k : ℕ). with_own k own held) h.same_rank ∙ ap (λ (l : List Sign). with_own r l held) h.same_own

    can_each : (p : Directed) → Member p (directed_after w r x.number) → CanCount reports p.node
    can_each p m = can p.node (subst (λ l. Member p.node l) (nodes_directed x h.is r) (Member-map (λ (v : Directed). v.node) p (directed_after w r x.number) m))

    pub can_all : (all : List (Held (List Sign))) → all ≡ with_own rank own held → All (λ (p : Directed). CanCount all p.node) directed
    can_all all e =
        All-from_members (λ (p : Directed). CanCount all p.node) directed
        (λ p m. subst (λ l. CanCount l p.node) (sym (e ∙ same_reports)) (can_each p (subst (λ l. Member p l) h.same_directed m)))

    pub ends : (all : List (Held (List Sign))) (list : List Told) (sums : List Counted) → all ≡ with_own rank own held → list ≡ nears → sums ≡ map (λ p. count_in all p.node) directed
        → (let v : Reported = record { near = list; counted = sums } in v) ≡ reported_state x r
    ends all list sums e l s =
        ap (λ (m : List Told). let v : Reported = record { near = m; counted = sums } in v) (l ∙ h.same_near)
        ∙ ap (λ (m : List Counted). let v : Reported = record { near = near_state x r; counted = m } in v)
        (s
        ∙ ap (λ (m : List (Held (List Sign))). map (λ p. count_in m p.node) directed) (e ∙ same_reports)
        ∙ ap (map (λ (p : Directed). count_in reports p.node)) h.same_directed
        ∙ sym (map_of_map (λ b. count_in reports b) (λ (p : Directed). p.node) (directed_after w r x.number))
        ∙ ap (map (λ b. count_in reports b)) (nodes_directed x h.is r)
        ∙ map_agree (λ b. count_in reports b) (λ b. counted_as w b) (open_of x r) (λ b m. counted b m))
