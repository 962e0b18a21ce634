-- A rank's stage of the decisions against the whole.
use Rattle.std.proofs.Common.{◌≡◌, ℕ, suc, refl, sym, ap, ◌∙◌, map, ◌++◌, length, sum_by}
use Rattle.std.specs.Prelude.{Bool, List, []}
use Rattle.std.specs.List.{flat_map, list_any}
use Rattle.samr_box.specs.Corners.{Corners}
use Rattle.samr_stage.specs.declared.stage.Held.{Held}
use Rattle.samr_stage.specs.Row.{told, heard, column}
use Rattle.samr_sign.specs.declared.rule.CutRule.{CutRule}
use Rattle.samr_cluster.specs.declared.accepted.Accepted.{Accepted}
use Rattle.samr_cluster.specs.declared.nodes.Told.{Told}
use Rattle.samr_cluster.specs.declared.nodes.Directed.{Directed}
use Rattle.samr_cluster.specs.declared.nodes.Reported.{Reported}
use Rattle.samr_cluster.specs.declared.nodes.Decided.{Decided}
use Rattle.samr_cluster.specs.declared.verdict.Ruling.{Ruling}
use Rattle.samr_cluster.specs.declared.verdict.Judged.{Judged}
use Rattle.samr_cluster.specs.Cluster.{near, accepted_in}
use Rattle.samr_cluster.specs.Accepting.{accepted_as}
use Rattle.samr_rounds.specs.Sorted.{sorted}
use Rattle.samr_cluster.specs.Rounds.{Round, open_of, told_of, near_of, from_director, near_state, told_state, asked_of, directed_less, directed_after, accepted_state, next}
use Rattle.samr_cluster.specs.DecideRow.{parts_in, parts_on, taken_in, ruling, judged_as, judge, rulings_for, decide_row}
use Rattle.samr_cluster.specs.DecideParts.{HasReported, HasJudged, other_directors, others_near, decided_state}
use Rattle.samr_cluster.proofs.SomeRowLaws.{map_agree, some_told, some_count, some_heard}
use Rattle.samr_cluster.proofs.DecideLaws.{all_judged, rulings_are, told_by, taken_by, directed_by, none_near, others_near_sorted, near_others, other_directors_sorted, near_directors}

pub begins : (rank : ℕ) (reported : Reported) (rule : CutRule) (x : Round) (r : ℕ) → HasReported rank reported rule x r
    → (judged : List Judged) (addressees senders : List ℕ) → judged ≡ map (λ c. judge rule c) reported.counted → addressees ≡ others_near rank judged → senders ≡ other_directors rank reported.near
    → HasJudged rank judged addressees senders x r
begins rank reported rule x r h judged addressees senders j a s = record {
  is = h.is;
  same_rank = h.same_rank;
  within = h.within;
  same_judged =
      j
      ∙ ap (λ (v : CutRule). map (λ c. judge v c) reported.counted) h.same_rule
      ∙ ap (λ (v : Reported). map (λ c. judge x.whole.rule c) v.counted) h.same_reported
      ∙ all_judged x h.is r h.within;
  same_addressees = a ∙ ap (λ (k : ℕ). others_near k judged) h.same_rank;
  same_senders = s ∙ ap (λ (k : ℕ). other_directors k reported.near) h.same_rank ∙ ap (λ (v : Reported). other_directors r v.near) h.same_reported;
}

no_parts : parts_on [] ≡ []
unfolding parts_on sorted
no_parts = refl

abbrev is_near_one : Round → ℕ → ℕ → Bool
is_near_one x from to = list_any (λ b. near x.whole to b) (open_of x from)

abbrev news : Round → ℕ → ℕ → List Ruling
news x from to = map (λ b. ruling x.whole b) (near_of x from to)

module _ (rank : ℕ) (judged : List Judged) (addressees senders : List ℕ) (x : Round) (r : ℕ) (h : HasJudged rank judged addressees senders x r) where
  others : List ℕ
  others = others_near r (map (λ b. judged_as x.whole b) (open_of x r))

  pub tells : map (λ to. (to, rulings_for to judged)) addressees ≡ told (decide_row x r) x.whole.ranks
  unfolding decide_row others
  tells =
      ap (λ (l : List ℕ). map (λ (to : ℕ). (to, rulings_for to judged)) l) (h.same_addressees ∙ ap (others_near r) h.same_judged)
      ∙ ap (λ (j : List Judged). map (λ (to : ℕ). (to, rulings_for to j)) others) h.same_judged
      ∙ map_agree (λ (to : ℕ). (to, rulings_for to (map (λ b. judged_as x.whole b) (open_of x r)))) (λ (to : ℕ). (to, news x r to)) others
      (λ to m. ap (λ (l : List Ruling). (to, l)) (rulings_are x h.is r to ((near_others x h.is r to).0 m).0))
      ∙ sym (some_told x.whole.ranks (is_near_one x) (news x) r others h.within (others_near_sorted x h.is r (map (λ b. judged_as x.whole b) (open_of x r))) (near_others x h.is r))

  pub counts : length senders ≡ sum_by (λ (held : Held (List Ruling)). 1) (heard (column (decide_row x) r) x.whole.ranks)
  unfolding decide_row
  counts =
      ap length h.same_senders
      ∙ some_count x.whole.ranks (is_near_one x) (news x) r (other_directors r (near_state x r)) h.within (other_directors_sorted x h.is r (near_state x r)) (λ k. near_directors x h.is r k h.within)

  module _ (held : List (Held (List Ruling))) (are : held ≡ heard (column (decide_row x) r) x.whole.ranks) (own : List Ruling) (own_is : own ≡ rulings_for rank judged) where
    own_same : own ≡ news x r r
    own_same =
        own_is
        ∙ ap (λ (k : ℕ). rulings_for k judged) h.same_rank
        ∙ ap (rulings_for r) h.same_judged
        ∙ rulings_are x h.is r r h.within

    told_ends : from_director rank (parts_on own) ++ flat_map (λ (h : Held (List Ruling)). from_director h.sender (parts_on h.body)) held ≡ told_state (next x) r
    unfolding told_state decide_row
    told_ends =
        let f : Held (List Ruling) → List Told = λ h. from_director h.sender (parts_on h.body) in
        let g : ℕ → List Told = λ d. from_director d (told_of (next x) d r) in
        ap (λ (k : ℕ). from_director k (parts_on own) ++ flat_map f held) h.same_rank
        ∙ ap (λ (l : List Ruling). from_director r (parts_on l) ++ flat_map f held) own_same
        ∙ ap (λ (l : List Told). l ++ flat_map f held) (told_by x h.is r r h.within)
        ∙ ap (λ (l : List (Held (List Ruling))). g r ++ flat_map f l) are
        ∙ ap (λ (l : List Told). g r ++ l)
        (some_heard x.whole.ranks (is_near_one x) (news x) r f g h.within (λ k less. told_by x h.is k r less)
        (λ k less e.
        sym (told_by x h.is k r less)
        ∙ ap (λ (nodes : List Corners). from_director k (parts_on (map (λ b. ruling x.whole b) nodes))) (none_near x h.is r (open_of x k) e)
        ∙ ap (from_director k) no_parts))

    accepted_ends : flat_map (λ v. taken_in v.verdict) own ++ flat_map (λ (h : Held (List Ruling)). flat_map (λ v. taken_in v.verdict) h.body) held ≡ accepted_state x r
    unfolding accepted_state decide_row
    accepted_ends =
        let f : Held (List Ruling) → List Accepted = λ h. flat_map (λ v. taken_in v.verdict) h.body in
        let taken : List Corners → List Accepted = λ nodes. flat_map (λ b. map (λ c. accepted_as x.whole b c) (accepted_in x.whole b)) nodes in
        let g : ℕ → List Accepted = λ d. taken (near_of x d r) in
        ap (λ (l : List Ruling). flat_map (λ v. taken_in v.verdict) l ++ flat_map f held) own_same
        ∙ ap (λ (l : List Accepted). l ++ flat_map f held) (taken_by x h.is (near_of x r r))
        ∙ ap (λ (l : List (Held (List Ruling))). g r ++ flat_map f l) are
        ∙ ap (λ (l : List Accepted). g r ++ l)
        (some_heard x.whole.ranks (is_near_one x) (news x) r f g h.within (λ k less. taken_by x h.is (near_of x k r))
        (λ k less e. ap taken (none_near x h.is r (open_of x k) e)))

    directed_ends : sorted directed_less (flat_map (λ j. asked_of j.near (parts_in j.verdict)) judged) ≡ directed_after x.whole r (suc x.number)
    directed_ends = ap (λ (l : List Judged). sorted directed_less (flat_map (λ j. asked_of j.near (parts_in j.verdict)) l)) h.same_judged ∙ directed_by x h.is r

    pub ends : (told : List Told) (directed : List Directed) (accepted : List Accepted)
        → told ≡ from_director rank (parts_on own) ++ flat_map (λ (h : Held (List Ruling)). from_director h.sender (parts_on h.body)) held
        → directed ≡ sorted directed_less (flat_map (λ j. asked_of j.near (parts_in j.verdict)) judged)
        → accepted ≡ flat_map (λ v. taken_in v.verdict) own ++ flat_map (λ (h : Held (List Ruling)). flat_map (λ v. taken_in v.verdict) h.body) held
        → (let d : Decided = record { told = told; directed = directed; accepted = accepted } in d) ≡ decided_state x r
    ends told directed accepted t d a =
        ap (λ (l : List Told). let v : Decided = record { told = l; directed = directed; accepted = accepted } in v) (t ∙ told_ends)
        ∙ ap (λ (l : List Directed). let v : Decided = record { told = told_state (next x) r; directed = l; accepted = accepted } in v) (d ∙ directed_ends)
        ∙ ap (λ (l : List Accepted). let v : Decided = record { told = told_state (next x) r; directed = directed_after x.whole r (suc x.number); accepted = l } in v) (a ∙ accepted_ends)
