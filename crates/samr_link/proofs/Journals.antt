-- The journals that settling leaves.
use Rattle.std.proofs.Common.{◌≡◌, ℕ, suc, ◌+◌, ◌<◌, List, [], ◌∷◌, ◌++◌, length, get_or, map, cond, eqb, sym, refl, ap, ◌∙◌, ⊎_elim, arith, All, Bool, true, false}
use Rattle.std.proofs.lemmas.Bool.{cases_lt}
use Rattle.std.proofs.lemmas.List.{map-append, get_or-map, get_or_past}
use Rattle.std.proofs.lemmas.List.Elements.{filter-append}
use Rattle.samr_link.specs.declared.inbox.View.{View}
use Rattle.samr_link.specs.Ends.{AreJournals}
use Rattle.samr_link.specs.Inbox.{of_sender, IsCompared}
use Rattle.samr_link.specs.Names.{sent_by, Begins}
use Rattle.samr_link.specs.Queue.{End, names_posted, names_taken}
use Rattle.samr_link.specs.Settled.{view_at, AreBack, posted_by, taken_of}
use Rattle.samr_link.specs.Views.{spent_view}
use Rattle.samr_stage.specs.declared.label.Name.{Name}

module _ {L : Type 0} (tells_posted tells_taken : L → Bool) (posted : L → ℕ → List Name) (taken : L → List Name) (by_rank : ℕ → ℕ → List Name) (of_rank : ℕ → List Name) where
  pub journals_from : (r : ℕ) (es : List L) → ((k : ℕ) (d : L) (a : ℕ) → k < length es → by_rank (r + k) a ≡ posted (get_or es k d) a) → ((k : ℕ) (d : L) → k < length es → of_rank (r + k) ≡ taken (get_or es k d))
      → AreJournals tells_posted tells_taken posted taken by_rank of_rank r es
  journals_from r [] every took = tt
  journals_from r (e ∷ es) every took =
      let first : r + 0 ≡ r = omega arith in
      let rest : (k : ℕ) → (r + 1) + k ≡ r + suc k = λ k. omega arith in (
        (λ told a. ap (λ n. by_rank n a) (sym first) ∙ every 0 e a (omega arith)),
        (λ told. ap of_rank (sym first) ∙ took 0 e (omega arith)),
        journals_from (r + 1) es (λ k d a below. ap (λ n. by_rank n a) (rest k) ∙ every (suc k) d a (omega (arith, below))) (λ k d below. ap of_rank (rest k) ∙ took (suc k) d (omega (arith, below))),
      )

module _ {M : Type 0} (name : M → Name) where
  -- the letters of a sender are those whose names have it
  pub sent_by-map : (from : ℕ) (xs : List M) → sent_by from (map name xs) ≡ map name (of_sender (λ x. (name x).sender) from xs)
  sent_by-map from [] = refl
  sent_by-map from (x ∷ xs) = elim (eqb (name x).sender from) as (λ b. cond b (name x ∷ sent_by from (map name xs)) (sent_by from (map name xs)) ≡ map name (cond b (x ∷ of_sender (λ y. (name y).sender) from xs) (of_sender (λ y. (name y).sender) from xs))) [
    | true ↦ ap (λ ns. name x ∷ ns) (sent_by-map from xs)
    | false ↦ sent_by-map from xs
  ]

  pub begins_of : (views : List (View M)) (from to : ℕ) → All (IsCompared (λ x. (name x).sender)) views → to < length views → Begins (sent_by from (taken_of name views to)) (posted_by name views from to)
  begins_of views from to all below =
      let sender : M → ℕ = λ x. (name x).sender in
      let v = view_at views to in
      let at = all to spent_view below in
      let both = at.1 from in (
        map name (of_sender sender from at.0),
        ap (λ ns. ns ++ map name (of_sender sender from at.0)) (sent_by-map from v.taken)
            ∙ (sym (map-append name (of_sender sender from v.taken) (of_sender sender from at.0)) ∙ ap (map name) (sym (filter-append (λ x. eqb (name x).sender from) v.taken at.0) ∙ sym both)),
      )

  pub posted_of : (views : List (View M)) (ends : List (End M)) (k : ℕ) (d : End M) (a : ℕ) → AreBack ends views → k < length ends → posted_by name views k a ≡ names_posted name (get_or ends k d) a
  posted_of views ends k d a back below = ⊎_elim
      (λ inside.
      let one : End M → List M = λ e. (view_at e.posts a).posted in
      ap (λ ls. map name (get_or ls k [])) (back.known a inside) ∙ ap (map name) (get_or-map one ends k d [] below))
      (λ outside.
      let none : view_at views a ≡ spent_view = get_or_past views a spent_view outside in
      let past : view_at (get_or ends k d).posts a ≡ spent_view = get_or_past (get_or ends k d).posts a spent_view (omega (arith, outside, back.wide k d below)) in
      ap (λ (v : View M). map name (get_or v.known k [])) none ∙ ap (λ (v : View M). map name v.posted) (sym past)) (cases_lt a (length views))

  pub taken_by : (views : List (View M)) (ends : List (End M)) (k : ℕ) (d : End M) → AreBack ends views → k < length ends → taken_of name views k ≡ names_taken name (get_or ends k d)
  taken_by views ends k d back below = ap (map name) (back.taken k d below).1
