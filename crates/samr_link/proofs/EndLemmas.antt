-- The ends over queues: which pass a call uses, and what it leaves.
use Rattle.std.proofs.Common.{◌≡◌, ◌≢◌, ℕ, ◌<◌, cond, eqb, List, [], ◌∷◌, ◌++◌, length, get_or, set, map, sym, ap, ◌∙◌, subst, ⊎_elim, append-nil, true, false, Option, All, arith}
use Rattle.std.specs.List.{AllZip}
use Rattle.std.proofs.lemmas.Bool.Decides.{eqb_tells}
use Rattle.std.proofs.lemmas.List.{map-append, length-map, get_or-map, get_or-set_same, get_or-set_other, map-set, set-get_or}
use Rattle.samr_link.proofs.Zips.{zip_set, zip_at}
use Rattle.atomic_table.specs.Seated.{TableId}
use Rattle.crossbeam_queue.specs.declared.array_queue.Doing.{Doing}
use Rattle.crossbeam_queue.specs.declared.array_queue.Slotted.{Slotted}
use Rattle.crossbeam_queue.specs.Passes.{Pass, view, IsSamePass}
use Rattle.samr_link.specs.declared.inbox.View.{View}
use Rattle.samr_link.specs.Ends.{Making}
use Rattle.samr_link.specs.Queue.{inbox_id, IsRoomy, IsPost, IsTake, end_of, IsSoundEnd, names_posted}
use Rattle.samr_link.specs.Views.{posts_more, spent_view}
use Rattle.samr_stage.specs.declared.label.Name.{Name}

module _ {M Q A : Type 0} where
  -- the pass for posting into the inbox at a place
  pub post_at : (rank : ℕ) (qs : List (Slotted (Option M) (Doing M (View M)) Q A)) (ps : List (Pass M (View M))) (i : ℕ) (q : Slotted (Option M) (Doing M (View M)) Q A) (p : Pass M (View M)) → AllZip (IsPost rank) (map inbox_id qs) ps → i < length qs
      → q ≡ get_or qs i q → p ≡ get_or ps i p → IsPost rank (inbox_id q) p
  post_at rank qs ps i q p all below here there =
      let within : i < length (map inbox_id qs) = omega (arith, below, length-map qs (λ (x : Slotted (Option M) (Doing M (View M)) Q A). inbox_id x)) in
      let at = zip_at (IsPost rank) (map inbox_id qs) ps i (inbox_id q) p all within in
      let named : get_or (map inbox_id qs) i (inbox_id q) ≡ inbox_id q = get_or-map (λ (x : Slotted (Option M) (Doing M (View M)) Q A). inbox_id x) qs i q (inbox_id q) below ∙ ap (λ (x : Slotted (Option M) (Doing M (View M)) Q A). inbox_id x) (sym here) in
      let K : TableId → Type 0 = λ t. IsPost rank t p in
      subst K named (subst (λ y. IsPost rank (get_or (map inbox_id qs) i (inbox_id q)) y) (sym there) at)

  pub roomy_at : (qs : List (Slotted (Option M) (Doing M (View M)) Q A)) (i : ℕ) (q : Slotted (Option M) (Doing M (View M)) Q A) → All IsRoomy qs → i < length qs → q ≡ get_or qs i q → IsRoomy q
  roomy_at qs i q all below here = subst (λ (x : Slotted (Option M) (Doing M (View M)) Q A). IsRoomy x) (sym here) (all i q below)

  pub take_at : (qs : List (Slotted (Option M) (Doing M (View M)) Q A)) (rank : ℕ) (q : Slotted (Option M) (Doing M (View M)) Q A) (p : Pass M (View M)) → ((t : TableId) → IsTake (get_or (map inbox_id qs) rank t) p) → rank < length qs → q ≡ get_or qs rank q → IsTake (inbox_id q) p
  take_at qs rank q p all below here =
      let named : get_or (map inbox_id qs) rank (inbox_id q) ≡ inbox_id q = get_or-map (λ (x : Slotted (Option M) (Doing M (View M)) Q A). inbox_id x) qs rank q (inbox_id q) below ∙ ap (λ (x : Slotted (Option M) (Doing M (View M)) Q A). inbox_id x) (sym here) in
      let K : TableId → Type 0 = λ t. IsTake t p in
      subst K named (all (inbox_id q))

module _ {M : Type 0} where
  -- the same pass after a call by which its role stays
  pub same_post : (rank : ℕ) (t : TableId) (p p' : Pass M (View M)) → IsPost rank t p → IsSamePass p p' → (view p').posts ≡ (view p).posts → (view p').from ≡ (view p).from → IsPost rank t p'
  same_post rank t p p' is same posts from = ((same.0 ∙ is.0.0, same.2 ∙ is.0.1), posts ∙ is.1, from ∙ is.2)

  pub sound_post : (rank : ℕ) (making : Making) (ps : List (Pass M (View M))) (t : Pass M (View M)) (i : ℕ) (p p' : Pass M (View M)) → IsSoundEnd rank making ps t → p ≡ get_or ps i p
      → IsSamePass p p' → (view p').posts ≡ (view p).posts → (view p').from ≡ (view p).from → IsSoundEnd rank making (set ps i p') t
  sound_post rank making ps t i p p' sound here same posts from = record {
    within = sound.within;
    posting = zip_set (IsPost rank) making ps i p'
        (λ d below.
        let at = zip_at (IsPost rank) making ps i d p sound.posting below in
        same_post rank (get_or making i d) p p' (subst (λ y. IsPost rank (get_or making i d) y) (sym here) at) same posts from) sound.posting;
    taking = sound.taking;
  }

  pub sound_take : (rank : ℕ) (making : Making) (ps : List (Pass M (View M))) (t t' : Pass M (View M)) → IsSoundEnd rank making ps t → IsSamePass t t' → (view t').takes ≡ (view t).takes → IsSoundEnd rank making ps t'
  sound_take rank making ps t t' sound same takes = record {
    within = sound.within;
    posting = sound.posting;
    taking = λ d. ((same.0 ∙ (sound.taking d).0.0, same.2 ∙ (sound.taking d).0.1), takes ∙ (sound.taking d).1);
  }

  -- what a pass knows, among all
  pub view_at : (ps : List (Pass M (View M))) (i : ℕ) (p : Pass M (View M)) → i < length ps → p ≡ get_or ps i p → view p ≡ get_or (map view ps) i spent_view
  view_at ps i p below here = ap view here ∙ sym (get_or-map view ps i p spent_view below)

  -- one more letter is posted to the inbox at a place
  pub names_more : (name : M → Name) (rank : ℕ) (making : Making) (ps : List (Pass M (View M))) (t : Pass M (View M)) (i : ℕ) (p p' : Pass M (View M)) (x : M) (a : ℕ) → i < length ps → p ≡ get_or ps i p
      → view p' ≡ posts_more (view p) x
      → names_posted name (end_of rank making (set ps i p') t) a ≡ names_posted name (end_of rank making ps t) a ++ cond (eqb i a) (name x ∷ []) []
  names_more name rank making ps t i p p' x a below here more =
      let Posted : List (View M) → List Name = λ vs. map name (get_or vs a spent_view).posted in
      let changed : map view (set ps i p') ≡ set (map view ps) i (view p') = map-set view ps i p' in
      let within : i < length (map view ps) = omega (arith, below, length-map ps view) in
      ap Posted changed ∙ ⊎_elim
      (λ (same : (eqb i a ≡ true) × (i ≡ a)).
      let now : get_or (set (map view ps) i (view p')) a spent_view ≡ posts_more (view p) x = ap (λ k. get_or (set (map view ps) i (view p')) k spent_view) (sym same.1) ∙ (get_or-set_same (map view ps) i (view p') spent_view within ∙ more) in
      let was : view p ≡ get_or (map view ps) a spent_view = view_at ps i p below here ∙ ap (λ k. get_or (map view ps) k spent_view) same.1 in
      ap (λ (v : View M). map name v.posted) now
      ∙ (map-append name (view p).posted (x ∷ []) ∙ (ap (λ (v : View M). map name v.posted ++ name x ∷ []) was ∙ ap (λ b. Posted (map view ps) ++ cond b (name x ∷ []) []) (sym same.0))))
      (λ (apart : (eqb i a ≡ false) × (i ≢ a)).
      let now : get_or (set (map view ps) i (view p')) a spent_view ≡ get_or (map view ps) a spent_view = get_or-set_other (map view ps) i a (view p') spent_view (λ e. apart.1 (sym e)) in
      ap (λ (v : View M). map name v.posted) now ∙ (sym (append-nil (Posted (map view ps))) ∙ ap (λ b. Posted (map view ps) ++ cond b (name x ∷ []) []) (sym apart.0)))
      (eqb_tells i a)

  -- a pass that knows what it did before
  pub views_same : (ps : List (Pass M (View M))) (i : ℕ) (p p' : Pass M (View M)) → i < length ps → p ≡ get_or ps i p → view p' ≡ view p → map view (set ps i p') ≡ map view ps
  views_same ps i p p' below here same =
      let read : view p' ≡ get_or (map view ps) i (view p) = same ∙ (ap view here ∙ sym (get_or-map view ps i p (view p) below)) in
      map-set view ps i p' ∙ (ap (set (map view ps) i) read ∙ set-get_or (map view ps) i (view p))
