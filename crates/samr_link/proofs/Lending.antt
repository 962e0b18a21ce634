-- The passes of a making: what is so once they are lent to some ranks, or to one rank for some inboxes.
use Rattle.std.proofs.Common.{◌≡◌, ℕ, zero, suc, ◌+◌, ◌<◌, ◌≤◌, List, [], ◌∷◌, ◌++◌, length, get_or, set, take, map, sym, refl, ap, ◌∙◌, subst, ⊎_elim, arith, Option}
use Rattle.std.specs.List.{AllZip}
use Rattle.std.proofs.lemmas.Bool.{cases_lt}
use Rattle.std.proofs.lemmas.List.{length-map, get_or-map, get_or_default, get_or-set_same, get_or-set_other, length-set, take_more, take_all}
use Rattle.atomic_table.specs.Seated.{TableId}
use Rattle.crossbeam_queue.specs.declared.array_queue.Doing.{Doing}
use Rattle.crossbeam_queue.specs.declared.array_queue.Slotted.{Slotted}
use Rattle.crossbeam_queue.specs.Passes.{Pass, view, IsSamePass}
use Rattle.samr_link.specs.declared.inbox.View.{View}
use Rattle.samr_link.specs.Ends.{Making, IsEnd, AreEndsFrom}
use Rattle.samr_link.specs.Queue.{inbox_id, IsPassIn, IsNewPost, IsNewTake, kept_view, IsKeeper}
use Rattle.samr_stage.specs.declared.label.Name.{Name}
use Rattle.samr_link.specs.Views.{spent_view, fresh, lends, poster, lends_taking, taker}
use Rattle.samr_link.proofs.Zips.{zip_at, zip_length, zip_push, zip_from}

-- the ends of the ranks from r on, and one more
pub ends_push : {L : Type 0} (rank ends : L → ℕ) (making : L → Making) (made : Making) (r : ℕ) (es : List L) (e : L) → AreEndsFrom rank ends making made r es → IsEnd rank ends making made (r + length es) e
    → AreEndsFrom rank ends making made r (es ++ e ∷ [])
ends_push rank ends making made r [] e all here = (let K : ℕ → Type 0 = λ n. IsEnd rank ends making made n e in let same : r + 0 ≡ r = omega arith in subst K same here, tt)
ends_push rank ends making made r (x ∷ xs) e all here =
    let K : ℕ → Type 0 = λ n. IsEnd rank ends making made n e in
    let same : r + length (x ∷ xs) ≡ (r + 1) + length xs = omega arith in
    (all.0, ends_push rank ends making made (r + 1) xs e all.1 (subst K same here))

module _ {M : Type 0} where
  -- a rank's passes for posting into the inboxes before a place are lent
  pub record IsLending (rank place : ℕ) (ids : List TableId) (keepers posts : List (Pass M (View M))) : Type 0 where
    pub count : length keepers ≡ length ids
    pub lent : (k : ℕ) (t : TableId) (d : Pass M (View M)) → k < place → IsKeeper (rank + 1) (get_or ids k t) (get_or keepers k d)
    pub left : (k : ℕ) (t : TableId) (d : Pass M (View M)) → place ≤ k → k < length ids → IsKeeper rank (get_or ids k t) (get_or keepers k d)
    pub posted : AllZip (IsNewPost rank) (take place ids) posts

  pub lending_none : (rank : ℕ) (ids : List TableId) (keepers posts : List (Pass M (View M))) → AllZip (IsKeeper rank) ids keepers → posts ≡ [] → IsLending rank 0 ids keepers posts
  lending_none rank ids keepers posts all none = record {
    count = sym (zip_length (IsKeeper rank) ids keepers all);
    lent = λ k t d below. absurd (omega (arith, below));
    left = λ k t d from below. zip_at (IsKeeper rank) ids keepers k t d all below;
    posted = let K : List (Pass M (View M)) → Type 0 = λ ps. AllZip (IsNewPost rank) (take 0 ids) ps in subst K (sym none) (taken_none ids);
  } where
    taken_none : (xs : List TableId) → AllZip {A = TableId} {B = Pass M (View M)} (IsNewPost rank) (take 0 xs) []
    taken_none xs = tt

  -- a keeper lends one more rank's pass
  pub lend_step : (rank : ℕ) (t : TableId) (p p' post : Pass M (View M)) → IsKeeper rank t p → IsSamePass p p' → IsPassIn t post → view p' ≡ lends (view p) → view post ≡ poster (view p)
      → IsKeeper (rank + 1) t p' × IsNewPost rank t post
  lend_step rank t p p' post is same in_table keeper posting =
      let now : view post ≡ poster (kept_view rank) = posting ∙ ap poster is.1 in
      (((same.0 ∙ is.0.0, same.2 ∙ is.0.1), keeper ∙ ap lends is.1), ((in_table, ap (λ (v : View M). v.posts) now, ap (λ (v : View M). v.from) now), ap (λ (v : View M). v.posted) now))

  pub lending_more : (rank place : ℕ) (ids : List TableId) (keepers posts : List (Pass M (View M))) (t : TableId) (keeper post : Pass M (View M)) → IsLending rank place ids keepers posts → place < length ids
      → t ≡ get_or ids place t → IsKeeper (rank + 1) t keeper → IsNewPost rank t post → IsLending rank (place + 1) ids (set keepers place keeper) (posts ++ post ∷ [])
  lending_more rank place ids keepers posts t keeper post before below here is new =
      let within : place < length keepers = omega (arith, below, before.count) in
      let Kept : ℕ → TableId → Pass M (View M) → Type 0 = IsKeeper in record {
        count = length-set keepers place keeper ∙ before.count;
        lent = λ k s d upto. ⊎_elim
            (λ earlier.
            let apart : k ≡ place → ⊥ = λ e. omega (arith, earlier, e) in
            let K : Pass M (View M) → Type 0 = λ p. IsKeeper (rank + 1) (get_or ids k s) p in
            subst K (sym (get_or-set_other keepers place k keeper d apart)) (before.lent k s d earlier))
            (λ later.
            let same : place ≡ k = omega (arith, upto, later) in
            let K : ℕ → Type 0 = λ j. IsKeeper (rank + 1) (get_or ids j s) (get_or (set keepers place keeper) j d) in
            let P : Pass M (View M) → Type 0 = λ p. IsKeeper (rank + 1) (get_or ids place s) p in
            let T : TableId → Type 0 = λ u. IsKeeper (rank + 1) u keeper in
            subst K same (subst P (sym (get_or-set_same keepers place keeper d within)) (subst T (here ∙ get_or_default ids place t s below) is)))
            (cases_lt k place);
        left = λ k s d from upto.
            let apart : k ≡ place → ⊥ = λ e. omega (arith, from, e) in
            let K : Pass M (View M) → Type 0 = λ p. IsKeeper rank (get_or ids k s) p in
            subst K (sym (get_or-set_other keepers place k keeper d apart)) (before.left k s d (omega (arith, from)) upto);
        posted =
            let T : TableId → Type 0 = λ u. IsNewPost rank u post in
            let K : List TableId → Type 0 = λ us. AllZip (IsNewPost rank) us (posts ++ post ∷ []) in
            subst K (sym (take_more ids place t below)) (zip_push (IsNewPost rank) (take place ids) posts (get_or ids place t) post before.posted (subst T here new));
      }

  pub lending_all : (rank place : ℕ) (ids : List TableId) (keepers posts : List (Pass M (View M))) → IsLending rank place ids keepers posts → length ids ≤ place
      → AllZip (IsKeeper (rank + 1)) ids keepers × AllZip (IsNewPost rank) ids posts
  lending_all rank place ids keepers posts done end =
      let K : List TableId → Type 0 = λ us. AllZip (IsNewPost rank) us posts in
      (zip_from (IsKeeper (rank + 1)) ids keepers (sym done.count) (λ k t d below. done.lent k t d (omega (arith, below, end))), subst K (take_all place ids end) done.posted)

  -- a new inbox with its two passes
  pub new_step : (t : TableId) (p p' take' : Pass M (View M)) → IsPassIn t p → view p ≡ fresh → IsSamePass p p' → IsPassIn t take' → view p' ≡ lends_taking (view p) → view take' ≡ taker (view p)
      → IsKeeper 0 t p' × IsNewTake t take'
  new_step t p p' take' is new same in_table keeper taking =
      let now : view take' ≡ taker fresh = taking ∙ ap taker new in
      (((same.0 ∙ is.0, same.2 ∙ is.1), keeper ∙ ap lends_taking new), ((in_table, ap (λ (v : View M). v.takes) now), ap (λ (v : View M). v.taken) now))

  -- the pass and the inbox at the place at hand
  pub keeper_here : {Q A : Type 0} (rank place : ℕ) (qs : List (Slotted (Option M) (Doing M (View M)) Q A)) (keepers posts : List (Pass M (View M))) (q : Slotted (Option M) (Doing M (View M)) Q A) (p : Pass M (View M))
      → IsLending rank place (map inbox_id qs) keepers posts → place < length qs → q ≡ get_or qs place q → p ≡ get_or keepers place p → (inbox_id q ≡ get_or (map inbox_id qs) place (inbox_id q)) × IsKeeper rank (inbox_id q) p
  keeper_here {Q} {A} rank place qs keepers posts q p so_far below here there =
      let id : Slotted (Option M) (Doing M (View M)) Q A → TableId = λ x. inbox_id x in
      let named : id q ≡ get_or (map id qs) place (id q) = ap id here ∙ sym (get_or-map id qs place q (id q) below) in
      let within : place < length (map id qs) = omega (arith, below, length-map qs id) in
      let upto : place ≤ place = omega arith in
      let at = so_far.left place (id q) p upto within in
      let T : TableId → Type 0 = λ t. IsKeeper rank t (get_or keepers place p) in
      let P : Pass M (View M) → Type 0 = λ x. IsKeeper rank (id q) x in
      (named, subst P (sym there) (subst T (sym named) at))

  -- an end by which nothing was posted or taken
  pub none_posted : (name : M → Name) (rank : ℕ) (ids : List TableId) (posts : List (Pass M (View M))) (a : ℕ) → AllZip (IsNewPost rank) ids posts → map name (get_or (map view posts) a spent_view).posted ≡ []
  none_posted name rank [] [] a all = refl
  none_posted name rank [] (p ∷ ps) a all = absurd all
  none_posted name rank (t ∷ ts) [] a all = absurd all
  none_posted name rank (t ∷ ts) (p ∷ ps) zero all = ap (map name) all.0.1
  none_posted name rank (t ∷ ts) (p ∷ ps) (suc a) all = none_posted name rank ts ps a all.1
