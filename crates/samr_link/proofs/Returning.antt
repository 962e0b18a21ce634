-- How the passes go back: one more pass, and one more end.
use Rattle.std.proofs.Common.{◌≡◌, ◌≢◌, ℕ, zero, suc, ◌+◌, ◌<◌, ◌≤◌, List, [], ◌∷◌, ◌++◌, length, get_or, set, map, sym, refl, ap, ◌∙◌, subst, ⊎_elim, arith, All, Option, true, length-append}
use Rattle.std.specs.List.{AllZip}
use Rattle.std.proofs.lemmas.Bool.{cases_lt}
use Rattle.std.proofs.lemmas.List.{length-map, get_or-map, get_or-set_same, get_or-set_other, length-set, map_push, map-set, get_or_append_left, get_or_push, get_or_past}
use Rattle.std.proofs.lemmas.Bool.{false≢true}
use Rattle.atomic_table.specs.Seated.{TableId}
use Rattle.crossbeam_queue.specs.declared.array_queue.Doing.{Doing}
use Rattle.crossbeam_queue.specs.declared.array_queue.Slotted.{Slotted}
use Rattle.crossbeam_queue.specs.Passes.{Pass, view, IsSamePass}
use Rattle.samr_link.specs.declared.inbox.View.{View}
use Rattle.samr_link.specs.Queue.{End, inbox_id, IsPost, IsKeeper, end_of}
use Rattle.samr_link.specs.Ends.{Making, IsEnd, AreEndsFrom}
use Rattle.samr_link.specs.Settled.{view_at, IsBack, IsPosting, IsNext, Knows, HasAll, TookOver, TookBack, AreBack}
use Rattle.samr_link.specs.Views.{spent_view, takes_over, takes_back}
use Rattle.samr_link.proofs.EndLemmas as ends
use Rattle.samr_link.proofs.Zips.{zip_at, zip_length, zip_set, zip_from, zip_weaker}

module _ {M : Type 0} where
  -- what a pass knows, read among all
  pub read_view : (ps : List (Pass M (View M))) (i : ℕ) (p : Pass M (View M)) → i < length ps → p ≡ get_or ps i p → view p ≡ view_at (map view ps) i
  read_view ps i p below here = ends.view_at ps i p below here

  pub set_view_here : (ps : List (Pass M (View M))) (i : ℕ) (p : Pass M (View M)) → i < length ps → view_at (map view (set ps i p)) i ≡ view p
  set_view_here ps i p below =
      let within : i < length (map view ps) = omega (arith, below, length-map ps view) in
      ap (λ vs. view_at vs i) (map-set view ps i p) ∙ get_or-set_same (map view ps) i (view p) spent_view within

  pub set_view_else : (ps : List (Pass M (View M))) (i k : ℕ) (p : Pass M (View M)) → k ≢ i → view_at (map view (set ps i p)) k ≡ view_at (map view ps) k
  set_view_else ps i k p apart = ap (λ vs. view_at vs k) (map-set view ps i p) ∙ get_or-set_other (map view ps) i k (view p) spent_view apart

  -- a fabric's pass after a call by which its role stays
  pub still_back : (given : ℕ) (t : TableId) (p p' : Pass M (View M)) → IsBack given t p → IsSamePass p p' → (view p').keeps ≡ (view p).keeps → (view p').posts ≡ (view p).posts → (view p').given ≡ (view p).given → IsBack given t p'
  still_back given t p p' is same keeps posts count = ((same.0 ∙ is.0.0, same.2 ∙ is.0.1), keeps ∙ is.1, posts ∙ is.2, count ∙ is.3)

  -- one of the fabric's passes changed
  pub back_set : (given : ℕ) (ids : List TableId) (ps : List (Pass M (View M))) (i : ℕ) (p p' : Pass M (View M)) → AllZip (IsBack given) ids ps → p ≡ get_or ps i p → IsSamePass p p'
      → (view p').keeps ≡ (view p).keeps → (view p').posts ≡ (view p).posts → (view p').given ≡ (view p).given → AllZip (IsBack given) ids (set ps i p')
  back_set given ids ps i p p' all here same keeps posts count = zip_set (IsBack given) ids ps i p'
      (λ d below.
      let P : Pass M (View M) → Type 0 = λ x. IsBack given (get_or ids i d) x in
      still_back given (get_or ids i d) p p' (subst P (sym here) (zip_at (IsBack given) ids ps i d p all below)) same keeps posts count) all

  -- what holds of the table and the pass at a place
  pub zip_here : {Q A : Type 0} (R : TableId → Pass M (View M) → Type 0) (qs : List (Slotted (Option M) (Doing M (View M)) Q A)) (ps : List (Pass M (View M))) (i : ℕ) (q : Slotted (Option M) (Doing M (View M)) Q A) (p : Pass M (View M))
      → AllZip R (map inbox_id qs) ps → i < length qs → q ≡ get_or qs i q → p ≡ get_or ps i p → R (inbox_id q) p
  zip_here {Q} {A} R qs ps i q p all below here there =
      let id : Slotted (Option M) (Doing M (View M)) Q A → TableId = λ x. inbox_id x in
      let within : i < length (map id qs) = omega (arith, below, length-map qs id) in
      let named : get_or (map id qs) i (id q) ≡ id q = get_or-map id qs i q (id q) below ∙ ap id (sym here) in
      let T : TableId → Type 0 = λ t. R t p in
      let P : Pass M (View M) → Type 0 = λ x. R (get_or (map id qs) i (id q)) x in
      subst T named (subst P (sym there) (zip_at R (map id qs) ps i (id q) p all within))

  -- the passes of a rank before a place have gone back
  pub record IsEnding (given : ℕ) (ids : List TableId) (old : List (Pass M (View M))) (posts : List (Pass M (View M))) (place : ℕ) (now : List (Pass M (View M))) : Type 0 where
    pub count : length now ≡ length old
    pub back : AllZip (IsBack given) ids now
    pub done : (k : ℕ) → k < place → k < length old → view_at (map view now) k ≡ takes_over (view_at (map view old) k) (view_at (map view posts) k)
    pub left : (k : ℕ) (d : Pass M (View M)) → place ≤ k → get_or now k d ≡ get_or old k d

  pub ending_none : (given : ℕ) (ids : List TableId) (old posts : List (Pass M (View M))) → AllZip (IsBack given) ids old → IsEnding given ids old posts 0 old
  ending_none given ids old posts all = record { count = refl; back = all; done = λ k below. absurd (omega (arith, below)); left = λ k d from. refl }

  pub ending_more : (given : ℕ) (ids : List TableId) (old posts : List (Pass M (View M))) (place : ℕ) (now : List (Pass M (View M))) (p p' post : Pass M (View M)) → IsEnding given ids old posts place now → place < length old → place < length posts
      → p ≡ get_or now place p → post ≡ get_or posts place post → IsSamePass p p' → view p' ≡ takes_over (view p) (view post)
      → IsEnding given ids old posts (place + 1) (set now place p')
  ending_more given ids old posts place now p p' post before below within here there same over =
      let upto : place ≤ place = omega arith in
      let now_below : place < length now = omega (arith, below, before.count) in
      let old_here : p ≡ get_or old place p = here ∙ before.left place p upto in
      let was : view p ≡ view_at (map view old) place = read_view old place p below old_here in
      let given_post : view post ≡ view_at (map view posts) place = read_view posts place post within there in
      let Done : ℕ → Type 0 = λ k. view_at (map view (set now place p')) k ≡ takes_over (view_at (map view old) k) (view_at (map view posts) k) in
      let at : Done place = set_view_here now place p' now_below ∙ (over ∙ (ap (λ (v : View M). takes_over v (view post)) was ∙ ap (λ (v : View M). takes_over (view_at (map view old) place) v) given_post)) in record {
        count = length-set now place p' ∙ before.count;
        back = back_set given ids now place p p' before.back here same (ap (λ (v : View M). v.keeps) over) (ap (λ (v : View M). v.posts) over) (ap (λ (v : View M). v.given) over);
        done = λ k lt inside. ⊎_elim
            (λ earlier.
            let apart : k ≡ place → ⊥ = λ e. omega (arith, earlier, e) in
            set_view_else now place k p' apart ∙ before.done k earlier inside)
            (λ later. let e : place ≡ k = omega (arith, lt, later) in subst Done e at) (cases_lt k place);
        left = λ k d from.
            let apart : k ≡ place → ⊥ = λ e. omega (arith, from, e) in
            get_or-set_other now place k p' d apart ∙ before.left k d (omega (arith, from));
      }

  pub ending_all : (given : ℕ) (ids : List TableId) (old posts : List (Pass M (View M))) (place : ℕ) (now : List (Pass M (View M))) → IsEnding given ids old posts place now → length old ≤ place → TookOver (map view old) (map view posts) (map view now)
  ending_all given ids old posts place now done end = record {
    count = length-map now view ∙ (done.count ∙ sym (length-map old view));
    each = λ k below.
        let inside : k < length old = omega (arith, below, length-map old view) in
        done.done k (omega (arith, inside, end)) inside;
  }

  -- an end's passes for posting are those of these inboxes, and next to go back
  pub posting_of : (rank : ℕ) (made ids : List TableId) (posts : List (Pass M (View M))) → made ≡ ids → AllZip (IsPost rank) made posts → AllZip IsPosting ids posts
  posting_of rank made ids posts same all =
      let K : List TableId → Type 0 = λ ts. AllZip IsPosting ts posts in
      subst K same (zip_weaker (IsPost rank) IsPosting (λ t p h. (h.0, h.1)) made posts all)

  pub next_of : (given rank : ℕ) (made ids : List TableId) (keepers posts : List (Pass M (View M))) → made ≡ ids → AllZip (IsBack given) ids keepers → All (Knows rank) keepers → AllZip (IsPost rank) made posts → AllZip IsNext keepers posts
  next_of given rank made ids keepers posts same back knows all =
      let count : length keepers ≡ length posts = sym (zip_length (IsBack given) ids keepers back) ∙ (ap length (sym same) ∙ zip_length (IsPost rank) made posts all) in
      zip_from IsNext keepers posts count
      (λ k d e below.
      let inside : k < length made = omega (arith, below, count, zip_length (IsPost rank) made posts all) in
      let no_id : TableId = record { words = 0; slots = 0; views_name = 0; atom = 0; block = 0; offset = 0; slot_names = [] } in
      (zip_at (IsPost rank) made posts k no_id e all inside).2 ∙ sym (knows k d below))

  -- the taker's pass has gone back too
  pub took_back : (rank : ℕ) (making : Making) (old posts now : List (Pass M (View M))) (takes p p' : Pass M (View M)) → TookOver (map view old) (map view posts) (map view now) → length posts ≡ length old → rank < length now
      → p ≡ get_or now rank p → view p' ≡ takes_back (view p) (view takes) → TookBack (map view old) (end_of rank making posts takes) (map view (set now rank p'))
  took_back rank making old posts now takes p p' over wide below here back =
      let Now : List (View M) = map view (set now rank p') in
      let inside : rank < length (map view old) = omega (arith, below, over.count, length-map now view, length-map old view) in
      let was : view p ≡ takes_over (view_at (map view old) rank) (view_at (map view posts) rank) = read_view now rank p below here ∙ over.each rank inside in record {
        count = length-map (set now rank p') view ∙ (length-set now rank p' ∙ (sym (length-map now view) ∙ over.count));
        wide = length-map posts view ∙ (wide ∙ sym (length-map old view));
        others = λ k lt apart. set_view_else now rank k p' apart ∙ over.each k lt;
        own = set_view_here now rank p' below ∙ (back ∙ ap (λ (v : View M). takes_back v (view takes)) was);
      }

  known_views : (ps : List (Pass M (View M))) (k : ℕ) → ((j : ℕ) (d : Pass M (View M)) → j < length ps → (view (get_or ps j d)).known ≡ []) → k < length ps → (view_at (map view ps) k).known ≡ []
  known_views [] k all below = absurd (omega (arith, below))
  known_views (p ∷ ps) zero all below = all 0 p (omega arith)
  known_views (p ∷ ps) (suc k) all below = known_views ps k (λ j d lt. all (suc j) d (omega (arith, lt))) (omega (arith, below))

  -- past the end no pass takes
  none_past : (vs : List (View M)) (k : ℕ) → length vs ≤ k → (view_at vs k).takes ≡ true → ⊥
  none_past vs k outside takes = false≢true (sym (ap (λ (v : View M). v.takes) (get_or_past vs k spent_view outside)) ∙ takes)

  -- so many ends have gone back
  pub back_none : (given : ℕ) (ids : List TableId) (keepers : List (Pass M (View M))) → AllZip (IsKeeper given) ids keepers → AllZip (IsBack given) ids keepers × All (Knows 0) keepers × AreBack [] (map view keepers)
  back_none given ids keepers all =
      let no_id : TableId = record { words = 0; slots = 0; views_name = 0; atom = 0; block = 0; offset = 0; slot_names = [] } in
      let known : (k : ℕ) (d : Pass M (View M)) → k < length keepers → (view (get_or keepers k d)).known ≡ [] =
      λ k d below. ap (λ (v : View M). v.known) (zip_at (IsKeeper given) ids keepers k no_id d all (omega (arith, below, zip_length (IsKeeper given) ids keepers all))).1 in (
        zip_weaker (IsKeeper given) (IsBack given) (λ t p h. (h.0, ap (λ (v : View M). v.keeps) h.1, ap (λ (v : View M). v.posts) h.1, ap (λ (v : View M). v.given) h.1)) ids keepers all,
        (λ k d below. ap length (known k d below)),
        record {
          wide = λ k d below. absurd (omega (arith, below));
          known = λ k below. known_views keepers k (λ j d lt. known j d lt) (omega (arith, below, length-map keepers view));
          taken = λ k d below. absurd (omega (arith, below));
        },
      )

  module _ (ends : List (End M)) (e : End M) (old new : List (View M)) (before : AreBack ends old) (took : TookBack old e new) (own_rank : e.rank ≡ length ends) where
    known_more : (k : ℕ) → k < length old → (view_at new k).known ≡ (view_at old k).known ++ (view_at e.posts k).posted ∷ []
    known_more k below = ⊎_elim (λ lt. ap (λ (v : View M). v.known) (took.others k below (λ same. omega (arith, lt, same))))
        (λ ge. ⊎_elim (λ gt. ap (λ (v : View M). v.known) (took.others k below (λ same. omega (arith, gt, same))))
        (λ le.
        let same : e.rank ≡ k = omega (arith, ge, le) in
        let K : ℕ → Type 0 = λ j. (view_at new j).known ≡ (view_at old j).known ++ (view_at e.posts j).posted ∷ [] in
        subst K same (ap (λ (v : View M). v.known) took.own)) (cases_lt e.rank k)) (cases_lt k e.rank)

    pub back_more : AreBack (ends ++ e ∷ []) new
    back_more =
        let Wide : End M → Type 0 = λ x. length x.posts ≡ length new in
        let Taken : ℕ → End M → Type 0 = λ k x. ((view_at new k).takes ≡ true) × ((view_at new k).taken ≡ x.takes.taken) in
        let earlier : (k : ℕ) (d : End M) → k < length ends → Taken k (get_or ends k d) = λ k d below.
        let apart : k ≡ e.rank → ⊥ = λ same. omega (arith, below, same, own_rank) in
        let at = before.taken k d below in
        ⊎_elim (λ inside. let same = took.others k inside apart in (ap (λ (v : View M). v.takes) same ∙ at.0, ap (λ (v : View M). v.taken) same ∙ at.1))
        (λ outside. absurd (none_past old k outside at.0)) (cases_lt k (length old)) in
        record {
          wide = λ k d below. ⊎_elim
              (λ lt. let K : End M → Type 0 = Wide in subst K (sym (get_or_append_left ends (e ∷ []) d k lt)) (before.wide k d lt ∙ sym took.count))
              (λ ge.
              let last : length ends ≡ k = omega (arith, below, ge, length-append ends (e ∷ [])) in
              subst Wide (sym (get_or_push ends e d k last)) (took.wide ∙ sym took.count)) (cases_lt k (length ends));
          known = λ k below.
              let inside : k < length old = omega (arith, below, took.count) in
              known_more k inside ∙ (ap (λ ls. ls ++ (view_at e.posts k).posted ∷ []) (before.known k inside) ∙ sym (map_push (λ (x : End M). (view_at x.posts k).posted) ends e));
          taken = λ k d below. ⊎_elim (λ lt. subst (Taken k) (sym (get_or_append_left ends (e ∷ []) d k lt)) (earlier k d lt))
              (λ ge.
              let last : length ends ≡ k = omega (arith, below, ge, length-append ends (e ∷ [])) in
              let same : e.rank ≡ k = own_rank ∙ last in
              let K : ℕ → Type 0 = λ j. Taken j e in
              subst (Taken k) (sym (get_or_push ends e d k last)) (subst K same (ap (λ (v : View M). v.takes) took.own, ap (λ (v : View M). v.taken) took.own))) (cases_lt k (length ends));
        }

  -- each of the fabric's passes knows of as many senders as ends have gone back
  pub knows_of : (ends : List (End M)) (ps : List (Pass M (View M))) → AreBack ends (map view ps) → All (Knows (length ends)) ps
  knows_of ends ps back k d below =
      let within : k < length (map view ps) = omega (arith, below, length-map ps view) in
      let read : view (get_or ps k d) ≡ view_at (map view ps) k = sym (get_or-map view ps k d spent_view below) in
      ap (λ (v : View M). length v.known) read ∙ (ap length (back.known k within) ∙ length-map ends (λ (e : End M). (view_at e.posts k).posted))

  -- all ends have gone back
  pub has_all : (ends : List (End M)) (ids : List TableId) (ps : List (Pass M (View M))) (some_end : End M) → AllZip (IsBack (length ends)) ids ps → AreBack ends (map view ps) → length ps ≤ length ends → All HasAll ps
  has_all ends ids ps some_end zipped back enough k d below =
      let no_id : TableId = record { words = 0; slots = 0; views_name = 0; atom = 0; block = 0; offset = 0; slot_names = [] } in
      let at = zip_at (IsBack (length ends)) ids ps k no_id d zipped (omega (arith, below, zip_length (IsBack (length ends)) ids ps zipped)) in
      let read : view (get_or ps k d) ≡ view_at (map view ps) k = sym (get_or-map view ps k d spent_view below) in record {
        keeps = at.1;
        takes = ap (λ (v : View M). v.takes) read ∙ (back.taken k some_end (omega (arith, below, enough))).0;
        all = knows_of ends ps back k d below ∙ sym at.3;
      }

module _ {L : Type 0} (rank ends : L → ℕ) (making : L → Making) (made : Making) where
  -- the end at a place
  pub end_at : (r : ℕ) (es : List L) (k : ℕ) (d : L) → AreEndsFrom rank ends making made r es → k < length es → IsEnd rank ends making made (r + k) (get_or es k d)
  end_at r [] k d all below = absurd (omega (arith, below))
  end_at r (e ∷ es) zero d all below = let K : ℕ → Type 0 = λ n. IsEnd rank ends making made n e in let same : r ≡ r + 0 = omega arith in subst K same all.0
  end_at r (e ∷ es) (suc k) d all below =
      let K : ℕ → Type 0 = λ n. IsEnd rank ends making made n (get_or es k d) in
      let same : (r + 1) + k ≡ r + suc k = omega arith in
      subst K same (end_at (r + 1) es k d all.1 (omega (arith, below)))
