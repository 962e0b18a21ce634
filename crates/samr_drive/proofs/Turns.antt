-- What the turns of a machine do to what it has yet to give out and to get.
use Rattle.std.proofs.Common.{◌≡◌, ◌≢◌, ◌⊎◌, ℕ, ◌+◌, ◌<◌, ◌≤◌, List, [], ◌∷◌, ◌++◌, length, map, get_or, drop, eqb, not, sym, refl, ap, ◌∙◌, subst, inl, inr, ⊎_elim, append-nil, arith, All, Contains, Bool, true, false, Option, Some, None, is_some}
use Rattle.std.specs.List.{flat_map}
use Rattle.std.specs.Option.{option_to_list}
use Rattle.std.specs.Ordering.{is_eq, is_ne}
use Rattle.std.proofs.lemmas.Bool.Decides.{eqb_tells}
use Rattle.std.specs.declared.cmp.Ordering.{Ordering}
use Rattle.std.specs.declared.cmp.Ordering.TheVariants.{Less, Equal, Greater}
use Rattle.std.proofs.lemmas.Bool.{cases_lt, false≢true}
use Rattle.std.proofs.lemmas.List.{drop_more, drop_all}
use Rattle.std.proofs.lemmas.List.Elements.{All-filter, All-nil, All-same, All-cons, Contains-append_cases, Contains-append_right, Contains-append_left, Contains-get_or, Contains-push}
use Rattle.samr_link.specs.declared.link.Link as wire
use Rattle.samr_link.specs.Names.{addressed}
use Rattle.samr_stage.specs.declared.label.Label.{Label}
use Rattle.samr_stage.specs.declared.label.Name.{Name}
use Rattle.samr_stage.specs.declared.mail.Mail as letter
use Rattle.samr_stage.specs.declared.program.Program as actor
use Rattle.samr_stage.specs.declared.turn.Turn.{Turn}
use Rattle.samr_stage.specs.declared.turn.Turn.TheVariants.{Took, Posted, Advanced, Finished, Idle}
use Rattle.samr_stage.specs.Label.{label_cmp}
use Rattle.samr_stage.specs.Course.{Course, sent, awaited, label_at, no_label}
use Rattle.samr_stage.specs.Machine.{State, IsSound, Takes, Posts, Advances, Turned, course_of, label_of, of_label, of_others, stored}
use Rattle.samr_stage.proofs.Courses.{from_sent, label_at_within}
use Rattle.samr_stage.proofs.KeptLetters.{All-stored}
use Rattle.samr_stage.proofs.Lists.{Contains-map, Contains-from_map, Contains-from_filter, Contains-head}
use Rattle.samr_drive.specs.declared.step.Step.{Step}
use Rattle.samr_drive.specs.Ahead.{ahead, awaiting, sent_from, awaited_from}
use Rattle.samr_drive.specs.Driven.{CanPost, Fits, IsSteady, IsSame, HasGot, Drove, HasFinished, PostsAll, TakesAll}
use Rattle.samr_drive.specs.Step.{hand_of, resting, after_turn, IsOverIf}
use Rattle.samr_drive.proofs.Moves.{drove_none, drove_post, kept_first, same_itself, fits_same, can_post_same}

-- the labels from a place on that there is
from_more : (labels : List Label) (k : ℕ) → k < length labels → drop k labels ≡ label_at labels k ∷ drop (k + 1) labels
from_more labels k below = drop_more labels k no_label below ∙ ap (λ (l : Label). l ∷ drop (k + 1) labels) (label_at_within labels k no_label below)

module _ {P M R L : Type 0} (p : actor.Ghosts P M R) (m : letter.Ghosts M R) (w : wire.Ghosts L M R) where
  -- what a machine makes of a letter that it is given, where runs can be told apart
  pub takes_cases : ((r s : R) → (r ≡ s) ⊎ (r ≢ s)) → (old : State P M) (x : M) (new : State P M) → Takes p m old x new → (new ≡ old) ⊎ (new ≡ record old { kept = stored m.name old.kept x })
  takes_cases same old x new takes = by_over old.over refl where
    by_label : old.over ≡ false → m.run x ≡ p.run old.program → (m.name x).addressee ≡ p.rank_of old.program → (o : Ordering) → label_cmp (m.name x).label (label_of p m old.program) ≡ o → (new ≡ old) ⊎ (new ≡ record old { kept = stored m.name old.kept x })
    by_label going own mine Less e = inl (takes.unwanted (λ wanted. wanted.ahead e))
    by_label going own mine Equal e = inr (takes.keeps going (record { own = own; mine = mine; ahead = λ less. cc }))
    by_label going own mine Greater e = inr (takes.keeps going (record { own = own; mine = mine; ahead = λ less. cc }))

    by_over : (over : Bool) → old.over ≡ over → (new ≡ old) ⊎ (new ≡ record old { kept = stored m.name old.kept x })
    by_over true is = inl (takes.over is)
    by_over false is =
        ⊎_elim (λ own. ⊎_elim (λ (mine : (eqb (m.name x).addressee (p.rank_of old.program) ≡ true) × ((m.name x).addressee ≡ p.rank_of old.program)). by_label is own mine.1 (label_cmp (m.name x).label (label_of p m old.program)) refl)
        (λ (apart : (eqb (m.name x).addressee (p.rank_of old.program) ≡ false) × ((m.name x).addressee ≢ p.rank_of old.program)). inl (takes.unwanted (λ wanted. apart.1 wanted.mine))) (eqb_tells (m.name x).addressee (p.rank_of old.program)))
        (λ apart. inl (takes.unwanted (λ wanted. apart wanted.own))) (same (m.run x) (p.run old.program))

  -- a letter was taken, and these letters are kept now
  drove_take : (old : State P M) (kept : List M) (e e' : L) (x : M) (hand : Option M) → IsSame p m w e e' → (w.tells_posted e ≡ true → (to : ℕ) → w.posted e' to ≡ w.posted e to)
      → (w.tells_taken e ≡ true → w.taken e' ≡ w.taken e ++ m.name x ∷ []) → (w.tells_taken e ≡ true → All (λ y. HasGot p m w old e' (m.name y)) kept)
      → Drove p m w old e hand (record old { kept = kept }) e' hand
  drove_take old kept e e' x hand same posted taken has = record {
    same_end = same;
    same_run = refl;
    same_rank = refl;
    within = λ h. h;
    posted = λ told to. ap (λ l. l ++ addressed to (map m.name (option_to_list hand) ++ ahead p m old)) (posted told to);
    grows = λ told n h. let K : List Name → Type 0 = λ l. Contains l n in subst K (sym (taken told)) (Contains-append_left (w.taken e) (m.name x ∷ []) n h);
    kept = has;
    awaited = λ told n h. inl h;
  }

  pub drove_taken : ((r s : R) → (r ≡ s) ⊎ (r ≢ s)) → (old : State P M) (x : M) (new : State P M) (e e' : L) (hand : Option M) → Takes p m old x new → IsSame p m w e e'
      → (w.tells_posted e ≡ true → (to : ℕ) → w.posted e' to ≡ w.posted e to) → (w.tells_taken e ≡ true → w.taken e' ≡ w.taken e ++ m.name x ∷ []) → Drove p m w old e hand new e' hand
  drove_taken decide old x new e e' hand takes same posted taken =
      let K : State P M → Type 0 = λ s. Drove p m w old e hand s e' hand in
      let N : List Name → Type 0 = λ l. Contains l (m.name x) in
      ⊎_elim (λ is. subst K (sym is) (drove_take old old.kept e e' x hand same posted taken (λ told. kept_first p m w old e')))
      (λ is. subst K (sym is) (drove_take old (stored m.name old.kept x) e e' x hand same posted taken
      (λ told. All-stored m.name (λ y. HasGot p m w old e' (m.name y)) old.kept x (kept_first p m w old e') (inl (subst N (sym (taken told)) (Contains-push (w.taken e) (m.name x)))))))
      (takes_cases decide old x new takes)

  -- the program's run and rank are as they were
  pub fits_along : (s s' : State P M) (e : L) → p.run s'.program ≡ p.run s.program → p.rank_of s'.program ≡ p.rank_of s.program → Fits p m w s e → Fits p m w s' e
  fits_along s s' e run rank fits = record { rank = fits.rank ∙ sym rank; ends = fits.ends ∙ ap (λ r. (m.course r).ranks) (sym run) }

  -- a machine that has not left all its labels
  going : (s : State P M) → IsSound p m s → s.over ≡ false → p.place s.program < length ((course_of p m s.program).labels (p.rank_of s.program))
  going s sound over = ⊎_elim (λ lt. lt) (λ ge. absurd (false≢true (sym over ∙ sound.over.1 ge))) (cases_lt (p.place s.program) (length ((course_of p m s.program).labels (p.rank_of s.program))))

  -- a letter was given out
  drove_posted : (old new : State P M) (y : M) (e : L) → Posts p m old y new → Drove p m w old e None new e (Some y)
  drove_posted old new y e posts =
      let K : State P M → Type 0 = λ s. Drove p m w old e None s e (Some y) in
      let rest : List Name = sent_from (course_of p m old.program) (p.rank_of old.program) (p.place old.program + 1) in
      subst K (sym posts.rest) (record {
        same_end = same_itself w.rank w.ends w.making w.tells_posted w.tells_taken e;
        same_run = refl;
        same_rank = refl;
        within = λ h. h;
        posted = λ told to. ap (λ ys. w.posted e to ++ addressed to (map m.name ys ++ rest)) (sym posts.outbox);
        grows = λ told n h. h;
        kept = λ told. kept_first p m w old e;
        awaited = λ told n h. inl h;
      })

  can_post_first : (old : State P M) (y : M) (rest : List M) (e : L) → IsSound p m old → old.over ≡ false → old.outbox ≡ y ∷ rest → Fits p m w old e → CanPost m w e y
  can_post_first old y rest e sound going_on front fits =
      let c = course_of p m old.program in
      let given = sound.outbox_rest going_on in
      let there : Contains (map m.name old.outbox) (m.name y) = Contains-map m.name old.outbox y (let K : List M → Type 0 = λ ys. Contains ys y in subst K (sym front) (Contains-head y rest)) in
      let K : List Name → Type 0 = λ l. Contains l (m.name y) in
      let at = from_sent c (label_of p m old.program) (p.rank_of old.program) (m.name y) (subst K given.1 (Contains-append_right given.0 (map m.name old.outbox) (m.name y) there)) in
      record { sender = at.1 ∙ sym fits.rank; addressee = let N : ℕ → Type 0 = λ n. (m.name y).addressee < n in subst N (sym fits.ends) at.2 }

  -- the program went on to its next label, or left them all
  module _ (old new : State P M) (sound : IsSound p m old) (sound' : IsSound p m new) (adv : Advances p m old new) where
    next_ahead : (c : Course m.Body) (r k : ℕ) (over : Bool) → new.over ≡ over → (new.over ≡ false → (k + 1 < length (c.labels r)) × (map m.name new.outbox ≡ sent c (label_at (c.labels r) (k + 1)) r)) → (new.over ≡ true → length (c.labels r) ≤ k + 1)
        → map m.name new.outbox ++ sent_from c r ((k + 1) + 1) ≡ sent_from c r (k + 1)
    next_ahead c r k false is more over =
        ap (λ l. l ++ sent_from c r ((k + 1) + 1)) (more is).1 ∙ ap (flat_map (λ at. sent c at r)) (sym (from_more (c.labels r) (k + 1) (more is).0))
    next_ahead c r k true is more over =
        let none = over is in
        ap (λ ys. map m.name ys ++ sent_from c r ((k + 1) + 1)) (sound'.nothing_over is).0
        ∙ (ap (flat_map (λ at. sent c at r)) (drop_all ((k + 1) + 1) (c.labels r) (omega (arith, none))) ∙ ap (flat_map (λ at. sent c at r)) (sym (drop_all (k + 1) (c.labels r) none)))

    same_ahead : ahead p m new ≡ ahead p m old
    same_ahead =
        let c = course_of p m old.program in
        let r = p.rank_of old.program in
        let k = p.place old.program in
        let At : R → ℕ → ℕ → List Name = λ run rank place. map m.name new.outbox ++ sent_from (m.course run) rank (place + 1) in
        let Going : R → ℕ → ℕ → Type 0 = λ run rank place. (place < length ((m.course run).labels rank)) × (map m.name new.outbox ≡ sent (m.course run) (label_at ((m.course run).labels rank) place) rank) in
        let Done : R → ℕ → ℕ → Type 0 = λ run rank place. length ((m.course run).labels rank) ≤ place in
        let here : At (p.run new.program) (p.rank_of new.program) (p.place new.program) ≡ At (p.run old.program) r (k + 1) = ap (λ (t : R × ℕ × ℕ). At t.0 t.1 t.2) (λ i. (adv.same_run i, adv.same_rank i, adv.next i)) in
        let more : new.over ≡ false → Going (p.run old.program) r (k + 1) = λ is. subst (λ (t : R × ℕ × ℕ). Going t.0 t.1 t.2) (λ i. (adv.same_run i, adv.same_rank i, adv.next i)) (going new sound' is, adv.outbox is) in
        let over : new.over ≡ true → Done (p.run old.program) r (k + 1) = λ is. subst (λ (t : R × ℕ × ℕ). Done t.0 t.1 t.2) (λ i. (adv.same_run i, adv.same_rank i, adv.next i)) (sound'.over.0 is) in
        here ∙ (next_ahead c r k new.over refl more over ∙ ap (λ ys. map m.name ys ++ sent_from c r (k + 1)) (sym adv.empty))

    same_awaiting : awaiting p m new ≡ awaited_from (course_of p m old.program) (p.rank_of old.program) (p.place old.program + 1)
    same_awaiting = ap (λ (t : R × ℕ × ℕ). awaited_from (m.course t.0) t.1 t.2) (λ i. (adv.same_run i, adv.same_rank i, adv.next i))

    awaited_or_kept : (n : Name) → Contains (awaiting p m old) n → Contains (awaiting p m new) n ⊎ Contains (map m.name old.kept) n
    awaited_or_kept n h =
        let c = course_of p m old.program in
        let r = p.rank_of old.program in
        let at = label_of p m old.program in
        let K : List Name → Type 0 = λ l. Contains l n in
        let both = subst K (ap (flat_map (λ l. awaited c l r)) (from_more (c.labels r) (p.place old.program) (going old sound adv.going_on))) h in
        ⊎_elim
        (λ now.
        let found = Contains-from_map m.name (of_label m.name at old.kept) n (subst K (sym adv.ready) now) in
        let inside = Contains-from_filter (λ x. is_eq (label_cmp (m.name x).label at)) old.kept found.0 found.1 in
        inr (subst K refl (let N : Name → Type 0 = λ k. Contains (map m.name old.kept) k in subst N found.2 (Contains-map m.name old.kept found.0 inside.0))))
        (λ later. inl (subst K (sym same_awaiting) later)) (Contains-append_cases (awaited c at r) (awaited_from c r (p.place old.program + 1)) n both)

    drove_advanced : (e : L) (hand : Option M) → Drove p m w old e hand new e hand
    drove_advanced e hand = record {
      same_end = same_itself w.rank w.ends w.making w.tells_posted w.tells_taken e;
      same_run = adv.same_run;
      same_rank = adv.same_rank;
      within = λ h. let below = going old sound adv.going_on in omega (arith, below, adv.next);
      posted = λ told to. ap (λ l. w.posted e to ++ addressed to (map m.name (option_to_list hand) ++ l)) same_ahead;
      grows = λ told n h. h;
      kept = λ told. kept_now new.over refl e;
      awaited = λ told n h. ⊎_elim (λ still. inl still) (λ got. inr (inr got)) (awaited_or_kept n h);
    } where
      kept_now : (over : Bool) → new.over ≡ over → (e' : L) → All (λ x. HasGot p m w old e' (m.name x)) new.kept
      kept_now false is e' = All-same (λ x. HasGot p m w old e' (m.name x)) new.kept (of_others m.name (label_of p m old.program) old.kept) (adv.kept is) (All-filter (λ x. is_ne (label_cmp (m.name x).label (label_of p m old.program))) (λ x. HasGot p m w old e' (m.name x)) old.kept (kept_first p m w old e'))
      kept_now true is e' = All-same (λ x. HasGot p m w old e' (m.name x)) new.kept [] (sound'.nothing_over is).1 (All-nil (λ x. HasGot p m w old e' (m.name x)))

  -- what a step comes to
  pub record Stepped (old : State P M) (e : L) (hand : Option M) (new : State P M) (step : Step M) : Type 0 where
    pub steady : IsSteady p m w new e (hand_of step)
    pub drove : Drove p m w old e hand new e (hand_of step)
    pub over : IsOverIf step new

  module _ (old : State P M) (e : L) (new : State P M) (going_on : old.failed ≡ false) (sound : IsSound p m new) (working : new.failed ≡ false) where
    steady_advanced : (hand : Option M) → IsSteady p m w old e hand → Advances p m old new → IsSteady p m w new e hand
    steady_advanced hand steady adv = record { sound = λ _. sound; fits = fits_along old new e adv.same_run adv.same_rank steady.fits; in_hand = steady.in_hand }

    steady_same : (hand : Option M) → IsSteady p m w old e hand → new ≡ old → IsSteady p m w new e hand
    steady_same hand steady is = let K : State P M → Type 0 = λ s. IsSteady p m w s e hand in subst K (sym is) steady

    drove_same : (hand : Option M) → new ≡ old → Drove p m w old e hand new e hand
    drove_same hand is = let K : State P M → Type 0 = λ s. Drove p m w old e hand s e hand in subst K (sym is) (drove_none p m w old e hand)

    rested : (hand : Option M) (took : Bool) → IsSteady p m w new e hand → Drove p m w old e hand new e hand → Stepped old e hand new (resting hand took)
    rested hand true steady drove = record { steady = steady; drove = drove; over = tt }
    rested hand false steady drove = record { steady = steady; drove = drove; over = tt }

    pub turned : (turn : Turn M) (hand : Option M) (took room : Bool) → room ≡ not (is_some hand) → IsSteady p m w old e hand → Turned p m old None room turn new → Stepped old e hand new (after_turn turn hand took)
    turned Took hand took room is steady never = absurd never
    turned (Posted y) None took room is steady (left, free, posts) =
        let before = steady.sound going_on in record {
          steady = record {
            sound = λ _. sound;
            fits = fits_along old new e (ap (λ s. p.run s.program) posts.rest) (ap (λ s. p.rank_of s.program) posts.rest) steady.fits;
            in_hand = All-cons (CanPost m w e) y [] (can_post_first old y new.outbox e before left posts.outbox steady.fits) (All-nil (CanPost m w e));
          };
          drove = drove_posted old new y e posts;
          over = tt;
        }
    turned (Posted y) (Some x) took room is steady (left, free, posts) = absurd (false≢true (sym is ∙ free))
    turned Advanced hand took room is steady (adv, left) = record { steady = steady_advanced hand steady adv; drove = drove_advanced old new (steady.sound going_on) sound adv e hand; over = tt }
    turned Finished None took room is steady (inl same) = record { steady = steady_same None steady same.1; drove = drove_same None same.1; over = (ap (λ (s : State P M). s.over) same.1 ∙ same.0, working) }
    turned Finished None took room is steady (inr left) = record { steady = steady_advanced None steady left.0; drove = drove_advanced old new (steady.sound going_on) sound left.0 e None; over = (left.1, working) }
    turned Finished (Some x) took room is steady (inl same) = rested (Some x) took (steady_same (Some x) steady same.1) (drove_same (Some x) same.1)
    turned Finished (Some x) took room is steady (inr left) = rested (Some x) took (steady_advanced (Some x) steady left.0) (drove_advanced old new (steady.sound going_on) sound left.0 e (Some x))
    turned Idle hand took room is steady (idle, same) = rested hand took (steady_same hand steady same) (drove_same hand same)

  -- at the end all was posted and all was taken
  module _ (s : State P M) (e : L) (s' : State P M) (e' : L) (drove : Drove p m w s e None s' e' None) (sound : IsSound p m s') (over : s'.over ≡ true) where
    pub finished_at : HasFinished p m w s s'.program
    finished_at =
        let done = sound.over.0 over in
        let Done : R → ℕ → Type 0 = λ r i. length ((m.course r).labels i) ≤ p.place s'.program in
        let here = subst (λ i. Done (p.run s.program) i) drove.same_rank (subst (λ r. Done r (p.rank_of s'.program)) drove.same_run done) in record {
          same_run = drove.same_run;
          same_rank = drove.same_rank;
          over = done;
          within = λ inside. let upto = drove.within inside in omega (arith, upto, here);
          stands = let K : Bool → Type 0 = λ b. p.stands s'.program (not b) in subst K over sound.stands;
        }

    pub posts_all : PostsAll p m w s e e'
    posts_all told to =
        let c = course_of p m s'.program in
        let r = p.rank_of s'.program in
        let done = sound.over.0 over in
        let none : ahead p m s' ≡ [] = ap (λ ys. map m.name ys ++ sent_from c r (p.place s'.program + 1)) (sound.nothing_over over).0 ∙ ap (flat_map (λ at. sent c at r)) (drop_all (p.place s'.program + 1) (c.labels r) (omega (arith, done))) in
        sym (append-nil (w.posted e' to)) ∙ (ap (λ l. w.posted e' to ++ addressed to l) (sym none) ∙ drove.posted told to)

    pub takes_all : TakesAll p m w s e e'
    takes_all told = λ k d below.
        let c = course_of p m s'.program in
        let r = p.rank_of s'.program in
        let n = get_or (awaiting p m s) k d in
        let done = sound.over.0 over in
        let none : awaiting p m s' ≡ [] = ap (flat_map (λ at. awaited c at r)) (drop_all (p.place s'.program) (c.labels r) done) in
        let K : List Name → Type 0 = λ l. Contains l n in
        ⊎_elim (λ still. let empty = subst K none still in absurd (omega (arith, empty.1))) (λ got. got) (drove.awaited told n (Contains-get_or (awaiting p m s) k d below))

module _ {P M R L : Type 0} (p : actor.Ghosts P M R) (m : letter.Ghosts M R) (w : wire.Ghosts L M R) where
  -- a turn with a letter took it
  pub takes_of : (old : State P M) (x : M) (room : Bool) (turn : Turn M) (new : State P M) → Turned p m old (Some x) room turn new → Takes p m old x new
  takes_of old x room Took new h = h
  takes_of old x room (Posted y) new h = absurd h
  takes_of old x room Advanced new h = absurd h
  takes_of old x room Finished new h = absurd h
  takes_of old x room Idle new h = absurd h

  -- nothing was taken
  pub drove_left : (s : State P M) (e e' : L) (hand : Option M) → IsSame p m w e e' → (w.tells_posted e ≡ true → (to : ℕ) → w.posted e' to ≡ w.posted e to) → (w.tells_taken e ≡ true → w.taken e' ≡ w.taken e) → Drove p m w s e hand s e' hand
  drove_left s e e' hand same posted taken = drove_post p m w s e e' hand hand same (λ told to. ap (λ l. l ++ addressed to (map m.name (option_to_list hand))) (posted told to)) taken

  -- the machine and the end stay a rank's
  pub steady_along : (s : State P M) (e : L) (hand : Option M) (s' : State P M) (e' : L) (hand' : Option M) → Drove p m w s e hand s' e' hand' → (s'.failed ≡ false → IsSound p m s') → IsSteady p m w s e hand → IsSteady p m w s' e' hand
  steady_along s e hand s' e' hand' drove sound steady = record {
    sound = sound;
    fits = fits_along p m w s s' e' drove.same_run drove.same_rank (fits_same p m w s e e' drove.same_end steady.fits);
    in_hand = can_post_same p m w e e' hand drove.same_end steady.in_hand;
  }
