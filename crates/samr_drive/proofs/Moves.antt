-- The moves of a driver: each is one that the next can follow.
use Rattle.std.proofs.Common.{◌≡◌, ℕ, ◌<◌, ◌≤◌, List, ◌++◌, length, map, get_or, eqb, sym, refl, ap, ◌∙◌, subst, inl, inr, ⊎_elim, append_assoc, All, Contains, Bool, true, Option}
use Rattle.std.specs.Option.{option_to_list}
use Rattle.std.proofs.lemmas.List.Elements.{filter-append, All-weaker, Contains-get_or, All-contains}
use Rattle.samr_link.specs.declared.link.Link as wire
use Rattle.samr_link.specs.Ends.{IsSameEnd}
use Rattle.samr_link.specs.Names.{addressed}
use Rattle.samr_stage.specs.declared.label.Name.{Name}
use Rattle.samr_stage.specs.declared.mail.Mail as letter
use Rattle.samr_stage.specs.declared.program.Program as actor
use Rattle.samr_stage.specs.Machine.{State}
use Rattle.samr_stage.proofs.Lists.{Contains-map, Contains-from_map}
use Rattle.samr_drive.specs.Ahead.{ahead}
use Rattle.samr_drive.specs.Driven.{CanPost, Fits, IsSteady, IsSame, HasGot, Drove}

pub addressed-append : (to : ℕ) (xs ys : List Name) → addressed to (xs ++ ys) ≡ addressed to xs ++ addressed to ys
addressed-append to xs ys = filter-append (λ n. eqb n.addressee to) xs ys

module _ {L : Type 0} (rank ends : L → ℕ) (making : L → _) (tells_posted tells_taken : L → Bool) where
  pub same_itself : (e : L) → IsSameEnd rank ends making tells_posted tells_taken e e
  same_itself e = record { same_rank = refl; same_ends = refl; same_making = refl; same_tells_posted = refl; same_tells_taken = refl }

  pub same_twice : (d e f : L) → IsSameEnd rank ends making tells_posted tells_taken d e → IsSameEnd rank ends making tells_posted tells_taken e f → IsSameEnd rank ends making tells_posted tells_taken d f
  same_twice d e f a b = record {
    same_rank = b.same_rank ∙ a.same_rank;
    same_ends = b.same_ends ∙ a.same_ends;
    same_making = b.same_making ∙ a.same_making;
    same_tells_posted = b.same_tells_posted ∙ a.same_tells_posted;
    same_tells_taken = b.same_tells_taken ∙ a.same_tells_taken;
  }

module _ {P M R L : Type 0} (p : actor.Ghosts P M R) (m : letter.Ghosts M R) (w : wire.Ghosts L M R) where
  -- what a machine keeps it kept at first
  pub kept_first : (s : State P M) (e : L) → All (λ x. HasGot p m w s e (m.name x)) s.kept
  kept_first s e k d below = inr (Contains-map m.name s.kept (get_or s.kept k d) (Contains-get_or s.kept k d below))

  -- nothing moved
  pub drove_none : (s : State P M) (e : L) (hand : Option M) → Drove p m w s e hand s e hand
  drove_none s e hand = record {
    same_end = same_itself w.rank w.ends w.making w.tells_posted w.tells_taken e;
    same_run = refl;
    same_rank = refl;
    within = λ h. h;
    posted = λ told to. refl;
    grows = λ told n h. h;
    kept = λ told. kept_first s e;
    awaited = λ told n h. inl h;
  }

  -- one move after another
  pub drove_more : (s : State P M) (e : L) (h : Option M) (s' : State P M) (e' : L) (h' : Option M) (s'' : State P M) (e'' : L) (h'' : Option M)
      → Drove p m w s e h s' e' h' → Drove p m w s' e' h' s'' e'' h'' → Drove p m w s e h s'' e'' h''
  drove_more s e h s' e' h' s'' e'' h'' a b =
      let told' : w.tells_taken e ≡ true → w.tells_taken e' ≡ true = λ told. a.same_end.same_tells_taken ∙ told in
      let later : w.tells_taken e ≡ true → (n : Name) → HasGot p m w s e' n → HasGot p m w s e'' n =
      λ told n. ⊎_elim (λ got. inl (b.grows (told' told) n got)) (λ first. inr first) in
      let through : w.tells_taken e ≡ true → (n : Name) → HasGot p m w s' e'' n → HasGot p m w s e'' n =
      λ told n. ⊎_elim (λ got. inl got)
      (λ kept.
      let found = Contains-from_map m.name s'.kept n kept in
      let Got : Name → Type 0 = λ k. HasGot p m w s e'' k in
      subst Got found.2 (later told (m.name found.0) (All-contains (λ x. HasGot p m w s e' (m.name x)) s'.kept found.0 (a.kept told) found.1))) in
      let Within : R → ℕ → Type 0 = λ r i. p.place s'.program ≤ length ((m.course r).labels i) → p.place s''.program ≤ length ((m.course r).labels i) in
      record {
        same_end = same_twice w.rank w.ends w.making w.tells_posted w.tells_taken e e' e'' a.same_end b.same_end;
        same_run = b.same_run ∙ a.same_run;
        same_rank = b.same_rank ∙ a.same_rank;
        within = λ inside. (subst (λ i. Within (p.run s.program) i) a.same_rank (subst (λ r. Within r (p.rank_of s'.program)) a.same_run b.within)) (a.within inside);
        posted = λ told to. b.posted (a.same_end.same_tells_posted ∙ told) to ∙ a.posted told to;
        grows = λ told n h. b.grows (told' told) n (a.grows told n h);
        kept = λ told. All-weaker (λ x. HasGot p m w s' e'' (m.name x)) (λ x. HasGot p m w s e'' (m.name x)) (λ x got. through told (m.name x) got) s''.kept (b.kept (told' told));
        awaited = λ told n ahead. ⊎_elim (λ still. ⊎_elim (λ left. inl left) (λ got. inr (through told n got)) (b.awaited (told' told) n still)) (λ got. inr (later told n got)) (a.awaited told n ahead);
      }

  -- the letter in hand was posted, or came back
  pub drove_post : (s : State P M) (e e' : L) (hand hand' : Option M) → IsSame p m w e e'
      → (w.tells_posted e ≡ true → (to : ℕ) → w.posted e' to ++ addressed to (map m.name (option_to_list hand')) ≡ w.posted e to ++ addressed to (map m.name (option_to_list hand)))
      → (w.tells_taken e ≡ true → w.taken e' ≡ w.taken e) → Drove p m w s e hand s e' hand'
  drove_post s e e' hand hand' same posted taken = record {
    same_end = same;
    same_run = refl;
    same_rank = refl;
    within = λ h. h;
    posted = λ told to.
        let inside : List Name = map m.name (option_to_list hand) in
        let inside' : List Name = map m.name (option_to_list hand') in
        ap (λ l. w.posted e' to ++ l) (addressed-append to inside' (ahead p m s))
        ∙ (sym (append_assoc (w.posted e' to) (addressed to inside') (addressed to (ahead p m s)))
        ∙ (ap (λ l. l ++ addressed to (ahead p m s)) (posted told to) ∙ (append_assoc (w.posted e to) (addressed to inside) (addressed to (ahead p m s)) ∙ ap (λ l. w.posted e to ++ l) (sym (addressed-append to inside (ahead p m s))))));
    grows = λ told n h. let K : List Name → Type 0 = λ l. Contains l n in subst K (sym (taken told)) h;
    kept = λ told. kept_first s e';
    awaited = λ told n h. inl h;
  }

  -- an end of the same rank and number of ends
  pub fits_same : (s : State P M) (e e' : L) → IsSame p m w e e' → Fits p m w s e → Fits p m w s e'
  fits_same s e e' same fits = record { rank = same.same_rank ∙ fits.rank; ends = same.same_ends ∙ fits.ends }

  pub can_post_same : (e e' : L) (hand : Option M) → IsSame p m w e e' → All (CanPost m w e) (option_to_list hand) → All (CanPost m w e') (option_to_list hand)
  can_post_same e e' hand same all =
      All-weaker (CanPost m w e) (CanPost m w e') (λ x can. record { sender = can.sender ∙ sym same.same_rank; addressee = let K : ℕ → Type 0 = λ n. (m.name x).addressee < n in subst K (sym same.same_ends) can.addressee }) (option_to_list hand) all

  pub steady_post : (s : State P M) (e e' : L) (hand hand' : Option M) → IsSteady p m w s e hand → IsSame p m w e e' → All (CanPost m w e) (option_to_list hand') → IsSteady p m w s e' hand'
  steady_post s e e' hand hand' steady same can = record { sound = steady.sound; fits = fits_same s e e' same steady.fits; in_hand = can_post_same e e' hand' same can }
