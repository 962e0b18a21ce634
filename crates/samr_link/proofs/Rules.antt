-- Each kind of step keeps the rule of an inbox.
use Rattle.std.proofs.Common.{◌≡◌, ◌≢◌, ℕ, ◌<◌, ◌≤◌, cond, eqb, List, [], ◌∷◌, ◌++◌, length, get_or, set, sym, refl, ap, ◌∙◌, subst, ⊎_elim, append_assoc, Bool, true, false, Option, Some, None, arith, length-append}
use mathlib.Core.Option.{some, some-ne-none}
use lib.ListN.{get_elem?}
use Rattle.std.proofs.lemmas.Bool.{false≢true, cases_lt}
use Rattle.std.proofs.lemmas.List.{get_or_append_left, get_or_push, get_or_past}
use Rattle.std.proofs.lemmas.Option.{none-some}
use Rattle.crossbeam_queue.specs.Fifo.{Pushes, Pops, Forks, Merges, Learns}
use Rattle.crossbeam_queue.proofs.Lists.{at_set}
use Rattle.samr_link.specs.declared.inbox.View.{View}
use Rattle.samr_link.specs.Inbox.{of_sender, Fits, Inboxed, IsSeen, KeepsAll, IsBalanced}
use Rattle.samr_link.specs.Views.{fresh, spent_view, posts_more, takes_more, lends, poster, lends_taking, taker, takes_over, takes_back}
use Rattle.samr_link.proofs.Seats.{Each, each_set, each_end, seat_here, seat_else, seat_either, of_more_here, of_more_else}

some_is : {A : Type 0} {a b : A} → Some a ≡ Some b → a ≡ b
some_is e = cc

never : {X : Type 0} (b : Bool) → b ≡ false → b ≡ true → X
never b quiet posts = absurd (false≢true (sym quiet ∙ posts))

module _ {M : Type 0} (sender : M → ℕ) where
  -- a pass that knows nothing
  knows_nothing : (keeper reader : ℕ) (seat : ℕ → Option ℕ) (taken all : List M) (pass : ℕ) → Fits sender keeper reader seat taken all pass spent_view
  knows_nothing keeper reader seat taken all pass = record {
    posting = λ p. absurd (false≢true p);
    taking = λ p. absurd (false≢true p);
    keeping = λ p. absurd (false≢true p);
  }

  pub begins : Inboxed sender [] (fresh ∷ [])
  begins =
      let seat : ℕ → Option ℕ = λ s. None in
      let first : Fits sender 0 0 seat [] [] 0 fresh = record {
        posting = λ p. absurd (false≢true p);
        taking = λ _. (refl, refl);
        keeping = λ _. (refl, (λ s _. (refl, refl)), (λ s below. absurd (omega (arith, below))), omega arith);
      } in
      (0, 0, seat, [], each_end (Fits sender 0 0 seat [] []) [] fresh (λ j u e. absurd (some-ne-none u (sym e))) first)

  pub sends : (n pass : ℕ) (v : View M) (x : M) → v.posts ≡ true → sender x ≡ v.from → Pushes (Inboxed sender) n pass v x (λ w. w ≡ posts_more v x)
  sends n pass v x may from items views _ h at =
      let keeper = h.0 in
      let reader = h.1 in
      let seat = h.2 in
      let taken = h.3 in
      let old : List M = taken ++ items in
      let all : List M = taken ++ (items ++ x ∷ []) in
      let w : View M = posts_more v x in
      let mine = h.4 pass v at in
      let sat = (mine.posting may).0 in
      let grows : all ≡ old ++ x ∷ [] = sym (append_assoc taken items (x ∷ [])) in
      let here : v.posted ++ x ∷ [] ≡ of_sender sender v.from all =
      ap (λ l. l ++ x ∷ []) (mine.posting may).1 ∙ (sym (of_more_here sender v.from old x from) ∙ ap (of_sender sender v.from) (sym grows)) in
      let else : (s : ℕ) → s ≢ v.from → of_sender sender s all ≡ of_sender sender s old =
      λ s apart. ap (of_sender sender s) grows ∙ of_more_else sender s old x (λ e. apart (sym e ∙ from)) in
      let vacant : (s : ℕ) → seat s ≡ None → s ≢ v.from = λ s none e. none-some pass (sym none ∙ (ap seat e ∙ sat)) in
      let keeps : (j : ℕ) (u : View M) → Fits sender keeper reader seat taken old j u → u.keeps ≡ true → (j ≡ keeper)
      × ((s : ℕ) → u.given ≤ s → (seat s ≡ None) × (of_sender sender s all ≡ []))
      × ((s : ℕ) → s < length u.known → (seat s ≡ None) × (get_or u.known s [] ≡ of_sender sender s all))
      × (length u.known ≤ u.given) =
      λ j u f k.
      let p = f.keeping k in (
        p.0,
        (λ s le. ((p.1 s le).0, else s (vacant s (p.1 s le).0) ∙ (p.1 s le).1)),
        (λ s lt. ((p.2 s lt).0, (p.2 s lt).1 ∙ sym (else s (vacant s (p.2 s lt).0)))),
        p.3,
      ) in
      let mine' : Fits sender keeper reader seat taken all pass w = record { posting = λ _. (sat, here); taking = mine.taking; keeping = λ k. keeps pass v mine k } in
      let others : (j : ℕ) (u : View M) → j ≢ pass → get_elem? views j ≡ some u → Fits sender keeper reader seat taken all j u =
      λ j u apart e.
      let f = h.4 j u e in record {
        posting = λ p.
            let q = f.posting p in
            let far : u.from ≢ v.from = λ same. apart (some_is (sym q.0 ∙ (ap seat same ∙ sat))) in
            (q.0, q.1 ∙ sym (else u.from far));
        taking = f.taking;
        keeping = λ k. keeps j u f k;
      } in
      (w, (keeper, reader, seat, taken, each_set (Fits sender keeper reader seat taken all) views pass w mine' others), refl)

  pub gets : (pass : ℕ) (v : View M) → v.takes ≡ true → Pops (Inboxed sender) pass v (λ x w. w ≡ takes_more v x)
  gets pass v may x items views h at =
      let keeper = h.0 in
      let reader = h.1 in
      let seat = h.2 in
      let taken = h.3 in
      let now : List M = taken ++ x ∷ [] in
      let w : View M = takes_more v x in
      let mine = h.4 pass v at in
      let same : now ++ items ≡ taken ++ (x ∷ items) = append_assoc taken (x ∷ []) items in
      let Now : ℕ → View M → List M → Type 0 = λ j u all. Fits sender keeper reader seat now all j u in
      let mine' : Now pass w (taken ++ (x ∷ items)) = record {
        posting = mine.posting;
        taking = λ _. ((mine.taking may).0, ap (λ l. l ++ x ∷ []) (mine.taking may).1);
        keeping = mine.keeping;
      } in
      let others : (j : ℕ) (u : View M) → j ≢ pass → get_elem? views j ≡ some u → Now j u (taken ++ (x ∷ items)) =
      λ j u apart e.
      let f = h.4 j u e in record {
        posting = f.posting;
        taking = λ p. absurd (apart ((f.taking p).0 ∙ sym (mine.taking may).0));
        keeping = f.keeping;
      } in
      let all = each_set (λ j u. Now j u (taken ++ (x ∷ items))) views pass w mine' others in
      (w, (keeper, reader, seat, now, λ j u e. subst (Now j u) (sym same) (all j u e)), refl)

  pub gives_poster : (pass : ℕ) (v : View M) → v.keeps ≡ true → v.posts ≡ false → Forks (Inboxed sender) pass v (lends v) (poster v)
  gives_poster pass v keeps quiet items views h at =
      let keeper = h.0 in
      let reader = h.1 in
      let seat = h.2 in
      let taken = h.3 in
      let all : List M = taken ++ items in
      let mine = h.4 pass v at in
      let mine_keeps = mine.keeping keeps in
      let vs : List (View M) = set views pass (lends v) in
      let seat' : ℕ → Option ℕ = λ s. cond (eqb s v.given) (Some (length vs)) (seat s) in
      let new = mine_keeps.1 v.given (omega arith) in
      let left : Fits sender keeper reader seat' taken all pass (lends v) = record {
        posting = λ p. never v.posts quiet p;
        taking = mine.taking;
        keeping = λ _. (
          mine_keeps.0,
          (λ s le. let before : v.given ≤ s = omega (arith, le) in
              (seat_else seat v.given (Some (length vs)) s (λ e. absurd (omega (arith, le, e))) ∙ (mine_keeps.1 s before).0, (mine_keeps.1 s before).1)),
          (λ s lt. (seat_else seat v.given (Some (length vs)) s (λ e. absurd (omega (arith, lt, e, mine_keeps.3))) ∙ (mine_keeps.2 s lt).0, (mine_keeps.2 s lt).1)),
          omega (arith, mine_keeps.3),
        );
      } in
      let others : (j : ℕ) (u : View M) → j ≢ pass → get_elem? views j ≡ some u → Fits sender keeper reader seat' taken all j u =
      λ j u apart e.
      let f = h.4 j u e in record {
        posting = λ p.
            let q = f.posting p in
            (seat_else seat v.given (Some (length vs)) u.from (λ same. none-some j (sym new.0 ∙ (ap seat (sym same) ∙ q.0))) ∙ q.0, q.1);
        taking = f.taking;
        keeping = λ p. absurd (apart ((f.keeping p).0 ∙ sym mine_keeps.0));
      } in
      let right : Fits sender keeper reader seat' taken all (length vs) (poster v) = record {
        posting = λ _. (seat_here seat v.given (Some (length vs)) v.given refl, sym new.1);
        taking = λ p. absurd (false≢true p);
        keeping = λ p. absurd (false≢true p);
      } in
      let F : ℕ → View M → Type 0 = Fits sender keeper reader seat' taken all in
      (keeper, reader, seat', taken, each_end F vs (poster v) (each_set F views pass (lends v) left others) right)

  pub gives_taker : (pass : ℕ) (v : View M) → v.keeps ≡ true → v.takes ≡ true → v.posts ≡ false → Forks (Inboxed sender) pass v (lends_taking v) (taker v)
  gives_taker pass v keeps may quiet items views h at =
      let keeper = h.0 in
      let seat = h.2 in
      let taken = h.3 in
      let all : List M = taken ++ items in
      let mine = h.4 pass v at in
      let vs : List (View M) = set views pass (lends_taking v) in
      let F : ℕ → View M → Type 0 = Fits sender keeper (length vs) seat taken all in
      let left : F pass (lends_taking v) = record {
        posting = λ p. never v.posts quiet p;
        taking = λ p. absurd (false≢true p);
        keeping = mine.keeping;
      } in
      let others : (j : ℕ) (u : View M) → j ≢ pass → get_elem? views j ≡ some u → F j u =
      λ j u apart e.
      let f = h.4 j u e in record {
        posting = f.posting;
        taking = λ p. absurd (apart ((f.taking p).0 ∙ sym (mine.taking may).0));
        keeping = f.keeping;
      } in
      let right : F (length vs) (taker v) = record {
        posting = λ p. absurd (false≢true p);
        taking = λ _. (refl, (mine.taking may).1);
        keeping = λ p. absurd (false≢true p);
      } in
      (keeper, length vs, seat, taken, each_end F vs (taker v) (each_set F views pass (lends_taking v) left others) right)

  pub ends_poster : (pass : ℕ) (v : View M) (other : ℕ) (w : View M) → v.keeps ≡ true → v.posts ≡ false → w.posts ≡ true → w.from ≡ length v.known
      → Merges (Inboxed sender) pass v other w (takes_over v w) spent_view
  ends_poster pass v other w keeps quiet theirs next items views h at two at' =
      let keeper = h.0 in
      let reader = h.1 in
      let seat = h.2 in
      let taken = h.3 in
      let all : List M = taken ++ items in
      let mine = h.4 pass v at in
      let mine_keeps = mine.keeping keeps in
      let both : View M = takes_over v w in
      let vs : List (View M) = set views pass both in
      let was : get_elem? views other ≡ some w = ⊎_elim (λ t. absurd (two t.0)) (λ t. t.1) (at_set views pass other both w at') in
      let back = (h.4 other w was).posting theirs in
      let seat' : ℕ → Option ℕ = λ s. cond (eqb s w.from) None (seat s) in
      let room : w.from < v.given = ⊎_elim (λ lt. lt) (λ ge. absurd (none-some other (sym (mine_keeps.1 w.from ge).0 ∙ back.0))) (cases_lt w.from v.given) in
      let known : (s : ℕ) → s < length both.known → (seat' s ≡ None) × (get_or both.known s [] ≡ of_sender sender s all) =
      λ s lt. ⊎_elim
      (λ before. (seat_either seat w.from None s (mine_keeps.2 s before).0, get_or_append_left v.known (w.posted ∷ []) [] s before ∙ (mine_keeps.2 s before).1))
      (λ after.
      let last : s ≡ length v.known = omega (arith, lt, after, length-append v.known (w.posted ∷ [])) in
      (seat_here seat w.from None s (last ∙ sym next), get_or_push v.known w.posted [] s (sym last) ∙ (back.1 ∙ ap (λ k. of_sender sender k all) (next ∙ sym last))))
      (cases_lt s (length v.known)) in
      let F : ℕ → View M → Type 0 = Fits sender keeper reader seat' taken all in
      let mine' : F pass both = record {
        posting = λ p. never v.posts quiet p;
        taking = mine.taking;
        keeping = λ _. (
          mine_keeps.0,
          (λ s le. (seat_either seat w.from None s (mine_keeps.1 s le).0, (mine_keeps.1 s le).1)),
          known,
          omega (arith, room, next, length-append v.known (w.posted ∷ [])),
        );
      } in
      let others : (j : ℕ) (u : View M) → j ≢ pass → j ≢ other → get_elem? views j ≡ some u → F j u =
      λ j u apart far e.
      let f = h.4 j u e in record {
        posting = λ p.
            let q = f.posting p in
            (seat_else seat w.from None u.from (λ same. far (some_is (sym q.0 ∙ (ap seat same ∙ back.0)))) ∙ q.0, q.1);
        taking = f.taking;
        keeping = λ p. absurd (apart ((f.keeping p).0 ∙ sym mine_keeps.0));
      } in
      let merged : Each (λ j u. j ≢ other → F j u) vs = each_set (λ j u. j ≢ other → F j u) views pass both (λ _. mine') (λ j u apart e far. others j u apart far e) in
      (keeper, reader, seat', taken, each_set F vs other spent_view (knows_nothing keeper reader seat' taken all other) (λ j u far e. merged j u e far))

  pub ends_taker : (pass : ℕ) (v : View M) (other : ℕ) (w : View M) → v.keeps ≡ true → v.posts ≡ false → w.takes ≡ true
      → Merges (Inboxed sender) pass v other w (takes_back v w) spent_view
  ends_taker pass v other w keeps quiet theirs items views h at two at' =
      let keeper = h.0 in
      let seat = h.2 in
      let taken = h.3 in
      let all : List M = taken ++ items in
      let mine = h.4 pass v at in
      let both : View M = takes_back v w in
      let vs : List (View M) = set views pass both in
      let was : get_elem? views other ≡ some w = ⊎_elim (λ t. absurd (two t.0)) (λ t. t.1) (at_set views pass other both w at') in
      let back = (h.4 other w was).taking theirs in
      let F : ℕ → View M → Type 0 = Fits sender keeper pass seat taken all in
      let mine' : F pass both = record { posting = λ p. never v.posts quiet p; taking = λ _. (refl, back.1); keeping = mine.keeping } in
      let others : (j : ℕ) (u : View M) → j ≢ pass → j ≢ other → get_elem? views j ≡ some u → F j u =
      λ j u apart far e.
      let f = h.4 j u e in record {
        posting = f.posting;
        taking = λ p. absurd (far ((f.taking p).0 ∙ sym back.0));
        keeping = f.keeping;
      } in
      let merged : Each (λ j u. j ≢ other → F j u) vs = each_set (λ j u. j ≢ other → F j u) views pass both (λ _. mine') (λ j u apart e far. others j u apart far e) in
      (keeper, pass, seat, taken, each_set F vs other spent_view (knows_nothing keeper pass seat taken all other) (λ j u far e. merged j u e far))

  pub sees : (pass : ℕ) (v : View M) → Learns (Inboxed sender) pass v (IsSeen sender v)
  sees pass v items views h at = (views, pass, h, at)

  pub balances : (pass : ℕ) (v : View M) → Learns (Inboxed sender) pass v (λ items. KeepsAll v → IsBalanced sender v items)
  balances pass v items views h at all s =
      let mine = h.4 pass v at in
      let keeping = mine.keeping all.keeps in
      let taken = ap (λ l. of_sender sender s (l ++ items)) (sym (mine.taking all.takes).1) in
      ⊎_elim (λ below. (keeping.2 s below).1 ∙ taken) (λ beyond. get_or_past v.known s [] beyond ∙ (sym (keeping.1 s (omega (arith, beyond, all.all))).1 ∙ taken)) (cases_lt s (length v.known))
