-- A rank goes from one turn of a phase to the next.
use Rattle.std.proofs.Common.{◌≡◌, ℕ, zero, suc, ◌+◌, ◌<◌, ◌≤◌, List, [], ◌∷◌, ◌++◌, refl, sym, ap, ◌∙◌, subst, arith, Bool, true, false}
use Rattle.std.proofs.lemmas.List.{append_assoc}
use Rattle.std.proofs.lemmas.List.Elements.{All-append, All-nil}
use Rattle.samr_stage.specs.Fragments.{Fragment}
use Rattle.samr_phase.specs.declared.went.Went.{Went}
use Rattle.samr_phase.specs.declared.went.Went.TheVariants.{On, Over}
use Rattle.samr_phase.specs.Going.{AreSkipped, GoesOn, GoesOver, Goes}
use Rattle.samr_phase.specs.Turning.{after_turns, in_turns, last, ahead, IsInTurn, IsTurn}

-- fragments that a rank skips before it goes on or over
pub goes_further : {P O B : Type 0} (stands : P → Fragment B → List (Fragment B) → Bool → Type 0) (gives : O → Type 0) (rank : ℕ) (xs ys : List (Fragment B)) (went : Went P O) → AreSkipped rank xs → Goes stands gives rank ys went → Goes stands gives rank (xs ++ ys) went
goes_further stands gives rank xs ys (On p) none on = record {
  skipped = xs ++ on.skipped;
  here = on.here;
  rest = on.rest;
  all = ap (λ fs. xs ++ fs) on.all ∙ sym (append_assoc xs on.skipped (on.here ∷ on.rest));
  skips = All-append (λ f. f.visits rank ≡ false) xs on.skipped none on.skips;
  visits = on.visits;
  there = on.there;
}
goes_further stands gives rank xs ys (Over out) none over = record {
  skips = All-append (λ f. f.visits rank ≡ false) xs ys none over.skips;
  given = over.given;
}

module _ {W B : Type 0} (fragments : W → List (Fragment B)) (after : W → W) (left : W → ℕ) where
  pub no_turn : (w : W) → left w ≡ 0 → (ahead fragments after left w ≡ []) × (last fragments after left w ≡ w)
  unfolding last ahead after_turns in_turns
  no_turn w none =
      (ap (λ n. in_turns fragments after n w) none, ap (λ n. after_turns after n w) none)

  pub one_turn : (w : W) → left w ≡ left (after w) + 1 → (ahead fragments after left w ≡ fragments w ++ ahead fragments after left (after w)) × (last fragments after left w ≡ last fragments after left (after w))
  unfolding last ahead after_turns in_turns
  one_turn w more =
      let is : left w ≡ suc (left (after w)) = omega (arith, more) in
      (ap (λ n. in_turns fragments after n w) is, ap (λ n. after_turns after n w) is)

  module _ {X : Type 0} (holds : X → W → ℕ → Type 0) (idle : W → ℕ → Type 0) (fewer : (w : W) → 0 < left w → left w ≡ left (after w) + 1)
      (rests : (w : W) (rank : ℕ) → idle w rank → 0 < left w → AreSkipped rank (fragments w) × idle (after w) rank)
      (stays : (x : X) (w : W) (rank : ℕ) → holds x w rank → idle w rank → 0 < left w → holds x (after w) rank) where
    idle_turns : (n : ℕ) (x : X) (w : W) (rank : ℕ) → left w ≡ n → idle w rank → holds x w rank → AreSkipped rank (in_turns fragments after n w) × (holds x (after_turns after n w) rank × (idle (after_turns after n w) rank × (left (after_turns after n w) ≡ 0)))
    unfolding after_turns in_turns
    idle_turns zero x w rank is rest h = (All-nil (λ f. f.visits rank ≡ false), (h, (rest, is)))
    idle_turns (suc n) x w rank is rest h =
        let some : 0 < left w = omega (arith, is) in
        let now = rests w rank rest some in
        let fewer_left : left (after w) ≡ n = omega (arith, is, fewer w some) in
        let next = idle_turns n x (after w) rank fewer_left now.1 (stays x w rank h rest some) in
        (All-append (λ f. f.visits rank ≡ false) (fragments w) (in_turns fragments after n (after w)) now.0 next.0, next.1)

    -- an idle rank visits none of the turns that are left, and has at the end what it has
    pub idle_over : (gives : X → W → ℕ → Type 0) → ((x : X) (w : W) (rank : ℕ) → holds x w rank → idle w rank → left w ≡ 0 → gives x w rank) → (x : X) (w : W) (rank : ℕ) → idle w rank → holds x w rank
        → GoesOver (λ out. gives out (last fragments after left w) rank) rank (ahead fragments after left w) x
    unfolding last ahead
    idle_over gives ends x w rank rest h =
        let all = idle_turns (left w) x w rank refl rest h in
        record { skips = all.0; given = ends x (after_turns after (left w) w) rank all.1.0 all.1.1.0 all.1.1.1 }

  module _ {P Q : Type 0} (of : Q → P) (stands : P → W → ℕ → Fragment B → List (Fragment B) → Bool → Type 0) (ranks : W → ℕ) (rank : ℕ) where
    -- a rank goes on in a turn
    pub turn_on : (w now : W) (fs : List (Fragment B)) (q : Q) → last fragments after left (after now) ≡ last fragments after left w → ranks now ≡ ranks w → GoesOn (λ p. stands p now rank) rank fs (of q)
        → GoesOn (λ q. IsInTurn fragments after left stands ranks w rank (of q)) rank (fs ++ ahead fragments after left (after now)) q
    turn_on w now fs q same_last same_ranks on = record {
      skipped = on.skipped;
      here = on.here;
      rest = on.rest ++ ahead fragments after left (after now);
      all = ap (λ gs. gs ++ ahead fragments after left (after now)) on.all ∙ append_assoc on.skipped (on.here ∷ on.rest) (ahead fragments after left (after now));
      skips = on.skips;
      visits = on.visits;
      there = record { now = now; same_last = same_last; same_ranks = same_ranks; these = on.rest; rest_is = refl; there = on.there };
    }

    -- where a rank goes from a later turn is where it goes from the first
    pub turn_later : {X : Type 0} (holds : X → W → ℕ → Type 0) (w now : W) (fs : List (Fragment B)) (went : Went Q X) → last fragments after left now ≡ last fragments after left w → ranks now ≡ ranks w
        → Goes (λ q. IsInTurn fragments after left stands ranks now rank (of q)) (λ out. holds out (last fragments after left now) rank) rank fs went
        → Goes (λ q. IsInTurn fragments after left stands ranks w rank (of q)) (λ out. holds out (last fragments after left w) rank) rank fs went
    turn_later holds w now fs (On q) same_last same_ranks on = record {
      skipped = on.skipped;
      here = on.here;
      rest = on.rest;
      all = on.all;
      skips = on.skips;
      visits = on.visits;
      there = record { now = on.there.now; same_last = on.there.same_last ∙ same_last; same_ranks = on.there.same_ranks ∙ same_ranks; these = on.there.these; rest_is = on.there.rest_is; there = on.there.there };
    }
    turn_later holds w now fs (Over out) same_last same_ranks over = record {
      skips = over.skips;
      given = subst (λ v. holds out v rank) same_last over.given;
    }

    -- the first turn of those that are left
    pub turn_first : (w : W) (q : Q) → left w ≡ left (after w) + 1 → GoesOn (λ p. stands p w rank) rank (fragments w) (of q) → GoesOn (λ q. IsInTurn fragments after left stands ranks w rank (of q)) rank (ahead fragments after left w) q
    turn_first w q more on =
        let step = one_turn w more in
        subst (λ fs. GoesOn (λ q. IsInTurn fragments after left stands ranks w rank (of q)) rank fs q) (sym step.0) (turn_on w w (fragments w) q (sym step.1) refl on)

    -- the others, where a rank visits nothing in the first
    pub turn_next : {X : Type 0} (holds : X → W → ℕ → Type 0) (w : W) (went : Went Q X) → left w ≡ left (after w) + 1 → ranks (after w) ≡ ranks w → AreSkipped rank (fragments w)
        → Goes (λ q. IsInTurn fragments after left stands ranks (after w) rank (of q)) (λ out. holds out (last fragments after left (after w)) rank) rank (ahead fragments after left (after w)) went
        → Goes (λ q. IsInTurn fragments after left stands ranks w rank (of q)) (λ out. holds out (last fragments after left w) rank) rank (ahead fragments after left w) went
    turn_next {X = X} holds w went more same_ranks none goes =
        let step = one_turn w more in
        let S : Q → Fragment B → List (Fragment B) → Bool → Type 0 = λ q. IsInTurn fragments after left stands ranks w rank (of q) in
        let G : X → Type 0 = λ out. holds out (last fragments after left w) rank in
        subst (λ fs. Goes S G rank fs went) (sym step.0) (goes_further S G rank (fragments w) (ahead fragments after left (after w)) went none (turn_later holds w (after w) (ahead fragments after left (after w)) went (sym step.1) same_ranks goes))

    -- from within a turn a rank goes on in it, or to the turns after it
    pub within_on : (w now : W) (these rest : List (Fragment B)) (q : Q) → rest ≡ these ++ ahead fragments after left (after now) → last fragments after left (after now) ≡ last fragments after left w → ranks now ≡ ranks w
        → GoesOn (λ p. stands p now rank) rank these (of q) → GoesOn (λ q. IsInTurn fragments after left stands ranks w rank (of q)) rank rest q
    within_on w now these rest q is same_last same_ranks on =
        subst (λ fs. GoesOn (λ q. IsInTurn fragments after left stands ranks w rank (of q)) rank fs q) (sym is) (turn_on w now these q same_last same_ranks on)

    pub within_over : {X : Type 0} (holds : X → W → ℕ → Type 0) (w now : W) (these rest : List (Fragment B)) (went : Went Q X) → rest ≡ these ++ ahead fragments after left (after now) → last fragments after left (after now) ≡ last fragments after left w → ranks (after now) ≡ ranks w
        → AreSkipped rank these
        → Goes (λ q. IsInTurn fragments after left stands ranks (after now) rank (of q)) (λ out. holds out (last fragments after left (after now)) rank) rank (ahead fragments after left (after now)) went
        → Goes (λ q. IsInTurn fragments after left stands ranks w rank (of q)) (λ out. holds out (last fragments after left w) rank) rank rest went
    within_over {X = X} holds w now these rest went is same_last same_ranks none goes =
        let S : Q → Fragment B → List (Fragment B) → Bool → Type 0 = λ q. IsInTurn fragments after left stands ranks w rank (of q) in
        let G : X → Type 0 = λ out. holds out (last fragments after left w) rank in
        subst (λ fs. Goes S G rank fs went) (sym is) (goes_further S G rank these (ahead fragments after left (after now)) went none (turn_later holds w (after now) (ahead fragments after left (after now)) went same_last same_ranks goes))

module _ {W V X Y : Type 0} (left : W → ℕ) (idle : W → ℕ → Type 0) (begun : W → V) (before : X → W → ℕ → Type 0) (within : Y → V → ℕ → Type 0) (w : W) (rank : ℕ) where
  pub turn_is : (went : Went Y X) (y : Y) → went ≡ On y → IsTurn left idle begun before within w rank went → (0 < left w) × within y (begun w) rank
  turn_is went y e is = subst (IsTurn left idle begun before within w rank) e is

  pub no_turn_is : (went : Went Y X) (x : X) → went ≡ Over x → IsTurn left idle begun before within w rank went → idle w rank × before x w rank
  no_turn_is went x e is = subst (IsTurn left idle begun before within w rank) e is
