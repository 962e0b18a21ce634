-- Who is told in a round, by the tests of it one after another.
use Rattle.std.proofs.Common.{◌≡◌, ◌≢◌, ℕ, ◌<◌, ◌≤◌, Bool, true, false, ◌&&◌, nat_eq, nat_lt, refl}
use Rattle.std.proofs.lemmas.Bool.{eq-eqb, ne_eqb, lt-ltb, le-ltb}
use Rattle.samr_relay.specs.declared.run.RelayRun.{RelayRun}
use Rattle.samr_relay.specs.Relay.{teller, reaches, hears}

module _ (run : RelayRun) (round to : ℕ) where
  pub far_away : run.ranks ≤ to → false ≡ hears run round to
  unfolding hears
  far_away far = let test : nat_lt to run.ranks ≡ false = le-ltb to run.ranks far in rw test refl

  pub the_teller : to ≡ teller run round → false ≡ hears run round to
  unfolding hears
  the_teller same = let test : nat_eq to (teller run round) ≡ true = eq-eqb _ _ same in rw test (by (nat_lt to run.ranks))
    where
      by : (b : Bool) → false ≡ (b && false)
      by true = refl
      by false = refl

  pub is_reached : to < run.ranks → to ≢ teller run round → reaches run.pattern run.ranks round to ≡ hears run round to
  unfolding hears
  is_reached near other =
      let first : nat_lt to run.ranks ≡ true = lt-ltb to run.ranks near in
      let second : nat_eq to (teller run round) ≡ false = ne_eqb _ _ other in rw (first, second) refl
