-- The course of a run as data, put together as its phases are: it stands below the letters of the run, and its fragments are those of the phases.
use Rattle.std.specs.Prelude.{ℕ, List, [], ◌∷◌, ◌++◌, Bool, cond, Option}
use Rattle.samr_stage.specs.declared.label.Label.{Label}
use Rattle.samr_stage.specs.Fragments.{Fragment}
use Rattle.samr_phase.specs.AtOne.{fragment}
use Rattle.samr_phase.specs.Turning.{last, ahead}

-- a stretch of a run, by the whole with which it begins
pub record Stretch (V W B : Type 0) : Type 0 where
  pub fragments : V → List (Fragment B)
  pub after : V → W

-- a stage at one label
pub record Stop (V W C : Type 0) : Type 0 where
  pub label : V → Label
  pub visits : V → ℕ → Bool
  pub says : V → ℕ → ℕ → Option C
  pub after : V → W

-- the stretch of One
abbrev pub at_one : {V W B C : Type 0} → (C → B) → Stop V W C → Stretch V W B
at_one wrap stop = record {
  fragments = λ w. fragment (stop.label w) (stop.visits w) wrap (stop.says w) ∷ [];
  after = stop.after;
}

-- the stretch of Then
abbrev pub followed : {V W X B : Type 0} → Stretch V W B → Stretch W X B → Stretch V X B
followed a b = record {
  fragments = λ w. a.fragments w ++ b.fragments (a.after w);
  after = λ w. b.after (a.after w);
}

-- the stretch of Made
abbrev pub prepared : {V W X B : Type 0} → (V → W) → Stretch W X B → Stretch V X B
prepared made a = record {
  fragments = λ w. a.fragments (made w);
  after = λ w. a.after (made w);
}

-- the stretch of Repeat
abbrev pub repeated : {X Y Z B : Type 0} → (X → Y) → (X → ℕ) → (X → Z) → Stretch Y X B → Stretch X Z B
repeated begun left ended turn = record {
  fragments = ahead (λ w. turn.fragments (begun w)) (λ w. turn.after (begun w)) left;
  after = λ w. ended (last (λ w. turn.fragments (begun w)) (λ w. turn.after (begun w)) left w);
}

-- the stretch of Either
abbrev pub chosen : {V W X Y B : Type 0} → (V → Bool) → (V → W) → (V → X) → Stretch W Y B → Stretch X Y B → Stretch V Y B
chosen test one other a b = record {
  fragments = λ w. cond (test w) (a.fragments (one w)) (b.fragments (other w));
  after = λ w. cond (test w) (a.after (one w)) (b.after (other w));
}
