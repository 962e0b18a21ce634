-- From one phase to the next.
use Rattle.std.proofs.Common.{◌≡◌, ℕ, List, [], ◌∷◌, ◌++◌, refl, sym, ap, ◌∙◌, subst, Bool, true, false, Option}
use Rattle.std.proofs.lemmas.List.Elements.{All-append}
use Rattle.samr_stage.specs.declared.label.Name.{Name}
use Rattle.samr_stage.specs.Course.{Course}
use Rattle.samr_stage.specs.Fragments.{Fragment}
use Rattle.samr_phase.specs.declared.went.Went.{Went}
use Rattle.samr_phase.specs.declared.went.Went.TheVariants.{On, Over}
use Rattle.samr_phase.specs.declared.then.Then.{Then}
use Rattle.samr_phase.specs.declared.then.Then.TheVariants.{First, Second}
use Rattle.samr_phase.specs.Going.{AreSkipped, GoesOn, GoesOver, Goes, Carries, Hears, HearsAll}
use Rattle.samr_phase.specs.Sequel.{IsIn, IsInFirst}

pub append_again : {X : Type 0} (xs ys zs : List X) → (xs ++ ys) ++ zs ≡ xs ++ (ys ++ zs)
append_again [] ys zs = refl
append_again (x ∷ xs) ys zs = ap (λ l. x ∷ l) (append_again xs ys zs)

module _ {P O B : Type 0} (stands : P → Fragment B → List (Fragment B) → Bool → Type 0) (gives : O → Type 0) (rank : ℕ) (fs : List (Fragment B)) where
  -- where a rank went on, or over
  pub went_on : (went : Went P O) (p : P) → went ≡ On p → Goes stands gives rank fs went → GoesOn stands rank fs p
  went_on went p e goes = subst (Goes stands gives rank fs) e goes

  pub went_over : (went : Went P O) (out : O) → went ≡ Over out → Goes stands gives rank fs went → GoesOver gives rank fs out
  went_over went out e goes = subst (Goes stands gives rank fs) e goes

module _ {A X C V W B : Type 0} (first : A → V → ℕ → Fragment B → List (Fragment B) → Bool → Type 0) (second : C → W → ℕ → Fragment B → List (Fragment B) → Bool → Type 0) (v : V) (w : W) (others : List (Fragment B)) (rank : ℕ) where
  pub in_first : (p : Then A X C) (a : A) {x : _} (here : Fragment B) (rest : List (Fragment B)) (entered : Bool) → p ≡ First a x → IsIn first second v w others rank p here rest entered → IsInFirst (first a v rank) others here rest entered
  in_first p a here rest entered e is = subst (λ q. IsIn first second v w others rank q here rest entered) e is

  pub in_second : (p : Then A X C) (c : C) (here : Fragment B) (rest : List (Fragment B)) (entered : Bool) → p ≡ Second c → IsIn first second v w others rank p here rest entered → second c w rank here rest entered
  in_second p c here rest entered e is = subst (λ q. IsIn first second v w others rank q here rest entered) e is

  pub goes_first : (rest : List (Fragment B)) (a : A) (x : _) → GoesOn (λ p. first p v rank) rank rest a → GoesOn (IsIn {X = X} first second v w others rank) rank (rest ++ others) (First a x)
  goes_first rest a x on = record {
    skipped = on.skipped;
    here = on.here;
    rest = on.rest ++ others;
    all = ap (λ fs. fs ++ others) on.all ∙ append_again on.skipped (on.here ∷ on.rest) others;
    skips = on.skips;
    visits = on.visits;
    there = record { left = on.rest; rest_is = refl; there = on.there };
  }

  pub goes_second : (rest : List (Fragment B)) (c : C) → AreSkipped rank rest → GoesOn (λ p. second p w rank) rank others c → GoesOn (IsIn {X = X} first second v w others rank) rank (rest ++ others) (Second c)
  goes_second rest c none on = record {
    skipped = rest ++ on.skipped;
    here = on.here;
    rest = on.rest;
    all = ap (λ fs. rest ++ fs) on.all ∙ sym (append_again rest on.skipped (on.here ∷ on.rest));
    skips = All-append (λ f. f.visits rank ≡ false) rest on.skipped none on.skips;
    visits = on.visits;
    there = on.there;
  }

pub second_on : {A X C V W B : Type 0} (first : A → V → ℕ → Fragment B → List (Fragment B) → Bool → Type 0) (second : C → W → ℕ → Fragment B → List (Fragment B) → Bool → Type 0) (v : V) (w : W) (others : List (Fragment B)) (rank : ℕ)
    (rest : List (Fragment B)) (c : C) → GoesOn (λ p. second p w rank) rank rest c → GoesOn (IsIn {X = X} first second v w others rank) rank rest (Second c)
second_on first second v w others rank rest c on = record { skipped = on.skipped; here = on.here; rest = on.rest; all = on.all; skips = on.skips; visits = on.visits; there = on.there }

pub goes_over : {O B : Type 0} (gives : O → Type 0) (rank : ℕ) (rest others : List (Fragment B)) (out : O) → AreSkipped rank rest → GoesOver gives rank others out → GoesOver gives rank (rest ++ others) out
goes_over gives rank rest others out none over = record {
  skips = All-append (λ f. f.visits rank ≡ false) rest others none over.skips;
  given = over.given;
}

-- the letters of a fragment are the same where the ranks are as many
pub carries_on : {B C : Type 0} {course : Course C} {letter_of : Name → Option B} {ranks many : ℕ} {f : Fragment B} → many ≡ ranks → Carries course letter_of ranks f → Carries course letter_of many f
carries_on {course = course} {letter_of = letter_of} {f = f} same carries = subst (λ n. Carries course letter_of n f) (sym same) carries

pub hears_on : {M R B C : Type 0} {run : M → R} {name : M → Name} {course : R → Course C} {letter_of : R → Name → Option B} {r : R} {ranks many rank : ℕ} {f : Fragment B} {held : List M} → many ≡ ranks → Hears run name course letter_of r ranks rank f held → Hears run name course letter_of r many rank f held
hears_on {run = run} {name = name} {course = course} {letter_of = letter_of} {r = r} {rank = rank} {f = f} {held = held} same hears = subst (λ n. Hears run name course letter_of r n rank f held) (sym same) hears

pub hears_all_on : {M R B C : Type 0} {run : M → R} {name : M → Name} {course : R → Course C} {letter_of : R → Name → Option B} {r : R} {ranks many rank : ℕ} {f : Fragment B} {held : List M} → many ≡ ranks → HearsAll run name course letter_of r ranks rank f held → HearsAll run name course letter_of r many rank f held
hears_all_on {run = run} {name = name} {course = course} {letter_of = letter_of} {r = r} {rank = rank} {f = f} {held = held} same hears = subst (λ n. HearsAll run name course letter_of r n rank f held) (sym same) hears

-- a rank goes on in a phase that has a name of its own
pub named_on : {P Q B : Type 0} (of : Q → P) (stands : P → Fragment B → List (Fragment B) → Bool → Type 0) (rank : ℕ) (fs : List (Fragment B)) (q : Q) → GoesOn stands rank fs (of q) → GoesOn (λ r. stands (of r)) rank fs q
named_on of stands rank fs q on = record { skipped = on.skipped; here = on.here; rest = on.rest; all = on.all; skips = on.skips; visits = on.visits; there = on.there }
