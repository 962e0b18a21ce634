-- A stage at the label of a fragment that has its row.
use Rattle.std.proofs.Common.{◌≡◌, ℕ, List, [], ◌∷◌, map, refl, sym, ap, ◌∙◌, subst, Bool, true, false, Option, Some, None, is_some}
use Rattle.std.specs.Option.{option_map}
use Rattle.std.proofs.lemmas.List.Elements.{All-nil}
use Rattle.samr_stage.specs.declared.label.Label.{Label}
use Rattle.samr_stage.specs.declared.label.Name.{Name}
use Rattle.samr_stage.specs.Course.{Course, name_of, sent, awaited}
use Rattle.samr_stage.specs.Held.{IsHeld}
use Rattle.samr_stage.specs.Carried.{CarriesRow}
use Rattle.samr_stage.specs.Fragments.{Fragment, carried}
use Rattle.samr_phase.specs.Going.{Carries, AreSkipped, HearsAll}
use Rattle.samr_phase.specs.AtOne.{fragment}

some_carried : {B C : Type 0} (wrap : C → B) (o : Option C) → is_some (option_map wrap o) ≡ is_some o
some_carried wrap None = refl
some_carried wrap (Some b) = refl

pub carries_row : {B C D : Type 0} (course : Course C) (letter_of : Name → Option B) (has_body : Name → D → Type 0)
    → ((n : Name) → is_some (course.letter n) ≡ is_some (letter_of n)) → (wrap : D → B) → ((n : Name) (b : D) → letter_of n ≡ Some (wrap b) → has_body n b)
    → (label : Label) (visits : ℕ → Bool) (row : ℕ → ℕ → Option D) (ranks : ℕ) (here : Fragment B) → here ≡ fragment label visits wrap row → Carries course letter_of ranks here
    → (at : Label) (many : ℕ) (says : ℕ → ℕ → Option D) → at ≡ label → many ≡ ranks → ((from to : ℕ) → says from to ≡ row from to) → CarriesRow course has_body at many says
carries_row {B} {C} {D} course letter_of has_body same wrap bodies label visits row ranks here here_is carries at many says at_is many_is says_is =
    let there : (from to : ℕ) → letter_of (name_of at from to) ≡ option_map wrap (says from to) =
    λ from to. ap (λ l. letter_of (name_of l from to)) (at_is ∙ sym (ap (λ f. f.label) here_is)) ∙ carries.letters from to ∙ ap (λ f. f.row from to) here_is ∙ ap (option_map wrap) (sym (says_is from to)) in
    record {
      on_course = carries.on_course;
      same_ranks = many_is ∙ carries.same_ranks;
      there = λ from to. same (name_of at from to) ∙ ap is_some (there from to) ∙ some_carried wrap (says from to);
      body = λ from to b is. bodies (name_of at from to) b (there from to ∙ ap (option_map wrap) is);
    }

-- letters held at a label are held at an equal one
pub held_at : {M R : Type 0} {run : M → R} {name : M → Name} {r : R} {a b : Label} {rank : ℕ} {held : List M} → a ≡ b → IsHeld run name r a rank held → IsHeld run name r b rank held
held_at {run = run} {name = name} {r = r} {rank = rank} {held = held} e h = subst (λ l. IsHeld run name r l rank held) e h

pub none_skipped : {B : Type 0} (rank : ℕ) (fs : List (Fragment B)) → fs ≡ [] → AreSkipped rank fs
none_skipped rank fs e = subst (AreSkipped rank) (sym e) (All-nil (λ f. f.visits rank ≡ false))

pub hears_are : {M R B C : Type 0} {run : M → R} {name : M → Name} {course : R → Course C} {letter_of : R → Name → Option B} {r : R} {ranks rank : ℕ} {f : Fragment B} {held : List M}
    → Carries (course r) (letter_of r) ranks f → IsHeld run name r f.label rank held → map name held ≡ awaited (course r) f.label rank → HearsAll run name course letter_of r ranks rank f held
hears_are carries is_held all = record { hears = record { carries = carries; held = is_held }; all = all }
