-- A run of two ranks with one letter, by which the first tells the second a number.
use Rattle.std.specs.Prelude.{◌≡◌, ℕ, ◌<◌, [], ◌∷◌, Contains, cond, Some, None, is_some, IsTrue, refl}
use Rattle.std.specs.Ordering.{is_eq}
use Rattle.std.specs.declared.cmp.Ordering.{Ordering}
use Rattle.std.specs.declared.cmp.Ordering.TheVariants.{Less, Equal, Greater}
use Rattle.std.proofs.Common.{arith, sym, subst}
use Rattle.samr_stage.specs.declared.label.Label.{Label}
use Rattle.samr_stage.specs.declared.label.Name.{Name}
use Rattle.samr_stage.specs.Label.{name_cmp}
use Rattle.samr_stage.specs.LabelLaws.{name_tied}
use Rattle.samr_stage.specs.Course.{Course, IsCourse, name_of}

-- the one label of the run, and the name of its one letter
abbrev pub telling : Label
telling = record { step = 1; pass = 0; phase = 0; round = 0 }

abbrev pub told : Name
told = name_of telling 0 1

-- both ranks visit the label
abbrev pub telling_course : ℕ → Course ℕ
telling_course number = record { ranks = 2; labels = λ _. telling ∷ []; letter = λ n. cond (is_eq (name_cmp n told)) (Some number) None }

is_told : (number : ℕ) (n : Name) → IsTrue (is_some ((telling_course number).letter n)) → n ≡ told
is_told number n h = by (name_cmp n told) refl h
  where
    by : (o : Ordering) → name_cmp n told ≡ o → IsTrue (is_some (cond (is_eq o) (Some number) None)) → n ≡ told
    by Less e k = cc
    by Equal e k = name_tied n told e
    by Greater e k = cc

pub telling_is_course : (number : ℕ) → IsCourse (telling_course number)
telling_is_course number =
    let IsSent : Name → Type 0 = λ n. (n.sender < 2) × Contains (telling ∷ []) n.label in
    let IsAwaited : Name → Type 0 = λ n. (n.addressee < 2) × Contains (telling ∷ []) n.label in
    record {
      rising = λ rank i j d below within. absurd (omega arith);
      sender = λ n h. subst IsSent (sym (is_told number n h)) (omega arith, (0, omega arith, refl));
      addressee = λ n h. subst IsAwaited (sym (is_told number n h)) (omega arith, (0, omega arith, refl));
    }
