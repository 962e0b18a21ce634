-- Stretches of a run lie between two labels: one stage, and one stretch after another.
use Rattle.std.specs.Prelude.{◌≡◌, ◌≢◌, ℕ, ◌<◌, List, [], ◌∷◌, ◌++◌, All, AllPairs, Bool, true, Option, Some, None, is_some, IsTrue, refl}
use Rattle.std.proofs.Common.{arith, ap, sym, ◌∙◌, subst}
use Rattle.std.specs.declared.cmp.Ordering.{Ordering}
use Rattle.std.specs.declared.cmp.Ordering.TheVariants.{Less, Equal, Greater}
use Rattle.std.specs.Option.{option_map}
use Rattle.std.proofs.lemmas.List.Elements.{All-append, All-cons, All-nil, All-contains}
use Rattle.std.proofs.lemmas.Cmp.{alike_right, tied_itself}
use Rattle.std.proofs.lemmas.List.Kept.{AllPairs-cons}
use Rattle.samr_stage.specs.declared.label.Label.{Label}
use Rattle.samr_stage.specs.Label.{label_cmp}
use Rattle.samr_stage.specs.LabelLaws.{label_cmp_total, label_tied}
use Rattle.samr_stage.specs.Fragments.{Fragment, carried, IsRow, IsRun}
use Rattle.samr_stage.proofs.RunLemmas.{IsRun-none, IsRun-append}
use Rattle.samr_phase.specs.Going.{IsBefore, IsUpTo, IsStretch}
use Rattle.samr_phase.specs.AtOne.{fragment}

pub upto_upto : (a b c : Label) → IsUpTo a b → IsUpTo b c → IsUpTo a c
upto_upto a b c p q = by (label_cmp a b) (label_cmp b c) refl refl
  where
    by : (r s : Ordering) → label_cmp a b ≡ r → label_cmp b c ≡ s → IsUpTo a c
    by Greater s e f = absurd (p e)
    by Less Greater e f = absurd (q f)
    by Equal Greater e f = absurd (q f)
    by Less Less e f = λ h. let less = label_cmp_total.trans a b c e f in cc
    by Less Equal e f = λ h. let same = alike_right label_cmp_total b c a f in cc
    by Equal Less e f = λ h. let same = label_cmp_total.congr a b c e in cc
    by Equal Equal e f = λ h. let same = label_cmp_total.congr a b c e in cc

pub upto_itself : (a : Label) → IsUpTo a a
upto_itself a h = let same = tied_itself label_cmp_total a in cc

pub before_upto : (a b c : Label) → IsBefore a b → IsUpTo b c → IsBefore a c
before_upto a b c p q = by (label_cmp b c) refl
  where
    by : (s : Ordering) → label_cmp b c ≡ s → IsBefore a c
    by Less f = label_cmp_total.trans a b c p f
    by Equal f = let same = alike_right label_cmp_total b c a f in cc
    by Greater f = absurd (q f)

pub upto_before : (a b c : Label) → IsUpTo a b → IsBefore b c → IsUpTo a c
upto_before a b c p q = upto_upto a b c p (λ h. cc)

some_carried : {B C : Type 0} (wrap : C → B) (o : Option C) → IsTrue (is_some (option_map wrap o)) → IsTrue (is_some o)
some_carried wrap None h = h
some_carried wrap (Some b) h = refl

pub one_stretch : {B C : Type 0} (ranks : ℕ) (from to label : Label) (visits : ℕ → Bool) (wrap : C → B) (row : ℕ → ℕ → Option C)
    → ((x y : ℕ) → IsTrue (is_some (row x y)) → ((x < ranks) × (visits x ≡ true)) × ((y < ranks) × (visits y ≡ true)))
    → IsUpTo from label → IsBefore label to → IsUpTo from to → IsStretch ranks from to (fragment label visits wrap row ∷ [])
one_stretch {B = B} ranks from to label visits wrap row visitors after before order =
    let only = fragment label visits wrap row in
    let is_row : IsRow ranks only = record {
      sender = λ x y there. (visitors x y (some_carried wrap (row x y) there)).0;
      addressee = λ x y there. (visitors x y (some_carried wrap (row x y) there)).1;
    } in
    record {
      is_run = record {
        rising = λ i j d below within. absurd (omega arith);
        rows = All-cons (IsRow ranks) only [] is_row (All-nil (IsRow ranks));
      };
      order = order;
      after = All-cons (λ f. IsUpTo from f.label) only [] after (All-nil (λ f. IsUpTo from f.label));
      before = All-cons (λ f. IsBefore f.label to) only [] before (All-nil (λ f. IsBefore f.label to));
    }

-- no fragment between two labels
pub no_stretch : (B : Type 0) (ranks : ℕ) (from to : Label) → IsUpTo from to → IsStretch {B = B} ranks from to []
no_stretch B ranks from to order = record {
  is_run = IsRun-none B ranks;
  order = order;
  after = All-nil (λ f. IsUpTo from f.label);
  before = All-nil (λ f. IsBefore f.label to);
}

pub all_weaker : {X : Type 0} (P Q : X → Type 0) (xs : List X) → ((x : X) → P x → Q x) → All P xs → All Q xs
all_weaker P Q xs weaker each = λ k d within. weaker _ (each k d within)

-- one stretch after another
pub stretch_then : {B : Type 0} (ranks : ℕ) (a b c : Label) (fs gs : List (Fragment B)) → IsStretch ranks a b fs → IsStretch ranks b c gs → IsStretch ranks a c (fs ++ gs)
stretch_then {B = B} ranks a b c fs gs first second =
    let Before : Fragment B → Fragment B → Type 0 = λ f g. label_cmp f.label g.label ≡ Less in
    let beyond : (f : Fragment B) → IsBefore f.label b → All (Before f) gs =
    λ f before. all_weaker (λ g. IsUpTo b g.label) (Before f) gs (λ g after. before_upto f.label b g.label before after) second.after in
    record {
      is_run = IsRun-append ranks fs gs first.is_run second.is_run (all_weaker (λ f. IsBefore f.label b) (λ f. All (Before f) gs) fs beyond first.before);
      order = upto_upto a b c first.order second.order;
      after = All-append (λ f. IsUpTo a f.label) fs gs first.after (all_weaker (λ g. IsUpTo b g.label) (λ g. IsUpTo a g.label) gs (λ g after. upto_upto a b g.label first.order after) second.after);
      before = All-append (λ f. IsBefore f.label c) fs gs (all_weaker (λ f. IsBefore f.label b) (λ f. IsBefore f.label c) fs (λ f before. before_upto f.label b c before second.order) first.before) second.before;
    }

-- and where the second is of as many ranks
pub stretches : {B : Type 0} (ranks many : ℕ) (a b c : Label) (fs gs : List (Fragment B)) → many ≡ ranks → IsStretch ranks a b fs → IsStretch many b c gs → IsStretch ranks a c (fs ++ gs)
stretches ranks many a b c fs gs same first second =
    stretch_then ranks a b c fs gs first (subst (λ n. IsStretch n b c gs) same second)
