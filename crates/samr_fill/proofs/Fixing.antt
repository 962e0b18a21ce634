-- Changes of a patch that fix cells.
use Rattle.std.proofs.Common.{◌≡◌, ℕ, ◌+◌, ◌<◌, refl, sym, ap, ◌∙◌, subst, inl, inr, length, get_or, take}
use Rattle.std.proofs.lemmas.Bool.{or_cases, false≢true}
use Rattle.std.proofs.lemmas.List.Folds.{list_any_more}
use Rattle.std.specs.Prelude.{Bool, true, false, ◌||◌, List}
use Rattle.std.specs.List.{list_any}
use Rattle.samr_box.specs.declared.vector.IVec.{IVec}
use Rattle.samr_box.specs.Corners.{Corners, Holds, holds, grown}
use Rattle.samr_box.proofs.CellSets.{Holds-test}
use Rattle.samr_data.specs.Grids.{Grid, over, value_at, written, copied}
use Rattle.samr_data.proofs.Patches.{copies_region, keeps_others}
use Rattle.samr_fill.specs.Writing.{Fixes}

-- a test, one way or the other
pub by_test : {X : Type 0} (t : Bool) → (t ≡ true → X) → (t ≡ false → X) → X
by_test true f g = f refl
by_test false f g = g refl

pub fixes_written : (v : IVec → ℕ) (old new : Grid) (region : Corners) (f : IVec → ℕ) → new ≡ written old (copied old region f)
    → ((x : IVec) → Holds region x → f x ≡ v x) → Fixes v (holds region) old new
fixes_written v old new region f is each =
    let P : Grid → Type 0 = λ q. Fixes v (holds region) old q in
    subst P (sym is)
    (record {
      same_box = refl;
      same_width = refl;
      kept = λ x h before.
          by_test (holds region x)
          (λ t. let inside = Holds-test {b = region} {x = x} t in copies_region old region f x h inside ∙ each x inside)
          (λ t. keeps_others old region f x h t ∙ before);
      right = λ x h t. let inside = Holds-test {b = region} {x = x} t in copies_region old region f x h inside ∙ each x inside;
    })

pub fixes_other : (v : IVec → ℕ) (a b : IVec → Bool) (old new : Grid) → Fixes v a old new → ((x : IVec) → Holds (over old) x → b x ≡ true → a x ≡ true) → Fixes v b old new
fixes_other v a b old new h back = record {
  same_box = h.same_box;
  same_width = h.same_width;
  kept = h.kept;
  right = λ x here t. h.right x here (back x here t);
}

pub fixes_none : (v : IVec → ℕ) (b : IVec → Bool) (old : Grid) → ((x : IVec) → Holds (over old) x → b x ≡ true → ⊥) → Fixes v b old old
fixes_none v b old none = record {
  same_box = refl;
  same_width = refl;
  kept = λ x h before. before;
  right = λ x h t. absurd (none x h t);
}

same_over : (old new : Grid) → new.bx ≡ old.bx → new.width ≡ old.width → over new ≡ over old
same_over old new b w = ap (λ (c : Corners). grown c new.width) b ∙ ap (λ (g : IVec). grown old.bx g) w

pub fixes_over : (v : IVec → ℕ) (a : IVec → Bool) (old new : Grid) → Fixes v a old new → over new ≡ over old
fixes_over v a old new h = same_over old new h.same_box h.same_width

pub fixes_both : (v : IVec → ℕ) (a b : IVec → Bool) (old mid new : Grid) → Fixes v a old mid → Fixes v b mid new → Fixes v (λ x. a x || b x) old new
fixes_both v a b old mid new f g =
    let whole = fixes_over v a old mid f in
    let there : (x : IVec) → Holds (over old) x → Holds (over mid) x = λ x h. subst (λ (c : Corners). Holds c x) (sym whole) h in
    record {
      same_box = g.same_box ∙ f.same_box;
      same_width = g.same_width ∙ f.same_width;
      kept = λ x h before. g.kept x (there x h) (f.kept x h before);
      right = λ x h t. elim (or_cases (a x) (b x) t) [
        | inl here ↦ g.kept x (there x h) (f.right x h here)
        | inr later ↦ g.right x (there x h) later
      ];
    }

-- one more member of a list
pub fixes_more : {X : Type 0} (v : IVec → ℕ) (test : IVec → X → Bool) (xs : List X) (i : ℕ) (item : X) → i < length xs → item ≡ get_or xs i item
    → (old mid new : Grid) → Fixes v (λ x. list_any (test x) (take i xs)) old mid → Fixes v (λ x. test x item) mid new
    → Fixes v (λ x. list_any (test x) (take (i + 1) xs)) old new
fixes_more {X} v test xs i item more is old mid new f g =
    fixes_other v (λ x. list_any (test x) (take i xs) || test x item) (λ x. list_any (test x) (take (i + 1) xs)) old new
    (fixes_both v (λ x. list_any (test x) (take i xs)) (λ x. test x item) old mid new f g)
    (λ x h t.
    ap (λ (y : X). list_any (test x) (take i xs) || test x y) is ∙ sym (list_any_more (test x) xs i item more) ∙ t)
