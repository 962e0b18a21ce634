-- The cells of a domain.
use Rattle.std.proofs.Common.{◌≡◌, refl, sym, ap, ◌∙◌, inl, inr}
use Rattle.std.proofs.lemmas.Bool.{or_cases, or_left, or_right, false≢true}
use Rattle.std.specs.Prelude.{true, IsTrue, ◌↔◌, List, [], ◌∷◌}
use Rattle.samr_box.specs.declared.vector.IVec.{IVec}
use Rattle.samr_box.specs.Corners.{Corners, Holds, holds}
use Rattle.samr_box.specs.Lists.{Member}
use Rattle.samr_box.specs.Space.{wrapped}
use Rattle.samr_box.proofs.CellSets.{holds-from, Holds-test}
use Rattle.samr_boxlist.specs.Covers.{held}
use Rattle.samr_level.specs.Regions.{Area, boxes_of, IsInside, is_inside}

pub held-from : (x : IVec) (b : Corners) (list : List Corners) → Member b list → Holds b x → held x list ≡ true
held-from x b [] m h = absurd m
held-from x b (c ∷ cs) (inl e) h = or_left (holds c x) (held x cs) (ap (λ v. holds v x) (sym e) ∙ holds-from h)
held-from x b (c ∷ cs) (inr m) h = or_right (holds c x) (held x cs) (held-from x b cs m h)

pub member-held : (x : IVec) (list : List Corners) → held x list ≡ true → (b : Corners) × Member b list × Holds b x
member-held x [] t = absurd (false≢true t)
member-held x (c ∷ cs) t =
    elim (or_cases (holds c x) (held x cs) t) [
      | inl here ↦ (c, inl refl, Holds-test here)
      | inr later ↦ let r = member-held x cs later in (r.0, inr r.1, r.2)
    ]

pub is_inside-means : (a : Area) (x : IVec) → IsTrue (is_inside a x) ↔ IsInside a x
is_inside-means a x = (
  λ t. member-held (wrapped a.frame x) (boxes_of a) t,
  λ (p, m, h). held-from (wrapped a.frame x) p (boxes_of a) m h,
)
