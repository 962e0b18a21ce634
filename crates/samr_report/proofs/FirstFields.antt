-- An accepted problem has a field, and its modulus is above 0.
use Rattle.std.proofs.Common.{◌≡◌, ◌<◌, inl, refl, arith, ap, List, [], ◌∷◌, length, get_or, subst}
use Rattle.samr_box.specs.Lists.{Member}
use Rattle.samr_problem.specs.declared.field.Field.{Field}
use Rattle.samr_problem.specs.Fields.{Fields}
use Rattle.samr_problem.specs.Problems.{IsProblem}
use Rattle.samr_hierarchy.proofs.Grounding.{problems_have_ground}

pub first_has : (p : Fields) (fields : List Field) (d : Field) → IsProblem p → fields ≡ p.fields → 0 < (get_or fields 0 d).modulus
first_has p [] d is same = let some = is.some_field in let count = ap length same in absurd (omega (arith, some, count))
first_has p (f ∷ fs) d is same =
    let member : Member f p.fields = subst (λ (v : List Field). Member f v) same (inl refl) in
    let two = ((problems_have_ground p is).fields f member).rules.some in
    omega (arith, two)
