-- What a problem says of the level below a level, and the rules of its fields.
use Rattle.std.specs.Prelude.{ℕ, zero, suc, pos, ◌==◌, List, [], map, length, if◌then◌else◌}
use Rattle.samr_box.specs.declared.vector.IVec.{IVec}
use Rattle.samr_box.specs.Vector.{alike}
use Rattle.samr_ops.specs.declared.rules.Rule.{Rule}
use Rattle.samr_ops.specs.declared.rules.Rule.TheVariants.{Fixed, Clamp, Reflect}
use Rattle.samr_ops.specs.declared.rules.Rules.{Rules}
use Rattle.samr_problem.specs.declared.field.Field.{Field}
use Rattle.samr_problem.specs.Fields.{Fields}
use Rattle.samr_mesh.specs.Domains.{step_of, ratio_to}

-- the ratio of the level below a level, and the one between the two: level 0 has none below, and stands for it
abbrev pub ratio_below : Fields → ℕ → IVec
ratio_below p zero = alike (pos 1)
ratio_below p (suc l) = ratio_to p l

abbrev pub step_below : Fields → ℕ → IVec
step_below p zero = alike (pos 1)
step_below p (suc l) = step_of p l

-- the rules of a field
abbrev pub rules_of : Field → Rules
rules_of f = record {
  modulus = f.modulus;
  width = f.ghosts;
  centre = f.centre;
  face = f.face;
  refine = f.refine;
  boundary = f.boundary;
}

abbrev pub all_rules : Fields → List Rules
all_rules p = map rules_of p.fields

-- the one number beyond the borders of each field of a domain of parts; in a whole frame the walk tells
abbrev pub number_of : Rule → ℕ
number_of (Fixed v) = v
number_of Clamp = 0
number_of Reflect = 0

abbrev pub fixed_of : Fields → List ℕ
fixed_of p = if length p.parts == 0 then [] else map (λ f. number_of f.boundary.i) p.fields
