-- The problem that is made of a seed and a size: some balls that move over a periodic square of three levels.
use Rattle.std.specs.Prelude.{ℕ, ◌+◌, ◌*◌, ℤ, pos, ◌-ℤ◌, List, [], ◌∷◌, map, true, false}
use Rattle.std.specs.List.{range_with_len}
use Rattle.samr_box.specs.declared.vector.IVec.{IVec}
use Rattle.samr_ops.specs.declared.rules.RefineRule.TheVariants.{Same}
use Rattle.samr_ops.specs.declared.rules.CoarsenRule.TheVariants.{First}
use Rattle.samr_ops.specs.declared.rules.Rule.TheVariants.{Clamp}
use Rattle.samr_shape.specs.declared.shape.Shape.{Shape}
use Rattle.samr_shape.specs.declared.shape.Shape.TheVariants.{Ball}
use Rattle.samr_problem.specs.declared.field.Field.{Field}
use Rattle.samr_problem.specs.Fields.{Fields}
use Rattle.samr_generate.specs.Draws.{draw}

-- a place of the plane
abbrev pub flat : ℤ → ℤ → IVec
flat i j = record { k = pos 0; j = j; i = i }

-- a ball, of five draws: where its centre is, its radius, and its velocity
unfoldable pub ball : ℕ → ℕ → ℕ → Shape
ball seed size n = Ball
    (flat (pos (draw seed n (32 * size))) (pos (draw seed (n + 1) (32 * size))))
    (pos (draw seed (n + 2) (2 * size) + 1))
    (flat (pos (draw seed (n + 3) 9) -ℤ pos 4) (pos (draw seed (n + 4) 9) -ℤ pos 4))

-- the first draw says how many balls there are, and the next ones are theirs
unfoldable pub balls : ℕ → ℕ → List Shape
balls seed size = map (λ n. ball seed size (n * 5 + 1)) (range_with_len 0 (draw seed 0 3 + 1))

-- its domain, of the same length on both axes
abbrev pub square : ℕ → IVec
square size = record { k = pos 1; j = pos (8 * size); i = pos (8 * size) }

-- the ratios of its levels
abbrev pub ratios : List IVec
ratios = record { k = pos 1; j = pos 2; i = pos 2 } ∷ record { k = pos 1; j = pos 2; i = pos 2 } ∷ []

-- its one field
abbrev pub field : Field
field = record {
  ghosts = flat (pos 1) (pos 1);
  modulus = 1000000;
  init = record { first = 0; i = 1; j = 3; k = 0 };
  centre = 1;
  face = 1;
  refine = Same;
  coarsen = First;
  boundary = record { i = Clamp; j = Clamp; k = Clamp };
}

unfoldable pub made : ℕ → ℕ → Fields
made seed size = record {
  format = 1;
  dim = 2;
  domain = square size;
  periodic = record { k = false; j = true; i = true };
  block = record { k = pos 1; j = pos 8; i = pos 8 };
  levels = 3;
  ratio = ratios;
  nest = flat (pos 1) (pos 1);
  tag_buffer = flat (pos 1) (pos 1);
  efficiency = 70;
  smallest = pos 2;
  largest = pos 32;
  tile = pos 0;
  regrid = 2;
  steps = 8;
  fields = field ∷ [];
  probes = [];
  parts = [];
  shapes = balls seed size;
  width = flat (pos 1) (pos 1);
}
