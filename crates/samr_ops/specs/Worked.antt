-- Worked rows: three axes of length 4 with a rule of each kind, and two axes of length 2.
use Rattle.std.specs.Prelude.{◌≡◌, pos, negsuc, ℤ, false, Ok, Err}
use Rattle.samr_box.specs.declared.vector.IVec.{IVec}
use Rattle.samr_box.specs.Space.{Space}
use Rattle.samr_box.specs.Vector.{alike}
use Rattle.samr_ops.specs.declared.rules.RefineRule.TheVariants.{Same, Ramp}
use Rattle.samr_ops.specs.declared.rules.Rule.TheVariants.{Fixed, Clamp, Reflect}
use Rattle.samr_ops.specs.declared.rules.Rules.{Rules}
use Rattle.samr_ops.specs.Walks.{walked}

abbrev pub cell : ℤ → ℤ → ℤ → IVec
cell i j k = record { k = k; j = j; i = i }

abbrev pub bounded : IVec → Space
bounded size = record { size = size; periodic = record { k = false; j = false; i = false } }

abbrev pub of_each_kind : Rules
of_each_kind = record {
  modulus = 1000;
  width = alike (pos 2);
  centre = 1;
  face = 1;
  refine = Same;
  boundary = record { i = Fixed 9; j = Clamp; k = Reflect };
}

abbrev pub flat_rules : Rules
flat_rules = record {
  modulus = 1000;
  width = cell (pos 1) (pos 1) (pos 0);
  centre = 1;
  face = 1;
  refine = Same;
  boundary = record { i = Fixed 9; j = Reflect; k = Clamp };
}

abbrev pub ramp_rules : Rules
ramp_rules = record {
  modulus = 10;
  width = alike (pos 0);
  centre = 2;
  face = 3;
  refine = Ramp;
  boundary = record { i = Clamp; j = Clamp; k = Clamp };
}

-- where cells beyond the borders go
pub record WalksOfRows : Type 0 where
  pub on_j_and_k : walked of_each_kind (bounded (alike (pos 4))) (cell (pos 1) (negsuc 1) (pos 5)) ≡ Ok (cell (pos 1) (pos 0) (pos 2))
  pub on_i_first : walked of_each_kind (bounded (alike (pos 4))) (cell (pos 4) (negsuc 0) (pos 0)) ≡ Err 9
  pub from_above : walked of_each_kind (bounded (alike (pos 4))) (cell (pos 0) (pos 4) (negsuc 1)) ≡ Ok (cell (pos 0) (pos 3) (pos 1))
  pub at_a_corner : walked flat_rules (bounded (cell (pos 2) (pos 2) (pos 1))) (cell (negsuc 0) (negsuc 0) (pos 0)) ≡ Err 9
  pub below_j : walked flat_rules (bounded (cell (pos 2) (pos 2) (pos 1))) (cell (pos 0) (negsuc 0) (pos 0)) ≡ Ok (cell (pos 0) (pos 0) (pos 0))
