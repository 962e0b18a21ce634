-- Worked rows: small problems, and the levels of their meshes after each step.
use Rattle.std.specs.Prelude.{◌≡◌, ℕ, ℤ, pos, true, false, List, [], ◌∷◌}
use Rattle.samr_box.specs.declared.vector.IVec.{IVec}
use Rattle.samr_box.specs.Vector.{alike}
use Rattle.samr_box.specs.Corners.{Corners}
use Rattle.samr_level.specs.Refs.{Owned}
use Rattle.samr_shape.specs.declared.shape.Shape.TheVariants.{Slab}
use Rattle.samr_problem.specs.Fields.{Fields}
use Rattle.samr_mesh.specs.Meshes.{mesh}

abbrev pub flat : ℤ → ℤ → ℤ → IVec
flat i j k = record { k = k; j = j; i = i }

abbrev pub box : ℤ → ℤ → ℤ → ℤ → Corners
box i j last_i last_j = record { lo = flat i j (pos 0); hi = flat last_i last_j (pos 0) }

abbrev pub of : ℕ → Corners → Owned
of rank b = record { owner = rank; bx = b }

abbrev pub of0 : Corners → Owned
of0 b = of 0 b

-- one level over the base, under a shape that leaves the domain
abbrev pub leaving : Fields
leaving = record {
  format = 1;
  dim = 2;
  domain = flat (pos 8) (pos 8) (pos 1);
  periodic = record { k = false; j = false; i = false };
  block = flat (pos 8) (pos 8) (pos 1);
  levels = 2;
  ratio = flat (pos 2) (pos 2) (pos 1) ∷ [];
  nest = flat (pos 1) (pos 1) (pos 0);
  tag_buffer = alike (pos 0);
  efficiency = 80;
  smallest = pos 1;
  largest = pos 64;
  tile = pos 0;
  regrid = 1;
  steps = 2;
  fields = [];
  probes = [];
  parts = [];
  shapes = Slab (flat (pos 6) (pos 6) (pos 0)) (flat (pos 4) (pos 4) (pos 1)) (flat (pos 8) (pos 0) (pos 0)) ∷ [];
  width = flat (pos 1) (pos 1) (pos 0);
}

abbrev pub base : List Owned
base = of0 (box (pos 0) (pos 0) (pos 7) (pos 7)) ∷ []

-- two levels on two ranks
abbrev pub shared : Fields
shared = record leaving { tag_buffer = alike (pos 0); shapes = Slab (flat (pos 6) (pos 6) (pos 0)) (flat (pos 4) (pos 4) (pos 1)) (alike (pos 0)) ∷ []; steps = 0 }

pub record LevelsGoWithTheirShape : Type 0 where
  pub step0 : mesh leaving 1 0 ≡ base ∷ (of0 (box (pos 6) (pos 6) (pos 9) (pos 9)) ∷ []) ∷ []
  pub step1 : mesh leaving 1 1 ≡ base ∷ (of0 (box (pos 14) (pos 6) (pos 15) (pos 9)) ∷ []) ∷ []
  pub step2 : mesh leaving 1 2 ≡ base ∷ []

pub record TwoRanksShareALevel : Type 0 where
  pub step0 : mesh shared 2 0 ≡ base ∷ (of0 (box (pos 8) (pos 6) (pos 9) (pos 9)) ∷ of 1 (box (pos 6) (pos 6) (pos 7) (pos 9)) ∷ []) ∷ []

-- three levels, of which the upper two move: the middle one keeps cells under the finest where no shape tags any more
abbrev pub moving : Fields
moving = record leaving {
  domain = flat (pos 16) (pos 16) (pos 1);
  block = flat (pos 16) (pos 16) (pos 1);
  levels = 3;
  ratio = flat (pos 2) (pos 2) (pos 1) ∷ flat (pos 2) (pos 2) (pos 1) ∷ [];
  nest = flat (pos 2) (pos 2) (pos 0);
  tag_buffer = flat (pos 1) (pos 1) (pos 0);
  steps = 1;
  shapes = Slab (flat (pos 28) (pos 28) (pos 0)) (flat (pos 4) (pos 4) (pos 1)) (flat (pos 4) (pos 0) (pos 0)) ∷ [];
  width = flat (pos 2) (pos 2) (pos 0);
}

abbrev pub wide_base : List Owned
wide_base = of0 (box (pos 0) (pos 0) (pos 15) (pos 15)) ∷ []

pub record CoverKeepsTheFinest : Type 0 where
  pub step0 : mesh moving 1 0 ≡ wide_base ∷ (of0 (box (pos 12) (pos 12) (pos 17) (pos 17)) ∷ []) ∷ (of0 (box (pos 28) (pos 28) (pos 31) (pos 31)) ∷ []) ∷ []
  pub step1 : mesh moving 1 1 ≡ wide_base ∷ (of0 (box (pos 12) (pos 12) (pos 19) (pos 17)) ∷ []) ∷ (of0 (box (pos 30) (pos 28) (pos 31) (pos 31)) ∷ []) ∷ []

-- a domain of two parts, and a shape about the corner between them
abbrev pub in_parts : Fields
in_parts = record shared {
  format = 2;
  block = flat (pos 4) (pos 4) (pos 1);
  parts = box (pos 0) (pos 0) (pos 3) (pos 7) ∷ box (pos 4) (pos 0) (pos 7) (pos 3) ∷ [];
  shapes = Slab (flat (pos 7) (pos 7) (pos 0)) (flat (pos 2) (pos 2) (pos 1)) (alike (pos 0)) ∷ [];
}

pub record OverParts : Type 0 where
  pub step0 : mesh in_parts 1 0
      ≡ (of0 (box (pos 0) (pos 0) (pos 3) (pos 3)) ∷ of0 (box (pos 4) (pos 0) (pos 7) (pos 3)) ∷ of0 (box (pos 0) (pos 4) (pos 3) (pos 7)) ∷ [])
      ∷ (of0 (box (pos 6) (pos 6) (pos 7) (pos 9)) ∷ of0 (box (pos 8) (pos 6) (pos 9) (pos 7)) ∷ []) ∷ []

-- three levels of different ratios on three ranks, under a shape that crosses a periodic border
abbrev pub drifting : Fields
drifting = record leaving {
  domain = flat (pos 8) (pos 6) (pos 1);
  periodic = record { k = false; j = false; i = true };
  block = flat (pos 4) (pos 4) (pos 1);
  levels = 3;
  ratio = flat (pos 2) (pos 2) (pos 1) ∷ flat (pos 2) (pos 3) (pos 1) ∷ [];
  tag_buffer = flat (pos 1) (pos 0) (pos 0);
  efficiency = 70;
  largest = pos 3;
  tile = pos 8;
  steps = 3;
  shapes = Slab (flat (pos 26) (pos 10) (pos 0)) (flat (pos 6) (pos 6) (pos 1)) (flat (pos 5) (pos 3) (pos 0)) ∷ [];
}

pub record Drifting : Type 0 where
  pub step0 : mesh drifting 3 0 ≡ (of 0 (box (pos 0) (pos 0) (pos 3) (pos 3)) ∷ of 0 (box (pos 4) (pos 0) (pos 7) (pos 3)) ∷ of 1 (box (pos 0) (pos 4) (pos 3) (pos 5)) ∷ of 2 (box (pos 4) (pos 4) (pos 7) (pos 5)) ∷ []) ∷ (of 0 (box (pos 12) (pos 2) (pos 15) (pos 5)) ∷ of 1 (box (pos 0) (pos 2) (pos 1) (pos 5)) ∷ of 2 (box (pos 10) (pos 2) (pos 11) (pos 5)) ∷ []) ∷ (of 0 (box (pos 30) (pos 9) (pos 31) (pos 14)) ∷ of 0 (box (pos 24) (pos 12) (pos 25) (pos 14)) ∷ of 1 (box (pos 0) (pos 9) (pos 1) (pos 14)) ∷ of 1 (box (pos 24) (pos 9) (pos 25) (pos 11)) ∷ of 2 (box (pos 26) (pos 9) (pos 29) (pos 14)) ∷ []) ∷ []
  pub step1 : mesh drifting 3 1 ≡ (of 0 (box (pos 0) (pos 0) (pos 3) (pos 3)) ∷ of 0 (box (pos 4) (pos 0) (pos 7) (pos 3)) ∷ of 1 (box (pos 0) (pos 4) (pos 3) (pos 5)) ∷ of 2 (box (pos 4) (pos 4) (pos 7) (pos 5)) ∷ []) ∷ (of 0 (box (pos 12) (pos 2) (pos 15) (pos 7)) ∷ of 0 (box (pos 2) (pos 6) (pos 5) (pos 7)) ∷ of 1 (box (pos 0) (pos 2) (pos 1) (pos 7)) ∷ of 2 (box (pos 2) (pos 2) (pos 5) (pos 5)) ∷ []) ∷ (of 0 (box (pos 30) (pos 12) (pos 31) (pos 14)) ∷ of 1 (box (pos 0) (pos 12) (pos 1) (pos 14)) ∷ of 2 (box (pos 28) (pos 12) (pos 29) (pos 14)) ∷ []) ∷ []
  pub step2 : mesh drifting 3 2 ≡ (of 0 (box (pos 0) (pos 0) (pos 3) (pos 3)) ∷ of 0 (box (pos 4) (pos 0) (pos 7) (pos 3)) ∷ of 1 (box (pos 0) (pos 4) (pos 3) (pos 5)) ∷ of 2 (box (pos 4) (pos 4) (pos 7) (pos 5)) ∷ []) ∷ (of 0 (box (pos 4) (pos 4) (pos 5) (pos 7)) ∷ of 0 (box (pos 6) (pos 4) (pos 7) (pos 7)) ∷ of 1 (box (pos 0) (pos 4) (pos 1) (pos 7)) ∷ of 2 (box (pos 2) (pos 4) (pos 3) (pos 7)) ∷ []) ∷ (of 0 (box (pos 6) (pos 15) (pos 9) (pos 20)) ∷ of 1 (box (pos 2) (pos 15) (pos 3) (pos 20)) ∷ of 2 (box (pos 4) (pos 15) (pos 5) (pos 20)) ∷ []) ∷ []
  pub step3 : mesh drifting 3 3 ≡ (of 0 (box (pos 0) (pos 0) (pos 3) (pos 3)) ∷ of 0 (box (pos 4) (pos 0) (pos 7) (pos 3)) ∷ of 1 (box (pos 0) (pos 4) (pos 3) (pos 5)) ∷ of 2 (box (pos 4) (pos 4) (pos 7) (pos 5)) ∷ []) ∷ (of 0 (box (pos 8) (pos 4) (pos 9) (pos 9)) ∷ of 0 (box (pos 4) (pos 8) (pos 7) (pos 9)) ∷ of 1 (box (pos 2) (pos 4) (pos 3) (pos 9)) ∷ of 2 (box (pos 4) (pos 4) (pos 7) (pos 7)) ∷ []) ∷ (of 0 (box (pos 12) (pos 18) (pos 13) (pos 20)) ∷ of 1 (box (pos 6) (pos 18) (pos 7) (pos 20)) ∷ of 2 (box (pos 8) (pos 18) (pos 9) (pos 20)) ∷ of 2 (box (pos 10) (pos 18) (pos 11) (pos 20)) ∷ []) ∷ []
