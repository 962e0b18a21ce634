-- The text of the problem that is made of a seed and a size, as a problem is written.
use Rattle.std.specs.Prelude.{ℕ, ◌*◌, ℤ, pos, List, [], ◌∷◌, ◌++◌, codes}
use Rattle.std.specs.List.{flat_map}
use Rattle.std.specs.Fmt.{signed_decimal}
use Rattle.samr_box.specs.declared.vector.IVec.{IVec}
use Rattle.samr_shape.specs.declared.shape.Shape.{Shape}
use Rattle.samr_shape.specs.declared.shape.Shape.TheVariants.{Slab, Ball}
use Rattle.samr_generate.specs.Made.{balls}

-- a line of words
abbrev pub words : List ℕ → List ℕ
words text = text ++ 10 ∷ []

-- a key with a number, and with a list of two numbers
unfoldable pub number_line : List ℕ → ℤ → List ℕ
number_line key n = key ++ codes " = " ++ signed_decimal n ++ 10 ∷ []

unfoldable pub pair_line : List ℕ → ℤ → ℤ → List ℕ
pair_line key i j = key ++ codes " = [" ++ signed_decimal i ++ codes ", " ++ signed_decimal j ++ words (codes "]")

-- the table of a ball; no slab is made
unfoldable pub ball_table : IVec → ℤ → IVec → List ℕ
ball_table at radius velocity =
    words [] ++ words (codes "[[ball]]") ++ pair_line (codes "at") at.i at.j ++ number_line (codes "radius") radius ++ pair_line (codes "velocity") velocity.i velocity.j

abbrev pub shape_table : Shape → List ℕ
shape_table (Ball at radius velocity) = ball_table at radius velocity
shape_table (Slab lo size velocity) = []

-- the lines before and behind that of the domain
abbrev pub first_lines : List (List ℕ)
first_lines = codes "format = 1" ∷ codes "dim = 2" ∷ []

abbrev pub key_lines : List (List ℕ)
key_lines =
    codes "periodic = [true, true]"
    ∷ codes "block = [8, 8]"
    ∷ codes "ghost = [1, 1]"
    ∷ codes "levels = 3"
    ∷ codes "nest = [1, 1]"
    ∷ codes "tag_buffer = [1, 1]"
    ∷ codes "efficiency = 70"
    ∷ codes "smallest = 2"
    ∷ codes "largest = 32"
    ∷ codes "regrid = 2"
    ∷ codes "steps = 8"
    ∷ codes "modulus = 1000000"
    ∷ codes "init = [0, 1, 3]"
    ∷ codes "update = [1, 1]"
    ∷ []

unfoldable pub made_text : ℕ → ℕ → List ℕ
made_text seed size =
    flat_map words first_lines ++ pair_line (codes "domain") (pos (8 * size)) (pos (8 * size)) ++ flat_map words key_lines ++ flat_map shape_table (balls seed size)
