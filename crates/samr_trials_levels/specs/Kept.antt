-- Some of the boxes of a level, told by the binary digits of a number.
use Rattle.std.specs.Prelude.{ℕ, ◌/◌, ◌%◌, nat_eq, Bool, cond, List, [], ◌∷◌, ◌++◌}
use Rattle.samr_level.specs.Refs.{Owned}

abbrev pub one_where : Bool → Owned → List Owned
one_where test b = cond test (b ∷ []) []

-- the box at place n is kept where digit n, the lowest being digit 0, is 1
abbrev pub kept : ℕ → List Owned → List Owned
kept mask [] = []
kept mask (b ∷ level) = one_where (nat_eq (mask % 2) 1) b ++ kept (mask / 2) level
