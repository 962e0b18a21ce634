-- The levels of a run after each step.
use Rattle.std.specs.Prelude.{ℕ, zero, suc, ◌+◌, ◌-◌, ◌%◌, nat_eq, nat_lt, Bool, true, false, ◌&&◌, List, [], ◌∷◌, take, get_or, if◌then◌else◌}
use Rattle.samr_level.specs.Refs.{Owned}
use Rattle.samr_problem.specs.Fields.{Fields}
use Rattle.samr_mesh.specs.Domains.{level0_of}
use Rattle.samr_mesh.specs.Passes.{new_level}

-- a level; none beyond the finest
abbrev pub level_at : List (List Owned) → ℕ → List Owned
level_at levels l = get_or levels l []

-- a level and those above it; where it has no box there are none
abbrev pub stacked : List Owned → List (List Owned) → List (List Owned)
stacked [] above = []
stacked (b ∷ bs) above = (b ∷ bs) ∷ above

-- the lowest of some levels, if there is one
abbrev pub lowest : List (List Owned) → List Owned
lowest [] = []
lowest (level ∷ finer) = level

-- a regrid of step 0: upwards, from a level at most so many more, each from the one below
unfoldable pub grown_over : Fields → ℕ → ℕ → ℕ → List Owned → List (List Owned)
grown_over p ranks zero l level = []
grown_over p ranks (suc n) l level =
    let new = new_level p (record { ranks = ranks; step = 0; number = l; level = level; above = [] }) in
    stacked new (grown_over p ranks n (suc l) new)

-- a regrid of a later step: downwards, over each of some old levels, of which the first has this number, a new one
unfoldable pub renewed_over : Fields → ℕ → ℕ → ℕ → List (List Owned) → List (List Owned)
renewed_over p ranks step l [] = []
renewed_over p ranks step l (level ∷ finer) =
    let above = renewed_over p ranks step (suc l) finer in
    stacked (new_level p (record { ranks = ranks; step = step; number = l; level = level; above = lowest above })) above

-- all that is made on the way, also what has no box
unfoldable pub made_over : Fields → ℕ → ℕ → ℕ → List (List Owned) → List (List Owned)
made_over p ranks step l [] = []
made_over p ranks step l (level ∷ finer) =
    let above = made_over p ranks step (suc l) finer in
    new_level p (record { ranks = ranks; step = step; number = l; level = level; above = lowest above }) ∷ above

abbrev pub has_boxes : List Owned → Bool
has_boxes [] = false
has_boxes (b ∷ bs) = true

-- level 0 stays, and a new level is made over each level but the finest that there may be
abbrev pub with_base : List (List Owned) → List (List Owned) → List (List Owned)
with_base [] news = []
with_base (base ∷ finer) news = base ∷ news

unfoldable pub regridded : Fields → ℕ → ℕ → List (List Owned) → List (List Owned)
regridded p ranks step levels = with_base levels (renewed_over p ranks step 0 (take (p.levels - 1) levels))

-- a regrid is due at step 0 and at each later one that `regrid` divides, where there may be more than one level
abbrev pub is_due : Fields → ℕ → Bool
is_due p step = nat_lt 1 p.levels && nat_eq (step % p.regrid) 0

-- the levels after a step, from those before it
abbrev pub stepped : Fields → ℕ → ℕ → List (List Owned) → List (List Owned)
stepped p ranks step levels = if is_due p step then regridded p ranks step levels else levels

-- the levels after so many more steps, from those after a step
unfoldable pub mesh_from : Fields → ℕ → ℕ → List (List Owned) → ℕ → List (List Owned)
mesh_from p ranks start levels zero = levels
mesh_from p ranks start levels (suc n) = stepped p ranks (start + suc n) (mesh_from p ranks start levels n)

-- the levels after step 0, and after each step of a fresh run
unfoldable pub first_mesh : Fields → ℕ → List (List Owned)
first_mesh p ranks = level0_of p ranks ∷ grown_over p ranks (p.levels - 1) 0 (level0_of p ranks)

abbrev pub mesh : Fields → ℕ → ℕ → List (List Owned)
mesh p ranks step = mesh_from p ranks 0 (first_mesh p ranks) step
