-- A rank's parts of the levels of a hierarchy, one by one.
use Rattle.std.specs.Prelude.{◌≡◌, ℕ, suc, ◌+◌, ◌<◌, slice_get, List, length, Some}
use Rattle.std.proofs.Common.{arith, sym, subst, ap, ◌∙◌, add-one}
use Rattle.std.proofs.lemmas.Option.{slice_get-get_or}
use Rattle.std.proofs.lemmas.List.FromFn.{length-map-range_with_len, get_or-map-range_with_len}
use Rattle.samr_problem.specs.Fields.{Fields}
use Rattle.samr_hierarchy.specs.Hierarchies.{Hierarchy}
use Rattle.samr_regrid.specs.declared.level.Level.{Level}
use Rattle.samr_box.specs.declared.vector.IVec.{IVec}
use Rattle.samr_box.specs.Space.{IsSpace}
use Rattle.samr_level.specs.Regions.{Area, finer_area}
use Rattle.samr_mesh.specs.Passes.{Pass}
use Rattle.samr_mesh.specs.Soundness.{CanRun}
use Rattle.samr_msg.specs.Runs.{Setting}
use Rattle.samr_msg.specs.Places.{AtPass}
use Rattle.samr_regrid.specs.Standing.{standing}
use Rattle.samr_mesh.specs.Domains.{area_of, area_at, step_of}
use Rattle.samr_regrid.specs.Ranks.{level_part, level_parts}

pub levels_of_parts : (p : Fields) (h : Hierarchy) (rank : ℕ) → length (level_parts p h rank) ≡ length h.levels
unfolding level_parts
levels_of_parts p h rank = length-map-range_with_len (level_part p h rank) 0 (length h.levels)

pub part_at : (p : Fields) (h : Hierarchy) (rank l : ℕ) → l < length h.levels → slice_get (level_parts p h rank) l ≡ Some (level_part p h rank l)
unfolding level_parts
part_at p h rank l below =
    let many = levels_of_parts p h rank in
    slice_get-get_or (level_parts p h rank) l (level_part p h rank l) (omega (arith, below, many))
    ∙ ap (λ (x : Level). Some x) (get_or-map-range_with_len (level_part p h rank) 0 (length h.levels) l l (level_part p h rank l) below (omega arith))

pub within_parts : (p : Fields) (h : Hierarchy) (rank l place : ℕ) (olds : List Level) → olds ≡ level_parts p h rank → place ≡ l → l < length h.levels → place < length olds
within_parts p h rank l place olds same here below =
    let many = levels_of_parts p h rank in
    let long : length olds ≡ length (level_parts p h rank) = ap (λ (xs : List Level). length xs) same in
    omega (arith, below, many, long, here)

pub is_part : (p : Fields) (h : Hierarchy) (rank l place : ℕ) (olds : List Level) (x : Level) → slice_get olds place ≡ Some x → olds ≡ level_parts p h rank → place ≡ l → l < length h.levels
    → x ≡ level_part p h rank l
is_part p h rank l place olds x there same here below =
    some_same (sym there ∙ ap (λ (xs : List Level). slice_get xs place) same ∙ ap (slice_get (level_parts p h rank)) here ∙ part_at p h rank l below)
  where
    some_same : {x y : Level} → Some x ≡ Some y → x ≡ y
    some_same e = cc

pub places : (olds parts : List Level) (place l : ℕ) → olds ≡ parts → place ≡ l → slice_get olds (place + 1) ≡ slice_get parts (suc l)
places olds parts place l same here = ap (λ (xs : List Level). slice_get xs (place + 1)) same ∙ ap (λ n. slice_get parts (n + 1)) here ∙ ap (slice_get parts) (add-one l)

pub next_steps : (run setting : Setting) (place l : ℕ) → run ≡ setting → place ≡ l → step_of run.problem (place + 1) ≡ step_of setting.problem (suc l)
next_steps run setting place l same here =
    ap (λ (s : Setting). step_of s.problem (place + 1)) same ∙ ap (λ n. step_of setting.problem (n + 1)) here ∙ ap (step_of setting.problem) (add-one l)

-- the domain of a pass's level, by the ratio of what a rank has of it
pub region_here : (run : Setting) (w : AtPass) (r : ℕ) (base : Area) (old : Level) (ratio : IVec) → run ≡ w.at.setting → base ≡ area_of run.problem
    → old ≡ level_part w.at.setting.problem (standing w.at w.number) r w.pass.number → ratio ≡ old.selves.forth.base_ratio
    → finer_area base ratio ≡ area_at w.at.setting.problem w.pass.number
region_here run w r base old ratio same first part is =
    ap (λ (a : Area). finer_area a ratio) (first ∙ ap (λ (s : Setting). area_of s.problem) same)
    ∙ ap (finer_area (area_of w.at.setting.problem)) (is ∙ ap (λ (l : Level). l.selves.forth.base_ratio) part)

pub is_space_here : (p : Fields) (w : Pass) (a : Area) → CanRun p w → a ≡ area_at p w.number → IsSpace a.frame
is_space_here p w a run same = subst (λ (b : Area). IsSpace b.frame) (sym same) run.can.here.is_area.frame
