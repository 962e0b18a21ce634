-- A mesh by the numbers of its levels is one by its levels one after another; the laws of these are those of the others.
use Rattle.std.proofs.Common.{◌≡◌, ℕ, zero, suc, ◌+◌, ◌<◌, ◌≤◌, List, [], ◌∷◌, length, get_or, refl, sym, ap, subst, inl, inr, arith, ◌∙◌}
use Rattle.std.proofs.lemmas.Bool.{cases_lt}
use Rattle.std.specs.Prelude.{Bool, true, false, ◌-◌, map, filter, take, if◌then◌else◌}
use Rattle.samr_box.proofs.Ascending.{sorted-nil}
use Rattle.samr_level.specs.Refs.{Owned}
use Rattle.samr_level.specs.RefOrders.{ref_cmp}
use Rattle.samr_level.specs.Regions.{Area}
use Rattle.samr_level.specs.Levels.{IsLevel, IsCellIn}
use Rattle.samr_problem.specs.Fields.{Fields}
use Rattle.samr_problem.specs.Problems.{IsProblem}
use Rattle.samr_mesh.specs.Domains.{level0_of, area_at}
use Rattle.samr_mesh.specs.Independence.{HaveSameCells, CellsStayTheSame, RanksDoNotMatter}
use Rattle.samr_mesh.specs.Meshes.{level_at, renewed_over, has_boxes, with_base, regridded, is_due, stepped, mesh_from, first_mesh, mesh}
use Rattle.samr_mesh.specs.Passes.{new_level}
use Rattle.samr_mesh.specs.PassLists.{RegridsArePasses, PassesOfStepsRun, PassesMakeTheMesh, passes_of, AllRun}
use Rattle.samr_mesh.specs.Soundness.{IsOver, IsMesh, MeshesHaveLevels, MeshesStayMeshes, FreshMeshesAreMeshes, NoHoles}
use Rattle.samr_mesh.proofs.Holes.{no_holes_in}
use Rattle.samr_mesh.proofs.Meshing.{base_level, stays_stacked, fresh_is_stacked}
use Rattle.samr_mesh.proofs.PassListing.{regrid_passes, first_passes_are}
use Rattle.samr_mesh.proofs.SameMeshes.{same_later, same_fresh}
use Rattle.samr_mesh.proofs.Sourced.{level0_all}
use Rattle.samr_mesh.proofs.Stacks.{AreOver, IsStacked, SameCells, AllSameCells}

-- a level of no boxes
pub no_level : (a : Area) (ranks : ℕ) → IsLevel a ranks []
no_level a ranks = record {
  in_order = sorted-nil ref_cmp;
  not_empty = λ b m. absurd m;
  inside = λ b x m h. absurd m;
  disjoint = λ b c m n h. absurd m;
  owners = λ b m. absurd m;
}

pub beyond : (levels : List (List Owned)) (l : ℕ) → length levels ≤ l → level_at levels l ≡ []
beyond [] l h = refl
beyond (b ∷ bs) zero h = absurd (omega (arith, h))
beyond (b ∷ bs) (suc l) h = beyond bs l (omega (arith, h))

pub any_level : MeshesHaveLevels
any_level p ranks l levels mesh = elim (cases_lt l (length levels)) [
  | inl less ↦ mesh.level l less
  | inr most ↦ subst (λ (v : List Owned). IsLevel (area_at p l) ranks v) (sym (beyond levels l most)) (no_level (area_at p l) ranks)
]

-- one of some levels that are each over the one before it
over_at : (p : Fields) (ranks l : ℕ) (below : List Owned) (finer : List (List Owned)) → AreOver p ranks l below finer → (k : ℕ) → k < length finer
    → IsOver p ranks (l + k) (get_or (below ∷ finer) k []) (get_or finer k [])
over_at p ranks l below [] all k less = absurd (omega (arith, less))
over_at p ranks l below (level ∷ finer) all zero less =
    let e : l ≡ l + 0 = omega arith in subst (λ (n : ℕ). IsOver p ranks n below level) e all.0
over_at p ranks l below (level ∷ finer) all (suc k) less =
    let e : suc l + k ≡ l + suc k = omega arith in
    subst (λ (n : ℕ). IsOver p ranks n (get_or (level ∷ finer) k []) (get_or finer k [])) e (over_at p ranks (suc l) level finer all.1 k (omega (arith, less)))

all_over : (p : Fields) (ranks l : ℕ) (below : List Owned) (finer : List (List Owned))
    → ((k : ℕ) → k < length finer → IsOver p ranks (l + k) (get_or (below ∷ finer) k []) (get_or finer k [])) → AreOver p ranks l below finer
all_over p ranks l below [] each = tt
all_over p ranks l below (level ∷ finer) each =
    let e : l + 0 ≡ l = omega arith in (
      subst (λ (n : ℕ). IsOver p ranks n below level) e (each 0 (omega arith)),
      all_over p ranks (suc l) level finer
          (λ k less.
          let e : l + suc k ≡ suc l + k = omega arith in
          subst (λ (n : ℕ). IsOver p ranks n (get_or (level ∷ finer) k []) (get_or finer k [])) e (each (suc k) (omega (arith, less)))),
    )

-- the two forms of a mesh
pub mesh_of : (p : Fields) (ranks : ℕ) (levels : List (List Owned)) → IsProblem p → 0 < ranks → IsStacked p ranks levels → IsMesh p ranks levels
mesh_of p ranks [] is some none = absurd none
mesh_of p ranks (base ∷ finer) is some made = record {
  some = omega arith;
  few = made.2;
  base = made.0;
  whole = λ x cell. subst (λ (v : List Owned). IsCellIn v x) (sym made.0) (level0_all p ranks x is cell);
  level = level;
  boxes = λ l less. (over l less).some;
  refinements = λ l less. (over l less).refined;
  nested = λ l less. (over l less).nested;
}
  where
    over : (l : ℕ) → suc l < length (base ∷ finer) → IsOver p ranks l (get_or (base ∷ finer) l []) (get_or finer l [])
    over l less =
        let e : 0 + l ≡ l = omega arith in
        subst (λ (n : ℕ). IsOver p ranks n (get_or (base ∷ finer) l []) (get_or finer l [])) e (over_at p ranks 0 base finer made.1 l (omega (arith, less)))

    level : (l : ℕ) → l < length (base ∷ finer) → IsLevel (area_at p l) ranks (level_at (base ∷ finer) l)
    level zero less = base_level p ranks base is some made.0
    level (suc l) less = (over l less).is_level

pub stack_of : (p : Fields) (ranks : ℕ) (levels : List (List Owned)) → IsMesh p ranks levels → IsStacked p ranks levels
stack_of p ranks [] mesh = let some = mesh.some in absurd (omega (arith, some))
stack_of p ranks (base ∷ finer) mesh =
    (mesh.base, all_over p ranks 0 base finer (λ k less. each k less), mesh.few)
  where
    each : (k : ℕ) → k < length finer → IsOver p ranks (0 + k) (get_or (base ∷ finer) k []) (get_or finer k [])
    each k less =
        let e : k ≡ 0 + k = omega arith in
        let more : suc k < length (base ∷ finer) = omega (arith, less) in
        subst (λ (n : ℕ). IsOver p ranks n (get_or (base ∷ finer) k []) (get_or finer k [])) e
        (record { is_level = mesh.level (suc k) more; refined = mesh.refinements k more; nested = mesh.nested k more; some = mesh.boxes k more })

-- the two forms of having the same cells
one_more_same : (x y : List Owned) (xs ys : List (List Owned)) → SameCells x y → HaveSameCells xs ys → HaveSameCells (x ∷ xs) (y ∷ ys)
one_more_same x y xs ys first rest = record { count = ap suc rest.count; cells = each }
  where
    each : (l : ℕ) → SameCells (level_at (x ∷ xs) l) (level_at (y ∷ ys) l)
    each zero = first
    each (suc l) = rest.cells l

pub same_cells_of : (xs ys : List (List Owned)) → AllSameCells xs ys → HaveSameCells xs ys
same_cells_of [] [] all = record { count = refl; cells = λ l x. (λ c. c, λ c. c) }
same_cells_of [] (y ∷ ys) all = absurd all
same_cells_of (x ∷ xs) [] all = absurd all
same_cells_of (x ∷ xs) (y ∷ ys) all = one_more_same x y xs ys all.0 (same_cells_of xs ys all.1)

pub all_same_of : (xs ys : List (List Owned)) → HaveSameCells xs ys → AllSameCells xs ys
all_same_of [] [] same = tt
all_same_of [] (y ∷ ys) same = let e = same.count in absurd (omega (arith, e))
all_same_of (x ∷ xs) [] same = let e = same.count in absurd (omega (arith, e))
all_same_of (x ∷ xs) (y ∷ ys) same =
    let e = same.count in
    (same.cells 0, all_same_of xs ys (record { count = omega (arith, e); cells = λ l. same.cells (suc l) }))

-- the laws
pub meshes_stay : MeshesStayMeshes
meshes_stay p ranks start n levels is some mesh =
    mesh_of p ranks (mesh_from p ranks start levels n) is some (stays_stacked p ranks start n levels is some (stack_of p ranks levels mesh))

pub fresh_mesh : FreshMeshesAreMeshes
fresh_mesh p ranks step is some = mesh_of p ranks (mesh p ranks step) is some (fresh_is_stacked p ranks step is some)

pub no_holes : NoHoles
no_holes p ranks step levels is some mesh = no_holes_in p ranks step levels is some (stack_of p ranks levels mesh)

pub cells_stay : CellsStayTheSame
cells_stay p ranks others start n xs ys is some some' mesh mesh' same =
    same_cells_of (mesh_from p ranks start xs n) (mesh_from p others start ys n)
    (same_later p ranks others start n xs ys is some some' (stack_of p ranks xs mesh) (stack_of p others ys mesh') (all_same_of xs ys same))

pub same_on_one : RanksDoNotMatter
same_on_one p ranks step is some = same_cells_of (mesh p ranks step) (mesh p 1 step) (same_fresh p ranks step is some)

pub regrids_are_passes : RegridsArePasses
regrids_are_passes p ranks step levels is some mesh = regrid_passes p ranks step levels is some (stack_of p ranks levels mesh)

pub passes_run : PassesOfStepsRun
passes_run p ranks zero is some = (first_passes_are p ranks is some).0
passes_run p ranks (suc t) is some = by (is_due p (suc t))
  where
    by : (u : Bool) → AllRun p (if u then passes_of p ranks (suc t) (mesh p ranks t) else [])
    by true = (regrids_are_passes p ranks (suc t) (mesh p ranks t) is some (fresh_mesh p ranks t is some)).0
    by false = λ w m. absurd m

base_news : (levels news : List (List Owned)) → 0 < length levels → with_base levels news ≡ level_at levels 0 ∷ news
base_news [] news some = absurd (omega (arith, some))
base_news (base ∷ finer) news some = refl

pub passes_make_mesh : PassesMakeTheMesh
unfolding mesh_from first_mesh regridded
passes_make_mesh p ranks zero is some which = ap (λ (l : List (List Owned)). level0_of p ranks ∷ l) (first_passes_are p ranks is some).1
passes_make_mesh p ranks (suc t) is some (inl none) = absurd (omega (arith, none))
passes_make_mesh p ranks (suc t) is some (inr due) =
    let old = mesh p ranks t in
    let news = renewed_over p ranks (suc t) 0 (take (p.levels - 1) old) in
    let before = fresh_mesh p ranks t is some in
    let e : 0 + suc t ≡ suc t = omega arith in
    ap (λ (n : ℕ). stepped p ranks n old) e
    ∙ ap (λ (u : Bool). if u then regridded p ranks (suc t) old else old) due
    ∙ base_news old news before.some
    ∙ ap (λ (b : List Owned). b ∷ news) before.base
    ∙ ap (λ (l : List (List Owned)). level0_of p ranks ∷ l) (regrids_are_passes p ranks (suc t) old is some before).3
    ∙ ap (λ (u : Bool). level0_of p ranks ∷ filter has_boxes (map (new_level p) (if u then passes_of p ranks (suc t) old else []))) (sym due)
