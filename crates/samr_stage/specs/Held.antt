-- The letters that a program is given at a label, and what a call leaves of a program.
use Rattle.std.specs.Prelude.{◌≡◌, ℕ, List, All, AllPairs}
use Rattle.std.specs.declared.cmp.Ordering.TheVariants.{Less}
use Rattle.samr_stage.specs.declared.label.Label.{Label}
use Rattle.samr_stage.specs.declared.label.Name.{Name}
use Rattle.samr_stage.specs.Label.{name_cmp}

-- letters that ascend by name, each name less than all later ones
abbrev pub AreRising : {M : Type 0} → (M → Name) → List M → Type 0
AreRising name letters = AllPairs (λ x y. name_cmp (name x) (name y) ≡ Less) letters

-- letters of one run and one label, for one rank, ascending by name: so by sender, at most one of each
pub record IsHeld {M R : Type 0} (run : M → R) (name : M → Name) (r : R) (at : Label) (rank : ℕ) (held : List M) : Type 0 where
  pub own : All (λ x. run x ≡ r) held
  pub here : All (λ x. (name x).label ≡ at) held
  pub mine : All (λ x. (name x).addressee ≡ rank) held
  pub rising : AreRising name held

-- the run, the rank and the place are as they were
pub record Stays {P R : Type 0} (run : P → R) (rank place : P → ℕ) (old new : P) : Type 0 where
  pub same_run : run new ≡ run old
  pub same_rank : rank new ≡ rank old
  pub same_place : place new ≡ place old
