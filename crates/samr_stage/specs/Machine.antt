-- What a machine is, and what one turn of it does.
use Rattle.std.specs.Prelude.{◌≡◌, ◌≢◌, ◌+◌, ◌⊎◌, ◌↔◌, List, [], ◌∷◌, ◌++◌, map, filter, All, Bool, true, false, not, IsTrue, Option, Some, None}
use Rattle.std.specs.Ordering.{is_eq, is_ne}
use Rattle.std.specs.declared.cmp.Ordering.{Ordering}
use Rattle.std.specs.declared.cmp.Ordering.TheVariants.{Less, Equal, Greater}
use Rattle.samr_stage.specs.declared.label.Label.{Label}
use Rattle.samr_stage.specs.declared.label.Name.{Name}
use Rattle.samr_stage.specs.declared.mail.Mail as letter
use Rattle.samr_stage.specs.declared.program.Program as actor
use Rattle.samr_stage.specs.declared.turn.Turn.{Turn}
use Rattle.samr_stage.specs.declared.turn.Turn.TheVariants.{Took, Posted, Advanced, Finished, Idle}
use Rattle.samr_stage.specs.Label.{label_cmp, name_cmp}
use Rattle.samr_stage.specs.Course.{Course, IsOver, sent, awaited, label_at}
use Rattle.samr_stage.specs.Held.{AreRising}

-- a machine: its program, the letters of its label that it has yet to give out, the letters that it keeps,
-- whether its program has left all its labels, and whether it has failed
pub record State (P M : Type 0) : Type 0 where
  pub program : P
  pub outbox : List M
  pub kept : List M
  pub over : Bool
  pub failed : Bool

-- one of three, by an order
abbrev pub by_order : {X : Type 0} → Ordering → X → X → X → X
by_order Less less equal greater = less
by_order Equal less equal greater = equal
by_order Greater less equal greater = greater

module _ {M : Type 0} (name : M → Name) where
  -- the letters of a label
  abbrev pub of_label : Label → List M → List M
  of_label at letters = filter (λ x. is_eq (label_cmp (name x).label at)) letters

  -- the letters of other labels
  abbrev pub of_others : Label → List M → List M
  of_others at letters = filter (λ x. is_ne (label_cmp (name x).label at)) letters

  -- letters that ascend by name, and one more in its place, unless there is one of its name
  abbrev pub stored : List M → M → List M
  stored [] y = y ∷ []
  stored (x ∷ xs) y = by_order (name_cmp (name y) (name x)) (y ∷ x ∷ xs) (x ∷ xs) (x ∷ stored xs y)

module _ {P M R : Type 0} (p : actor.Ghosts P M R) (m : letter.Ghosts M R) where
  -- the course of a program's run, and the label at which the program is
  abbrev pub course_of : P → Course m.Body
  course_of x = m.course (p.run x)

  abbrev pub label_of : P → Label
  label_of x = label_at ((course_of x).labels (p.rank_of x)) (p.place x)

  -- a program's rank has left all its labels
  abbrev pub IsDone : P → Type 0
  IsDone x = IsOver (course_of x) (p.rank_of x) (p.place x)

  -- a letter of a program's run, for its rank, at a label that it has not left
  pub record IsWanted (program : P) (x : M) : Type 0 where
    pub own : m.run x ≡ p.run program
    pub mine : (m.name x).addressee ≡ p.rank_of program
    pub ahead : label_cmp (m.name x).label (label_of program) ≢ Less

  -- letters that a program will want, ascending by name: so at most one of a name
  pub record KeepsWanted (program : P) (kept : List M) : Type 0 where
    pub wanted : All (IsWanted program) kept
    pub rising : AreRising m.name kept

  -- a machine's program has entered its label or has left them all; what it has yet to give out are the last of its letters
  -- of the label; it keeps letters that it will want; and at the end it has neither
  pub record IsSound (s : State P M) : Type 0 where
    pub stands : p.stands s.program (not s.over)
    pub over : IsTrue s.over ↔ IsDone s.program
    pub outbox_own : All (λ x. m.run x ≡ p.run s.program) s.outbox
    pub outbox_rest : s.over ≡ false → (given : List Name) × (given ++ map m.name s.outbox ≡ sent (course_of s.program) (label_of s.program) (p.rank_of s.program))
    pub keeps : KeepsWanted s.program s.kept
    pub nothing_over : s.over ≡ true → (s.outbox ≡ []) × (s.kept ≡ [])

  -- a machine keeps all the letters that its program awaits at its label
  abbrev pub IsReady : State P M → Type 0
  IsReady s = map m.name (of_label m.name (label_of s.program) s.kept) ≡ awaited (course_of s.program) (label_of s.program) (p.rank_of s.program)

  -- a new machine: its program has entered its label, or has none left to visit
  pub record Begins (program : P) (s : State P M) : Type 0 where
    pub same_run : p.run s.program ≡ p.run program
    pub same_rank : p.rank_of s.program ≡ p.rank_of program
    pub same_place : p.place s.program ≡ p.place program
    pub outbox : s.over ≡ false → map m.name s.outbox ≡ sent (course_of program) (label_of program) (p.rank_of program)
    pub kept : s.kept ≡ []

  -- a letter is kept by its name where it is wanted and none of its name is kept, and else it is dropped
  pub record Takes (old : State P M) (x : M) (new : State P M) : Type 0 where
    pub keeps : old.over ≡ false → IsWanted old.program x → new ≡ record old { kept = stored m.name old.kept x }
    pub unwanted : ¬ IsWanted old.program x → new ≡ old
    pub over : old.over ≡ true → new ≡ old

  -- the first letter of the outbox is given out
  pub record Posts (old : State P M) (x : M) (new : State P M) : Type 0 where
    pub outbox : old.outbox ≡ x ∷ new.outbox
    pub rest : new ≡ record old { outbox = new.outbox }

  -- the program finished its label with the letters that it awaited, and has entered the next one, or has left them all
  pub record Advances (old new : State P M) : Type 0 where
    pub going_on : old.over ≡ false
    pub empty : old.outbox ≡ []
    pub ready : IsReady old
    pub same_run : p.run new.program ≡ p.run old.program
    pub same_rank : p.rank_of new.program ≡ p.rank_of old.program
    pub next : p.place new.program ≡ p.place old.program + 1
    pub outbox : new.over ≡ false → map m.name new.outbox ≡ sent (course_of new.program) (label_of new.program) (p.rank_of new.program)
    pub kept : new.over ≡ false → new.kept ≡ of_others m.name (label_of old.program) old.kept

  -- nothing can be done: there is a letter to give out and no room for it, or there is none and an awaited letter has not come
  abbrev pub IsIdle : State P M → Bool → Type 0
  IsIdle s room = (s.over ≡ false) × (((s.outbox ≢ []) × (room ≡ false)) ⊎ ((s.outbox ≡ []) × ¬ IsReady s))

  -- what a turn does with a letter that is given, or none, and room for one that it gives out, or none
  abbrev pub Turned : State P M → Option M → Bool → Turn M → State P M → Type 0
  Turned old (Some x) room Took new = Takes old x new
  Turned old (Some x) room (Posted y) new = ⊥
  Turned old (Some x) room Advanced new = ⊥
  Turned old (Some x) room Finished new = ⊥
  Turned old (Some x) room Idle new = ⊥
  Turned old None room Took new = ⊥
  Turned old None room (Posted y) new = (old.over ≡ false) × (room ≡ true) × Posts old y new
  Turned old None room Advanced new = Advances old new × (new.over ≡ false)
  Turned old None room Finished new = ((old.over ≡ true) × (new ≡ old)) ⊎ (Advances old new × (new.over ≡ true))
  Turned old None room Idle new = IsIdle old room × (new ≡ old)
