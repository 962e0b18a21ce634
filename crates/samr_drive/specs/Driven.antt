-- What a driver does with a rank's machine and the rank's end.
use Rattle.std.specs.Prelude.{◌≡◌, ℕ, ◌<◌, ◌≤◌, ◌⊎◌, ◌++◌, map, length, All, Contains, true, false, Option, Result, IfOk, OnOk}
use Rattle.std.specs.Option.{option_to_list}
use Rattle.samr_link.specs.declared.link.Link as wire
use Rattle.samr_link.specs.Ends.{IsSameEnd}
use Rattle.samr_link.specs.Names.{addressed}
use Rattle.samr_stage.specs.declared.label.Name.{Name}
use Rattle.samr_stage.specs.declared.mail.Mail as letter
use Rattle.samr_stage.specs.declared.program.Program as actor
use Rattle.samr_stage.specs.Machine.{State, IsSound, course_of, IsDone}
use Rattle.samr_drive.specs.Ahead.{ahead, awaiting}

module _ {M R L : Type 0} (m : letter.Ghosts M R) (w : wire.Ghosts L M R) where
  -- a letter that may be posted by an end
  pub record CanPost (e : L) (x : M) : Type 0 where
    pub sender : (m.name x).sender ≡ w.rank e
    pub addressee : (m.name x).addressee < w.ends e

module _ {P M R L : Type 0} (p : actor.Ghosts P M R) (m : letter.Ghosts M R) (w : wire.Ghosts L M R) where
  -- the end is that of the machine's rank, of as many ends as the run has ranks
  pub record Fits (s : State P M) (e : L) : Type 0 where
    pub rank : w.rank e ≡ p.rank_of s.program
    pub ends : w.ends e ≡ (course_of p m s.program).ranks

  -- a machine that is sound unless it has failed, with its end and a letter in hand, if there is one, that it may post
  pub record IsSteady (s : State P M) (e : L) (hand : Option M) : Type 0 where
    pub sound : s.failed ≡ false → IsSound p m s
    pub fits : Fits s e
    pub in_hand : All (CanPost m w e) (option_to_list hand)

  abbrev pub IsSame : L → L → Type 0
  IsSame old new = IsSameEnd w.rank w.ends w.making w.tells_posted w.tells_taken old new

  -- a name that was taken, or that the machine kept at first
  abbrev pub HasGot : State P M → L → Name → Type 0
  HasGot first now n = Contains (w.taken now) n ⊎ Contains (map m.name first.kept) n

  -- From a machine, an end and a letter in hand to others: what was given out meanwhile was posted, or is in hand, in
  -- order; and what was awaited meanwhile, or is kept now, was taken meanwhile, or was kept at first.
  pub record Drove (s : State P M) (e : L) (hand : Option M) (s' : State P M) (e' : L) (hand' : Option M) : Type 0 where
    pub same_end : IsSame e e'
    pub same_run : p.run s'.program ≡ p.run s.program
    pub same_rank : p.rank_of s'.program ≡ p.rank_of s.program
    pub within : p.place s.program ≤ length ((course_of p m s.program).labels (p.rank_of s.program)) → p.place s'.program ≤ length ((course_of p m s.program).labels (p.rank_of s.program))
    pub posted : w.tells_posted e ≡ true → (to : ℕ)
        → w.posted e' to ++ addressed to (map m.name (option_to_list hand') ++ ahead p m s') ≡ w.posted e to ++ addressed to (map m.name (option_to_list hand) ++ ahead p m s)
    pub grows : w.tells_taken e ≡ true → (n : Name) → Contains (w.taken e) n → Contains (w.taken e') n
    pub kept : w.tells_taken e ≡ true → All (λ x. HasGot s e' (m.name x)) s'.kept
    pub awaited : w.tells_taken e ≡ true → (n : Name) → Contains (awaiting p m s) n → Contains (awaiting p m s') n ⊎ HasGot s e' n

  -- the program of a machine that has left all its labels, at the last state of its rank
  pub record HasFinished (s : State P M) (program : P) : Type 0 where
    pub same_run : p.run program ≡ p.run s.program
    pub same_rank : p.rank_of program ≡ p.rank_of s.program
    pub over : IsDone p m program
    pub within : p.place s.program ≤ length ((course_of p m s.program).labels (p.rank_of s.program)) → p.place program ≡ length ((course_of p m s.program).labels (p.rank_of s.program))
    pub stands : p.stands program false

  -- what was posted is what was posted before, and then all that the machine had yet to give out
  abbrev pub PostsAll : State P M → L → L → Type 0
  PostsAll s e e' = w.tells_posted e ≡ true → (to : ℕ) → w.posted e' to ≡ w.posted e to ++ addressed to (ahead p m s)

  -- all that the machine awaited was taken, or was kept at first
  abbrev pub TakesAll : State P M → L → L → Type 0
  TakesAll s e e' = w.tells_taken e ≡ true → All (HasGot s e') (awaiting p m s)

  -- what a driver makes of a machine and an end, with its answer and the end that it hands back
  pub record DrivenTo {S : Type 0} (s : State P M) (e : L) (answer : Result P S) (e' : L) : Type 0 where
    pub same_end : IsSame e e'
    pub finished : IfOk answer (HasFinished s)
    pub posted : OnOk answer (PostsAll s e e')
    pub taken : OnOk answer (TakesAll s e e')
