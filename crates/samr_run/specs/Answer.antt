-- What the program answers to its words and its input: the definition that the top call meets.
use Rattle.std.specs.Prelude.{ℕ, List, [], ◌∷◌, ◌++◌, pos, codes, length, ◌==◌, if◌then◌else◌, Bool, true, false, Result, Ok, Err}
use Rattle.std.specs.Option.{option_map_or}
use Rattle.samr_problem.specs.declared.refusal.Refusal.{Refusal}
use Rattle.samr_problem.specs.Fields.{Fields}
use Rattle.samr_problem.specs.Reading.{reading}
use Rattle.samr_run.specs.declared.answer.Ending.{Ending}
use Rattle.samr_run.specs.declared.answer.Ending.TheVariants.{Done, Words, Refused}
use Rattle.samr_run.specs.declared.words.Command.{Command}
use Rattle.samr_run.specs.declared.words.Command.TheVariants.{Check, Make}
use Rattle.samr_generate.specs.Text.{made_text}
use Rattle.samr_report.specs.Lines.{part, line}
use Rattle.samr_report.specs.Level0Text.{check_text}
use Rattle.samr_run.specs.Words.{command_of}

-- how a run ends where nothing outside fails, and what it writes
pub record Answer : Type 0 where
  pub ending : Ending
  pub text : List ℕ

-- the words are not of the form
unfoldable pub bad_words : Answer
bad_words = record { ending = Words; text = line (codes "bad words") [] }

-- a key behind a blank, where there is one
abbrev pub behind_blank : List ℕ → List ℕ
behind_blank key = if length key == 0 then [] else 32 ∷ key

-- the number of the cause, and the key where the cause shows one
unfoldable pub refusal_line : Refusal → List ℕ
refusal_line r = part (codes "refused") (pos r.cause ∷ []) ++ behind_blank r.key ++ 10 ∷ []

abbrev pub answer_of : (Fields → List ℕ) → Result Fields Refusal → Answer
answer_of text (Ok p) = record { ending = Done; text = text p }
answer_of text (Err r) = record { ending = Refused; text = refusal_line r }

-- the answer to a command on this input
unfoldable pub command_answer : List ℕ → Command → Answer
command_answer input (Check ranks) = answer_of (λ p. check_text p ranks) (reading input)
command_answer input (Make seed size) = record { ending = Done; text = made_text seed size }

-- a command that reads a problem
abbrev pub reads : Command → Bool
reads (Check ranks) = true
reads (Make seed size) = false

-- the words are of a command that reads a problem
abbrev pub takes_input : List (List ℕ) → Bool
takes_input words = option_map_or reads (command_of words) false

-- the answer to these words on this input
unfoldable pub answer : List (List ℕ) → List ℕ → Answer
answer words input = option_map_or (command_answer input) (command_of words) bad_words
