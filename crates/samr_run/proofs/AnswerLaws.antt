-- Laws of the answer: what decides it, and how much of the input it looks at.
use Rattle.std.proofs.Common.{◌≡◌, ℕ, List, true, Option, Some, None, Result, Ok, Err, refl, ap, arith, inl, inr, take, length}
use Rattle.std.specs.Prelude.{IfSome, nat_lt}
use Rattle.std.proofs.lemmas.List.{take_all, length-take}
use Rattle.std.proofs.lemmas.Bool.{cases_lt}
use Rattle.std.proofs.lemmas.Bool.Decides.{nat_tests}
use Rattle.samr_io.specs.Transfers.{TakesUpTo}
use Rattle.samr_problem.specs.Reading.{reading}
use Rattle.samr_run.specs.declared.words.Command.{Command}
use Rattle.samr_run.specs.declared.words.Command.TheVariants.{Check, Make}
use Rattle.samr_problem.specs.Fields.{Fields}
use Rattle.samr_problem.specs.declared.refusal.Refusal.{Refusal}
use Rattle.samr_run.specs.declared.answer.Ending.TheVariants.{Words}
use Rattle.samr_run.specs.Words.{command_of}
use Rattle.samr_report.specs.Level0Text.{check_text}
use Rattle.samr_run.specs.Answer.{answer, answer_of, bad_words, command_answer}

pub answer-bad_words : (words : List (List ℕ)) (input : List ℕ) → command_of words ≡ None → answer words input ≡ bad_words
unfolding answer
answer-bad_words words input none = rw none refl

pub answer-command : (words : List (List ℕ)) (input : List ℕ) (command : Command) → command_of words ≡ Some command
    → answer words input ≡ command_answer input command
unfolding answer
answer-command words input command is = rw is refl

-- a text of more than 1,048,577 bytes reads as its front does
pub reading-cut : (input : List ℕ) → reading (take 1048577 input) ≡ reading input
unfolding reading
reading-cut input = elim (cases_lt (length input) 1048577) [
  | inl short ↦ ap reading (take_all 1048577 input (omega (arith, short)))
  | inr long ↦
      let cut : nat_lt 1048576 (length (take 1048577 input)) ≡ true = simp length-take (grind (arith, nat_tests, long)) in
      let whole : nat_lt 1048576 (length input) ≡ true = grind (arith, nat_tests, long) in
      rw (cut, whole) refl
]

pub command_answer-cut : (input : List ℕ) (command : Command) → command_answer (take 1048577 input) command ≡ command_answer input command
unfolding command_answer
command_answer-cut input (Check ranks) = ap (answer_of (λ p. check_text p ranks)) (reading-cut input)
command_answer-cut input (Make seed size) = refl

pub checked_is : (input : List ℕ) (ranks : ℕ) → command_answer input (Check ranks) ≡ answer_of (λ p. check_text p ranks) (reading input)
unfolding command_answer
checked_is input ranks = refl

-- what is made does not look at the input
pub made_is : (one other : List ℕ) (seed size : ℕ) → command_answer one (Make seed size) ≡ command_answer other (Make seed size)
unfolding command_answer
made_is one other seed size = refl

-- a command is answered, so its words were not bad
answer_of-ending : (f : Fields → List ℕ) (v : Result Fields Refusal) → (answer_of f v).ending ≡ Words → ⊥
answer_of-ending f (Ok p) is = cc
answer_of-ending f (Err r) is = cc

pub command_answer-ending : (input : List ℕ) (command : Command) → (command_answer input command).ending ≡ Words → ⊥
unfolding command_answer
command_answer-ending input (Check ranks) is = answer_of-ending (λ p. check_text p ranks) (reading input) is
command_answer-ending input (Make seed size) is = cc

-- what is known of the bytes that a source gave
pub given : (old new : Option (List ℕ)) (limit : ℕ) (bytes : List ℕ) → TakesUpTo old new limit bytes → IfSome old (λ xs. bytes ≡ take limit xs)
given None new limit bytes h = tt
given (Some xs) None limit bytes h = absurd h
given (Some xs) (Some ys) limit bytes h = h.0

pub if_known : (o : Option (List ℕ)) (P Q : List ℕ → Type 0) → ((xs : List ℕ) → P xs → Q xs) → IfSome o P → IfSome o Q
if_known None P Q f h = tt
if_known (Some xs) P Q f h = f xs h

pub for_known : (o : Option (List ℕ)) (P : List ℕ → Type 0) → ((xs : List ℕ) → P xs) → IfSome o P
for_known None P f = tt
for_known (Some xs) P f = f xs
