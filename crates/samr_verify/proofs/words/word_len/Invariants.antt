use Rattle.std.proofs.Common.{◌≡◌, ◌+◌, drop}
use Rattle.samr_verify.specs.Words.{word_len}
use Rattle.samr_verify.proofs.words.word_len.Given as goal

abbrev pub invariant-loop-i : goal.invariant-loop-i
invariant-loop-i l = word_len l.text ≡ l.i + word_len (drop l.i l.text)
