use Rattle.std.proofs.Common.{List, ℕ, length, subst}
use Rattle.std.proofs.lemmas.Bool.{le-ltb}
use Rattle.samr_problem.specs.Reading.{reading, text_reading, Reads}
use Rattle.samr_problem.proofs.Texts.{is_utf8_of}
use Rattle.samr_problem.proofs.read.read_problem.Goals as goal

pub returns : goal.returns
unfolding reading
returns c =
    let Family : List ℕ → Type 0 = λ t. Reads c.read_text.result (text_reading t) in
    rw (le-ltb 1048576 (length c.args.text.now) c.if-text-gt-MOST_BYTES.false, is_utf8_of c.args.text.now c.in-Ok.ensures.cases.1)
    (subst Family c.in-Ok.ensures.cases.0 c.read_text.ensures)
