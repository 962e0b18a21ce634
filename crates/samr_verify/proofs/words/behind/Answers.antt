use Rattle.std.proofs.Common.{◌∙◌}
use Rattle.std.proofs.lemmas.Slice.Eq.{bytes_eq-Decides}
use Rattle.samr_verify.proofs.WordLaws.{front_is}
use Rattle.samr_verify.proofs.words.behind.Goals as goal

pub returns-else-eq-clause-each : goal.returns-else-eq-clause-each
returns-else-eq-clause-each c = λ rest e.
    let same = c.split_at.ensures.front ∙ front_is c.args.word.now rest c.args.text.now e in
    let equal = (bytes_eq-Decides c.split_at.result.0.now c.args.word.now).1 same in
    cc (c.if-eq.ensures, equal)
