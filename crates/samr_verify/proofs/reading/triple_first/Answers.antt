use Rattle.samr_verify.specs.Reading.{number, triple, and_then}
use Rattle.samr_verify.proofs.PartLaws.{three, triple_from, triple_right, triple_same, number_parts, pair_parts, triple_reads}
use Rattle.samr_verify.proofs.ReadLaws.{lacks, reads_of, first_lacks, second_lacks, both_read, as_lacks}
use Rattle.samr_verify.proofs.reading.triple_first.Goals as goal

pub returns-in_err-i : goal.returns-in_err-i
returns-in_err-i c =
    reads_of _ _ c.from_residual.ensures
    (as_lacks three triple c.args.text.now triple_from triple_right triple_same
    (first_lacks number (and_then number number) c.args.text.now pair_parts (lacks _ _ c.number_first.ensures c.in_err-i.was)))

pub returns-in_err-j : goal.returns-in_err-j
returns-in_err-j c =
    reads_of _ _ c.from_residual-in_err-j.ensures
    (as_lacks three triple c.args.text.now triple_from triple_right triple_same
    (second_lacks number (and_then number number) c.args.text.now pair_parts c.in_ok-i.i c.in_ok-i.behind_i.now c.in_ok-i.ensures
    (first_lacks number number c.in_ok-i.behind_i.now number_parts (lacks _ _ c.number_first-2.ensures c.in_err-j.was))))

pub returns-in_err-k : goal.returns-in_err-k
returns-in_err-k c =
    reads_of _ _ c.from_residual-in_err-k.ensures
    (as_lacks three triple c.args.text.now triple_from triple_right triple_same
    (second_lacks number (and_then number number) c.args.text.now pair_parts c.in_ok-i.i c.in_ok-i.behind_i.now c.in_ok-i.ensures
    (second_lacks number number c.in_ok-i.behind_i.now number_parts c.in_ok-j.j c.in_ok-j.behind_j.now c.in_ok-j.ensures
    (lacks _ _ c.number_first-3.ensures c.in_err-k.was))))

pub returns : goal.returns
returns c =
    triple_reads c.args.text.now c.in_ok-i.i c.in_ok-j.j c.in_ok-k.k c.in_ok-k.rest.now
    (both_read number (and_then number number) c.args.text.now pair_parts c.in_ok-i.i c.in_ok-i.behind_i.now c.in_ok-i.ensures (c.in_ok-j.j, c.in_ok-k.k) c.in_ok-k.rest.now
    (both_read number number c.in_ok-i.behind_i.now number_parts c.in_ok-j.j c.in_ok-j.behind_j.now c.in_ok-j.ensures c.in_ok-k.k c.in_ok-k.rest.now c.in_ok-k.ensures))
