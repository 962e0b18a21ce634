use Rattle.samr_verify.proofs.PartLaws.{shift_made, same_shift, turn_fits}
use Rattle.std.proofs.Common.{w8, to_z, of_z, ◌∙◌}
use Rattle.samr_verify.proofs.reading.shift_at.Goals as goal

pub returns-clause-each : goal.returns-clause-each
returns-clause-each c = λ h.
    let k = turn_fits c.in_ok-k.k c.in_ok-k.ensures.some.1 c.in_ok-k.ensures.some.2 in
    let j = turn_fits c.in_ok-j.j c.in_ok-j.ensures.some.1 c.in_ok-j.ensures.some.2 in
    let i = turn_fits c.in_ok-i.i c.in_ok-i.ensures.some.1 c.in_ok-i.ensures.some.2 in
    shift_made c.args.numbers (record { k = to_z w8 (of_z w8 c.in_ok-k.k); j = to_z w8 (of_z w8 c.in_ok-j.j); i = to_z w8 (of_z w8 c.in_ok-i.i) }) c.new.result c.new.ensures.some c.new.ensures.value
    (same_shift c.args.numbers (to_z w8 (of_z w8 c.in_ok-i.i)) (to_z w8 (of_z w8 c.in_ok-j.j)) (to_z w8 (of_z w8 c.in_ok-k.k)) h (i ∙ c.in_ok-i.ensures.some.0) (j ∙ c.in_ok-j.ensures.some.0) (k ∙ c.in_ok-k.ensures.some.0)) h
