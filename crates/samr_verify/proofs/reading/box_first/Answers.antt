use Rattle.samr_verify.specs.Reading.{count, triple, boxed, and_then}
use Rattle.samr_verify.proofs.PartLaws.{box_parts, box_from, box_right, box_same, triple_parts, corner_parts, box_wrong, box_reads}
use Rattle.samr_verify.proofs.ReadLaws.{lacks, reads_of, first_lacks, second_lacks, both_read, as_lacks, wrong_lacks}
use Rattle.samr_verify.proofs.reading.box_first.Goals as goal

pub returns-in_err-owner : goal.returns-in_err-owner
returns-in_err-owner c =
    reads_of _ _ c.from_residual.ensures
    (as_lacks box_parts boxed c.args.text.now box_from box_right box_same
    (first_lacks count (and_then triple triple) c.args.text.now corner_parts (lacks _ _ c.count_first.ensures c.in_err-owner.was)))

pub returns-in_err-lo : goal.returns-in_err-lo
returns-in_err-lo c =
    reads_of _ _ c.from_residual-in_err-lo.ensures
    (as_lacks box_parts boxed c.args.text.now box_from box_right box_same
    (second_lacks count (and_then triple triple) c.args.text.now corner_parts c.in_ok-owner.owner c.in_ok-owner.behind_owner.now c.in_ok-owner.ensures
    (first_lacks triple triple c.in_ok-owner.behind_owner.now triple_parts (lacks _ _ c.triple_first.ensures c.in_err-lo.was))))

pub returns-in_err-hi : goal.returns-in_err-hi
returns-in_err-hi c =
    reads_of _ _ c.from_residual-in_err-hi.ensures
    (as_lacks box_parts boxed c.args.text.now box_from box_right box_same
    (second_lacks count (and_then triple triple) c.args.text.now corner_parts c.in_ok-owner.owner c.in_ok-owner.behind_owner.now c.in_ok-owner.ensures
    (second_lacks triple triple c.in_ok-owner.behind_owner.now triple_parts c.in_ok-lo.lo c.in_ok-lo.behind_lo.now c.in_ok-lo.ensures
    (lacks _ _ c.triple_first-2.ensures c.in_err-hi.was))))

pub returns-in_err-at : goal.returns-in_err-at
returns-in_err-at c =
    reads_of _ _ c.from_residual-in_err-at.ensures
    (wrong_lacks box_parts boxed c.args.text.now box_from box_right box_same (c.in_ok-owner.owner, (c.in_ok-lo.lo, c.in_ok-hi.hi)) c.in_ok-hi.rest.now
    (both_read count (and_then triple triple) c.args.text.now corner_parts c.in_ok-owner.owner c.in_ok-owner.behind_owner.now c.in_ok-owner.ensures (c.in_ok-lo.lo, c.in_ok-hi.hi) c.in_ok-hi.rest.now
    (both_read triple triple c.in_ok-owner.behind_owner.now triple_parts c.in_ok-lo.lo c.in_ok-lo.behind_lo.now c.in_ok-lo.ensures c.in_ok-hi.hi c.in_ok-hi.rest.now c.in_ok-hi.ensures))
    (box_wrong c.in_ok-owner.owner c.in_ok-lo.lo c.in_ok-hi.hi c.box_at.result c.in_err-at.was c.box_at.ensures.each))

pub returns : goal.returns
returns c =
    box_reads c.args.text.now c.in_ok-owner.owner c.in_ok-lo.lo c.in_ok-hi.hi c.in_ok-hi.rest.now
    (both_read count (and_then triple triple) c.args.text.now corner_parts c.in_ok-owner.owner c.in_ok-owner.behind_owner.now c.in_ok-owner.ensures (c.in_ok-lo.lo, c.in_ok-hi.hi) c.in_ok-hi.rest.now
    (both_read triple triple c.in_ok-owner.behind_owner.now triple_parts c.in_ok-lo.lo c.in_ok-lo.behind_lo.now c.in_ok-lo.ensures c.in_ok-hi.hi c.in_ok-hi.rest.now c.in_ok-hi.ensures))
    c.in_ok-at.at c.in_ok-at.ensures.some
