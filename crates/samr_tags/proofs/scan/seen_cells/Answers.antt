use Rattle.std.proofs.Common.{◌∙◌, sym}
use Rattle.samr_tags.specs.Seeing.{about}
use Rattle.samr_tags.proofs.Marks.{met_part}
use Rattle.samr_tags.proofs.scan.seen_cells.Goals as goal

pub tagged_in-requires : goal.tagged_in-requires
tagged_in-requires g c = record {
  told = λ x h.
      c.requires.told x
      (met_part c.args.e.base.bx (about c.args.frame.now c.args.buffer c.args.e) c.in-Some.region (sym c.seen_region.ensures ∙ c.in-Some.is) x h);
}
