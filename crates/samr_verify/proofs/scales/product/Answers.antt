use Rattle.samr_box.proofs.Ranges.{FitsVector-range}
use Rattle.samr_verify.proofs.Scaling.{InRange-ratio}
use Rattle.samr_verify.proofs.scales.product.Goals as goal

pub times-requires : goal.times-requires
times-requires c = rw (c.factors.ensures.value, c.factors-2.ensures.value) (FitsVector-range (InRange-ratio c.requires))

pub ratio_from-requires : goal.ratio_from-requires
ratio_from-requires c = rw (c.times.ensures, c.factors.ensures.value, c.factors-2.ensures.value) c.requires
