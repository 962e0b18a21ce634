-- The parts of a box and of a cluster that lie in the domain, with which the nest cut begins.
use Rattle.std.specs.Prelude.{cond, List}
use Rattle.std.specs.List.{filter_map}
use Rattle.samr_box.specs.declared.vector.Axis.{Axis}
use Rattle.samr_box.specs.declared.vector.Axis.TheVariants.{I, J, K}
use Rattle.samr_box.specs.declared.vector.IVec.{IVec}
use Rattle.samr_box.specs.declared.space.Flags.{Flags}
use Rattle.samr_box.specs.Corners.{Corners, met, level}
use Rattle.samr_box.specs.Space.{Space, whole, flag}
use Rattle.samr_level.specs.Regions.{Area, boxes_of}

-- on the axes that are marked the numbers of the one, on the others those of the other
abbrev pub picked : Flags → IVec → IVec → IVec
picked marks x y = record { k = cond marks.k x.k y.k; j = cond marks.j x.j y.j; i = cond marks.i x.i y.i }

-- a box of the domain, on periodic axes as long as another box
abbrev pub stretched : Space → Corners → Corners → Corners
stretched d b p = record { lo = picked d.periodic b.lo p.lo; hi = picked d.periodic b.hi p.hi }

-- the parts of a box that lie in a box of the domain on physical axes, in the order of these
abbrev pub needed : Area → Corners → List Corners
needed a b = filter_map (λ p. met (stretched a.frame b p) b) (boxes_of a)

-- the parts of a cluster that lie in a box of the domain, in the order of these
abbrev pub inner : Area → Corners → List Corners
inner a c = filter_map (λ p. met p c) (boxes_of a)

-- a box clipped to the frame on physical axes
abbrev pub clipped_on : Axis → Space → Corners → Corners
clipped_on axis d b = cond (flag axis d.periodic) b (level axis b (whole d))

abbrev pub clipped : Space → Corners → Corners
clipped d b = clipped_on K d (clipped_on J d (clipped_on I d b))
