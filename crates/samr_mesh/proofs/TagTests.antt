-- The tags of a level lie in it: as one test of the cell and one of what tags it.
use Rattle.std.proofs.Common.{◌≡◌, refl}
use Rattle.std.specs.Prelude.{Bool, true, false, ◌&&◌, ◌||◌}
use Rattle.samr_box.specs.declared.vector.IVec.{IVec}
use Rattle.samr_problem.specs.Fields.{Fields}
use Rattle.samr_tags.specs.Buffer.{in_level, is_shaped, some_near, tags_of}
use Rattle.samr_tags.specs.Cover.{covered}
use Rattle.samr_mesh.specs.Passes as passes
use Rattle.samr_mesh.specs.Passes.{Pass, tagging, tags_in}

one_test : (h s c : Bool) → ((h && s) || (h && c)) ≡ (h && ((h && s) || c))
one_test true s c = refl
one_test false s c = refl

pub tags_are : (p : Fields) (w : Pass) (x : IVec) → tags_in p w x ≡ (in_level w.level x && (tags_of (tagging p w) x || covered (passes.covering p w) x))
unfolding tags_in tags_of
tags_are p w x = one_test (in_level w.level x) (some_near (is_shaped (tagging p w)) p.tag_buffer x) (covered (passes.covering p w) x)
