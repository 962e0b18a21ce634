-- Images of what a fine box needs have a cell exactly where it is the wrap of a cell that the box needs.
use Rattle.std.proofs.Common.{◌≡◌, sym, ap, subst, ◌∙◌}
use Rattle.std.specs.Prelude.{true}
use Rattle.samr_box.specs.declared.vector.IVec.{IVec}
use Rattle.samr_box.specs.Vector.{minus, times}
use Rattle.samr_box.specs.Corners.{Holds}
use Rattle.samr_box.specs.Space.{IsSpace, whole, opposite}
use Rattle.samr_level.proofs.Overlapping.{opposite-shifts}
use Rattle.samr_border.specs.Turns.{turns}
use Rattle.samr_border.proofs.TurnLaws.{turns_shift, turns_home, turns_is, near_of_shift}
use Rattle.samr_border.proofs.ImageCells.{holds_moved_back}
use Rattle.samr_tags.specs.Cover.{Covering, IsCovered, AreNear, frame_of, covering, covered}
use Rattle.samr_tags.proofs.Shifts.{shifts_are}
use Rattle.samr_tags.proofs.Buffering.{turned_back}
use Rattle.samr_tags.proofs.CoverStage.{covered_is, covered_from}

pub wraps : (w : Covering) (x : IVec) → IsSpace (frame_of w) → Holds (whole (frame_of w)) x → covered w x ≡ true → IsCovered w x
wraps w x space hx test =
    let d = frame_of w in
    let r = covered_from w x test in
    let b = r.0 in
    let s = r.2.0 in
    let c = minus x (times s d.size) in
    let t = opposite s in
    let back = turned_back x s d.size in
    let Frame : IVec → Type 0 = λ v. Holds (whole d) v in
    let inside = subst Frame (sym back) hx in
    let shift = (shifts_are d t).0 (opposite-shifts d.periodic s r.2.1) in
    record {
      box = b;
      is_fine = r.1;
      needed = c;
      is_needed = (holds_moved_back d (covering w.upper w.nest w.lower b.bx) s x).0 r.2.2;
      is_wrap =
          sym (sym back ∙ ap (λ (v : IVec). minus c (times v d.size)) (turns_is d c t space shift inside) ∙ turns_home d c space (near_of_shift d c t space shift inside));
    }

pub is_image : (w : Covering) (x : IVec) → IsSpace (frame_of w) → AreNear w → IsCovered w x → covered w x ≡ true
is_image w x space near h =
    let d = frame_of w in
    let c = h.needed in
    let t = turns d c in
    let s = opposite t in
    let home : minus c (times t d.size) ≡ x = turns_home d c space (near h.box c h.is_fine h.is_needed) ∙ h.is_wrap in
    let forth : c ≡ minus x (times s d.size) =
    sym (turned_back c t d.size) ∙ ap (λ (v : IVec). minus v (times s d.size)) home in
    let P : IVec → Type 0 = λ v. Holds (covering w.upper w.nest w.lower h.box.bx) v in
    covered_is w x h.box s h.is_fine (opposite-shifts d.periodic t ((shifts_are d t).1 (turns_shift d c)))
    ((holds_moved_back d (covering w.upper w.nest w.lower h.box.bx) s x).1 (subst P forth h.is_needed))
