use Rattle.std.proofs.Common.{◌≡◌, ap, set, subst, sym, ◌∙◌}
use Rattle.samr_box.specs.Corners.{Holds}
use Rattle.samr_data.specs.Places.{place, one_cell}
use Rattle.samr_data.specs.Grids.{Grid, over, written, copied}
use Rattle.samr_data.proofs.Patches.{with_values, set_patch}
use Rattle.samr_data.proofs.patch.Patch.set.Goals as goal

pub returns : goal.returns
returns c =
    let p : Grid = record { bx = c.self.inside.bx; width = c.self.inside.width; values = c.self.inside.values.items } in
    let at : c.place-n.result ≡ place (over p) c.args.x = c.place-n.ensures.value ∙ ap (λ b. place b c.args.x) c.over.ensures.value ∙ sym (ap (λ (g : Grid). place (over g) c.args.x) c.self.view_is) in
    ap (λ n. with_values p (set p.values n c.args.v)) at
    ∙ set_patch p c.args.x c.args.v c.self.invariant (subst (λ (g : Grid). Holds (over g) c.args.x) (sym c.self.view_is) c.requires)
    ∙ ap (λ (g : Grid). written g (copied g (one_cell c.args.x) (λ y. c.args.v))) c.self.view_is
