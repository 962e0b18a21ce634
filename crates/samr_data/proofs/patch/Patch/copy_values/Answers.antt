use Rattle.std.proofs.Common.{◌≡◌, ℕ, List, length, ap, sym, subst, ◌∙◌, arith}
use Rattle.std.proofs.lemmas.List.{with_items_is}
use Rattle.std.specs.Prelude.{IsTrue}
use Rattle.samr_box.specs.Corners.{Corners, holds, holds_box}
use Rattle.samr_data.specs.Values.{CanCopy, listed, changed_in, moved_from}
use Rattle.samr_data.specs.Grids.{Grid, IsGrid, over, written, copied}
use Rattle.samr_data.proofs.Patches.{with_values, IsGrid-with}
use Rattle.samr_data.proofs.patch.Patch.copy_values.Goals as goal

at_is : (at : Corners) (p q : Grid) → at ≡ over q → p ≡ q → at ≡ over p
at_is at p q e f = e ∙ sym (ap (λ (g : Grid). over g) f)

can_copy : (to from : List ℕ) (at source region : Corners) (p : Grid) → IsGrid p → to ≡ p.values → at ≡ over p → (by : _)
    → CanCopy p.values (over p) from source region by → CanCopy to at from source region by
can_copy to from at source region p g e f by can =
    subst (λ l. CanCopy l at from source region by) (sym e) (subst (λ b. CanCopy p.values b from source region by) (sym f) can)

pub copy_box-requires : goal.copy_box-requires
copy_box-requires c =
    let p : Grid = record { bx = c.self.inside.bx; width = c.self.inside.width; values = c.self.inside.values.items } in
    can_copy c.as_mut_slice.result.now c.args.from.now c.over-at.result c.args.source c.args.region p c.self.invariant c.as_mut_slice.ensures.value
    (at_is c.over-at.result p c.args.self.now c.over-at.ensures.value c.self.view_is) c.args.by
    (record {
      full = c.self.invariant.full;
      few = c.self.invariant.few;
      into = subst (λ (g : Grid). IsTrue (holds_box (over g) c.args.region)) (sym c.self.view_is) c.requires.into;
      source_full = c.requires.full;
      source_few = c.requires.few;
      out = c.requires.out;
    })

pub invariant_of-self : goal.invariant_of-self
invariant_of-self c =
    let p : Grid = record { bx = c.self.inside.bx; width = c.self.inside.width; values = c.self.inside.values.items } in
    let same = with_items_is c.self.inside.values c.copy_box.new.to (omega (arith, c.copy_box.auto.to, c.as_mut_slice.ensures.len)) in
    let long : length c.copy_box.new.to ≡ length p.values = c.copy_box.auto.to ∙ ap (λ (l : List ℕ). length l) c.as_mut_slice.ensures.value in
    subst (λ l. IsGrid (with_values p l)) (sym same) (IsGrid-with p c.copy_box.new.to c.self.invariant long)

pub returns : goal.returns
returns c =
    let p : Grid = record { bx = c.self.inside.bx; width = c.self.inside.width; values = c.self.inside.values.items } in
    let same = with_items_is c.self.inside.values c.copy_box.new.to (omega (arith, c.copy_box.auto.to, c.as_mut_slice.ensures.len)) in
    ap (with_values p)
    (same ∙ c.copy_box.ensures
    ∙ ap (λ l. listed c.over-at.result (changed_in c.over-at.result l (holds c.args.region) (moved_from c.args.source c.args.from.now c.args.by))) c.as_mut_slice.ensures.value
    ∙ ap (λ b. listed b (changed_in b p.values (holds c.args.region) (moved_from c.args.source c.args.from.now c.args.by))) (at_is c.over-at.result p c.args.self.now c.over-at.ensures.value c.self.view_is))
    ∙ ap (λ (g : Grid). written g (copied g c.args.region (moved_from c.args.source c.args.from.now c.args.by))) c.self.view_is
