use Rattle.std.proofs.Common.{◌≡◌, ◌+◌, ◌<◌, ◌^◌, ap, sym, subst, ◌∙◌, arith}
use Rattle.std.proofs.lemmas.List.{with_items_is}
use Rattle.samr_box.specs.declared.vector.Axis.TheVariants.{I, J, K}
use Rattle.samr_sign.specs.Counts.{Sign, IsSign, total, added}
use Rattle.samr_sign.proofs.Sums.{IsSign-sum, same_sign, same_length, sums_few}
use Rattle.samr_sign.proofs.signature.Signature.add.Goals as goal

pub add_counts-requires-clause-same : goal.add_counts-requires-clause-same
add_counts-requires-clause-same c =
    let s : Sign = record { bx = c.self.inside.bx; i = c.self.inside.i.items; j = c.self.inside.j.items; k = c.self.inside.k.items } in
    let r : Sign = record { bx = c.other.inside.bx; i = c.other.inside.i.items; j = c.other.inside.j.items; k = c.other.inside.k.items } in
    let same : s.bx ≡ r.bx = rw (← c.self.view_is, ← c.other.view_is) at c.requires.same in
    same_length I s r _ _ c.self.invariant c.other.invariant same c.as_mut_slice.ensures.value c.as_slice.ensures.value

pub add_counts-requires-clause-few : goal.add_counts-requires-clause-few
add_counts-requires-clause-few c =
    let s : Sign = record { bx = c.self.inside.bx; i = c.self.inside.i.items; j = c.self.inside.j.items; k = c.self.inside.k.items } in
    let r : Sign = record { bx = c.other.inside.bx; i = c.other.inside.i.items; j = c.other.inside.j.items; k = c.other.inside.k.items } in
    let few : total s + total r < 2 ^ 63 = rw (← c.self.view_is, ← c.other.view_is) at c.requires.few in
    sums_few I s r _ _ c.self.invariant c.other.invariant few c.as_mut_slice.ensures.value c.as_slice.ensures.value

pub add_counts-requires-2-clause-same : goal.add_counts-requires-2-clause-same
add_counts-requires-2-clause-same c =
    let s : Sign = record { bx = c.self.inside.bx; i = c.self.inside.i.items; j = c.self.inside.j.items; k = c.self.inside.k.items } in
    let r : Sign = record { bx = c.other.inside.bx; i = c.other.inside.i.items; j = c.other.inside.j.items; k = c.other.inside.k.items } in
    let same : s.bx ≡ r.bx = rw (← c.self.view_is, ← c.other.view_is) at c.requires.same in
    same_length J s r _ _ c.self.invariant c.other.invariant same c.as_mut_slice-2.ensures.value c.as_slice-2.ensures.value

pub add_counts-requires-2-clause-few : goal.add_counts-requires-2-clause-few
add_counts-requires-2-clause-few c =
    let s : Sign = record { bx = c.self.inside.bx; i = c.self.inside.i.items; j = c.self.inside.j.items; k = c.self.inside.k.items } in
    let r : Sign = record { bx = c.other.inside.bx; i = c.other.inside.i.items; j = c.other.inside.j.items; k = c.other.inside.k.items } in
    let few : total s + total r < 2 ^ 63 = rw (← c.self.view_is, ← c.other.view_is) at c.requires.few in
    sums_few J s r _ _ c.self.invariant c.other.invariant few c.as_mut_slice-2.ensures.value c.as_slice-2.ensures.value

pub add_counts-requires-3-clause-same : goal.add_counts-requires-3-clause-same
add_counts-requires-3-clause-same c =
    let s : Sign = record { bx = c.self.inside.bx; i = c.self.inside.i.items; j = c.self.inside.j.items; k = c.self.inside.k.items } in
    let r : Sign = record { bx = c.other.inside.bx; i = c.other.inside.i.items; j = c.other.inside.j.items; k = c.other.inside.k.items } in
    let same : s.bx ≡ r.bx = rw (← c.self.view_is, ← c.other.view_is) at c.requires.same in
    same_length K s r _ _ c.self.invariant c.other.invariant same c.as_mut_slice-3.ensures.value c.as_slice-3.ensures.value

pub invariant_of-self : goal.invariant_of-self
invariant_of-self c =
    let s : Sign = record { bx = c.self.inside.bx; i = c.self.inside.i.items; j = c.self.inside.j.items; k = c.self.inside.k.items } in
    let r : Sign = record { bx = c.other.inside.bx; i = c.other.inside.i.items; j = c.other.inside.j.items; k = c.other.inside.k.items } in
    let same : s.bx ≡ r.bx = rw (← c.self.view_is, ← c.other.view_is) at c.requires.same in
    let few : total s + total r < 2 ^ 63 = rw (← c.self.view_is, ← c.other.view_is) at c.requires.few in
    let i = with_items_is c.self.inside.i c.add_counts.new.to (omega (arith, c.add_counts.auto.to, c.as_mut_slice.ensures.len))
    ∙ c.add_counts.ensures ∙ ap (λ xs. added xs c.as_slice.result.now) c.as_mut_slice.ensures.value ∙ ap (added s.i) c.as_slice.ensures.value in
    let j = with_items_is c.self.inside.j c.add_counts-2.new.to (omega (arith, c.add_counts-2.auto.to, c.as_mut_slice-2.ensures.len))
    ∙ c.add_counts-2.ensures ∙ ap (λ xs. added xs c.as_slice-2.result.now) c.as_mut_slice-2.ensures.value ∙ ap (added s.j) c.as_slice-2.ensures.value in
    let k = with_items_is c.self.inside.k c.add_counts-3.new.to (omega (arith, c.add_counts-3.auto.to, c.as_mut_slice-3.ensures.len))
    ∙ c.add_counts-3.ensures ∙ ap (λ xs. added xs c.as_slice-3.result.now) c.as_mut_slice-3.ensures.value ∙ ap (added s.k) c.as_slice-3.ensures.value in
    subst (λ (v : Sign). IsSign v) (sym (same_sign i j k)) (IsSign-sum s r c.self.invariant c.other.invariant same few)
