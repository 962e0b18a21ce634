-- The orders of labels and of names are total, and in them only equal ones tie.
use Rattle.std.specs.Prelude.{◌≡◌, ℕ, refl}
use Rattle.std.specs.Ordering.{nat_cmp, ordering_then}
use Rattle.std.specs.declared.cmp.Ordering.{Ordering}
use Rattle.std.specs.declared.cmp.Ordering.TheVariants.{Less, Equal, Greater}
use Rattle.std.specs.Cmp.{IsTotalOrder}
use Rattle.std.proofs.Common.{arith}
use Rattle.std.proofs.lemmas.Bool.Decides.{nat_tests}
use Rattle.std.proofs.lemmas.Cmp.{nat_cmp_total, on_total, then_total}
use Rattle.samr_stage.specs.declared.label.Label.{Label}
use Rattle.samr_stage.specs.declared.label.Name.{Name}
use Rattle.samr_stage.specs.Label.{label_cmp, name_cmp}

pub label_cmp_total : IsTotalOrder label_cmp
label_cmp_total =
    then_total (on_total (λ (l : Label). l.step) nat_cmp_total) (then_total (on_total (λ (l : Label). l.pass) nat_cmp_total) (then_total (on_total (λ (l : Label). l.phase) nat_cmp_total) (on_total (λ (l : Label). l.round) nat_cmp_total)))

pub name_cmp_total : IsTotalOrder name_cmp
name_cmp_total =
    then_total (on_total (λ (n : Name). n.label) label_cmp_total) (then_total (on_total (λ (n : Name). n.sender) nat_cmp_total) (on_total (λ (n : Name). n.addressee) nat_cmp_total))

nat_tied : (x y : ℕ) → nat_cmp x y ≡ Equal → x ≡ y
nat_tied x y h = grind (arith, nat_tests)

-- two orders in turn tie where both do
both_tied : (o p : Ordering) → ordering_then o p ≡ Equal → (o ≡ Equal) × (p ≡ Equal)
both_tied Less p h = cc
both_tied Equal p h = (refl, h)
both_tied Greater p h = cc

same_label : (s t p q f g r k : ℕ) → s ≡ t → p ≡ q → f ≡ g → r ≡ k → ◌≡◌ {A = Label} (record { step = s; pass = p; phase = f; round = r }) (record { step = t; pass = q; phase = g; round = k })
same_label s t p q f g r k e1 e2 e3 e4 = rw (e1, e2, e3, e4)

pub label_tied : (a b : Label) → label_cmp a b ≡ Equal → a ≡ b
label_tied a b h =
    let step = both_tied _ _ h in
    let pass = both_tied _ _ step.1 in
    let phase = both_tied _ _ pass.1 in
    same_label a.step b.step a.pass b.pass a.phase b.phase a.round b.round (nat_tied _ _ step.0) (nat_tied _ _ pass.0) (nat_tied _ _ phase.0) (nat_tied _ _ phase.1)

same_name : (a b : Label) (s t r k : ℕ) → a ≡ b → s ≡ t → r ≡ k → ◌≡◌ {A = Name} (record { label = a; sender = s; addressee = r }) (record { label = b; sender = t; addressee = k })
same_name a b s t r k e1 e2 e3 = rw (e1, e2, e3)

pub name_tied : (a b : Name) → name_cmp a b ≡ Equal → a ≡ b
name_tied a b h =
    let label = both_tied _ _ h in
    let sender = both_tied _ _ label.1 in
    same_name a.label b.label a.sender b.sender a.addressee b.addressee (label_tied _ _ label.0) (nat_tied _ _ sender.0) (nat_tied _ _ sender.1)
