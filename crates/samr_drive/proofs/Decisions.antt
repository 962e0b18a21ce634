-- Whether two values of a type of the program are equal can be decided, since each type has a code.
use Rattle.std.proofs.Common.{◌≡◌, ◌≢◌, ◌⊎◌, refl, ap, inl, inr, ⊎_elim, true, false, eqb}
use Rattle.std.proofs.lemmas.Bool.Decides.{eqb_tells}
use base.Stored.{Gv, Coded, gnil, gnum, gcons}

same_gv : (a b : Gv) → (a ≡ b) ⊎ (a ≢ b)
same_gv gnil gnil = inl refl
same_gv gnil (gnum n) = inr (λ e. cc)
same_gv gnil (gcons c d) = inr (λ e. cc)
same_gv (gnum n) gnil = inr (λ e. cc)
same_gv (gnum n) (gnum k) = ⊎_elim (λ (t : (eqb n k ≡ true) × (n ≡ k)). inl (ap gnum t.1)) (λ (t : (eqb n k ≡ false) × (n ≢ k)). inr (λ e. t.1 (cc))) (eqb_tells n k)
same_gv (gnum n) (gcons c d) = inr (λ e. cc)
same_gv (gcons a b) gnil = inr (λ e. cc)
same_gv (gcons a b) (gnum k) = inr (λ e. cc)
same_gv (gcons a b) (gcons c d) =
    ⊎_elim (λ first. ⊎_elim (λ second. inl (cc)) (λ apart. inr (λ e. apart (cc))) (same_gv b d)) (λ apart. inr (λ e. apart (cc))) (same_gv a c)

pub same_or_not : {A : Type 0} → Coded A → (x y : A) → (x ≡ y) ⊎ (x ≢ y)
same_or_not c x y = ⊎_elim (λ same. inl (c.inj x y same)) (λ apart. inr (λ e. apart (ap c.code e))) (same_gv (c.code x) (c.code y))
