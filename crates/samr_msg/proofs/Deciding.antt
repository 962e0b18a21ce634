-- Tests of equality, put together.
use Rattle.std.proofs.Common.{rules, ◌≡◌, Decides, ap, ◌∙◌}
use Rattle.std.proofs.lemmas.Bool.Decides.{Decides-and, Decides-like, Decides-int_eq, Decides-eqb}
use Rattle.samr_box.specs.declared.vector.IVec.{IVec}
use Rattle.samr_box.specs.declared.ibox.IBox.{IBox}
use Rattle.samr_shape.specs.declared.shape.Shape.{Shape}
use Rattle.samr_shape.specs.declared.shape.Shape.TheVariants.{Slab, Ball}
use Rattle.samr_problem.specs.declared.field.Field.{Field}
use Rattle.samr_box.specs.contracts.ibox.IBoxPartialEq as ibox
use Rattle.samr_box.specs.contracts.vector.IVecPartialEq as ivec
use Rattle.samr_shape.specs.contracts.shape.ShapePartialEq as shape
use Rattle.samr_problem.specs.contracts.field.FieldPartialEq as field
use Rattle.samr_problem.specs.contracts.field.InitPartialEq as init
use Rattle.samr_problem.specs.declared.field.Init.{Init}
use Rattle.samr_ops.specs.declared.rules.RefineRule.{RefineRule}
use Rattle.samr_ops.specs.declared.rules.RefineRule.TheVariants.{Same, Ramp}
use Rattle.samr_ops.specs.declared.rules.CoarsenRule.{CoarsenRule}
use Rattle.samr_ops.specs.declared.rules.CoarsenRule.TheVariants.{First, Max, Sum}
use Rattle.samr_ops.specs.declared.rules.Rule.{Rule}
use Rattle.samr_ops.specs.declared.rules.Rule.TheVariants.{Fixed, Clamp, Reflect}
use Rattle.samr_ops.specs.declared.rules.Border.{Border}
use Rattle.samr_ops.specs.contracts.rules.RefineRulePartialEq as refining
use Rattle.samr_ops.specs.contracts.rules.CoarsenRulePartialEq as coarsening
use Rattle.samr_ops.specs.contracts.rules.RulePartialEq as rule
use Rattle.samr_ops.specs.contracts.rules.BorderPartialEq as border

pub vectors : (a b : IVec) → Decides (ivec.TheImpl.ghosts.eq a b) (a ≡ b)
vectors a b = search rules

pub boxes : (a b : IBox) → Decides (ibox.TheImpl.ghosts.eq a b) (a ≡ b)
boxes a b =
    let of : IVec → IVec → IBox = λ lo hi. record { lo = lo; hi = hi } in
    Decides-like _ (λ h. ap (λ lo. of lo a.hi) h.0 ∙ ap (λ hi. of b.lo hi) h.1) (λ e. (ap (λ (x : IBox). x.lo) e, ap (λ (x : IBox). x.hi) e)) (Decides-and _ _ (vectors a.lo b.lo) (vectors a.hi b.hi))

pub shapes : (a b : Shape) → Decides (shape.TheImpl.ghosts.eq a b) (a ≡ b)
shapes (Slab l s v) (Slab m t w) =
    Decides-like _ (λ h. let lo = h.0 in let size = h.1.0 in let velocity = h.1.1 in cc) (λ e. (cc, (cc, cc))) (Decides-and _ _ (vectors l m) (Decides-and _ _ (vectors s t) (vectors v w)))
shapes (Slab l s v) (Ball m t w) = search rules
shapes (Ball l s v) (Slab m t w) = search rules
shapes (Ball l s v) (Ball m t w) =
    Decides-like _ (λ h. let centre = h.0 in let radius = h.1.0 in let velocity = h.1.1 in cc) (λ e. (cc, (cc, cc))) (Decides-and _ _ (vectors l m) (Decides-and _ _ (Decides-int_eq s t) (vectors v w)))

inits : (a b : Init) → Decides (init.TheImpl.ghosts.eq a b) (a ≡ b)
inits a b =
    Decides-like _ (λ h. let f = h.0 in let i = h.1.0 in let j = h.1.1.0 in let k = h.1.1.1 in let of : _ → _ → _ → _ → Init = λ f i j k. record { first = f; i = i; j = j; k = k } in
    ap (λ f. of f a.i a.j a.k) h.0 ∙ ap (λ i. of b.first i a.j a.k) h.1.0 ∙ ap (λ j. of b.first b.i j a.k) h.1.1.0 ∙ ap (λ k. of b.first b.i b.j k) h.1.1.1)
    (λ e. (ap (λ (x : Init). x.first) e, (ap (λ (x : Init). x.i) e, (ap (λ (x : Init). x.j) e, ap (λ (x : Init). x.k) e))))
    (Decides-and _ _ (Decides-eqb a.first b.first) (Decides-and _ _ (Decides-eqb a.i b.i) (Decides-and _ _ (Decides-eqb a.j b.j) (Decides-eqb a.k b.k))))

refines : (a b : RefineRule) → Decides (refining.TheImpl.ghosts.eq a b) (a ≡ b)
refines Same Same = search rules
refines Same Ramp = search rules
refines Ramp Same = search rules
refines Ramp Ramp = search rules

coarsens : (a b : CoarsenRule) → Decides (coarsening.TheImpl.ghosts.eq a b) (a ≡ b)
coarsens First First = search rules
coarsens First Max = search rules
coarsens First Sum = search rules
coarsens Max First = search rules
coarsens Max Max = search rules
coarsens Max Sum = search rules
coarsens Sum First = search rules
coarsens Sum Max = search rules
coarsens Sum Sum = search rules

one_rule : (a b : Rule) → Decides (rule.TheImpl.ghosts.eq a b) (a ≡ b)
one_rule (Fixed m) (Fixed n) = Decides-like _ (λ e. ap Fixed e) (λ e. cc) (Decides-eqb m n)
one_rule (Fixed m) Clamp = search rules
one_rule (Fixed m) Reflect = search rules
one_rule Clamp (Fixed n) = search rules
one_rule Clamp Clamp = search rules
one_rule Clamp Reflect = search rules
one_rule Reflect (Fixed n) = search rules
one_rule Reflect Clamp = search rules
one_rule Reflect Reflect = search rules

borders : (a b : Border) → Decides (border.TheImpl.ghosts.eq a b) (a ≡ b)
borders a b =
    let of : Rule → Rule → Rule → Border = λ i j k. record { i = i; j = j; k = k } in
    Decides-like _ (λ h. ap (λ i. of i a.j a.k) h.0 ∙ ap (λ j. of b.i j a.k) h.1.0 ∙ ap (λ k. of b.i b.j k) h.1.1)
    (λ e. (ap (λ (x : Border). x.i) e, (ap (λ (x : Border). x.j) e, ap (λ (x : Border). x.k) e)))
    (Decides-and _ _ (one_rule a.i b.i) (Decides-and _ _ (one_rule a.j b.j) (one_rule a.k b.k)))

same_field : (a b : Field) → (a.ghosts ≡ b.ghosts) → (a.modulus ≡ b.modulus) → (a.init ≡ b.init) → (a.centre ≡ b.centre) → (a.face ≡ b.face) → (a.refine ≡ b.refine) → (a.coarsen ≡ b.coarsen) → (a.boundary ≡ b.boundary) → a ≡ b
same_field a b g m i c f r o e =
    let of : IVec → _ → Init → _ → _ → RefineRule → CoarsenRule → Border → Field = λ g m i c f r o e. record { ghosts = g; modulus = m; init = i; centre = c; face = f; refine = r; coarsen = o; boundary = e } in
    ap (λ x. of x a.modulus a.init a.centre a.face a.refine a.coarsen a.boundary) g ∙ ap (λ x. of b.ghosts x a.init a.centre a.face a.refine a.coarsen a.boundary) m ∙ ap (λ x. of b.ghosts b.modulus x a.centre a.face a.refine a.coarsen a.boundary) i
    ∙ ap (λ x. of b.ghosts b.modulus b.init x a.face a.refine a.coarsen a.boundary) c ∙ ap (λ x. of b.ghosts b.modulus b.init b.centre x a.refine a.coarsen a.boundary) f ∙ ap (λ x. of b.ghosts b.modulus b.init b.centre b.face x a.coarsen a.boundary) r
    ∙ ap (λ x. of b.ghosts b.modulus b.init b.centre b.face b.refine x a.boundary) o ∙ ap (λ x. of b.ghosts b.modulus b.init b.centre b.face b.refine b.coarsen x) e

pub fields : (a b : Field) → Decides (field.TheImpl.ghosts.eq a b) (a ≡ b)
fields a b =
    Decides-like _ (λ h. same_field a b h.0 h.1.0 h.1.1.0 h.1.1.1.0 h.1.1.1.1.0 h.1.1.1.1.1.0 h.1.1.1.1.1.1.0 h.1.1.1.1.1.1.1)
    (λ e. (ap (λ (x : Field). x.ghosts) e, (ap (λ (x : Field). x.modulus) e, (ap (λ (x : Field). x.init) e, (ap (λ (x : Field). x.centre) e, (ap (λ (x : Field). x.face) e, (ap (λ (x : Field). x.refine) e, (ap (λ (x : Field). x.coarsen) e, ap (λ (x : Field). x.boundary) e))))))))
    (Decides-and _ _ (vectors a.ghosts b.ghosts) (Decides-and _ _ (Decides-eqb a.modulus b.modulus) (Decides-and _ _ (inits a.init b.init) (Decides-and _ _ (Decides-eqb a.centre b.centre) (Decides-and _ _ (Decides-eqb a.face b.face) (Decides-and _ _ (refines a.refine b.refine) (Decides-and _ _ (coarsens a.coarsen b.coarsen) (borders a.boundary b.boundary))))))))
