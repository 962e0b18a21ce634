-- The fill's stages of all ranks.
use Rattle.std.proofs.Common.{◌≡◌, ℕ, ◌<◌, ◌^◌, List, [], ◌∷◌, ◌++◌, length, get_or, sym, ap, ◌∙◌, subst, arith, inl, inr, Some, slice_get}
use Rattle.samr_stage.proofs.Mailboxes.{slice_get-push_cases}
use Rattle.samr_data.specs.Grids.{Grid}
use Rattle.samr_ops.specs.declared.rules.Rules.{Rules}
use Rattle.samr_sched.specs.declared.plan.Plan.{Plan}
use Rattle.samr_fill.specs.Fill.{Filling}
use Rattle.samr_fill.specs.FillParts.{HasPatches}
use Rattle.samr_fill.specs.FillOnAll.{HaveAllPatches}
use Rattle.samr_fill.proofs.FieldTasks.{there_at}

-- one more element, at the place that is its number
pub each_more : {X : Type 0} (P : ℕ → X → Type 0) (xs ys : List X) (n : ℕ) (x : X) → length xs ≡ n → ((k : ℕ) (y : X) → slice_get xs k ≡ Some y → P k y) → P n x
    → ys ≡ xs ++ x ∷ [] → (k : ℕ) (y : X) → slice_get ys k ≡ Some y → P k y
each_more P xs ys n x len before here is k y got =
    elim (slice_get-push_cases xs x y k (ap (λ zs. slice_get zs k) (sym is) ∙ got)) [
      | inl last ↦ subst (λ m. P m y) (sym (last.0 ∙ len)) (subst (P n) last.1 here)
      | inr there ↦ before k y there
    ]

module _ (plans : List Plan) (patches coarser : List (List (List Grid))) (rules : List Rules) (w : Filling) (h : HaveAllPatches plans patches coarser rules w) where
  -- a rank's own among what all have
  pub its_patches : (rank place ranks : ℕ) (plan : Plan) (own below as_below : List (List Grid)) → rank < length patches → place ≡ rank → ranks ≡ length patches
      → plan ≡ get_or plans place plan → own ≡ get_or patches rank own → below ≡ get_or coarser place below → as_below ≡ below
      → HasPatches rank ranks plan own as_below rules w rank
  its_patches rank place ranks plan own below as_below within same all p o b e =
      let count = h.same_ranks in
      let some = h.all_plans in
      let others = h.all_coarser in
      subst (λ (l : List (List Grid)). HasPatches rank ranks plan own l rules w rank) (sym e)
      (subst (λ (k : ℕ). HasPatches rank k plan own below rules w rank) (sym (all ∙ count))
      (h.part rank plan own below
      (there_at plans rank plan (omega (arith, within, count, some)) (p ∙ ap (λ (k : ℕ). get_or plans k plan) same))
      (there_at patches rank own within o)
      (there_at coarser rank below (omega (arith, within, count, others)) (b ∙ ap (λ (k : ℕ). get_or coarser k below) same))))

  pub few_fields : (rank : ℕ) (ranks : ℕ) (plan : Plan) (own below : List (List Grid)) → HasPatches rank ranks plan own below rules w rank → length own < 2 ^ 8
  few_fields rank ranks plan own below p = let n = p.fields in let few = p.is.few in omega (arith, n, few)
