-- A rank's stage against its part of the new level.
use Rattle.std.proofs.Common.{◌≡◌, ℕ, refl, sym, ap, subst, ◌∙◌}
use Rattle.std.specs.Prelude.{pos, cond, List, [], ◌∷◌, map, Some, slice_get}
use Rattle.std.specs.List.{All, enumerate_from}
use Rattle.samr_box.specs.declared.vector.IVec.{IVec}
use Rattle.samr_box.specs.Vector.{alike, AtMost}
use Rattle.samr_box.specs.Corners.{Corners, IsBox, grown, holds}
use Rattle.samr_box.specs.Lists.{Member}
use Rattle.samr_box.proofs.Members.{Member-from_map}
use Rattle.samr_stage.specs.declared.stage.Held.{Held}
use Rattle.samr_stage.specs.Row.{heard, column}
use Rattle.samr_level.specs.Refs.{Owned}
use Rattle.samr_level.specs.Levels.{own}
use Rattle.samr_data.specs.Grids.{Grid, grid_of}
use Rattle.samr_data.specs.declared.parcel.Parcel.{Parcel}
use Rattle.samr_ops.specs.declared.rules.Rules.{Rules}
use Rattle.samr_values.specs.Parcels.{IsParcel, Refinable, Tells}
use Rattle.samr_values.specs.Values.{Renewing, new_value, renewed}
use Rattle.samr_values.specs.ValuesRow.{values_row}
use Rattle.samr_values.specs.ValuesParts.{Waits}
use Rattle.samr_values.specs.Merging.{parcels_with}
use Rattle.samr_values.proofs.CoarsenStage.{own_from}
use Rattle.samr_values.proofs.Renewed.{all_parcels, all_refinable, all_tell}

-- what is made of boxes, from owned ones
of_boxes : {X : Type 0} (g : Corners → X) (owned : List Owned) → map g (map (λ b. b.bx) owned) ≡ map (λ b. g b.bx) owned
of_boxes g [] = refl
of_boxes {X} g (b ∷ owned) = ap (λ (l : List X). g b.bx ∷ l) (of_boxes g owned)

fields_of : {F X : Type 0} (g : F → Corners → X) (owned : List Owned) (fields : List F)
    → map (λ f. map (g f) (map (λ b. b.bx) owned)) fields ≡ map (λ f. map (λ b. g f b.bx) owned) fields
fields_of g owned [] = refl
fields_of {F} {X} g owned (f ∷ fields) =
    ap (λ (l : List X). l ∷ map (λ f. map (g f) (map (λ b. b.bx) owned)) fields) (of_boxes (g f) owned)
    ∙ ap (λ (l : List (List X)). map (λ b. g f b.bx) owned ∷ l) (fields_of g owned fields)

-- what the code of the stage gives
abbrev pub IsRenewedFrom : List Corners → IVec → List Parcel → List Rules → List (List Grid) → Type 0
IsRenewedFrom boxes step all rules out =
    (value : ℕ × Rules → IVec → ℕ) → ((f : ℕ) (q : Rules) (b : Corners) → slice_get rules f ≡ Some q → Member b boxes → Tells f step q b all (value (f, q)))
    → out ≡ map (λ f. map (λ b. grid_of b f.1.width (λ x. cond (holds b x) (value f x) 0)) boxes) (enumerate_from 0 rules)

module _ (rank : ℕ) (step : IVec) (boxes : List Corners) (own_parcels : List Parcel) (senders : List ℕ) (rules : List Rules) (w : Renewing) (r : ℕ)
    (h : Waits rank step boxes own_parcels senders rules w r) where
  -- a box is one of the rank's
  box_of : (b : Corners) → Member b boxes → (a : Owned) × Member a (own r w.news) × (b ≡ a.bx)
  box_of b m = Member-from_map (λ (a : Owned). a.bx) b (own r w.news) (subst (λ (l : List Corners). Member b l) h.same_boxes m)

  rule_at : (f : ℕ) (q : Rules) → slice_get rules f ≡ Some q → slice_get w.rules f ≡ Some q
  rule_at f q at = subst (λ (l : List Rules). slice_get l f ≡ Some q) h.same_rules at

  pub has_room : (b : Corners) (q : Rules) → Member b boxes → Member q rules → IsBox (grown b q.width)
  has_room b q mb mq =
      let a = box_of b mb in
      subst (λ (c : Corners). IsBox (grown c q.width)) (sym a.2)
      (h.is.room a.0 q (own_from r w.news a.0 a.1).0 (subst (λ (l : List Rules). Member q l) h.same_rules mq)).0

  pub has_step : AtMost step (alike (pos 4))
  has_step = subst (λ (s : IVec). AtMost s (alike (pos 4))) (sym h.same_step) h.is.four

  module _ (held : List (Held (List Parcel))) (are : held ≡ heard (column (values_row w) r) w.ranks) (all : List Parcel) (is : all ≡ parcels_with own_parcels held) where
    pub has_parcels : All IsParcel all
    has_parcels = subst (λ (l : List Parcel). All IsParcel l) (sym is) (all_parcels w h.is r h.within own_parcels held h.same_own are)

    pub has_fits : (f : ℕ) (q : Rules) (b : Corners) → slice_get rules f ≡ Some q → Member b boxes → Refinable f q b all
    has_fits f q b at mb =
        let a = box_of b mb in
        subst (λ (c : Corners). Refinable f q c all) (sym a.2)
        (subst (λ (l : List Parcel). Refinable f q a.0.bx l) (sym is)
        (all_refinable w h.is r h.within own_parcels held h.same_own are f q a.0 (rule_at f q at) a.1))

    has_values : (f : ℕ) (q : Rules) (b : Corners) → slice_get rules f ≡ Some q → Member b boxes → Tells f step q b all (new_value w (f, q))
    has_values f q b at mb =
        let a = box_of b mb in
        subst (λ (c : Corners). Tells f step q c all (new_value w (f, q))) (sym a.2)
        (subst (λ (l : List Parcel). Tells f step q a.0.bx l (new_value w (f, q))) (sym is)
        (subst (λ (s : IVec). Tells f s q a.0.bx (parcels_with own_parcels held) (new_value w (f, q))) (sym h.same_step)
        (all_tell w h.is r h.within own_parcels held h.same_own are f q a.0 (rule_at f q at) a.1)))

    pub renews : (out : List (List Grid)) → IsRenewedFrom boxes step all rules out → out ≡ renewed w r
    unfolding renewed
    renews out has =
        has (new_value w) has_values
        ∙ ap
        (λ (l : List Corners). map (λ (f : ℕ × Rules). map (λ b. grid_of b f.1.width (λ x. cond (holds b x) (new_value w f x) 0)) l) (enumerate_from 0 rules))
        h.same_boxes
        ∙ ap
        (λ (l : List Rules). map (λ (f : ℕ × Rules). map (λ b. grid_of b f.1.width (λ x. cond (holds b x) (new_value w f x) 0)) (map (λ (b : Owned). b.bx) (own r w.news))) (enumerate_from 0 l))
        h.same_rules
        ∙ fields_of (λ (f : ℕ × Rules) b. grid_of b f.1.width (λ x. cond (holds b x) (new_value w f x) 0)) (own r w.news) (enumerate_from 0 w.rules)
