use Rattle.std.proofs.Common.{◌≡◌, ◌++◌, [], ◌∷◌, refl, ap, ◌∙◌}
use Rattle.std.specs.Prelude.{List}
use Rattle.std.specs.List.{filter_map}
use Rattle.samr_data.specs.declared.parcel.Parcel.{Parcel}
use Rattle.samr_values.specs.ValuesRow.{old_parcel, coarse_parcel}
use Rattle.samr_values.proofs.sending.push_field.Goals as goal

assoc : (a b c : List Parcel) → (a ++ b) ++ c ≡ a ++ (b ++ c)
assoc [] b c = refl
assoc (y ∷ a) b c = ap (λ (l : List Parcel). y ∷ l) (assoc a b c)

pub returns : goal.returns
returns c = λ v u has under.
    let olds = filter_map (λ e. old_parcel c.args.field v e) c.args.olds.now in
    let coarser = filter_map (λ e. coarse_parcel c.args.field c.args.step u e) c.args.coarser.now in
    c.in_ok-push_coarse.ensures u under
    ∙ ap (λ (l : List Parcel). l ++ coarser) (c.in_ok-push_old.ensures v has)
    ∙ assoc c.args.parcels.now.items olds coarser
