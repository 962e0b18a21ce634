use Rattle.std.proofs.Common.{◌∙◌, subst, sym}
use Rattle.std.specs.Prelude.{List}
use Rattle.std.specs.List.{All}
use Rattle.samr_stage.specs.declared.stage.Held.{Held}
use Rattle.samr_data.specs.declared.parcel.Parcel.{Parcel}
use Rattle.samr_values.specs.Parcels.{IsParcel}
use Rattle.samr_values.specs.Merging.{parcels_with}
use Rattle.samr_data.specs.Grids.{Grid}
use Rattle.samr_values.proofs.CoarsenStage.{IsPouredFrom, all_are_parcels, ends}
use Rattle.samr_values.proofs.coarsen.CoarsenStage.finish.Goals as goal

pub poured_fields-requires-clause-parcels : goal.poured_fields-requires-clause-parcels
poured_fields-requires-clause-parcels c =
    let self = c.args.self in
    let is = all_are_parcels self.own.items self.senders.items self.coarse c.requires.0 c.requires.1 c.requires.2 c.args.held.items c.requires.3 in
    subst (λ (l : List Parcel). All IsParcel (parcels_with l c.as_slice-2.result.now)) (sym c.as_slice.ensures.value)
    (subst (λ (l : List (Held (List Parcel))). All IsParcel (parcels_with self.own.items l)) (sym c.as_slice-2.ensures.value) is)

pub returns : goal.returns
returns c = λ w r h held.
    let self = c.args.self in
    let out = c.in_ok-fields.fields.items in
    let Has : List Parcel → List (Held (List Parcel)) → List (List Grid) → Type 0 = λ own letters fields. IsPouredFrom own letters fields out in
    c.from_vec.ensures
    ∙ ends self.own.items self.senders.items self.coarse w r h c.args.held.items held out
    (subst (λ (l : List (List Grid)). Has self.own.items c.args.held.items l) c.into_vec.ensures
    (subst (λ (l : List (Held (List Parcel))). Has self.own.items l c.into_vec.result.items) c.as_slice-2.ensures.value
    (subst (λ (l : List Parcel). Has l c.as_slice-2.result.now c.into_vec.result.items) c.as_slice.ensures.value c.in_ok-fields.ensures)))
