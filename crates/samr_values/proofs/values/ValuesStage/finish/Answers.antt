use Rattle.std.proofs.Common.{◌∙◌, subst}
use Rattle.std.specs.Prelude.{List}
use Rattle.samr_box.specs.Corners.{Corners}
use Rattle.samr_box.specs.Lists.{Member}
use Rattle.samr_values.proofs.ValuesStage.{IsRenewedFrom, has_room, has_parcels, has_fits, has_step, renews}
use Rattle.samr_values.proofs.values.ValuesStage.finish.Goals as goal

pub renewed_fields-requires-clause-few : goal.renewed_fields-requires-clause-few
renewed_fields-requires-clause-few g c = c.requires.2.1

pub renewed_fields-requires-clause-room : goal.renewed_fields-requires-clause-room
renewed_fields-requires-clause-room g c = λ b q mb mq.
    let self = c.args.self in
    has_room self.rank self.step self.boxes.items self.own.items self.senders.items self.strategies.now c.requires.0 c.requires.1 c.requires.2.0
    b q (subst (λ (l : List Corners). Member b l) c.as_slice.ensures.value mb) mq

pub renewed_fields-requires-clause-parcels : goal.renewed_fields-requires-clause-parcels
renewed_fields-requires-clause-parcels g c =
    let self = c.args.self in
    has_parcels self.rank self.step self.boxes.items self.own.items self.senders.items self.strategies.now c.requires.0 c.requires.1 c.requires.2.0
    c.args.held.items c.requires.3 c.as_slice-2.result.now (c.as_slice-2.ensures.value ∙ c.in_ok-all.ensures)

pub renewed_fields-requires-clause-fits : goal.renewed_fields-requires-clause-fits
renewed_fields-requires-clause-fits g c = λ f q b at mb.
    let self = c.args.self in
    has_fits self.rank self.step self.boxes.items self.own.items self.senders.items self.strategies.now c.requires.0 c.requires.1 c.requires.2.0
    c.args.held.items c.requires.3 c.as_slice-2.result.now (c.as_slice-2.ensures.value ∙ c.in_ok-all.ensures)
    f q b at (subst (λ (l : List Corners). Member b l) c.as_slice.ensures.value mb)

pub renewed_fields-requires-clause-step : goal.renewed_fields-requires-clause-step
renewed_fields-requires-clause-step g c =
    let self = c.args.self in
    has_step self.rank self.step self.boxes.items self.own.items self.senders.items self.strategies.now c.requires.0 c.requires.1 c.requires.2.0

pub returns : goal.returns
returns g c = λ w rank h are.
    let self = c.args.self in
    let all = c.as_slice-2.result.now in
    let out = c.in_ok-fields.fields.items in
    c.from_vec.ensures
    ∙ renews self.rank self.step self.boxes.items self.own.items self.senders.items self.strategies.now w rank h.0 c.args.held.items are
    all (c.as_slice-2.ensures.value ∙ c.in_ok-all.ensures) out
    (subst (λ (l : List Corners). IsRenewedFrom l self.step all self.strategies.now out) c.as_slice.ensures.value c.in_ok-fields.ensures)
