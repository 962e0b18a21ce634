use Rattle.std.proofs.Common.{ℕ, ap, ◌∙◌, sym, refl, ◌++◌, ◌∷◌, [], map, cond, length}
use Rattle.std.proofs.lemmas.List.{take_all}
use Rattle.std.proofs.lemmas.Option.{slice_get_read}
use Rattle.std.specs.Prelude.{List}
use Rattle.std.specs.List.{enumerate_from}
use Rattle.samr_box.specs.Corners.{holds}
use Rattle.samr_data.specs.Grids.{Grid, grid_of}
use Rattle.samr_ops.specs.declared.rules.Rules.{Rules}
use Rattle.samr_values.proofs.Written.{item_member}
use Rattle.samr_values.proofs.Told.{numbered_more}
use Rattle.samr_values.proofs.renewing.renewed_fields.Goals as goal

pub renewed_field-requires-clause-room : goal.renewed_field-requires-clause-room
renewed_field-requires-clause-room g c = λ b m.
    let r = c.index-strategies-f.result in
    c.requires.room b r m (item_member c.args.strategies.now c.loop-f.f r r c.loop-f-test.true c.index-strategies-f.is)

pub renewed_field-requires-clause-fits : goal.renewed_field-requires-clause-fits
renewed_field-requires-clause-fits g c = λ b m.
    let r = c.index-strategies-f.result in
    c.requires.fits c.loop-f.f r b (slice_get_read c.args.strategies.now (length c.args.strategies.now) c.loop-f.f r refl c.loop-f-test.true c.index-strategies-f.is) m

pub loop-f-preserved : goal.loop-f-preserved
loop-f-preserved g c = λ value tells.
    let r = c.index-strategies-f.result in
    let f = c.loop-f.f in
    let rules = c.args.strategies.now in
    let at = slice_get_read rules (length rules) f r refl c.loop-f-test.true c.index-strategies-f.is in
    let make : ℕ × Rules → List Grid = λ f. map (λ b. grid_of b f.1.width (λ x. cond (holds b x) (value f x) 0)) c.args.boxes.now in
    c.in_ok-push.ensures.items
    ∙ ap (λ (l : List Grid). c.loop-f.fields.items ++ l ∷ []) (c.from_vec.ensures ∙ c.in_ok-field.ensures (value (f, r)) (λ b m. tells f r b at m))
    ∙ ap (λ (l : List (List Grid)). l ++ make (f, r) ∷ []) (c.loop-f.invariant value tells)
    ∙ sym (numbered_more make rules f r c.loop-f-test.true c.index-strategies-f.is)

pub returns : goal.returns
returns g c = λ value tells.
    c.loop-f.invariant value tells
    ∙ ap (λ (l : List Rules). map (λ f. map (λ b. grid_of b f.1.width (λ x. cond (holds b x) (value f x) 0)) c.args.boxes.now) (enumerate_from 0 l))
    (take_all c.loop-f.f c.args.strategies.now c.loop-f-test.false)
