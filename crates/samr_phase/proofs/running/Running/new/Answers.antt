use Rattle.std.proofs.Common.{◌≡◌, ℕ, ◌+◌, List, Bool, true, map, refl, sym, ap, ◌∙◌, subst}
use Rattle.samr_stage.specs.Fragments.{Fragment}
use Rattle.samr_phase.specs.Journey.{placed}
use Rattle.samr_phase.specs.Places.{first_place, no_place, no_last}
use Rattle.samr_phase.proofs.Sequels.{went_on, went_over}
use Rattle.samr_phase.proofs.running.Running.new.Goals as goal

pub returns-in-On-clause-place : goal.returns-in-On-clause-place
returns-in-On-clause-place g c =
    let run = c.args.run in
    let w = g.G.Journey.first run in
    let fs = g.P.Phase.fragments w in
    let stands : g.row.P.Denot → Fragment g.row.B.Denot → List (Fragment g.row.B.Denot) → Bool → Type 0 = λ p. g.P.Phase.stands p w c.args.rank in
    let gives : g.row.O.Denot → Type 0 = λ out. g.O.Part.holds out (g.P.Phase.after w) c.args.rank in
    let is_run = g.met.G.Journey.is_run run in
    let ranks = g.I.Part.ranks w in
    let went = c.in_ok-phase.ensures.goes w c.args.rank c.requires in
    let on = went_on stands gives c.args.rank fs c.in_ok-phase.field-0 c.in-On.phase c.in-On.is went in
    let visit = on.visits in
    let label = c.label-at.ensures w c.args.rank on.here on.rest _ on.there in
    ap (λ l. placed c.args.rank l fs) label ∙ first_place ranks c.args.rank fs on.skipped on.rest on.here on.all on.skips is_run visit

pub returns-in-On-clause-stands : goal.returns-in-On-clause-stands
returns-in-On-clause-stands g c =
    let run = c.args.run in
    let w = g.G.Journey.first run in
    let fs = g.P.Phase.fragments w in
    let stands : g.row.P.Denot → Fragment g.row.B.Denot → List (Fragment g.row.B.Denot) → Bool → Type 0 = λ p. g.P.Phase.stands p w c.args.rank in
    let gives : g.row.O.Denot → Type 0 = λ out. g.O.Part.holds out (g.P.Phase.after w) c.args.rank in
    let is_run = g.met.G.Journey.is_run run in
    let ranks = g.I.Part.ranks w in
    let went = c.in_ok-phase.ensures.goes w c.args.rank c.requires in
    let on = went_on stands gives c.args.rank fs c.in_ok-phase.field-0 c.in-On.phase c.in-On.is went in
    let visit = on.visits in
    let label = c.label-at.ensures w c.args.rank on.here on.rest _ on.there in
    record { done = on.skipped; here = on.here; rest = on.rest; all = on.all; there = on.there; visits = on.visits; label = label }

pub returns-in-Over-clause-place : goal.returns-in-Over-clause-place
returns-in-Over-clause-place g c =
    let run = c.args.run in
    let w = g.G.Journey.first run in
    let fs = g.P.Phase.fragments w in
    let stands : g.row.P.Denot → Fragment g.row.B.Denot → List (Fragment g.row.B.Denot) → Bool → Type 0 = λ p. g.P.Phase.stands p w c.args.rank in
    let gives : g.row.O.Denot → Type 0 = λ out. g.O.Part.holds out (g.P.Phase.after w) c.args.rank in
    let is_run = g.met.G.Journey.is_run run in
    let ranks = g.I.Part.ranks w in
    let went = c.in_ok-phase.ensures.goes w c.args.rank c.requires in
    let over = went_over stands gives c.args.rank fs c.in_ok-phase.field-0 c.in-Over.out c.in-Over.is went in
    no_place ranks c.args.rank fs over.skips

pub returns-in-Over-clause-stands : goal.returns-in-Over-clause-stands
returns-in-Over-clause-stands g c =
    let run = c.args.run in
    let w = g.G.Journey.first run in
    let fs = g.P.Phase.fragments w in
    let stands : g.row.P.Denot → Fragment g.row.B.Denot → List (Fragment g.row.B.Denot) → Bool → Type 0 = λ p. g.P.Phase.stands p w c.args.rank in
    let gives : g.row.O.Denot → Type 0 = λ out. g.O.Part.holds out (g.P.Phase.after w) c.args.rank in
    let is_run = g.met.G.Journey.is_run run in
    let ranks = g.I.Part.ranks w in
    let went = c.in_ok-phase.ensures.goes w c.args.rank c.requires in
    let over = went_over stands gives c.args.rank fs c.in_ok-phase.field-0 c.in-Over.out c.in-Over.is went in
    record { last = no_last ranks c.args.rank fs over.skips; has = over.given }
