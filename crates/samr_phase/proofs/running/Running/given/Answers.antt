use Rattle.std.proofs.Common.{◌≡◌, ℕ, ◌+◌, List, Bool, true, map, refl, sym, ap, ◌∙◌, subst}
use Rattle.samr_stage.specs.Fragments.{Fragment}
use Rattle.samr_phase.proofs.Journeys.{over_is, over_when, going_when, failed_is}
use Rattle.samr_phase.proofs.running.Running.given.Goals as goal

pub returns-in-Over : goal.returns-in-Over
returns-in-Over g c =
    let self = c.args.self.now in
    let run = self.run in
    let w = g.G.Journey.first run in
    let fs = g.P.Phase.fragments w in
    let stands : g.row.P.Denot → Fragment g.row.B.Denot → List (Fragment g.row.B.Denot) → Bool → Type 0 = λ p. g.P.Phase.stands p w self.rank in
    let gives : g.row.O.Denot → Type 0 = λ out. g.O.Part.holds out (g.P.Phase.after w) self.rank in
    let is_run = g.met.G.Journey.is_run run in
    let is = g.met.G.Journey.course_is run in
    let labels = (g.M.Mail.course run).labels self.rank in
    let same = is.same_labels self.rank in
    let ranks = g.I.Part.ranks w in
    record {
      over = λ entered there. (λ yes. over_when stands gives ranks self.rank fs is_run labels same self.at entered self.state c.in-Over.out c.in-Over.is, λ over. refl);
      given = λ entered there. (over_is stands gives self.rank fs self.at entered self.state c.in-Over.out c.in-Over.is there).has;
    }

pub returns-in-On : goal.returns-in-On
returns-in-On g c =
    let self = c.args.self.now in
    let run = self.run in
    let w = g.G.Journey.first run in
    let fs = g.P.Phase.fragments w in
    let stands : g.row.P.Denot → Fragment g.row.B.Denot → List (Fragment g.row.B.Denot) → Bool → Type 0 = λ p. g.P.Phase.stands p w self.rank in
    let gives : g.row.O.Denot → Type 0 = λ out. g.O.Part.holds out (g.P.Phase.after w) self.rank in
    let is_run = g.met.G.Journey.is_run run in
    let is = g.met.G.Journey.course_is run in
    let labels = (g.M.Mail.course run).labels self.rank in
    let same = is.same_labels self.rank in
    let ranks = g.I.Part.ranks w in
    record {
      over = λ entered there. (λ no. cc, λ over. absurd (going_when stands gives ranks self.rank fs is_run labels same self.at entered self.state c.in-On.field-0 c.in-On.is there over));
      given = λ entered there. tt;
    }
