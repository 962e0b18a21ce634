use Rattle.std.proofs.Common.{◌≡◌, sym, ap, subst, ◌∙◌, None}
use Rattle.std.specs.Prelude.{List, [], Option}
use Rattle.std.specs.Option.{option_map}
use Rattle.samr_level.specs.declared.parts.Pair.{Pair}
use Rattle.samr_level.specs.Refs.{Link}
use Rattle.samr_sched.specs.AskParts.{HasLevels, HasEdges}
use Rattle.samr_sched.proofs.MadeLaws.{edges_without}
use Rattle.samr_sched.proofs.ask.Ask.start.Goals as goal

pub returns-in_ok-ask-in-None : goal.returns-in_ok-ask-in-None
returns-in_ok-ask-in-None c = λ w r h.
    let rank = c.args.rank in
    let region = c.args.region.now in
    let boxes = c.args.part.now in
    let overlaps = c.args.selves.now in
    let ghosts = c.args.ghosts.now in
    let fixed = c.args.fixed.now in
    let none : option_map (λ p. p.now) c.args.coarser ≡ None = ap (λ o. option_map (λ p. p.now) o) c.in-None.is in
    let Levels : Option Pair → Type 0 = λ o. HasLevels rank c.args.ranks region boxes overlaps o ghosts fixed w r in
    let Edges : List Link → List Link → Type 0 = λ there back. HasEdges rank region boxes overlaps overlaps.forth.base_ratio there back ghosts fixed w r in
    let e = edges_without rank c.args.ranks region boxes overlaps ghosts fixed w r (subst Levels none h) in
    c.in_ok-ask-in-None.ensures w r
    (subst (λ (l : List Link). Edges c.as_slice-in-None.result.now l) (sym (c.as_slice-in-None-2.ensures.value ∙ c.new-none.ensures.items))
    (subst (λ (l : List Link). Edges l []) (sym (c.as_slice-in-None.ensures.value ∙ c.new-none.ensures.items)) e))
