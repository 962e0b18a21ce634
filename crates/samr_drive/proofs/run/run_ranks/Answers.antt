use Rattle.std.proofs.Common.{◌≡◌, ℕ, ◌<◌, List, length, ◌∙◌, subst, arith, Vec, Global, Result, Ok}
use Rattle.std.specs.List.{AllZip}
use Rattle.std.proofs.lemmas.Result.{IfOk-weaker}
use Rattle.samr_link.specs.Ends.{AreJournals}
use Rattle.samr_link.specs.Names.{sent_by, Begins}
use Rattle.samr_link.proofs.Zips.{zip_length}
use Rattle.samr_world.specs.Traffic.{IsBegun}
use Rattle.samr_world.specs.World.{IsTeam, HasEnded}
use Rattle.samr_drive.specs.declared.stop.Stop.{Stop}
use Rattle.samr_drive.proofs.WholeRuns.{course_of_team, on_ok_from, pairs_steady, backs_are, has_ended, posted_all, took_all}
use Rattle.samr_drive.proofs.run.run_ranks.Goals as goal

pub run_all-answers-requires-clause-few : goal.run_all-answers-requires-clause-few
run_all-answers-requires-clause-few g c κs within = omega (arith, c.ranks_of-ranks.ensures, zip_length (IsBegun g.P.Program g.P.Mail.Mail) c.args.programs.items c.in_ok-machines.machines.items c.in_ok-machines.ensures, c.ranks_of-ranks.type_inv)

pub run_all-answers-requires-clause-flags : goal.run_all-answers-requires-clause-flags
run_all-answers-requires-clause-flags g c κs within = omega (arith, c.in_ok-flags.ensures, c.from-room.ensures, c.ranks_of-ranks.ensures, zip_length (IsBegun g.P.Program g.P.Mail.Mail) c.args.programs.items c.in_ok-machines.machines.items c.in_ok-machines.ensures)

pub run_all-answers-requires-clause-pairs : goal.run_all-answers-requires-clause-pairs
run_all-answers-requires-clause-pairs g c κs within =
    let count = c.in_ok-ends.ensures.count ∙ c.ranks_of-ranks.ensures in
    pairs_steady g.P.Program g.P.Mail.Mail g.F.End.Link c.requires.0 c.args.programs.items c.in_ok-machines.machines.items c.in_ok-ends.ends.items
    (g.F.Fabric.making c.make_ends.new.self) c.requires.1 c.in_ok-machines.ensures c.in_ok-ends.ensures.ends count

pub run_all-answers-requires-clause-room : goal.run_all-answers-requires-clause-room
run_all-answers-requires-clause-room g c κs within = (c.in_ok-answers.ensures.items, omega (arith, c.in_ok-answers.ensures.capacity, c.from-room.ensures, c.ranks_of-ranks.ensures, zip_length (IsBegun g.P.Program g.P.Mail.Mail) c.args.programs.items c.in_ok-machines.machines.items c.in_ok-machines.ensures))

pub settle-requires : goal.settle-requires
settle-requires g c =
    let count = c.in_ok-ends.ensures.count ∙ c.ranks_of-ranks.ensures in
    rw c.part-ended.ensures.ends
    (backs_are g.P.Program g.P.Mail.Mail g.F.End.Link c.requires.0 c.args.programs.items c.in_ok-machines.machines.items c.in_ok-ends.ends.items
    (g.F.Fabric.making c.make_ends.new.self) c.requires.1 c.in_ok-machines.ensures c.in_ok-ends.ensures.ends count c.run_all-answers.result.items c.run_all-answers.ensures)

pub returns-clause-ended : goal.returns-clause-ended
returns-clause-ended g c =
    let count = c.in_ok-ends.ensures.count ∙ c.ranks_of-ranks.ensures in
    IfOk-weaker c.part-ended.result.0 (λ (ended : Vec g.row.P.Denot Global). AllZip (λ (a : Result g.row.P.Denot Stop × g.row.F-End.Denot) program. a.0 ≡ Ok program) c.run_all-answers.result.items ended.items)
    (λ (ended : Vec g.row.P.Denot Global). (r : g.row.P-Mail-Run.Denot) → IsTeam g.P.Program g.P.Mail.Mail r c.args.programs.items → HasEnded g.P.Program g.P.Mail.Mail r ended.items)
    (λ ended all r team. has_ended g.P.Program g.P.Mail.Mail g.F.End.Link r c.args.programs.items c.in_ok-machines.machines.items c.in_ok-ends.ends.items
    (g.F.Fabric.making c.make_ends.new.self) team c.in_ok-machines.ensures c.in_ok-ends.ensures.ends count c.run_all-answers.result.items c.run_all-answers.ensures ended.items all)
    c.part-ended.ensures.programs

pub returns-clause-posted : goal.returns-clause-posted
returns-clause-posted g c =
    let count = c.in_ok-ends.ensures.count ∙ c.ranks_of-ranks.ensures in
    let w = g.F.End.Link in
    let fabric = c.settle.new.self in
    let Journals : List g.row.F-End.Denot → Type 0 = λ es. AreJournals w.tells_posted w.tells_taken w.posted w.taken (g.F.Fabric.posted fabric) (g.F.Fabric.taken fabric) 0 es in
    on_ok_from c.part-ended.result.0 (λ (ended : Vec g.row.P.Denot Global). AllZip (λ (a : Result g.row.P.Denot Stop × g.row.F-End.Denot) program. a.0 ≡ Ok program) c.run_all-answers.result.items ended.items)
    (λ ended all tells r team. posted_all g.P.Program g.P.Mail.Mail w r c.args.programs.items c.in_ok-machines.machines.items c.in_ok-ends.ends.items
    (g.F.Fabric.making c.make_ends.new.self) team c.in_ok-machines.ensures c.in_ok-ends.ensures.ends count c.run_all-answers.result.items c.run_all-answers.ensures ended.items all
    (g.F.Fabric.posted fabric) (g.F.Fabric.taken fabric) (subst Journals c.part-ended.ensures.ends c.settle.ensures.journals) c.in_ok-ends.ensures.fresh
    (λ k d below. c.in_ok-ends.ensures.tells_posted k d below ∙ tells))
    c.part-ended.ensures.programs

pub returns-clause-taken : goal.returns-clause-taken
returns-clause-taken g c =
    let count = c.in_ok-ends.ensures.count ∙ c.ranks_of-ranks.ensures in
    let w = g.F.End.Link in
    let p = g.P.Program in
    let m = g.P.Mail.Mail in
    let fabric = c.settle.new.self in
    let r = c.requires.0 in
    let team = c.requires.1 in
    let Journals : List g.row.F-End.Denot → Type 0 = λ es. AreJournals w.tells_posted w.tells_taken w.posted w.taken (g.F.Fabric.posted fabric) (g.F.Fabric.taken fabric) 0 es in
    let Begins' : List g.row.F-End.Denot → Type 0 = λ es. (from to : ℕ) → to < length es → Begins (sent_by from (g.F.Fabric.taken fabric to)) (g.F.Fabric.posted fabric from to) in
    on_ok_from c.part-ended.result.0 (λ (ended : Vec g.row.P.Denot Global). AllZip (λ (a : Result g.row.P.Denot Stop × g.row.F-End.Denot) program. a.0 ≡ Ok program) c.run_all-answers.result.items ended.items)
    (λ ended all tells from to from_below to_below. took_all p m w r c.args.programs.items c.in_ok-machines.machines.items c.in_ok-ends.ends.items
    (g.F.Fabric.making c.make_ends.new.self) team c.in_ok-machines.ensures c.in_ok-ends.ensures.ends count c.run_all-answers.result.items c.run_all-answers.ensures ended.items all
    (g.F.Fabric.posted fabric) (g.F.Fabric.taken fabric) (subst Journals c.part-ended.ensures.ends c.settle.ensures.journals) c.in_ok-ends.ensures.fresh
    (course_of_team p m w r c.args.programs.items team (g.met.P.Program g.world.𝓛 g.world.𝓜 g.world.𝓡 ((λ s x. x), (λ x. x), (λ x. x), λ x. x)).on_course from from_below)
    (λ k d below. c.in_ok-ends.ensures.tells_posted k d below ∙ g.met.F.Fabric.tells_both c.args.fabric.now tells)
    (λ k d below. c.in_ok-ends.ensures.tells_taken k d below ∙ tells)
    (subst Begins' c.part-ended.ensures.ends (c.settle.ensures.begins (c.make_ends.ensures.same_tells_taken ∙ tells))) from to from_below to_below)
    c.part-ended.ensures.programs
