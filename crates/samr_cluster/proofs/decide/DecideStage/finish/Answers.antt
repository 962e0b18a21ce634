use Rattle.std.proofs.Common.{ap, ◌∙◌, ◌++◌}
use Rattle.std.specs.Prelude.{List}
use Rattle.std.specs.List.{flat_map}
use Rattle.samr_stage.specs.declared.stage.Held.{Held}
use Rattle.samr_cluster.specs.declared.verdict.Ruling.{Ruling}
use Rattle.samr_cluster.specs.declared.verdict.Judged.{Judged}
use Rattle.samr_rounds.specs.Sorted.{sorted}
use Rattle.samr_cluster.specs.Rounds.{from_director, asked_of, directed_less}
use Rattle.samr_cluster.specs.DecideRow.{parts_in, parts_on, taken_in, rulings_for}
use Rattle.samr_cluster.proofs.DecideStage.{ends}
use Rattle.samr_cluster.proofs.decide.DecideStage.finish.Goals as goal

pub returns : goal.returns
returns c = λ x rank h held.
    let self = c.args.self in
    let told : List Ruling → List (Held (List Ruling)) → List _ = λ own all. from_director self.rank (parts_on own) ++ flat_map (λ l. from_director l.sender (parts_on l.body)) all in
    let taken : List Ruling → List (Held (List Ruling)) → List _ = λ own all. flat_map (λ v. taken_in v.verdict) own ++ flat_map (λ l. flat_map (λ v. taken_in v.verdict) l.body) all in
    ends self.rank self.judged.items self.addressees.items self.senders.items x rank h c.args.held.items held c.in_ok-own.own
    (c.in_ok-own.ensures ∙ ap (rulings_for self.rank) c.as_slice.ensures.value)
    _ _ _
    (c.from_vec.ensures ∙ c.in_ok-told.ensures ∙ ap (λ l. told l c.as_slice-3.result.now) c.as_slice-2.ensures ∙ ap (told c.in_ok-own.own) c.as_slice-3.ensures.value)
    (c.from_vec-2.ensures ∙ c.in_ok-directed.ensures ∙ ap (λ (l : List Judged). sorted directed_less (flat_map (λ j. asked_of j.near (parts_in j.verdict)) l)) c.as_slice-4.ensures.value)
    (c.from_vec-3.ensures ∙ c.in_ok-accepted.ensures ∙ ap (λ l. taken l c.as_slice-6.result.now) c.as_slice-5.ensures ∙ ap (taken c.in_ok-own.own) c.as_slice-6.ensures.value)
