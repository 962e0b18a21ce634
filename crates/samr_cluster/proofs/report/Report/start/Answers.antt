use Rattle.std.proofs.Common.{ap, ◌∙◌, ◌<◌, ◌^◌, map, filter, subst, sym}
use Rattle.std.proofs.lemmas.List.Elements.{All-filter}
use Rattle.std.specs.List.{All}
use Rattle.std.specs.Prelude.{List, ℕ}
use Rattle.samr_box.specs.Corners.{Corners, cells_of}
use Rattle.samr_box.specs.Space.{Space, finer}
use Rattle.samr_rounds.specs.Near.{is_near}
use Rattle.samr_cluster.specs.declared.nodes.Told.{Told}
use Rattle.samr_cluster.specs.declared.nodes.Directed.{Directed}
use Rattle.samr_cluster.specs.DecideParts.{other_directors}
use Rattle.samr_cluster.specs.ReportRow.{signs_for}
use Rattle.samr_cluster.specs.ReportParts.{others_asked}
use Rattle.samr_cluster.proofs.ReportStage.{starts_with, starts_letters}
use Rattle.samr_cluster.proofs.report.Report.start.Goals as goal

pub returns : goal.returns
returns c = λ x r h.
    let a = c.args in
    let nears_are =
    c.in_ok-near.ensures
    ∙ ap (λ (s : Space). filter (λ t. is_near s a.width c.as_slice-4.result.now t.node) c.as_slice-3.result.now) c.finer-frame.ensures
    ∙ ap (λ (l : List Corners). filter (λ t. is_near (finer a.d.now a.to_level) a.width l t.node) c.as_slice-3.result.now) c.as_slice-4.ensures.value
    ∙ ap (λ (l : List Told). filter (λ t. is_near (finer a.d.now a.to_level) a.width c.in_ok-boxes.boxes.items t.node) l) c.as_slice-3.ensures.value
    in (
      starts_with a.rank a.d.now a.fields.now a.told.items a.directed.items a.width a.to_level x r h c.in_ok-boxes.boxes.items c.in_ok-boxes.ensures c.in_ok-near.near.items nears_are
          c.in_ok-own.own c.in_ok-senders.senders.items
          (c.in_ok-own.ensures ∙ ap (λ (l : List Told). signs_for a.rank a.fields.now l) c.as_slice-5.ensures.value)
          (c.in_ok-senders.ensures ∙ ap (λ (l : List Directed). others_asked a.rank l) c.as_slice-2.ensures.value),
      starts_letters a.rank a.d.now a.fields.now a.told.items a.directed.items a.width a.to_level x r h c.in_ok-boxes.boxes.items c.in_ok-boxes.ensures c.in_ok-near.near.items nears_are
          c.in_ok-letters.letters.items c.in_ok-directors.directors.items
          (c.in_ok-letters.ensures
          ∙ ap (λ (l : List Told). map (λ to. (to, signs_for to a.fields.now l)) c.as_slice-6.result.now) c.as_slice-7.ensures.value
          ∙ ap (λ (l : List ℕ). map (λ to. (to, signs_for to a.fields.now c.in_ok-near.near.items)) l) c.as_slice-6.ensures.value)
          (c.in_ok-directors.ensures ∙ ap (λ (l : List Told). other_directors a.rank l) c.as_slice.ensures.value),
    )

pub signatures_for-requires-clause-few : goal.signatures_for-requires-clause-few
signatures_for-requires-clause-few c =
    let P : Told → Type 0 = λ t. cells_of t.node < 2 ^ 63 in
    subst (λ (l : List Told). All P l) (sym (c.as_slice-5.ensures.value ∙ c.in_ok-near.ensures ∙ ap (filter (λ (t : Told). is_near c.finer-frame.result c.args.width c.as_slice-4.result.now t.node)) c.as_slice-3.ensures.value))
    (All-filter (λ (t : Told). is_near c.finer-frame.result c.args.width c.as_slice-4.result.now t.node) P c.args.told.items c.requires.few)

pub letters_to-requires-clause-few : goal.letters_to-requires-clause-few
letters_to-requires-clause-few c =
    let P : Told → Type 0 = λ t. cells_of t.node < 2 ^ 63 in
    subst (λ (l : List Told). All P l) (sym (c.as_slice-7.ensures.value ∙ c.in_ok-near.ensures ∙ ap (filter (λ (t : Told). is_near c.finer-frame.result c.args.width c.as_slice-4.result.now t.node)) c.as_slice-3.ensures.value))
    (All-filter (λ (t : Told). is_near c.finer-frame.result c.args.width c.as_slice-4.result.now t.node) P c.args.told.items c.requires.few)
