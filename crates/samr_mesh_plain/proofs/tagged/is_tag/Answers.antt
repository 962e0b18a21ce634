use Rattle.std.proofs.Common.{◌≡◌, ◌∙◌, ap, sym, subst, List, true, nat_lt}
use Rattle.samr_box.specs.declared.vector.IVec.{IVec}
use Rattle.samr_box.specs.Corners.{IsBox, grown}
use Rattle.samr_level.specs.Refs.{Owned}
use Rattle.samr_problem.specs.Fields.{Fields}
use Rattle.samr_sign.specs.Counts.{tally}
use Rattle.samr_sign.specs.Fields.{tagged}
use Rattle.samr_tags.specs.Buffer.{in_level}
use Rattle.samr_mesh_plain.specs.Making.{one_cell}
use Rattle.samr_mesh_plain.proofs.TagFacts.{cell_box, about_box, near_is, no_cell, near_tag, cover_tag}
use Rattle.samr_mesh_plain.proofs.tagged.is_tag.Goals as goal

pub returns-then-not-in_level : goal.returns-then-not-in_level
returns-then-not-in_level c =
    no_cell c.args.problem.now c.args.w.now c.args.x (sym (ap (λ (l : List Owned). in_level l c.args.x) c.boxes.ensures) ∙ sym c.in_level.ensures ∙ c.if-not-in_level.true)

pub has_near-requires-clause-cell : goal.has_near-requires-clause-cell
has_near-requires-clause-cell c =
    cell_box c.args.problem.now c.args.w.now c.args.x c.accepted.ensures c.requires.can
    (sym (ap (λ (l : List Owned). in_level l c.args.x) c.boxes.ensures) ∙ sym c.in_level.ensures ∙ c.if-not-in_level.false)

pub has_near-requires-clause-range : goal.has_near-requires-clause-range
has_near-requires-clause-range c =
    subst (λ (v : IVec). IsBox (grown (one_cell c.args.x) v)) (sym (ap (λ (q : Fields). q.tag_buffer) c.problem.view_is))
    (about_box c.args.problem.now c.args.w.now c.args.x c.accepted.ensures c.requires.can
    (sym (ap (λ (l : List Owned). in_level l c.args.x) c.boxes.ensures) ∙ sym c.in_level.ensures ∙ c.if-not-in_level.false))

pub returns-then-has_near : goal.returns-then-has_near
returns-then-has_near c =
    let t : in_level c.args.w.now.level c.args.x ≡ true = sym (ap (λ (l : List Owned). in_level l c.args.x) c.boxes.ensures) ∙ sym c.in_level.ensures ∙ c.if-not-in_level.false in
    near_tag c.args.problem.now c.args.w.now c.args.x t
    (sym (ap (λ n. nat_lt 0 n) (near_is c.args.problem.now c.args.w.now c.args.x (tagged c.args.near.now) c.accepted.ensures c.requires.can t c.requires.near))
    ∙ sym (ap (λ (v : IVec). nat_lt 0 (tally (tagged c.args.near.now) (grown (one_cell c.args.x) v))) (ap (λ (q : Fields). q.tag_buffer) c.problem.view_is))
    ∙ sym c.has_near.ensures ∙ c.if-has_near.true)

pub returns : goal.returns
returns c =
    let t : in_level c.args.w.now.level c.args.x ≡ true = sym (ap (λ (l : List Owned). in_level l c.args.x) c.boxes.ensures) ∙ sym c.in_level.ensures ∙ c.if-not-in_level.false in
    cover_tag c.args.problem.now c.args.w.now c.args.x c.is_covered.result t
    (sym (ap (λ n. nat_lt 0 n) (near_is c.args.problem.now c.args.w.now c.args.x (tagged c.args.near.now) c.accepted.ensures c.requires.can t c.requires.near))
    ∙ sym (ap (λ (v : IVec). nat_lt 0 (tally (tagged c.args.near.now) (grown (one_cell c.args.x) v))) (ap (λ (q : Fields). q.tag_buffer) c.problem.view_is))
    ∙ sym c.has_near.ensures ∙ c.if-has_near.false)
    c.is_covered.ensures
