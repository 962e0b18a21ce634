use Rattle.std.proofs.Common.{◌≡◌, ℕ, ap, ◌∙◌, subst, sym, w64, rules}
use Rattle.std.proofs.lemmas.Int.{to_z-of_z}
use Rattle.std.specs.Prelude.{◌≤◌, cond, List, unsigned_abs}
use Rattle.std.specs.List.{All}
use Rattle.samr_box.specs.declared.vector.IVec.{IVec}
use Rattle.samr_box.specs.Corners.{Corners, IsBox, holds}
use Rattle.samr_boxlist.specs.Covers.{cover}
use Rattle.samr_boxlist.specs.Pieces.{chopped}
use Rattle.samr_level.specs.declared.parts.Move.{Move}
use Rattle.samr_level.specs.Refs.{Owned}
use Rattle.samr_nest.specs.Nested.{owned}
use Rattle.samr_nest.proofs.NewLaws.{new_once, new_pieces}
use Rattle.samr_nest.proofs.CutLaws.{cut_value, cut_cells}
use Rattle.samr_nest.proofs.cutting.cut.Goals as goal
use Rattle.samr_nest.proofs.cutting.cut.Goals.{After-drop-rest-2}

same_owner : (c : After-drop-rest-2) → c.cluster.inside.owner ≡ c.args.cluster.owner
same_owner c = ap (λ (v : Owned). v.owner) c.cluster.view_is

same_box : (c : After-drop-rest-2) → c.cluster.inside.bx ≡ c.args.cluster.bx
same_box c = ap (λ (v : Owned). v.bx) c.cluster.view_is

is_box : (c : After-drop-rest-2) → IsBox c.args.cluster.bx
is_box c = search rules

is_chopped : (c : After-drop-rest-2) → c.in_ok-pieces.pieces.items ≡ chopped (unsigned_abs c.args.largest) c.as_slice.result.now
is_chopped c =
    c.in_ok-pieces.ensures.value
    ∙ ap (λ (n : ℕ). chopped n c.as_slice.result.now) (ap unsigned_abs (to_z-of_z w64 c.args.largest c.ranges.largest))

pub left-requires-clause-range : goal.left-requires-clause-range
left-requires-clause-range c = rw (← c.cluster.view_is) at c.requires.range

pub returns-clause-value : goal.returns-clause-value
returns-clause-value c = λ level edges.
    ap (λ (l : List Owned). let m : Move = record { old = c.args.cluster; news = l } in m)
    (cut_value c.args.region.now level c.args.nest c.args.cluster c.args.near.now c.in_ok-rest.ensures.area c.requires.nest (is_box c) c.requires.range edges
    c.cluster.inside.owner (unsigned_abs c.args.largest) c.cluster.inside.bx
    c.in_ok-rest.rest.items c.as_slice.result.now c.in_ok-pieces.pieces.items c.as_slice-2.result.now c.in_ok-news.news.items c.from_vec.result
    (same_owner c) (same_box c) c.in_ok-rest.ensures.value c.as_slice.ensures.value (is_chopped c) c.as_slice-2.ensures.value
    c.in_ok-news.ensures c.from_vec.ensures)

pub returns-clause-cells : goal.returns-clause-cells
returns-clause-cells c = λ level edges plain x.
    cut_cells c.args.region.now level c.args.nest c.args.cluster c.args.near.now c.in_ok-rest.ensures.area c.requires.nest (is_box c) c.requires.range edges
    c.cluster.inside.owner c.cluster.inside.bx
    c.in_ok-rest.rest.items c.as_slice.result.now c.in_ok-pieces.pieces.items c.as_slice-2.result.now c.in_ok-news.news.items c.from_vec.result
    (same_box c) c.in_ok-rest.ensures.value c.as_slice.ensures.value c.in_ok-pieces.ensures.cells c.as_slice-2.ensures.value
    c.in_ok-news.ensures c.from_vec.ensures c.requires.home plain x

same_cells : (c : After-drop-rest-2) → (x : IVec) → cover x c.as_slice-2.result.now ≡ cover x c.in_ok-rest.rest.items
same_cells c x = ap (cover x) c.as_slice-2.ensures.value ∙ c.in_ok-pieces.ensures.cells x ∙ ap (cover x) c.as_slice.ensures.value

pub returns-clause-once : goal.returns-clause-once
returns-clause-once c =
    new_once c.cluster.inside.owner c.as_slice-2.result.now c.in_ok-rest.rest.items c.from_vec.result c.cluster.inside.bx
    (c.from_vec.ensures ∙ c.in_ok-news.ensures) (same_cells c) c.in_ok-rest.ensures.once

pub returns-clause-pieces : goal.returns-clause-pieces
returns-clause-pieces c =
    new_pieces c.args.cluster (unsigned_abs c.args.largest) c.as_slice.result.now c.in_ok-rest.rest.items c.as_slice-2.result.now c.from_vec.result
    (c.from_vec.ensures ∙ c.in_ok-news.ensures ∙ ap (λ (v : ℕ). owned v c.as_slice-2.result.now) (same_owner c))
    (c.as_slice-2.ensures.value ∙ is_chopped c) (same_cells c)
    (subst (λ (v : Corners). (x : IVec) → cover x c.in_ok-rest.rest.items ≤ cond (holds v x) 1 0) (same_box c) c.in_ok-rest.ensures.once)
    (subst (λ (l : List Corners). All IsBox l) (sym c.as_slice-2.ensures.value) c.in_ok-pieces.ensures.boxes)
