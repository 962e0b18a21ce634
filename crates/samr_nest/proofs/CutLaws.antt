-- The cut of a cluster, from what each of its steps gives.
use Rattle.std.proofs.Common.{◌≡◌, ℕ, ap, ◌∙◌}
use Rattle.std.specs.Prelude.{IsTrue, List, ◌↔◌}
use Rattle.samr_box.specs.declared.vector.IVec.{IVec}
use Rattle.samr_box.specs.Corners.{Corners, IsBox, holds_box, grown}
use Rattle.samr_box.specs.Space.{whole}
use Rattle.samr_box.proofs.CellSets.{holds_box-means}
use Rattle.samr_boxlist.specs.Covers.{cover}
use Rattle.samr_boxlist.specs.Pieces.{chopped}
use Rattle.samr_level.specs.Refs.{Owned, Link}
use Rattle.samr_level.specs.Regions.{Area, IsArea}
use Rattle.samr_level.specs.Levels.{IsCellIn}
use Rattle.samr_level.specs.Neighbours.{IsWidth}
use Rattle.samr_nest.specs.Nested.{nested, nested_by, owned, AreEdgesTo, Stays, IsPlain}
use Rattle.samr_nest.proofs.NestedBy.{cut_from_edges}
use Rattle.samr_nest.proofs.NewLaws.{new_cells}
use Rattle.samr_nest.proofs.StayLaws.{nested_cells}

module _ (a : Area) (level : List Owned) (nest : IVec) (c : Owned) (near : List Link)
    (area : IsArea a) (width : IsWidth a.frame nest) (box : IsBox c.bx) (around : IsBox (grown c.bx nest)) (edges : AreEdgesTo a level nest c near) where
  pub same_rest : (b : Corners) (rest rest1 : List Corners) → b ≡ c.bx → rest ≡ nested_by a near nest b → rest1 ≡ rest → rest1 ≡ nested a level nest c.bx
  same_rest b rest rest1 same r r1 =
      r1 ∙ r ∙ ap (λ (v : Corners). nested_by a near nest v) same ∙ cut_from_edges a level nest c near area width.low box around edges

  pub cut_value : (owner most : ℕ) (b : Corners) (rest rest1 pieces pieces1 : List Corners) (news out : List Owned)
      → owner ≡ c.owner → b ≡ c.bx → rest ≡ nested_by a near nest b → rest1 ≡ rest → pieces ≡ chopped most rest1 → pieces1 ≡ pieces
      → news ≡ owned owner pieces1 → out ≡ news → out ≡ owned c.owner (chopped most (nested a level nest c.bx))
  cut_value owner most b rest rest1 pieces pieces1 news out o same r r1 p p1 n is =
      is ∙ n ∙ ap (λ (v : ℕ). owned v pieces1) o
      ∙ ap (λ (l : List Corners). owned c.owner l) (p1 ∙ p ∙ ap (λ (l : List Corners). chopped most l) (same_rest b rest rest1 same r r1))

  pub cut_cells : (owner : ℕ) (b : Corners) (rest rest1 pieces pieces1 : List Corners) (news out : List Owned)
      → b ≡ c.bx → rest ≡ nested_by a near nest b → rest1 ≡ rest → ((x : IVec) → cover x pieces ≡ cover x rest1) → pieces1 ≡ pieces
      → news ≡ owned owner pieces1 → out ≡ news → IsTrue (holds_box (whole a.frame) c.bx) → IsPlain a
      → (x : IVec) → IsCellIn out x ↔ Stays a level nest c.bx x
  cut_cells owner b rest rest1 pieces pieces1 news out same r r1 e p1 n is home plain x =
      let into = new_cells owner pieces1 (nested a level nest c.bx) out x (is ∙ n)
      (ap (cover x) p1 ∙ e x ∙ ap (cover x) (same_rest b rest rest1 same r r1)) in
      let stay = nested_cells a edges.ranks level nest c.bx area edges.is_level width box around
      ((holds_box-means (whole a.frame) c.bx box.order).0 home) plain x in
      (λ h. stay.0 (into.0 h), λ s. into.1 (stay.1 s))
