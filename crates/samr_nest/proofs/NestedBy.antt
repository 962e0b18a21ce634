-- The edges of a cluster are enough: the list that they give is that of the whole level.
use Rattle.std.proofs.Common.{◌≡◌, sym, ap, ◌∙◌, subst, arith}
use Rattle.std.proofs.lemmas.Int.{ints, clamps}
use Rattle.std.specs.Prelude.{pos, true, List, [], ◌∷◌, map}
use Rattle.std.specs.List.{filter_map}
use Rattle.samr_box.specs.declared.vector.IVec.{IVec}
use Rattle.samr_box.specs.Vector.{alike, AtMost, times, IsRatio}
use Rattle.samr_box.specs.Corners.{Corners, IsBox, meets, met, common, grown}
use Rattle.samr_box.specs.Space.{image}
use Rattle.samr_box.specs.Lists.{Member}
use Rattle.samr_box.proofs.CellSets.{Meet-test}
use Rattle.samr_box.proofs.Members.{Member-from_map, Member-from_flat_map}
use Rattle.samr_boxlist.specs.Slabs.{all_subtracted}
use Rattle.samr_level.specs.Refs.{Owned, Link}
use Rattle.samr_level.specs.Regions.{Area, IsArea, boxes_of}
use Rattle.samr_level.specs.Overlaps.{shifts, scale_in, true_overlaps}
use Rattle.samr_level.proofs.Level0Laws.{boxes-facts}
use Rattle.samr_nest.specs.Starts.{stretched, needed, inner}
use Rattle.samr_nest.specs.Nested.{images, holes, holes_by, nested, nested_by, AreEdgesTo}
use Rattle.samr_nest.proofs.Moved.{AtMost-picked, AtMost-plus, AtMost-grown}
use Rattle.samr_nest.proofs.NearParts.{IsWithin, AllWithin, AllFull, IsBox-near, parts_enough, within_all_subtracted}
use Rattle.samr_nest.proofs.Subtracting.{common_member}
use Rattle.samr_nest.proofs.EdgeImages.{edge_images, filter_map_map}

within_common : (b g : Corners) → IsBox g → AtMost b.lo b.hi → meets b g ≡ true → IsWithin g (common b g)
within_common b g p full t = record {
  box = IsBox-near g b p full (Meet-test {a = b} {b = g} t);
  low = record { k = omega (arith, ints, clamps); j = omega (arith, ints, clamps); i = omega (arith, ints, clamps) };
  high = record { k = omega (arith, ints, clamps); j = omega (arith, ints, clamps); i = omega (arith, ints, clamps) };
}

module _ (a : Area) (area : IsArea a) where
  pub needed_within : (g : Corners) → IsBox g → AllWithin g (needed a g)
  needed_within g p m h =
      let o = common_member (stretched a.frame g) g m (boxes_of a) h in
      let b = (boxes-facts a area o.0 o.1).0 in
      let full : AtMost (stretched a.frame g o.0).lo (stretched a.frame g o.0).hi = AtMost-picked a.frame.periodic g.lo o.0.lo g.hi o.0.hi p.order b.order in
      subst (λ (v : Corners). IsWithin g v) (sym o.3) (within_common (stretched a.frame g o.0) g p full o.2)

  pub inner_within : (c : Corners) → IsBox c → AllWithin c (inner a c)
  inner_within c p m h =
      let o = common_member (λ (b : Corners). b) c m (boxes_of a) h in
      let b = (boxes-facts a area o.0 o.1).0 in
      subst (λ (v : Corners). IsWithin c v) (sym o.3) (within_common o.0 c p b.order o.2)

-- images of boxes that are not empty are not empty
pub images_full : (a : Area) (level : List Owned) → ((b : Owned) → Member b level → AtMost b.bx.lo b.bx.hi) → AllFull (images a level)
images_full a level full m h =
    let ss = shifts a.frame.periodic in
    let f = Member-from_flat_map (λ (b : Corners). map (λ s. image a.frame b s) ss) m (map (λ (b : Owned). b.bx) level) h in
    let o = Member-from_map (λ (b : Owned). b.bx) f.0 level f.1 in
    let s = Member-from_map (λ s. image a.frame f.0 s) m ss f.2 in
    let whole : AtMost f.0.lo f.0.hi = subst (λ (v : Corners). AtMost v.lo v.hi) (sym o.2) (full o.0 o.1) in
    subst (λ (v : Corners). AtMost v.lo v.hi) (sym s.2) (AtMost-plus f.0.lo f.0.hi (times s.0 a.frame.size) whole)

pub holes_within : (a : Area) (level : List Owned) (g : Corners) → IsArea a → IsBox g → ((b : Owned) → Member b level → AtMost b.bx.lo b.bx.hi)
    → AllWithin g (holes a level g)
holes_within a level g area p full =
    within_all_subtracted g (images a level) (needed a g) p (needed_within a area g p) (images_full a level full)

pub gaps_full : (nest : IVec) (list : List Corners) → AtMost (alike (pos 0)) nest → AllFull list → AllFull (map (λ m. grown m nest) list)
gaps_full nest list wide full v h =
    let o = Member-from_map (λ m. grown m nest) v list h in
    subst (λ (v : Corners). AtMost v.lo v.hi) (sym o.2) (AtMost-grown o.0.lo o.0.hi nest wide (full o.0 o.1))

pub within_full : (g : Corners) (list : List Corners) → AllWithin g list → AllFull list
within_full g list all m h = (all m h).box.order

grown_less : (c : Corners) (n w : IVec) → AtMost n w → AtMost (grown c w).lo (grown c n).lo × AtMost (grown c n).hi (grown c w).hi
grown_less c n w h = (
  record { k = omega (arith, ints, h.k); j = omega (arith, ints, h.j); i = omega (arith, ints, h.i) },
  record { k = omega (arith, ints, h.k); j = omega (arith, ints, h.j); i = omega (arith, ints, h.i) },
)

-- all edges of a box to a list of boxes that are not empty give its holes
pub holes_from_all : (a : Area) (level : List Owned) (width : IVec) (c : Owned) (near : List Link) (wider ratio : IVec)
    → IsArea a → IsBox (grown c.bx width) → ((b : Owned) → Member b level → AtMost b.bx.lo b.bx.hi) → AtMost width wider → IsRatio ratio
    → near ≡ true_overlaps (scale_in a.frame wider ratio ratio) (c ∷ []) level → holes_by a near width c.bx ≡ holes a level (grown c.bx width)
holes_from_all a level width c near wider ratio area q full wide is_ratio edges =
    let g = grown c.bx width in
    let less = grown_less c.bx width wider wide in
    let named : filter_map (λ e. met (image a.frame e.head.bx e.shift) g) near ≡ filter_map (λ b. met b g) (images a level) =
    ap (λ (l : List Link). filter_map (λ e. met (image a.frame e.head.bx e.shift) g) l) edges
    ∙ edge_images a.frame c level g wider ratio is_ratio less.0 less.1 in
    ap (λ (l : List Corners). all_subtracted (needed a g) l) named
    ∙ parts_enough g (images a level) (needed a g) q (needed_within a area g q) (images_full a level full)

pub holes_from_edges : (a : Area) (level : List Owned) (width : IVec) (c : Owned) (near : List Link)
    → IsArea a → IsBox (grown c.bx width) → AreEdgesTo a level width c near → holes_by a near width c.bx ≡ holes a level (grown c.bx width)
holes_from_edges a level width c near area q h =
    holes_from_all a level width c near h.width h.ratio area q h.is_level.not_empty h.is_wide h.is_ratio h.edges

pub cut_from_edges : (a : Area) (level : List Owned) (nest : IVec) (c : Owned) (near : List Link)
    → IsArea a → AtMost (alike (pos 0)) nest → IsBox c.bx → IsBox (grown c.bx nest) → AreEdgesTo a level nest c near
    → nested_by a near nest c.bx ≡ nested a level nest c.bx
unfolding nested_by nested
cut_from_edges a level nest c near area wide p q h =
    let g = grown c.bx nest in
    let within = holes_within a level g area q h.is_level.not_empty in
    ap (λ (l : List Corners). all_subtracted (inner a c.bx) (filter_map (λ m. met (grown m nest) c.bx) l)) (holes_from_edges a level nest c near area q h)
    ∙ ap (λ (l : List Corners). all_subtracted (inner a c.bx) l) (filter_map_map (λ b. met b c.bx) (λ m. grown m nest) (holes a level g))
    ∙ parts_enough c.bx (map (λ m. grown m nest) (holes a level g)) (inner a c.bx) p (inner_within a area c.bx p)
    (gaps_full nest (holes a level g) wide (within_full g (holes a level g) within))
