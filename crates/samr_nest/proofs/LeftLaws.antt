-- What is left of a cluster, step by step, and that each of its cells is left at most once.
use Rattle.std.proofs.Common.{◌≡◌, ◌≤◌, refl, ap, arith}
use Rattle.std.specs.Prelude.{pos, Bool, true, false, cond, List}
use Rattle.std.specs.List.{filter_map}
use Rattle.samr_box.specs.declared.vector.IVec.{IVec}
use Rattle.samr_box.specs.Vector.{alike, Between}
use Rattle.samr_box.specs.Corners.{Corners, holds, met, grown}
use Rattle.samr_box.specs.Space.{Space, IsSpace, image}
use Rattle.samr_box.proofs.Vectors.{AtMost-trans}
use Rattle.samr_level.specs.Neighbours.{IsWidth}
use Rattle.samr_boxlist.specs.Covers.{cover}
use Rattle.samr_boxlist.specs.Slabs.{all_subtracted}
use Rattle.samr_boxlist.proofs.Disjointness.{none_meet-from, IsDisjoint-from}
use Rattle.samr_level.specs.Refs.{Link}
use Rattle.samr_level.specs.Regions.{Area, IsArea, boxes_of}
use Rattle.samr_level.proofs.Level0Laws.{boxes-apart}
use Rattle.samr_nest.specs.Starts.{needed}
use Rattle.samr_nest.specs.Nested.{holes_by, nested_by}

pub left_is : (a : Area) (near : List Link) (nest : IVec) (c : Corners) (boxes boxes1 holes holes1 gaps gaps1 part rest : List Corners)
    → boxes ≡ boxes_of a → boxes1 ≡ boxes → holes ≡ holes_by a near nest c → holes1 ≡ holes
    → gaps ≡ filter_map (λ m. met (grown m nest) c) holes1 → gaps1 ≡ gaps
    → part ≡ filter_map (λ p. met p c) boxes1
    → rest ≡ all_subtracted part gaps1
    → rest ≡ nested_by a near nest c
unfolding nested_by
left_is a near nest c boxes boxes1 holes holes1 gaps gaps1 part rest b b1 h h1 p p1 n r = rw (r, n, p1, p, h1, h, b1, b) refl

pub holes_are : (a : Area) (near : List Link) (width : IVec) (c around : Corners) (d : Space) (start images images1 holes : List Corners)
    → around ≡ grown c width → d ≡ a.frame → start ≡ needed a around
    → images ≡ filter_map (λ l. met (image d l.head.bx l.shift) around) near → images1 ≡ images
    → holes ≡ all_subtracted start images1
    → holes ≡ holes_by a near width c
holes_are a near width c around d start images images1 holes g d_is s i i1 h = rw (h, i1, i, s, d_is, g) refl

pub left_once : (a : Area) (x : IVec) (c : Corners) (boxes part rest : List Corners) (gone : Bool) → IsArea a → boxes ≡ boxes_of a
    → cover x part ≡ cond (holds c x) (cover x boxes) 0 → cover x rest ≡ cond gone 0 (cover x part)
    → cover x rest ≤ cond (holds c x) 1 0
left_once a x c boxes part rest gone area b p r =
    let once = IsDisjoint-from (boxes_of a) (none_meet-from (boxes_of a) (boxes-apart a area)) x in
    let same = ap (cover x) b in
    by_tests (holds c x) gone p r (omega (arith, once, same))
  where
    by_tests : (t g : Bool) → cover x part ≡ cond t (cover x boxes) 0 → cover x rest ≡ cond g 0 (cover x part) → cover x boxes ≤ 1 → cover x rest ≤ cond t 1 0
    by_tests true true p r once = omega (arith, r)
    by_tests true false p r once = omega (arith, p, r, once)
    by_tests false true p r once = omega (arith, r)
    by_tests false false p r once = omega (arith, p, r)

-- a width of at most the frame's length is in range
pub nest_range : (d : Space) (nest : IVec) → IsSpace d → IsWidth d nest → Between (alike (pos 0)) nest (alike (pos 1073741824))
nest_range d nest s w = record { low = w.low; high = AtMost-trans w.high s.high }
