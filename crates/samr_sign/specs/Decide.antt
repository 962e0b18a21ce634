-- The decision on a box, from its signature alone.
use Rattle.std.specs.Prelude.{ℕ, ◌*◌, ◌/◌, nat_eq, nat_lt, nat_le, pos, ◌+ℤ◌, unsigned_abs, if◌then◌else◌, List, ◌++◌, length, map, filter, Option, Some, None}
use Rattle.std.specs.List.{fold, range_with_len}
use Rattle.samr_box.specs.declared.vector.Axis.{Axis}
use Rattle.samr_box.specs.declared.vector.Axis.TheVariants.{I, J, K}
use Rattle.samr_box.specs.declared.vector.IVec.{IVec}
use Rattle.samr_box.specs.Vector.{at, plus, minus}
use Rattle.samr_box.specs.Corners.{Corners, span, cells_of, before, from_plane}
use Rattle.samr_sign.specs.declared.rule.CutRule.{CutRule}
use Rattle.samr_sign.specs.declared.decision.Decision.{Decision}
use Rattle.samr_sign.specs.declared.decision.Decision.TheVariants.{Drop, Accept, Split}
use Rattle.samr_sign.specs.declared.cuts.Cut.{Cut}
use Rattle.samr_sign.specs.declared.cuts.Turn.{Turn}
use Rattle.samr_sign.specs.declared.cuts.Ranked.{Ranked}
use Rattle.samr_sign.specs.Counts.{Sign, counts, total}
use Rattle.samr_sign.specs.Line.{leading, trailing, kept, zero_cut, is_turn, jump}

-- a number of planes for each axis
abbrev pub steps : ℕ → ℕ → ℕ → IVec
steps i j k = record { k = pos k; j = pos j; i = pos i }

-- the box from its first to its last plane with a tag on each axis
abbrev pub shrunk : Sign → Corners
shrunk s = record { lo = plus s.bx.lo (steps (leading s.i) (leading s.j) (leading s.k)); hi = minus s.bx.hi (steps (trailing s.i) (trailing s.j) (trailing s.k)) }

-- the counts of its planes
abbrev pub line : Axis → Sign → List ℕ
line axis s = kept (counts axis s)

abbrev pub order : Axis → Axis → Axis → Ranked
order a b c = record { first = a; second = b; third = c }

-- the axes by falling length, in the order i, j, k where lengths are equal
abbrev pub ranked_by : ℕ → ℕ → ℕ → Ranked
ranked_by i j k =
    if nat_lt i j then (if nat_lt j k then order K J I else (if nat_lt i k then order J K I else order J I K))
    else (if nat_lt i k then order K I J else (if nat_lt j k then order I K J else order I J K))

abbrev pub ranked : Corners → Ranked
ranked b = ranked_by (span I b) (span J b) (span K b)

-- a zero cut, on the first axis that has one
abbrev pub cut_on : Axis → Option ℕ → Option Cut → Option Cut
cut_on axis (Some c) other = Some (record { axis = axis; place = c })
cut_on axis None other = other

unfoldable pub zero_of : Sign → ℕ → Ranked → Option Cut
zero_of s least r =
    cut_on r.first (zero_cut least (line r.first s)) (cut_on r.second (zero_cut least (line r.second s)) (cut_on r.third (zero_cut least (line r.third s)) None))

-- the inflection cuts of an axis, and the sharpest of all axes: the first in order on a tie
abbrev pub turn_at : Axis → List ℕ → ℕ → Turn
turn_at axis s c = record { cut = record { axis = axis; place = c }; jump = jump s c }

unfoldable pub turns : ℕ → Axis → List ℕ → List Turn
turns least axis s = map (turn_at axis s) (filter (is_turn least s) (range_with_len 0 (length s)))

abbrev pub sharper : Option Turn → Turn → Option Turn
sharper None t = Some t
sharper (Some b) t = if nat_lt b.jump t.jump then Some t else Some b

unfoldable pub turn_of : Sign → ℕ → Ranked → Option Turn
turn_of s least r =
    fold sharper None (turns least r.first (line r.first s) ++ turns least r.second (line r.second s) ++ turns least r.third (line r.third s))

-- the cut: a zero cut, else an inflection cut, else the longest axis is halved
abbrev pub chosen : Option Cut → Option Turn → Cut → Cut
chosen (Some c) t half = c
chosen None (Some t) half = t.cut
chosen None None half = half

unfoldable pub cut_of : Sign → ℕ → Corners → Cut
cut_of s least b =
    let r = ranked b in chosen (zero_of s least r) (turn_of s least r) (record { axis = r.first; place = span r.first b / 2 })

abbrev pub split_by : Corners → Cut → Decision
split_by b c = let plane = at c.axis b.lo +ℤ pos c.place in Split (before c.axis b plane) (from_plane c.axis b plane)

-- An axis shorter than twice `smallest` has no admissible cut. So the longest alone tells whether any is left, and is
-- the one that is halved.
unfoldable pub decide_of : Sign → CutRule → Decision
decide_of s rule =
    let least = unsigned_abs rule.smallest in
    let b = shrunk s in
    if nat_eq (total s) 0 then Drop
    else (if nat_le (rule.efficiency * cells_of b) (100 * total s) then Accept b
    else (if nat_lt (span (ranked b).first b) (2 * least) then Accept b
    else split_by b (cut_of s least b)))
