-- Values written cell by cell.
use Rattle.std.proofs.Common.{◌≡◌, ℕ, ◌+◌, ◌<◌, ◌≤◌, Bool, true, false, cond, List, length, get_or, set, refl, ap, sym, ◌∙◌, arith}
use Rattle.std.proofs.lemmas.List.{length-set, get_or-set_same, get_or-set_other}
use Rattle.std.proofs.lemmas.Bool.{and_from, and_parts, eqb-true, eq-eqb, false≢true}
use Rattle.std.specs.Prelude.{nat_eq, nat_lt, ◌&&◌}
use Rattle.samr_box.specs.declared.vector.IVec.{IVec}
use Rattle.samr_box.specs.Vector.{AtMost}
use Rattle.samr_box.specs.Corners.{Corners, Holds, holds, holds_box, cells_of}
use Rattle.samr_box.proofs.CellSets.{Holds-test, holds-from}
use Rattle.samr_data.specs.Places.{place, cell_at}
use Rattle.samr_data.specs.Values.{value_in, listed, changed_in}
use Rattle.samr_data.proofs.PlaceLaws.{place_below, place_once, place-cell_at, cell_at-place, cell_at_holds, part_order, part_Holds}
use Rattle.samr_data.proofs.Lists.{changed_more, changed_none, changed_same, length-listed}
use Rattle.samr_data.proofs.Slices.{more, none_below, all_below}

-- one cell written, where a test tells that cell from all others
pub set_value : (b : Corners) (vs : List ℕ) (f : IVec → ℕ) (c x : IVec) (w : ℕ) (t : Bool) → length vs ≡ cells_of b → Holds b c → Holds b x
    → w ≡ f c → (t ≡ true → x ≡ c) → (x ≡ c → t ≡ true) → value_in b (set vs (place b c) w) x ≡ cond t (f x) (value_in b vs x)
set_value b vs f c x w true long hc hx e p q =
    ap (λ v. get_or (set vs (place b c) w) (place b v) 0) (p refl)
    ∙ get_or-set_same vs (place b c) w 0 (omega (arith, place_below b c hc, long))
    ∙ e ∙ ap f (sym (p refl))
set_value b vs f c x w false long hc hx e p q =
    get_or-set_other vs (place b c) (place b x) w 0 (λ same. false≢true (q (place_once b x c hx hc same)))

-- the first so many cells of a region
abbrev pub first_cells : Corners → ℕ → IVec → Bool
first_cells b n = λ x. holds b x && nat_lt (place b x) n

pub cells_start : (at region : Corners) (old : List ℕ) (f : IVec → ℕ) → AtMost at.lo at.hi → length old ≡ cells_of at
    → old ≡ listed at (changed_in at old (first_cells region 0) f)
cells_start at region old f order long = changed_none at old (first_cells region 0) f order long (λ x h. none_below (holds region x) (place region x))

pub cells_go_on : (at region : Corners) (old was : List ℕ) (f : IVec → ℕ) (n : ℕ) (c : IVec) (w : ℕ) → AtMost region.lo region.hi → holds_box at region ≡ true
    → n < cells_of region → c ≡ cell_at region n → w ≡ f c → was ≡ listed at (changed_in at old (first_cells region n) f)
    → set was (place at c) w ≡ listed at (changed_in at old (first_cells region (n + 1)) f)
cells_go_on at region old was f n c w order inside below e value before =
    let long : length was ≡ cells_of at = ap (λ (l : List ℕ). length l) before ∙ length-listed at (changed_in at old (first_cells region n) f) in
    let here : Holds region c = rw e (cell_at_holds region n order below) in
    let place_is : place region c ≡ n = ap (place region) e ∙ place-cell_at region n in
    let test : IVec → Bool = λ x. holds region x && nat_eq (place region x) n in
    changed_more at old was (set was (place at c) w) (first_cells region n) test (first_cells region (n + 1)) f (part_order at region inside order)
    (length-set was (place at c) w ∙ long) before
    (λ x h. set_value at was f c x w (test x) long (part_Holds at region c inside here) h value
    (λ t. let s = and_parts (holds region x) (nat_eq (place region x) n) t in
    sym (cell_at-place region x (Holds-test s.0)) ∙ ap (cell_at region) (eqb-true (place region x) n s.1) ∙ sym e)
    (λ same. ap test same ∙ and_from (holds region c) (nat_eq (place region c) n) (holds-from here) (eq-eqb (place region c) n place_is)))
    (λ x h. more (holds region x) (place region x) n)

pub cells_end : (at region : Corners) (old now : List ℕ) (f : IVec → ℕ) (n : ℕ) → AtMost at.lo at.hi → cells_of region ≤ n
    → now ≡ listed at (changed_in at old (first_cells region n) f) → now ≡ listed at (changed_in at old (holds region) f)
cells_end at region old now f n order end e =
    e ∙ changed_same at old (first_cells region n) (holds region) f order
    (λ x h. all_below region n (place region) (λ y held. let below = place_below region y held in omega (arith, below, end)) x)
