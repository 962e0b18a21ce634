-- The values of a region of a patch.
use Rattle.std.proofs.Common.{◌≡◌, ℕ, ◌+◌, ◌<◌, length, get_or, take, sym, ap, ◌∙◌, subst, arith, refl}
use Rattle.std.proofs.lemmas.Int.{ints, clamps}
use Rattle.std.proofs.lemmas.Bool.{and_from}
use Rattle.std.proofs.lemmas.List.{take_more}
use Rattle.std.proofs.lemmas.List.Elements.{filter_map-append}
use Rattle.std.specs.Prelude.{Bool, true, false, cond, List, [], ◌∷◌, ◌++◌, Option, Some, None, IfSome}
use Rattle.std.specs.List.{filter_map, cons_option}
use Rattle.std.specs.Option.{option_to_list}
use Rattle.samr_box.specs.declared.vector.IVec.{IVec}
use Rattle.samr_box.specs.Vector.{AtMost, at_most, least, greatest}
use Rattle.samr_box.specs.Corners.{Corners, Holds, holds_box, meets, met, common}
use Rattle.samr_box.specs.Lists.{Member}
use Rattle.samr_box.proofs.CellSets.{holds_box-means, at_most-from}
use Rattle.samr_data.specs.Values.{listed}
use Rattle.samr_data.specs.Grids.{Grid, value_at, packed}
use Rattle.samr_data.proofs.Lists.{listed_same}
use Rattle.samr_values.specs.Patches.{HasField}

pub packed_values : (p : Grid) (patches : List Grid) (b region : Corners) (v : IVec → ℕ) → Member p patches → p.bx ≡ b → holds_box b region ≡ true
    → AtMost region.lo region.hi → HasField v patches → packed p region ≡ listed region v
packed_values p patches b region v m same inside full has =
    listed_same region (value_at p) v full
    (λ x h. has p x m (subst (λ (c : Corners). Holds c x) (sym same) ((holds_box-means b region full).0 inside x h)))

common_first : (a b : Corners) → holds_box a (common a b) ≡ true
common_first a b =
    and_from (at_most a.lo (greatest a.lo b.lo)) (at_most (least a.hi b.hi) a.hi)
    (at_most-from {a = a.lo} {b = greatest a.lo b.lo} (record { k = omega (arith, ints, clamps); j = omega (arith, ints, clamps); i = omega (arith, ints, clamps) }))
    (at_most-from {a = least a.hi b.hi} {b = a.hi} (record { k = omega (arith, ints, clamps); j = omega (arith, ints, clamps); i = omega (arith, ints, clamps) }))

-- what two boxes have in common lies in the first
pub met_first : (a b : Corners) (o : Option Corners) → o ≡ met a b → IfSome o (λ c. holds_box a c ≡ true)
met_first a b o e = subst (λ (v : Option Corners). IfSome v (λ c. holds_box a c ≡ true)) (sym e) (by (meets a b))
  where
    by : (t : Bool) → IfSome (cond t (Some (common a b)) None) (λ c. holds_box a c ≡ true)
    by true = common_first a b
    by false = tt

by_option : {Y : Type 0} (o : Option Y) → cons_option o [] ≡ option_to_list o
by_option (Some y) = refl
by_option None = refl

-- one more item of a list that is made by a map that gives something or nothing
one : {X Y : Type 0} (h : X → Option Y) (x : X) → filter_map h (x ∷ []) ≡ option_to_list (h x)
one h x = by_option (h x)

pub one_more : {X Y : Type 0} (h : X → Option Y) (xs : List X) (i : ℕ) (x : X) (start was now : List Y) → i < length xs → x ≡ get_or xs i x
    → was ≡ start ++ filter_map h (take i xs) → now ≡ was ++ option_to_list (h x) → now ≡ start ++ filter_map h (take (i + 1) xs)
one_more {X} {Y} h xs i x start was now below here before step =
    step
    ∙ ap (λ (l : List Y). l ++ option_to_list (h x)) before
    ∙ assoc start (filter_map h (take i xs)) (option_to_list (h x))
    ∙ ap (λ (l : List Y). start ++ (filter_map h (take i xs) ++ l)) (sym (one h x))
    ∙ ap (λ (l : List Y). start ++ l) (sym (filter_map-append h (take i xs) (x ∷ [])))
    ∙ ap (λ (l : List X). start ++ filter_map h l) (sym (take_more xs i x below ∙ ap (λ (y : X). take i xs ++ y ∷ []) (sym here)))
  where
    assoc : (a b c : List Y) → (a ++ b) ++ c ≡ a ++ (b ++ c)
    assoc [] b c = refl
    assoc (y ∷ a) b c = ap (λ (l : List Y). y ∷ l) (assoc a b c)
