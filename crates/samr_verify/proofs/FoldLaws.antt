-- The earlier of faults: one after another in any grouping, and a known fault that stands before a line decides.
use Rattle.std.proofs.Common.{◌≡◌, ℕ, ◌+◌, ◌<◌, refl, sym, ap, ◌∙◌, arith, map, take, length, get_or}
use Rattle.std.proofs.lemmas.Bool.{and_parts}
use Rattle.std.proofs.lemmas.Bool.Decides.{nat_tests}
use Rattle.std.specs.Prelude.{Bool, true, false, not, ◌&&◌, ◌||◌, nat_lt, nat_le, Option, Some, None, List, [], ◌∷◌, if◌then◌else◌}
use Rattle.std.specs.List.{enumerate_from}
use Rattle.samr_verify.specs.declared.fault.Fault.{Fault}
use Rattle.samr_verify.specs.declared.edges.DueEdge.{DueEdge}
use Rattle.samr_verify.specs.declared.printed.PrintedEdge.{PrintedEdge}
use Rattle.samr_verify.specs.declared.printed.PrintedLevel.{PrintedLevel}
use Rattle.samr_verify.specs.Deciding.{stands_before, stands_before_all, decides_edges}
use Rattle.samr_verify.specs.MeshFaults.{same_edge, edge_fault}
use Rattle.samr_verify.specs.Faults.{comes_first, or_earlier, first_of, unless}
use Rattle.samr_verify.proofs.Steps.{first_step}

-- the tests of three faults, by the numbers of their lines and kinds
both_first : (a b c d e f : ℕ) → (nat_lt a b || (not (nat_lt b a) && nat_le d e)) ≡ true → (nat_lt b c || (not (nat_lt c b) && nat_le e f)) ≡ true
    → (nat_lt a c || (not (nat_lt c a) && nat_le d f)) ≡ true
both_first a b c d e f p q = grind (arith, nat_tests, p, q)

none_first : (a b c d e f : ℕ) → (nat_lt a b || (not (nat_lt b a) && nat_le d e)) ≡ false → (nat_lt b c || (not (nat_lt c b) && nat_le e f)) ≡ false
    → (nat_lt a c || (not (nat_lt c a) && nat_le d f)) ≡ false
none_first a b c d e f p q = grind (arith, nat_tests, p, q)

three : (f g h : Fault) (t u v : Bool) → comes_first f g ≡ t → comes_first g h ≡ u → comes_first f h ≡ v
    → or_earlier (if t then Some f else Some g) (Some h) ≡ or_earlier (Some f) (if u then Some g else Some h)
three f g h true true v p q r =
    ap (λ (x : Bool). if x then Some f else Some h) (both_first f.line g.line h.line f.kind g.kind h.kind p q) ∙ ap (λ (x : Bool). if x then Some f else Some g) (sym p)
three f g h true false v p q r = refl
three f g h false true v p q r =
    ap (λ (x : Bool). if x then Some g else Some h) q ∙ ap (λ (x : Bool). if x then Some f else Some g) (sym p)
three f g h false false v p q r =
    ap (λ (x : Bool). if x then Some g else Some h) q ∙ ap (λ (x : Bool). if x then Some f else Some h) (sym (none_first f.line g.line h.line f.kind g.kind h.kind p q))

pub regrouped : (a b c : Option Fault) → or_earlier (or_earlier a b) c ≡ or_earlier a (or_earlier b c)
regrouped None b c = refl
regrouped (Some f) None c = refl
regrouped (Some f) (Some g) None = by (comes_first f g)
  where
    by : (t : Bool) → or_earlier (if t then Some f else Some g) None ≡ if t then Some f else Some g
    by true = refl
    by false = refl
regrouped (Some f) (Some g) (Some h) = three f g h (comes_first f g) (comes_first g h) (comes_first f h) refl refl refl

pub nothing_more : (a : Option Fault) → or_earlier a None ≡ a
nothing_more None = refl
nothing_more (Some f) = refl

-- a fault that stands before a line is the earlier of it and of one at the line
pub decided : (o : Option Fault) (t : Bool) (kind line : ℕ) → stands_before o line ≡ true → or_earlier o (unless t kind line) ≡ o
decided None t kind line h = cc
decided (Some f) true kind line h = refl
decided (Some f) false kind line h = ap (λ (x : Bool). if x then Some f else Some (record { kind = kind; line = line })) (before f.line line f.kind kind h)
  where
    before : (a b d e : ℕ) → nat_lt a b ≡ true → (nat_lt a b || (not (nat_lt b a) && nat_le d e)) ≡ true
    before a b d e h = grind (arith, nat_tests, h)

-- the same for all lines of edges
pub decided_edges : (o : Option Fault) (after : ℕ) (told : List PrintedEdge) (due : List DueEdge) → stands_before o after ≡ true → stands_before_all o told ≡ true
    → or_earlier o (edge_fault after told due) ≡ o
decided_edges o after [] [] h k = nothing_more o
decided_edges o after [] (d ∷ due) h k = decided o false 6 after h
decided_edges o after (e ∷ told) [] h k = decided o false 6 e.line (and_parts (stands_before o e.line) (stands_before_all o told) k).0
decided_edges o after (e ∷ told) (d ∷ due) h k =
    let both = and_parts (stands_before o e.line) (stands_before_all o told) k in
    by (same_edge e d) (decided o false 6 e.line both.0) (decided_edges o after told due h both.1)
  where
    by : (t : Bool) → or_earlier o (Some (record { kind = 6; line = e.line })) ≡ o → or_earlier o (edge_fault after told due) ≡ o
        → or_earlier o (if t then edge_fault after told due else Some (record { kind = 6; line = e.line })) ≡ o
    by true here later = later
    by false here later = here

pub decided_level : (o : Option Fault) (level : PrintedLevel) (due : List DueEdge) → decides_edges o level ≡ true → or_earlier o (edge_fault level.after level.edges due) ≡ o
decided_level o level due h =
    let both = and_parts (stands_before o level.after) (stands_before_all o level.edges) h in
    decided_edges o level.after level.edges due both.0 both.1

-- four faults, one after another
pub in_turn : (known a b c d : Option Fault) → or_earlier (or_earlier (or_earlier (or_earlier known a) b) c) d ≡ or_earlier known (first_of (a ∷ b ∷ c ∷ d ∷ []))
in_turn known a b c d =
    ap (λ (o : Option Fault). or_earlier (or_earlier o c) d) (regrouped known a b)
    ∙ ap (λ (o : Option Fault). or_earlier o d) (regrouped known (or_earlier a b) c)
    ∙ regrouped known (or_earlier (or_earlier a b) c) d

module _ {X : Type 0} (xs : List X) (i : ℕ) (x : X) (more : i < length xs) (is : x ≡ get_or xs i x) where
  -- the first of a known fault and of those so far, and of one more
  pub known_step : (f : ℕ × X → Option Fault) (known now next : Option Fault)
      → now ≡ or_earlier known (first_of (map f (enumerate_from 0 (take i xs)))) → next ≡ or_earlier now (f (i, x))
      → next ≡ or_earlier known (first_of (map f (enumerate_from 0 (take (i + 1) xs))))
  known_step f known now next so_far step =
      let before = first_of (map f (enumerate_from 0 (take i xs))) in
      step ∙ ap (λ (o : Option Fault). or_earlier o (f (i, x))) so_far
      ∙ regrouped known before (f (i, x))
      ∙ ap (or_earlier known) (first_step xs i x more is f before (or_earlier before (f (i, x))) refl refl)
