-- Steps of loops over the lines of a level.
use Rattle.std.proofs.Common.{◌≡◌, ℕ, suc, ◌+◌, ◌<◌, ◌≤◌, refl, sym, ap, ◌∙◌, length, get_or, take, drop, arith, fold, map}
use Rattle.std.proofs.lemmas.List.{take_more, length-take-le, map-append, length-drop, drop_all}
use Rattle.std.specs.Prelude.{List, [], ◌∷◌, ◌++◌, Option, Some, None}
use Rattle.std.specs.List.{enumerate_from}
use Rattle.samr_verify.specs.declared.edges.DueEdge.{DueEdge}
use Rattle.samr_verify.specs.declared.fault.Fault.{Fault}
use Rattle.samr_verify.specs.declared.printed.PrintedEdge.{PrintedEdge}
use Rattle.samr_verify.specs.Faults.{or_earlier, first_of}
use Rattle.samr_verify.specs.MeshFaults.{edge_fault}

enumerate-append : {X : Type 0} (n : ℕ) (xs : List X) (x : X) → enumerate_from n (xs ++ x ∷ []) ≡ enumerate_from n xs ++ (n + length xs, x) ∷ []
enumerate-append {X} n [] x = ap (λ (k : ℕ). (k, x) ∷ []) (omega arith)
enumerate-append {X} n (y ∷ ys) x =
    ap (λ (l : List (ℕ × X)). (n, y) ∷ l)
    (enumerate-append (n + 1) ys x ∙ ap (λ (k : ℕ). enumerate_from (n + 1) ys ++ (k, x) ∷ []) (regroup (length ys)))
  where
    regroup : (m : ℕ) → n + 1 + m ≡ n + suc m
    regroup m = omega arith

pub fold-append : {X Y : Type 0} (f : Y → X → Y) (a : Y) (xs ys : List X) → fold f a (xs ++ ys) ≡ fold f (fold f a xs) ys
fold-append f a [] ys = refl
fold-append f a (x ∷ xs) ys = fold-append f (f a x) xs ys

module _ {X : Type 0} (xs : List X) (i : ℕ) (x : X) (more : i < length xs) (is : x ≡ get_or xs i x) where
  pub numbered_more : enumerate_from 0 (take (i + 1) xs) ≡ enumerate_from 0 (take i xs) ++ (i, x) ∷ []
  numbered_more =
      ap (enumerate_from 0) (take_more xs i x more ∙ ap (λ (v : X). take i xs ++ v ∷ []) (sym is))
      ∙ enumerate-append 0 (take i xs) x
      ∙ ap (λ (k : ℕ). enumerate_from 0 (take i xs) ++ (k, x) ∷ []) (let e = length-take-le i xs (omega (arith, more)) in omega (arith, e))

  -- the first fault of those so far, and of one more
  pub first_step : (f : ℕ × X → Option Fault) (now next : Option Fault)
      → now ≡ first_of (map f (enumerate_from 0 (take i xs))) → next ≡ or_earlier now (f (i, x))
      → next ≡ first_of (map f (enumerate_from 0 (take (i + 1) xs)))
  first_step f now next so_far step =
      step ∙ ap (λ (o : Option Fault). or_earlier o (f (i, x))) so_far
      ∙ sym (fold-append or_earlier None (map f (enumerate_from 0 (take i xs))) (f (i, x) ∷ []))
      ∙ ap (λ (l : List (Option Fault)). fold or_earlier None l) (sym (map-append f (enumerate_from 0 (take i xs)) ((i, x) ∷ [])))
      ∙ ap (λ (l : List (ℕ × X)). fold or_earlier None (map f l)) (sym numbered_more)

-- where lines are missing
none_left : (after : ℕ) (due : List DueEdge) → 0 < length due → Some (record { kind = 6; line = after }) ≡ edge_fault after [] due
none_left after [] h = absurd (omega (arith, h))
none_left after (d ∷ due) h = refl

pub lines_missing : (after i : ℕ) (told : List PrintedEdge) (due : List DueEdge) → length told ≤ i → i < length due
    → edge_fault after told due ≡ edge_fault after (drop i told) (drop i due) → Some (record { kind = 6; line = after }) ≡ edge_fault after told due
lines_missing after i told due all more so_far =
    let some : 0 < length (drop i due) = rw (length-drop i due) (omega (arith, more)) in
    none_left after (drop i due) some
    ∙ ap (λ (l : List PrintedEdge). edge_fault after l (drop i due)) (sym (drop_all i told all))
    ∙ sym so_far
