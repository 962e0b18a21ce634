-- Lists that are the same up to the one behind a number of members.
use Rattle.std.proofs.Common.{◌≡◌, ℕ, zero, suc, ◌+◌, ◌<◌, ◌≤◌, refl, sym, ap, ◌∙◌, arith, map, take, length, get_or}
use Rattle.std.proofs.lemmas.List.{take_more, append_assoc}
use Rattle.std.specs.Prelude.{List, [], ◌∷◌, ◌++◌, Option, Some, if◌then◌else◌}
use Rattle.std.specs.List.{flat_map}
use Rattle.samr_verify.specs.declared.edges.DueEdge.{DueEdge}
use Rattle.samr_verify.specs.declared.fault.Fault.{Fault}
use Rattle.samr_verify.specs.declared.printed.PrintedEdge.{PrintedEdge}
use Rattle.samr_verify.specs.MeshFaults.{same_edge, edge_fault}
use Rattle.samr_verify.specs.Nearby.{AlikeBehind}

-- facts of take by the first member
same_head : {X : Type 0} {x y : X} {xs ys : List X} → (x ∷ xs) ≡ (y ∷ ys) → x ≡ y
same_head e = cc

same_tail : {X : Type 0} {x y : X} {xs ys : List X} → (x ∷ xs) ≡ (y ∷ ys) → xs ≡ ys
same_tail e = cc

no_head : {X : Type 0} {x : X} {xs : List X} → [] ≡ (x ∷ xs) → ⊥
no_head e = cc

pub fewer : {X : Type 0} (n : ℕ) (xs ys : List X) → take (suc n) xs ≡ take (suc n) ys → take n xs ≡ take n ys
fewer zero xs ys e = refl
fewer (suc n) [] [] e = refl
fewer (suc n) [] (y ∷ ys) e = absurd (no_head e)
fewer (suc n) (x ∷ xs) [] e = absurd (no_head (sym e))
fewer {X} (suc n) (x ∷ xs) (y ∷ ys) e =
    ap (λ (v : X). v ∷ take n xs) (same_head e) ∙ ap (λ (l : List X). y ∷ l) (fewer n xs ys (same_tail e))

pub joined : {X : Type 0} (n : ℕ) (xs ys us vs : List X) → take n xs ≡ take n ys → take n us ≡ take n vs → take n (xs ++ us) ≡ take n (ys ++ vs)
joined zero xs ys us vs e f = refl
joined (suc n) [] [] us vs e f = f
joined (suc n) [] (y ∷ ys) us vs e f = absurd (no_head e)
joined (suc n) (x ∷ xs) [] us vs e f = absurd (no_head (sym e))
joined {X} (suc n) (x ∷ xs) (y ∷ ys) us vs e f =
    ap (λ (v : X). v ∷ take n (xs ++ us)) (same_head e) ∙ ap (λ (l : List X). y ∷ l) (joined n xs ys us vs (same_tail e) (fewer n us vs f))

-- what stands behind enough members does not count
pub enough : {X : Type 0} (n : ℕ) (xs ys : List X) → n ≤ length xs → take n xs ≡ take n (xs ++ ys)
enough zero xs ys h = refl
enough (suc n) [] ys h = absurd (omega (arith, h))
enough {X} (suc n) (x ∷ xs) ys h = ap (λ (l : List X). x ∷ l) (enough n xs ys (omega (arith, h)))

pub mapped : {X Y : Type 0} (f : X → Y) (n : ℕ) (xs ys : List X) → take n xs ≡ take n ys → take n (map f xs) ≡ take n (map f ys)
mapped f zero xs ys e = refl
mapped f (suc n) [] [] e = refl
mapped f (suc n) [] (y ∷ ys) e = absurd (no_head e)
mapped f (suc n) (x ∷ xs) [] e = absurd (no_head (sym e))
mapped {X} {Y} f (suc n) (x ∷ xs) (y ∷ ys) e =
    ap (λ (v : X). f v ∷ take n (map f xs)) (same_head e) ∙ ap (λ (l : List Y). f y ∷ l) (mapped f n xs ys (same_tail e))

flat_map-append : {X Y : Type 0} (f : X → List Y) (xs : List X) (x : X) → flat_map f (xs ++ x ∷ []) ≡ flat_map f xs ++ f x
flat_map-append f [] x = end (f x)
  where
    end : {Y : Type 0} (l : List Y) → l ++ [] ≡ l
    end [] = refl
    end {Y} (y ∷ l) = ap (λ (m : List Y). y ∷ m) (end l)
flat_map-append {X} {Y} f (y ∷ xs) x = ap (λ (l : List Y). f y ++ l) (flat_map-append f xs x) ∙ sym (append_assoc (f y) (flat_map f xs) (f x))

-- one step of a loop
pub alike_step : {X Y : Type 0} (f : X → List Y) (most : ℕ) (xs : List X) (i : ℕ) (x : X) (now next : List Y) → i < length xs → x ≡ get_or xs i x
    → AlikeBehind most now (flat_map f (take i xs)) → AlikeBehind most next (now ++ f x) → AlikeBehind most next (flat_map f (take (i + 1) xs))
alike_step {X} {Y} f most xs i x now next more is so_far step =
    step
    ∙ joined (suc most) now (flat_map f (take i xs)) (f x) (f x) so_far refl
    ∙ ap (take (suc most)) (sym (flat_map-append f (take i xs) x))
    ∙ ap (λ (l : List X). take (suc most) (flat_map f l)) (sym (take_more xs i x more ∙ ap (λ (v : X). take i xs ++ v ∷ []) (sym is)))

-- the first fault of edges looks at no more of those due than there are lines, and at one more
pub same_fault : (after : ℕ) (told : List PrintedEdge) (due all : List DueEdge) → AlikeBehind (length told) due all → edge_fault after told due ≡ edge_fault after told all
same_fault after [] [] [] e = refl
same_fault after [] [] (d ∷ all) e = absurd (no_head e)
same_fault after [] (d ∷ due) [] e = absurd (no_head (sym e))
same_fault after [] (d ∷ due) (a ∷ all) e = refl
same_fault after (t ∷ told) [] [] e = refl
same_fault after (t ∷ told) [] (d ∷ all) e = absurd (no_head e)
same_fault after (t ∷ told) (d ∷ due) [] e = absurd (no_head (sym e))
same_fault after (t ∷ told) (d ∷ due) (a ∷ all) e =
    ap (λ (v : DueEdge). if same_edge t v then edge_fault after told due else Some (record { kind = 6; line = t.line })) (same_head e)
    ∙ ap (λ (o : Option Fault). if same_edge t a then o else Some (record { kind = 6; line = t.line })) (same_fault after told due all (same_tail e))

-- three parts, one after another
pub three_parts : {X : Type 0} (most : ℕ) (o a b c us vs ws : List X) → o ≡ [] → AlikeBehind most a (o ++ us) → AlikeBehind most b (a ++ vs) → AlikeBehind most c (b ++ ws)
    → AlikeBehind most c (us ++ vs ++ ws)
three_parts {X} most o a b c us vs ws none p q r =
    r
    ∙ joined (suc most) b ((o ++ us) ++ vs) ws ws (q ∙ joined (suc most) a (o ++ us) vs vs p refl) refl
    ∙ ap (λ (l : List X). take (suc most) (((l ++ us) ++ vs) ++ ws)) none
