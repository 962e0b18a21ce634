-- The roots that a rank directs, one root after another.
use Rattle.std.proofs.Common.{◌≡◌, ℕ, zero, suc, ◌+◌, ◌<◌, Bool, List, [], ◌∷◌, ◌++◌, length, get_or, take, refl, sym, ap, subst, ◌∙◌, inl, inr, add-one, arith}
use Rattle.std.proofs.Math.Nat.{mod-lt}
use Rattle.std.proofs.lemmas.List.Elements.{filter-append}
use Rattle.std.specs.Prelude.{◌%◌, nat_eq, map, filter, cond, true, false, ◌↔◌}
use Rattle.std.specs.List.{enumerate_from}
use Rattle.samr_box.specs.Corners.{Corners}
use Rattle.samr_box.specs.Lists.{Member}
use Rattle.samr_box.proofs.Members.{Member-map, Member-from_map, Member-filter, Member-from_filter}
use Rattle.samr_rounds.specs.Rounds.{directed}
use Rattle.samr_rounds.proofs.Lists.{nat_eq_self}

enumerate_more : (a i : ℕ) (xs : List Corners) (x : Corners) → i < length xs → x ≡ get_or xs i x → enumerate_from a (take (suc i) xs) ≡ enumerate_from a (take i xs) ++ (a + i, x) ∷ []
enumerate_more a i [] x less e = absurd (omega (arith, less))
enumerate_more a zero (y ∷ xs) x less e = ap (λ v. (v, y) ∷ []) (start a) ∙ ap (λ v. (a + 0, v) ∷ []) (sym e)
  where
    start : (a : ℕ) → a ≡ a + 0
    start a = omega arith
enumerate_more a (suc i) (y ∷ xs) x less e =
    ap (λ l. (a, y) ∷ l) (enumerate_more (a + 1) i xs x (omega (arith, less)) e ∙ ap (λ v. enumerate_from (a + 1) (take i xs) ++ (v, x) ∷ []) (next a i))
  where
    next : (a i : ℕ) → (a + 1) + i ≡ a + suc i
    next a i = omega arith

mapped : (xs ys : List (ℕ × Corners)) → map (λ (e : ℕ × Corners). e.1) (xs ++ ys) ≡ map (λ (e : ℕ × Corners). e.1) xs ++ map (λ (e : ℕ × Corners). e.1) ys
mapped [] ys = refl
mapped (x ∷ xs) ys = ap (λ l. x.1 ∷ l) (mapped xs ys)

single : (v : Bool) (n : ℕ) (x : Corners) → map (λ (e : ℕ × Corners). e.1) (cond v ((n, x) ∷ []) []) ≡ cond v (x ∷ []) []
single true n x = refl
single false n x = refl

directed_more : (ranks director i : ℕ) (roots : List Corners) (x : Corners) → i < length roots → x ≡ get_or roots i x
    → directed ranks director (take (suc i) roots) ≡ directed ranks director (take i roots) ++ cond (nat_eq (i % ranks) director) (x ∷ []) []
unfolding directed
directed_more ranks director i roots x less e =
    let test : ℕ × Corners → Bool = λ e. nat_eq (e.0 % ranks) director in
    let from = enumerate_from 0 (take i roots) in
    ap (λ l. map (λ (e : ℕ × Corners). e.1) (filter test l)) (enumerate_more 0 i roots x less e ∙ ap (λ v. from ++ (v, x) ∷ []) (start i))
    ∙ ap (map (λ (e : ℕ × Corners). e.1)) (filter-append test from ((i, x) ∷ []))
    ∙ mapped (filter test from) (filter test ((i, x) ∷ []))
    ∙ ap (λ l. map (λ (e : ℕ × Corners). e.1) (filter test from) ++ l) (single (nat_eq (i % ranks) director) i x)
  where
    start : (i : ℕ) → 0 + i ≡ i
    start i = omega arith

pub directed_pushed : (ranks director i : ℕ) (roots before after : List Corners) (x : Corners) (v : Bool) → i < length roots → x ≡ get_or roots i x
    → before ≡ directed ranks director (take i roots) → v ≡ nat_eq (i % ranks) director → after ≡ before ++ cond v (x ∷ []) []
    → after ≡ directed ranks director (take (i + 1) roots)
directed_pushed ranks director i roots before after x v less e b t p =
    p ∙ ap (λ l. l ++ cond v (x ∷ []) []) b
    ∙ ap (λ w. directed ranks director (take i roots) ++ cond w (x ∷ []) []) t
    ∙ sym (directed_more ranks director i roots x less e)
    ∙ ap (λ n. directed ranks director (take n roots)) (sym (add-one i))

pub directed_none : (ranks director : ℕ) (roots : List Corners) → [] ≡ directed ranks director (take 0 roots)
unfolding directed
directed_none ranks director roots = refl

-- the director of a root
numbered : (a : ℕ) (b : Corners) (roots : List Corners) → Member b roots → (n : ℕ) × Member (n, b) (enumerate_from a roots)
numbered a b [] m = absurd m
numbered a b (r ∷ roots) (inl e) = (a, inl (ap (λ v. (a, v)) e))
numbered a b (r ∷ roots) (inr m) = let s = numbered (a + 1) b roots m in (s.0, inr s.1)

from_numbered : (a : ℕ) (e : ℕ × Corners) (roots : List Corners) → Member e (enumerate_from a roots) → Member e.1 roots
from_numbered a e [] m = absurd m
from_numbered a e (r ∷ roots) (inl same) = inl (ap (λ (v : ℕ × Corners). v.1) same)
from_numbered a e (r ∷ roots) (inr m) = inr (from_numbered (a + 1) e roots m)

pub each_directed : (ranks : ℕ) (roots : List Corners) (b : Corners) → 0 < ranks → Member b roots ↔ ((d : ℕ) × (d < ranks) × Member b (directed ranks d roots))
unfolding directed
each_directed ranks roots b some = (
  λ m.
      let s = numbered 0 b roots m in
      let d = s.0 % ranks in (
        d,
        mod-lt s.0 some,
        Member-map (λ (e : ℕ × Corners). e.1) (s.0, b) (filter (λ (e : ℕ × Corners). nat_eq (e.0 % ranks) d) (enumerate_from 0 roots))
            (Member-filter (λ (e : ℕ × Corners). nat_eq (e.0 % ranks) d) (s.0, b) (enumerate_from 0 roots) s.1 (nat_eq_self d)),
      ),
  λ s.
      let test : ℕ × Corners → Bool = λ e. nat_eq (e.0 % ranks) s.0 in
      let r = Member-from_map (λ (e : ℕ × Corners). e.1) b (filter test (enumerate_from 0 roots)) s.2 in
      subst (λ v. Member v roots) (sym r.2) (from_numbered 0 r.0 roots (Member-from_filter test r.0 (enumerate_from 0 roots) r.1).0),
)
