-- Counts of cells: of parts of a box, and of disjoint pieces.
use Rattle.std.proofs.Common.{◌≡◌, ℕ, zero, suc, ◌+◌, ◌*◌, ◌<◌, ◌≤◌, refl, sym, ap, ◌∙◌, subst, inl, inr, arith}
use Rattle.std.proofs.lemmas.Int.{ints}
use Rattle.std.proofs.lemmas.Bool.{false≢true, and_from, and_parts, false_from_ne_true}
use Rattle.std.proofs.lemmas.List.Sums.{sum_by-cons}
use Rattle.std.specs.Prelude.{sum_by, Bool, true, false, cond, ◌&&◌, ◌||◌, Some, None, List, [], ◌∷◌, map}
use Rattle.samr_box.specs.declared.vector.Axis.TheVariants.{I, J, K}
use Rattle.samr_box.specs.declared.vector.IVec.{IVec}
use Rattle.samr_box.specs.Vector.{AtMost, times, IsRatio}
use Rattle.samr_box.specs.Corners.{Corners, Holds, holds, meets, met, common, span, cells_of}
use Rattle.samr_box.specs.Ratios.{coarse, refined, coarsened}
use Rattle.samr_box.specs.Lists.{Member}
use Rattle.samr_box.proofs.Vectors.{same_cell}
use Rattle.samr_box.proofs.Floors.{floor-mul}
use Rattle.samr_box.proofs.CellSets.{holds-from, Holds-test, Holds-lo, Meet-test, meets-from, Meet-cell, Holds-common, order-common, Holds-refined, coarse-AtMost}
use Rattle.samr_boxlist.specs.Covers.{cover, held}
use Rattle.samr_boxlist.proofs.Covering.{cover-cons, held-cover}
use Rattle.samr_bits.specs.Sums.{sum_below}
use Rattle.samr_bits.specs.Bits.{one}
use Rattle.samr_sign.specs.Counts.{cell_at, weigh, tally}
use Rattle.samr_sign.proofs.Tallies.{cell_Holds, weigh_le, tally_narrow, tally_none}
use Rattle.samr_sign.proofs.Sums.{tallies_sum}
use Rattle.samr_sched.specs.PlanRows.{size_of, under_asked}

sum_all : (f : ℕ → ℕ) (n m : ℕ) → ((c : ℕ) → c < n → f c ≡ m) → sum_below f n ≡ n * m
sum_all f zero m h = omega arith
sum_all f (suc n) m h = omega (arith, sum_all f n m (λ c p. h c (omega arith)), h n (omega arith))

-- all cells pass
tally_all : (t : IVec → Bool) (b : Corners) → AtMost b.lo b.hi → ((x : IVec) → Holds b x → t x ≡ true) → tally t b ≡ cells_of b
unfolding tally weigh
tally_all t b full all =
    let row : ℕ → ℕ → ℕ = λ z y. sum_below (λ x. one (t (cell_at b x y z))) (span I b) in
    let sum = sum_all (λ z. sum_below (row z) (span J b)) (span K b) (span J b * (span I b * 1))
    (λ z r. sum_all (row z) (span J b) (span I b * 1)
    (λ y q. sum_all (λ x. one (t (cell_at b x y z))) (span I b) 1 (λ x p. ap one (all (cell_at b x y z) (cell_Holds b x y z p q r full))))) in
    regroup _ (span I b) (span J b) (span K b) sum
  where
    regroup : (n i j k : ℕ) → n ≡ k * (j * (i * 1)) → n ≡ i * j * k
    regroup n i j k h = omega (arith, h)

-- tests that agree on the box
pub tally_same : (t u : IVec → Bool) (b : Corners) → AtMost b.lo b.hi → ((x : IVec) → Holds b x → t x ≡ u x) → tally t b ≡ tally u b
unfolding tally
tally_same t u b full same =
    let low = weigh_le (λ x. one (t x)) (λ x. one (u x)) b full (λ x h. let e = ap one (same x h) in omega (arith, e)) in
    let high = weigh_le (λ x. one (u x)) (λ x. one (t x)) b full (λ x h. let e = ap one (same x h) in omega (arith, e)) in
    omega (arith, low, high)

-- the cells that pass are those of a part
pub tally_part : (t : IVec → Bool) (b part : Corners) → AtMost b.lo b.hi → AtMost part.lo part.hi
    → ((x : IVec) → Holds part x → Holds b x × (t x ≡ true)) → ((x : IVec) → Holds b x → t x ≡ true → Holds part x) → tally t b ≡ cells_of part
tally_part t b part full order inside all =
    tally_narrow t b part full order (λ x h. (inside x h).0) all ∙ tally_all t part order (λ x h. (inside x h).1)

-- those that two boxes have in common
pub tally_met : (t : IVec → Bool) (b p q : Corners) → AtMost b.lo b.hi → AtMost p.lo p.hi → AtMost q.lo q.hi
    → ((x : IVec) → Holds p x → Holds q x → Holds b x × (t x ≡ true)) → ((x : IVec) → Holds b x → t x ≡ true → Holds p x × Holds q x)
    → tally t b ≡ size_of (met p q)
tally_met t b p q full fp fq inside all = by_test (meets p q) refl
  where
    by_test : (m : Bool) → meets p q ≡ m → tally t b ≡ size_of (cond m (Some (common p q)) None)
    by_test true e =
        tally_part t b (common p q) full (order-common {a = p} {b = q} fp fq (Meet-test {a = p} {b = q} e))
        (λ x h. let c = (Holds-common p q x).0 h in inside x c.0 c.1)
        (λ x h s. (Holds-common p q x).1 (all x h s))
    by_test false e =
        tally_none t b full (λ x h s. let c = all x h s in false≢true (sym e ∙ meets-from {a = p} {b = q} (Meet-cell {a = p} {b = q} {x = x} c.0 c.1)))

-- the fine cells of a box that is not empty
pub refined_order : (b : Corners) (r : IVec) → IsRatio r → AtMost b.lo b.hi → AtMost (refined b r).lo (refined b r).hi
refined_order b r p full =
    let k = p.low.k in
    let j = p.low.j in
    let i = p.low.i in
    let same : coarse (times b.lo r) r ≡ b.lo =
    same_cell (floor-mul r.k b.lo.k (omega (arith, ints, k))) (floor-mul r.j b.lo.j (omega (arith, ints, j))) (floor-mul r.i b.lo.i (omega (arith, ints, i))) in
    ((Holds-refined b r (times b.lo r) p).1 (subst (λ (v : IVec). Holds b v) (sym same) (Holds-lo {b = b} full))).high

pub Holds-coarse : (p : Corners) (r x : IVec) → IsRatio r → Holds p x → Holds (coarsened p r) (coarse x r)
Holds-coarse p r x ratio h = record { low = coarse-AtMost ratio h.low; high = coarse-AtMost ratio h.high }

-- the cells of a piece under a coarse box
pub tally_under : (w : Corners) (r : IVec) (p c : Corners) → IsRatio r → AtMost w.lo w.hi → AtMost p.lo p.hi → AtMost c.lo c.hi → ((x : IVec) → Holds p x → Holds w x)
    → tally (λ x. holds p x && holds c (coarse x r)) w ≡ under_asked r p (met (coarsened p r) c)
tally_under w r p c ratio full fp fc inside = by_test (meets (coarsened p r) c) refl
  where
    parts : (x : IVec) → (holds p x && holds c (coarse x r)) ≡ true → Holds p x × Holds c (coarse x r)
    parts x e =
        let s = and_parts (holds p x) (holds c (coarse x r)) e in
        (Holds-test {b = p} {x = x} s.0, Holds-test {b = c} {x = coarse x r} s.1)

    by_test : (m : Bool) → meets (coarsened p r) c ≡ m
        → tally (λ x. holds p x && holds c (coarse x r)) w ≡ under_asked r p (cond m (Some (common (coarsened p r) c)) None)
    by_test true e =
        let both = common (coarsened p r) c in
        let order = order-common {a = coarsened p r} {b = c} (coarse-AtMost ratio fp) fc (Meet-test {a = coarsened p r} {b = c} e) in
        tally_met (λ x. holds p x && holds c (coarse x r)) w p (refined both r) full fp (refined_order both r ratio order)
        (λ x h g.
        let under = (Holds-common (coarsened p r) c (coarse x r)).0 ((Holds-refined both r x ratio).0 g) in
        (inside x h, and_from (holds p x) (holds c (coarse x r)) (holds-from {b = p} {x = x} h) (holds-from {b = c} {x = coarse x r} under.1)))
        (λ x h s.
        let f = parts x s in
        (f.0, (Holds-refined both r x ratio).1 ((Holds-common (coarsened p r) c (coarse x r)).1 (Holds-coarse p r x ratio f.0, f.1))))
    by_test false e =
        tally_none (λ x. holds p x && holds c (coarse x r)) w full
        (λ x h s.
        let f = parts x s in
        false≢true (sym e ∙ meets-from {a = coarsened p r} {b = c} (Meet-cell {a = coarsened p r} {b = c} {x = coarse x r} (Holds-coarse p r x ratio f.0) f.1)))

-- the sum of a list made from another
sum_map : {X Y : Type 0} (f : Y → ℕ) (g : X → Y) (xs : List X) → sum_by f (map g xs) ≡ sum_by (λ x. f (g x)) xs
sum_map f g [] = refl
sum_map f g (x ∷ xs) = omega (arith, sum_by-cons f (g x) (map g xs), sum_by-cons (λ y. f (g y)) x xs, sum_map f g xs)

pub sum_same : {X : Type 0} (f g : X → ℕ) (xs : List X) → ((x : X) → Member x xs → f x ≡ g x) → sum_by f xs ≡ sum_by g xs
sum_same f g [] same = refl
sum_same f g (x ∷ xs) same =
    omega (arith, sum_by-cons f x xs, sum_by-cons g x xs, same x (inl refl), sum_same f g xs (λ y m. same y (inr m)))

-- a cell that lies in at most one piece
once : (x : IVec) (t : Bool) (ps : List Corners) → cover x ps ≤ 1 → sum_by (λ p. one (holds p x && t)) ps ≡ one (held x ps && t)
once x t [] few = refl
once x t (p ∷ ps) few =
    let c = cover-cons x p ps in
    by_tests (holds p x) (held x ps) (sum_by (λ q. one (holds q x && t)) ps) (sum_by (λ q. one (holds q x && t)) (p ∷ ps))
    (sum_by-cons (λ q. one (holds q x && t)) p ps) (once x t ps (omega (arith, c, few)))
    (λ e. false_from_ne_true (held x ps) (λ s. let some = held-cover x ps s in let h = ap one e in absurd (omega (arith, c, few, some, h))))
  where
    by_tests : (h k : Bool) (n m : ℕ) → m ≡ one (h && t) + n → n ≡ one (k && t) → (h ≡ true → k ≡ false) → m ≡ one ((h || k) && t)
    by_tests true k n m e f alone = let g = f ∙ ap (λ (v : Bool). one (v && t)) (alone refl) in omega (arith, e, g)
    by_tests false k n m e f alone = omega (arith, e, f)

-- counts of disjoint pieces add up
pub tally_pieces : (q : IVec → Bool) (b : Corners) (ps : List Corners) → ((x : IVec) → cover x ps ≤ 1)
    → sum_by (λ p. tally (λ x. holds p x && q x) b) ps ≡ tally (λ x. held x ps && q x) b
tally_pieces q b ps apart =
    let make : Corners → IVec → Bool = λ p x. holds p x && q x in
    sym (sum_map (λ (u : IVec → Bool). tally u b) make ps)
    ∙ tallies_sum (map make ps) (λ x. held x ps && q x) (λ x. sum_map (λ (u : IVec → Bool). one (u x)) make ps ∙ once x (q x) ps (apart x)) b

-- those that pass a test, and those that fail it
pub tally_rest : (t u : IVec → Bool) (b : Corners) → AtMost b.lo b.hi → ((x : IVec) → one (t x) + one (u x) ≡ 1) → tally t b + tally u b ≡ cells_of b
tally_rest t u b full both =
    let sum = tallies_sum (t ∷ u ∷ []) (λ x. true)
    (λ x. let e = sum_by-cons (λ (v : IVec → Bool). one (v x)) t (u ∷ []) in let f = sum_by-cons (λ (v : IVec → Bool). one (v x)) u [] in omega (arith, e, f, both x)) b in
    let e = sum_by-cons (λ (v : IVec → Bool). tally v b) t (u ∷ []) in
    let f = sum_by-cons (λ (v : IVec → Bool). tally v b) u [] in
    let all = tally_all (λ x. true) b full (λ x h. refl) in
    omega (arith, sum, e, f, all)
