-- The rounds: what they open, what they take, and what a rank is told of them.
use Rattle.std.proofs.Common.{◌≡◌, ℕ, zero, suc, ◌+◌, ◌<◌, ◌≤◌, Bool, true, false, List, [], ◌∷◌, ◌++◌, refl, sym, ap, subst, ◌∙◌, inl, inr, arith}
use Rattle.std.proofs.lemmas.Bool.{cond-true, cond-false, false≢true}
use Rattle.std.proofs.lemmas.List.Elements.{filter-append}
use Rattle.std.proofs.lemmas.List.Sums.{sum_by-cons}
use Rattle.std.specs.Prelude.{filter, ◌↔◌, sum_by}
use Rattle.std.specs.List.{flat_map}
use Rattle.samr_box.specs.declared.vector.IVec.{IVec}
use Rattle.samr_box.specs.Corners.{Corners}
use Rattle.samr_box.specs.Lists.{Member}
use Rattle.samr_box.proofs.Members.{Member-append_left, Member-append_right, Member-from_append, Member-flat_map, Member-from_flat_map}
use Rattle.samr_sign.specs.declared.rule.CutRule.{CutRule}
use Rattle.samr_sign.specs.Laws.{depth}
use Rattle.samr_rounds.specs.Clusters.{accepted, parts, decided, cut_up, clusters_in, clusters}
use Rattle.samr_rounds.specs.Sorted.{sorted, corner_less}
use Rattle.samr_rounds.specs.Rounds.{below, accepted_of, opened, taken, told}
use Rattle.samr_rounds.specs.Laws.{IsNode, AreNodes}
use Rattle.samr_rounds.proofs.Sorting.{Member-sorted, Member-from_sorted, filter-sorted, corner_ranks}
use Rattle.samr_rounds.proofs.Nodes.{part_is, depth_some}

-- a round later is a round of the parts
pub opened_front : (t : IVec → Bool) (rule : CutRule) (nodes : List Corners) (q : ℕ) → opened t rule nodes (suc q) ≡ opened t rule (below t rule nodes) q
unfolding opened
opened_front t rule nodes zero = refl
opened_front t rule nodes (suc q) = ap (below t rule) (opened_front t rule nodes q)

pub taken_front : (t : IVec → Bool) (rule : CutRule) (nodes : List Corners) (q : ℕ) → taken t rule nodes (suc q) ≡ taken t rule (below t rule nodes) q
unfolding taken
taken_front t rule nodes q = ap (accepted_of t rule) (opened_front t rule nodes q)

pub Member-below : (t : IVec → Bool) (rule : CutRule) (b p : Corners) (nodes : List Corners) → Member b nodes → Member p (parts (decided t rule b)) → Member p (below t rule nodes)
unfolding below
Member-below t rule b p nodes m n =
    Member-sorted corner_less p (flat_map (λ v. parts (decided t rule v)) nodes) (Member-flat_map (λ v. parts (decided t rule v)) p b nodes m n)

pub Member-from_below : (t : IVec → Bool) (rule : CutRule) (p : Corners) (nodes : List Corners) → Member p (below t rule nodes) → (b : Corners) × Member b nodes × Member p (parts (decided t rule b))
unfolding below
Member-from_below t rule p nodes m =
    Member-from_flat_map (λ v. parts (decided t rule v)) p nodes (Member-from_sorted corner_less p (flat_map (λ v. parts (decided t rule v)) nodes) m)

pub below_nodes : (t : IVec → Bool) (rule : CutRule) (nodes : List Corners) → AreNodes nodes → AreNodes (below t rule nodes)
below_nodes t rule nodes h p m = let r = Member-from_below t rule p nodes m in (part_is t rule r.0 p (h r.0 r.1) r.2).node

pub opened_nodes : (t : IVec → Bool) (rule : CutRule) (roots : List Corners) (q : ℕ) → AreNodes roots → AreNodes (opened t rule roots q)
unfolding opened
opened_nodes t rule roots zero h = h
opened_nodes t rule roots (suc q) h = below_nodes t rule (opened t rule roots q) (opened_nodes t rule roots q h)

-- nothing is open in the end
no_nodes : (nodes : List Corners) → AreNodes nodes → ((b : Corners) → Member b nodes → depth b ≤ 0) → nodes ≡ []
no_nodes [] h small = refl
no_nodes (b ∷ nodes) h small = absurd (omega (arith, small b (inl refl), depth_some b (h b (inl refl))))

opened_first : (t : IVec → Bool) (rule : CutRule) (nodes : List Corners) → opened t rule nodes zero ≡ nodes
unfolding opened
opened_first t rule nodes = refl

pub rounds_end : (t : IVec → Bool) (rule : CutRule) (n : ℕ) (roots : List Corners) → AreNodes roots → ((b : Corners) → Member b roots → depth b ≤ n) → opened t rule roots n ≡ []
rounds_end t rule zero roots h small = opened_first t rule roots ∙ no_nodes roots h small
rounds_end t rule (suc n) roots h small =
    opened_front t rule roots n
    ∙ rounds_end t rule n (below t rule roots) (below_nodes t rule roots h)
    (λ p m. let r = Member-from_below t rule p roots m in omega (arith, (part_is t rule r.0 p (h r.0 r.1) r.2).less, small r.0 r.1))

-- a cluster is taken in some round
in_round : (t : IVec → Bool) (rule : CutRule) (c : Corners) (n : ℕ) (nodes : List Corners) → Member c (flat_map (λ b. cut_up t rule n b) nodes) → (q : ℕ) × Member c (taken t rule nodes q)
unfolding cut_up taken opened accepted_of
in_round t rule c zero nodes m = let r = Member-from_flat_map (λ b. cut_up t rule zero b) c nodes m in absurd r.2
in_round t rule c (suc n) nodes m =
    let r = Member-from_flat_map (λ b. cut_up t rule (suc n) b) c nodes m in
    elim (Member-from_append c (accepted (decided t rule r.0)) (flat_map (λ p. cut_up t rule n p) (parts (decided t rule r.0))) r.2) [
      | inl here ↦ (0, Member-flat_map (λ b. accepted (decided t rule b)) c r.0 nodes r.1 here)
      | inr later ↦
          let s = Member-from_flat_map (λ p. cut_up t rule n p) c (parts (decided t rule r.0)) later in
          let deeper = Member-flat_map (λ p. cut_up t rule n p) c s.0 (below t rule nodes) (Member-below t rule r.0 s.0 nodes r.1 s.1) s.2 in
          let q = in_round t rule c n (below t rule nodes) deeper in
          (suc q.0, subst (λ l. Member c l) (sym (taken_front t rule nodes q.0)) q.1)
    ]

from_round : (t : IVec → Bool) (rule : CutRule) (c : Corners) (q n : ℕ) (nodes : List Corners) → q < n → Member c (taken t rule nodes q) → Member c (flat_map (λ b. cut_up t rule n b) nodes)
unfolding cut_up taken opened accepted_of
from_round t rule c zero zero nodes less m = absurd (omega (arith, less))
from_round t rule c (suc q) zero nodes less m = absurd (omega (arith, less))
from_round t rule c zero (suc n) nodes less m =
    let r = Member-from_flat_map (λ b. accepted (decided t rule b)) c nodes m in
    Member-flat_map (λ b. cut_up t rule (suc n) b) c r.0 nodes r.1
    (Member-append_left c (accepted (decided t rule r.0)) (flat_map (λ p. cut_up t rule n p) (parts (decided t rule r.0))) r.2)
from_round t rule c (suc q) (suc n) nodes less m =
    let deeper = from_round t rule c q n (below t rule nodes) (omega (arith, less)) (subst (λ l. Member c l) (taken_front t rule nodes q) m) in
    let s = Member-from_flat_map (λ p. cut_up t rule n p) c (below t rule nodes) deeper in
    let r = Member-from_below t rule s.0 nodes s.1 in
    Member-flat_map (λ b. cut_up t rule (suc n) b) c r.0 nodes r.1
    (Member-append_right c (accepted (decided t rule r.0)) (flat_map (λ p. cut_up t rule n p) (parts (decided t rule r.0)))
    (Member-flat_map (λ p. cut_up t rule n p) c s.0 (parts (decided t rule r.0)) r.2 s.2))

-- more cuts than the depth change nothing
flat_same : (f g : Corners → List Corners) (list : List Corners) → ((p : Corners) → Member p list → f p ≡ g p) → flat_map f list ≡ flat_map g list
flat_same f g [] each = refl
flat_same f g (p ∷ list) each = ap (λ l. l ++ flat_map f list) (each p (inl refl)) ∙ ap (λ l. g p ++ l) (flat_same f g list (λ q m. each q (inr m)))

cuts_same : (t : IVec → Bool) (rule : CutRule) (m n : ℕ) (b : Corners) → IsNode b → depth b ≤ m → depth b ≤ n → cut_up t rule m b ≡ cut_up t rule n b
unfolding cut_up
cuts_same t rule zero n b h p q = absurd (omega (arith, p, depth_some b h))
cuts_same t rule (suc m) zero b h p q = absurd (omega (arith, q, depth_some b h))
cuts_same t rule (suc m) (suc n) b h p q =
    ap (λ l. accepted (decided t rule b) ++ l)
    (flat_same (λ v. cut_up t rule m v) (λ v. cut_up t rule n v) (parts (decided t rule b))
    (λ v k. let is = part_is t rule b v h k in cuts_same t rule m n v is.node (omega (arith, is.less, p)) (omega (arith, is.less, q))))

pub cuts_end : (t : IVec → Bool) (rule : CutRule) (b : Corners) (n : ℕ) → IsNode b → depth b ≤ n → cut_up t rule n b ≡ clusters_in t rule b
unfolding clusters_in
cuts_end t rule b n h p = cuts_same t rule n (depth b) b h p (omega arith)

one_step : (t : IVec → Bool) (rule : CutRule) (b : Corners) (n : ℕ) → IsNode b → depth b ≤ n
    → cut_up t rule (suc n) b ≡ accepted (decided t rule b) ++ flat_map (λ p. clusters_in t rule p) (parts (decided t rule b))
unfolding cut_up
one_step t rule b n h less =
    ap (λ l. accepted (decided t rule b) ++ l)
    (flat_same (λ p. cut_up t rule n p) (λ p. clusters_in t rule p) (parts (decided t rule b))
    (λ p m. let is = part_is t rule b p h m in cuts_end t rule p n is.node (omega (arith, is.less, less))))

-- the clusters of a box are what is accepted of it and the clusters of its parts
pub clusters_step : (t : IVec → Bool) (rule : CutRule) (b : Corners) → IsNode b → clusters_in t rule b ≡ accepted (decided t rule b) ++ flat_map (λ p. clusters_in t rule p) (parts (decided t rule b))
clusters_step t rule b h = sym (cuts_end t rule b (suc (depth b)) h (omega arith)) ∙ one_step t rule b (depth b) h (omega arith)

depth_among : (b : Corners) (roots : List Corners) → Member b roots → depth b ≤ sum_by depth roots
depth_among b [] m = absurd m
depth_among b (r ∷ roots) (inl e) = omega (arith, sum_by-cons depth r roots, ap depth e)
depth_among b (r ∷ roots) (inr m) = omega (arith, sum_by-cons depth r roots, depth_among b roots m)

pub taken_clusters : (t : IVec → Bool) (rule : CutRule) (roots : List Corners) (c : Corners) → AreNodes roots → Member c (clusters t rule roots) ↔ ((q : ℕ) × Member c (taken t rule roots q))
unfolding clusters clusters_in
taken_clusters t rule roots c h = (
  λ m.
      let r = Member-from_flat_map (λ b. cut_up t rule (depth b) b) c roots m in
      in_round t rule c (depth r.0) roots (Member-flat_map (λ b. cut_up t rule (depth r.0) b) c r.0 roots r.1 r.2),
  λ s.
      let n = suc s.0 + sum_by depth roots in
      let r = Member-from_flat_map (λ b. cut_up t rule n b) c roots (from_round t rule c s.0 n roots (omega arith) s.1) in
      Member-flat_map (λ b. cut_up t rule (depth b) b) c r.0 roots r.1
      (subst (λ l. Member c l) (cuts_same t rule n (depth r.0) r.0 (h r.0 r.1) (omega (arith, depth_among r.0 roots r.1)) (omega arith)) r.2),
)

-- what a rank is told
filter_none : (near : Corners → Bool) (list : List Corners) → ((p : Corners) → Member p list → near p ≡ true → ⊥) → filter near list ≡ []
filter_none near [] none = refl
filter_none near (p ∷ list) none = by_test (near p) refl (filter_none near list (λ q m. none q (inr m)))
  where
    by_test : (v : Bool) → near p ≡ v → filter near list ≡ [] → filter near (p ∷ list) ≡ []
    by_test true e rest = absurd (none p (inl refl) e)
    by_test false e rest = cond-false (near p) (p ∷ filter near list) (filter near list) e ∙ rest

abbrev pub GoesDown : (Corners → Bool) → (IVec → Bool) → CutRule → Type 0
GoesDown near t rule = (b p : Corners) → IsNode b → Member p (parts (decided t rule b)) → near p ≡ true → near b ≡ true

abbrev parts_of : (IVec → Bool) → CutRule → List Corners → List Corners
parts_of t rule nodes = flat_map (λ c. parts (decided t rule c)) nodes

filter_step : (near : Corners → Bool) (t : IVec → Bool) (rule : CutRule) (b : Corners) (nodes : List Corners) (v : Bool) → near b ≡ v → IsNode b → GoesDown near t rule
    → filter near (parts_of t rule (filter near nodes)) ≡ filter near (parts_of t rule nodes)
    → filter near (parts_of t rule (filter near (b ∷ nodes))) ≡ filter near (parts_of t rule (b ∷ nodes))
filter_step near t rule b nodes true e h down rest =
    ap (λ l. filter near (parts_of t rule l)) (cond-true (near b) (b ∷ filter near nodes) (filter near nodes) e)
    ∙ filter-append near (parts (decided t rule b)) (parts_of t rule (filter near nodes))
    ∙ ap (λ l. filter near (parts (decided t rule b)) ++ l) rest
    ∙ sym (filter-append near (parts (decided t rule b)) (parts_of t rule nodes))
filter_step near t rule b nodes false e h down rest =
    ap (λ l. filter near (parts_of t rule l)) (cond-false (near b) (b ∷ filter near nodes) (filter near nodes) e)
    ∙ rest
    ∙ sym (filter-append near (parts (decided t rule b)) (parts_of t rule nodes)
    ∙ ap (λ l. l ++ filter near (parts_of t rule nodes)) (filter_none near (parts (decided t rule b)) (λ p m n. false≢true (sym e ∙ down b p h m n))))

filter_flat : (near : Corners → Bool) (t : IVec → Bool) (rule : CutRule) (nodes : List Corners) → AreNodes nodes → GoesDown near t rule
    → filter near (parts_of t rule (filter near nodes)) ≡ filter near (parts_of t rule nodes)
filter_flat near t rule [] h down = refl
filter_flat near t rule (b ∷ nodes) h down =
    filter_step near t rule b nodes (near b) refl (h b (inl refl)) down (filter_flat near t rule nodes (λ c m. h c (inr m)) down)

filter_parts : (near : Corners → Bool) (t : IVec → Bool) (rule : CutRule) (nodes : List Corners) → AreNodes nodes → GoesDown near t rule
    → filter near (below t rule (filter near nodes)) ≡ filter near (below t rule nodes)
unfolding below
filter_parts near t rule nodes h down =
    filter-sorted corner_less (corner_ranks (λ b. b)) near (parts_of t rule (filter near nodes))
    ∙ ap (sorted corner_less) (filter_flat near t rule nodes h down)
    ∙ sym (filter-sorted corner_less (corner_ranks (λ b. b)) near (parts_of t rule nodes))

pub told_is : (near : Corners → Bool) (t : IVec → Bool) (rule : CutRule) (roots : List Corners) (q : ℕ) → AreNodes roots → GoesDown near t rule
    → filter near (told near t rule roots q) ≡ filter near (opened t rule roots q)
unfolding told opened
told_is near t rule roots zero h down = refl
told_is near t rule roots (suc q) h down =
    ap (λ l. filter near (below t rule l)) (told_is near t rule roots q h down)
    ∙ filter_parts near t rule (opened t rule roots q) (opened_nodes t rule roots q h) down
