-- What a rank was told are nodes, so their cells can be counted.
use Rattle.std.proofs.Common.{ℕ, zero, suc, ◌<◌, ◌^◌, sym, subst, filter}
use Rattle.std.specs.Prelude.{Bool, List}
use Rattle.std.specs.List.{All}
use Rattle.samr_box.specs.declared.vector.IVec.{IVec}
use Rattle.samr_box.specs.Corners.{Corners, cells_of}
use Rattle.samr_box.specs.Space.{Space}
use Rattle.samr_box.proofs.Members.{Member-from_map, Member-from_filter, Member-from_flat_map, All-from_members}
use Rattle.samr_sign.specs.declared.rule.CutRule.{CutRule}
use Rattle.samr_sign.specs.Fields.{Field}
use Rattle.samr_rounds.specs.Rounds.{told, directed}
use Rattle.samr_rounds.specs.Laws.{AreNodes}
use Rattle.samr_rounds.proofs.Open.{below_nodes}
use Rattle.samr_cluster.specs.declared.nodes.Told.{Told}
use Rattle.samr_cluster.specs.Cluster.{IsClustering, near}
use Rattle.samr_cluster.specs.Rounds.{Round, told_of, directors, from_director, told_state}
use Rattle.samr_cluster.specs.ReportParts.{HasTold}
use Rattle.samr_cluster.proofs.DecideLaws.{directed_nodes, directors_below}

told_nodes : (test : Corners → Bool) (t : IVec → Bool) (rule : CutRule) (roots : List Corners) → AreNodes roots → (q : ℕ) → AreNodes (told test t rule roots q)
unfolding told
told_nodes test t rule roots h zero = h
told_nodes test t rule roots h (suc q) = below_nodes t rule (filter test (told test t rule roots q)) (λ b m. told_nodes test t rule roots h q b (Member-from_filter test b (told test t rule roots q) m).0)

pub told_few : (x : Round) → IsClustering x.whole → (r : ℕ) → r < x.whole.ranks → All (λ (t : Told). cells_of t.node < 2 ^ 63) (told_state x r)
unfolding told_state
told_few x is r less =
    All-from_members (λ (t : Told). cells_of t.node < 2 ^ 63) (told_state x r)
    (λ t m.
    let s = Member-from_flat_map (λ d. from_director d (told_of x d r)) t (directors x.whole r) m in
    let b = Member-from_map (λ b. let v : Told = record { director = s.0; node = b } in v) t (told_of x s.0 r) s.2 in
    let node = told_nodes (λ b. near x.whole r b) x.whole.tags x.whole.rule (directed x.whole.ranks s.0 x.whole.roots) (directed_nodes x is s.0 (directors_below x is r s.0 less s.1)) x.number b.0 b.1 in
    subst (λ (v : Told). cells_of v.node < 2 ^ 63) (sym b.2) node.few)

pub has_few : (rank : ℕ) (frame : Space) (fields : List Field) (nodes : List Told) (directed : _) (width ratio : IVec) (x : Round) (r : ℕ) → HasTold rank frame fields nodes directed width ratio x r
    → All (λ (t : Told). cells_of t.node < 2 ^ 63) nodes
has_few rank frame fields nodes directed width ratio x r h = subst (λ l. All (λ (t : Told). cells_of t.node < 2 ^ 63) l) (sym h.same_told) (told_few x h.is r h.within)
