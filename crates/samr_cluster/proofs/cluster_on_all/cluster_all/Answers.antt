use Rattle.std.proofs.Common.{◌≡◌, ◌∙◌, ap, arith, length, map, sym, []}
use Rattle.std.proofs.lemmas.List.{length-map}
use Rattle.std.proofs.lemmas.List.FromFn.{length-map-range_with_len}
use Rattle.std.specs.Prelude.{ℕ, get_or}
use Rattle.std.specs.List.{flat_map, range_with_len}
use Rattle.samr_sign.specs.Fields.{Field}
use Rattle.samr_cluster.proofs.ClusterOnAllLaws.{accepted_on_all, rounds_long}
use Rattle.samr_cluster.proofs.cluster_on_all.cluster_all.Goals as goal

pub all_accepted-requires : goal.all_accepted-requires
all_accepted-requires c =
    let w = c.requires.parts.0 in
    let h = c.requires.parts.1 in
    let same = h.same_ranks in
    let ranks : c.as_rank.result ≡ w.ranks = omega (arith, c.as_rank.ensures, same) in
    rounds_long w c.rounds_for-number.result c.as_rank.result c.as_slice.result.now (c.as_slice.ensures.value ∙ c.in_ok-rounds.ensures w h) ranks

pub edges_all-requires-clause-few : goal.edges_all-requires-clause-few
edges_all-requires-clause-few c =
    let long = ap length (c.as_slice-2.ensures.value ∙ c.in_ok-boxes.ensures) ∙ length-map c.args.fields.now (λ l. map (λ (f : Field). f.bx) l) in
    omega (arith, long, c.requires.few)

pub edges_all-requires-clause-same : goal.edges_all-requires-clause-same
edges_all-requires-clause-same c =
    let ranks : c.as_rank.result ≡ length c.args.fields.now = omega (arith, c.as_rank.ensures) in
    ap length (c.as_slice-2.ensures.value ∙ c.in_ok-boxes.ensures)
    ∙ length-map c.args.fields.now (λ l. map (λ (f : Field). f.bx) l)
    ∙ sym
    (ap length (c.as_slice-3.ensures.value ∙ c.in_ok-accepted.ensures)
    ∙ length-map-range_with_len (λ r. flat_map (λ q. get_or q r []) c.as_slice.result.now) 0 c.as_rank.result
    ∙ ranks)

pub edges_all-requires-clause-parts : goal.edges_all-requires-clause-parts
edges_all-requires-clause-parts c =
    let w = c.requires.parts.0 in
    let h = c.requires.parts.1 in
    let a = c.args in
    let ranks : c.as_rank.result ≡ length a.fields.now = omega (arith, c.as_rank.ensures) in (
      w,
      accepted_on_all a.d.now a.fields.now a.roots.now a.rule a.width a.to_level w h c.rounds_for-number.result c.rounds_for-number.ensures c.as_slice.result.now c.as_slice-2.result.now c.as_slice-3.result.now
          (c.as_slice.ensures.value ∙ c.in_ok-rounds.ensures w h) (c.as_slice-2.ensures.value ∙ c.in_ok-boxes.ensures)
          (c.as_slice-3.ensures.value ∙ c.in_ok-accepted.ensures ∙ ap (λ (n : ℕ). map (λ r. flat_map (λ q. get_or q r []) c.as_slice.result.now) (range_with_len 0 n)) ranks),
    )

pub returns-clause-len : goal.returns-clause-len
returns-clause-len c =
    c.in_ok-pairs.ensures.len ∙ ap length (c.as_slice-2.ensures.value ∙ c.in_ok-boxes.ensures) ∙ length-map c.args.fields.now (λ l. map (λ (f : Field). f.bx) l)

pub returns-clause-pairs : goal.returns-clause-pairs
returns-clause-pairs c = λ w h.
    let a = c.args in
    let ranks : c.as_rank.result ≡ length a.fields.now = omega (arith, c.as_rank.ensures) in
    c.in_ok-pairs.ensures.pairs w
    (accepted_on_all a.d.now a.fields.now a.roots.now a.rule a.width a.to_level w h c.rounds_for-number.result c.rounds_for-number.ensures c.as_slice.result.now c.as_slice-2.result.now c.as_slice-3.result.now
    (c.as_slice.ensures.value ∙ c.in_ok-rounds.ensures w h) (c.as_slice-2.ensures.value ∙ c.in_ok-boxes.ensures)
    (c.as_slice-3.ensures.value ∙ c.in_ok-accepted.ensures ∙ ap (λ (n : ℕ). map (λ r. flat_map (λ q. get_or q r []) c.as_slice.result.now) (range_with_len 0 n)) ranks))
