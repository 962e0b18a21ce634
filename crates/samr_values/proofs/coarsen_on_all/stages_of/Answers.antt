use Rattle.std.proofs.Common.{◌≡◌, ◌<◌, ◌∙◌, sym, ap, arith, length, get_or, ℕ}
use Rattle.std.proofs.lemmas.Iterator.Adapters.{YieldsList-from_vec}
use Rattle.std.proofs.lemmas.Iterator.Consumers.{YieldsList-turn, YieldsList-end}
use Rattle.std.proofs.lemmas.List.{map-id, length_push}
use Rattle.samr_values.specs.CoarsenParts.{HasMerged}
use Rattle.samr_values.proofs.CoarsenOnAllLaws.{each_more, its_own, has_same, has_some, has_fields, has_step, has_based, has_refinements}
use Rattle.samr_values.proofs.coarsen_on_all.stages_of.Goals as goal

pub start-requires-clause-same : goal.start-requires-clause-same
start-requires-clause-same c =
    let w = c.requires.parts.0 in
    let h = c.requires.parts.1 in
    let at = YieldsList-turn (YieldsList-from_vec c.args.coarse.items (cc) (cc)) c.each.yielded c.each.patches-iterator c.each.yielded_by c.next.result c.next.new.self c.in-Some.patches c.in-Some.is c.next.ensures.steps in
    let below = at.0 in
    let all = h.coarse_ranks in
    let within : c.each.rank < w.ranks = omega (arith, below, all, c.each.invariant.1) in
    let mine : c.in-Some.patches ≡ get_or c.args.coarse.items c.each.rank c.in-Some.patches = at.1 ∙ ap (λ (k : ℕ). get_or c.args.coarse.items k c.in-Some.patches) c.each.invariant.1 in
    let ranks : c.len-ranks.result ≡ w.ranks = omega (arith, c.len-ranks.ensures, c.args.coarse.ok.0, all) in
    has_same c.each.rank c.len-ranks.result c.index-pairs-place.result c.as_slice-over.result.now c.in-Some.patches c.args.rules.now c.args.moduli.now w c.each.rank
    (its_own c.args.pairs.now c.args.fine.now c.args.coarse.items c.args.rules.now c.args.moduli.now w h c.each.rank c.len-ranks.result c.from-place.result
    c.index-pairs-place.result c.index-fine-place.result c.as_slice-over.result.now c.in-Some.patches within ranks c.from-place.ensures c.index-pairs-place.is
    c.index-fine-place.is c.as_slice-over.ensures mine)

pub start-requires-clause-some : goal.start-requires-clause-some
start-requires-clause-some c =
    let w = c.requires.parts.0 in
    let h = c.requires.parts.1 in
    let at = YieldsList-turn (YieldsList-from_vec c.args.coarse.items (cc) (cc)) c.each.yielded c.each.patches-iterator c.each.yielded_by c.next.result c.next.new.self c.in-Some.patches c.in-Some.is c.next.ensures.steps in
    let below = at.0 in
    let all = h.coarse_ranks in
    let within : c.each.rank < w.ranks = omega (arith, below, all, c.each.invariant.1) in
    let mine : c.in-Some.patches ≡ get_or c.args.coarse.items c.each.rank c.in-Some.patches = at.1 ∙ ap (λ (k : ℕ). get_or c.args.coarse.items k c.in-Some.patches) c.each.invariant.1 in
    let ranks : c.len-ranks.result ≡ w.ranks = omega (arith, c.len-ranks.ensures, c.args.coarse.ok.0, all) in
    has_some c.each.rank c.len-ranks.result c.index-pairs-place.result c.as_slice-over.result.now c.in-Some.patches c.args.rules.now c.args.moduli.now w c.each.rank
    (its_own c.args.pairs.now c.args.fine.now c.args.coarse.items c.args.rules.now c.args.moduli.now w h c.each.rank c.len-ranks.result c.from-place.result
    c.index-pairs-place.result c.index-fine-place.result c.as_slice-over.result.now c.in-Some.patches within ranks c.from-place.ensures c.index-pairs-place.is
    c.index-fine-place.is c.as_slice-over.ensures mine)

pub start-requires-clause-fields : goal.start-requires-clause-fields
start-requires-clause-fields c =
    let w = c.requires.parts.0 in
    let h = c.requires.parts.1 in
    let at = YieldsList-turn (YieldsList-from_vec c.args.coarse.items (cc) (cc)) c.each.yielded c.each.patches-iterator c.each.yielded_by c.next.result c.next.new.self c.in-Some.patches c.in-Some.is c.next.ensures.steps in
    let below = at.0 in
    let all = h.coarse_ranks in
    let within : c.each.rank < w.ranks = omega (arith, below, all, c.each.invariant.1) in
    let mine : c.in-Some.patches ≡ get_or c.args.coarse.items c.each.rank c.in-Some.patches = at.1 ∙ ap (λ (k : ℕ). get_or c.args.coarse.items k c.in-Some.patches) c.each.invariant.1 in
    let ranks : c.len-ranks.result ≡ w.ranks = omega (arith, c.len-ranks.ensures, c.args.coarse.ok.0, all) in
    has_fields c.each.rank c.len-ranks.result c.index-pairs-place.result c.as_slice-over.result.now c.in-Some.patches c.args.rules.now c.args.moduli.now w c.each.rank
    (its_own c.args.pairs.now c.args.fine.now c.args.coarse.items c.args.rules.now c.args.moduli.now w h c.each.rank c.len-ranks.result c.from-place.result
    c.index-pairs-place.result c.index-fine-place.result c.as_slice-over.result.now c.in-Some.patches within ranks c.from-place.ensures c.index-pairs-place.is
    c.index-fine-place.is c.as_slice-over.ensures mine)

pub start-requires-clause-step : goal.start-requires-clause-step
start-requires-clause-step c =
    let w = c.requires.parts.0 in
    let h = c.requires.parts.1 in
    let at = YieldsList-turn (YieldsList-from_vec c.args.coarse.items (cc) (cc)) c.each.yielded c.each.patches-iterator c.each.yielded_by c.next.result c.next.new.self c.in-Some.patches c.in-Some.is c.next.ensures.steps in
    let below = at.0 in
    let all = h.coarse_ranks in
    let within : c.each.rank < w.ranks = omega (arith, below, all, c.each.invariant.1) in
    let mine : c.in-Some.patches ≡ get_or c.args.coarse.items c.each.rank c.in-Some.patches = at.1 ∙ ap (λ (k : ℕ). get_or c.args.coarse.items k c.in-Some.patches) c.each.invariant.1 in
    let ranks : c.len-ranks.result ≡ w.ranks = omega (arith, c.len-ranks.ensures, c.args.coarse.ok.0, all) in
    has_step c.each.rank c.len-ranks.result c.index-pairs-place.result c.as_slice-over.result.now c.in-Some.patches c.args.rules.now c.args.moduli.now w c.each.rank
    (its_own c.args.pairs.now c.args.fine.now c.args.coarse.items c.args.rules.now c.args.moduli.now w h c.each.rank c.len-ranks.result c.from-place.result
    c.index-pairs-place.result c.index-fine-place.result c.as_slice-over.result.now c.in-Some.patches within ranks c.from-place.ensures c.index-pairs-place.is
    c.index-fine-place.is c.as_slice-over.ensures mine)

pub start-requires-clause-based : goal.start-requires-clause-based
start-requires-clause-based c =
    let w = c.requires.parts.0 in
    let h = c.requires.parts.1 in
    let at = YieldsList-turn (YieldsList-from_vec c.args.coarse.items (cc) (cc)) c.each.yielded c.each.patches-iterator c.each.yielded_by c.next.result c.next.new.self c.in-Some.patches c.in-Some.is c.next.ensures.steps in
    let below = at.0 in
    let all = h.coarse_ranks in
    let within : c.each.rank < w.ranks = omega (arith, below, all, c.each.invariant.1) in
    let mine : c.in-Some.patches ≡ get_or c.args.coarse.items c.each.rank c.in-Some.patches = at.1 ∙ ap (λ (k : ℕ). get_or c.args.coarse.items k c.in-Some.patches) c.each.invariant.1 in
    let ranks : c.len-ranks.result ≡ w.ranks = omega (arith, c.len-ranks.ensures, c.args.coarse.ok.0, all) in
    has_based c.each.rank c.len-ranks.result c.index-pairs-place.result c.as_slice-over.result.now c.in-Some.patches c.args.rules.now c.args.moduli.now w c.each.rank
    (its_own c.args.pairs.now c.args.fine.now c.args.coarse.items c.args.rules.now c.args.moduli.now w h c.each.rank c.len-ranks.result c.from-place.result
    c.index-pairs-place.result c.index-fine-place.result c.as_slice-over.result.now c.in-Some.patches within ranks c.from-place.ensures c.index-pairs-place.is
    c.index-fine-place.is c.as_slice-over.ensures mine)

pub start-requires-clause-refinements : goal.start-requires-clause-refinements
start-requires-clause-refinements c =
    let w = c.requires.parts.0 in
    let h = c.requires.parts.1 in
    let at = YieldsList-turn (YieldsList-from_vec c.args.coarse.items (cc) (cc)) c.each.yielded c.each.patches-iterator c.each.yielded_by c.next.result c.next.new.self c.in-Some.patches c.in-Some.is c.next.ensures.steps in
    let below = at.0 in
    let all = h.coarse_ranks in
    let within : c.each.rank < w.ranks = omega (arith, below, all, c.each.invariant.1) in
    let mine : c.in-Some.patches ≡ get_or c.args.coarse.items c.each.rank c.in-Some.patches = at.1 ∙ ap (λ (k : ℕ). get_or c.args.coarse.items k c.in-Some.patches) c.each.invariant.1 in
    let ranks : c.len-ranks.result ≡ w.ranks = omega (arith, c.len-ranks.ensures, c.args.coarse.ok.0, all) in
    has_refinements c.each.rank c.len-ranks.result c.index-pairs-place.result c.as_slice-over.result.now c.in-Some.patches c.args.rules.now c.args.moduli.now w c.each.rank
    (its_own c.args.pairs.now c.args.fine.now c.args.coarse.items c.args.rules.now c.args.moduli.now w h c.each.rank c.len-ranks.result c.from-place.result
    c.index-pairs-place.result c.index-fine-place.result c.as_slice-over.result.now c.in-Some.patches within ranks c.from-place.ensures c.index-pairs-place.is
    c.index-fine-place.is c.as_slice-over.ensures mine)

pub each-preserved : goal.each-preserved
each-preserved c =
    let before = c.each.invariant in
    let at = YieldsList-turn (YieldsList-from_vec c.args.coarse.items (cc) (cc)) c.each.yielded c.each.patches-iterator c.each.yielded_by c.next.result c.next.new.self c.in-Some.patches c.in-Some.is c.next.ensures.steps in
    let below = at.0 in
    let more = length_push c.each.yielded c.in-Some.patches in (
      omega (arith, c.in_ok-push.ensures.len, before.0),
      omega (arith, more, before.1),
      λ w h.
          let rank = c.each.rank in
          let all = h.coarse_ranks in
          let within : rank < w.ranks = omega (arith, below, all, before.1) in
          let mine : c.in-Some.patches ≡ get_or c.args.coarse.items rank c.in-Some.patches = at.1 ∙ ap (λ (k : ℕ). get_or c.args.coarse.items k c.in-Some.patches) before.1 in
          let ranks : c.len-ranks.result ≡ w.ranks = omega (arith, c.len-ranks.ensures, c.args.coarse.ok.0, all) in
          let has = its_own c.args.pairs.now c.args.fine.now c.args.coarse.items c.args.rules.now c.args.moduli.now w h rank c.len-ranks.result c.from-place.result
          c.index-pairs-place.result c.index-fine-place.result c.as_slice-over.result.now c.in-Some.patches within ranks c.from-place.ensures c.index-pairs-place.is
          c.index-fine-place.is c.as_slice-over.ensures mine in
          each_more (λ k s. HasMerged s.letters.items s.own.items s.senders.items s.coarse w k)
          c.each.stages.items c.push.new.self.items rank c.in_ok-stage.stage before.0 (before.2 w h) (c.in_ok-stage.ensures w rank has) c.in_ok-push.ensures.items,
    )

pub returns : goal.returns
returns c = λ w h.
    let end = YieldsList-end (YieldsList-from_vec c.args.coarse.items (cc) (cc)) c.each.yielded c.each.patches-iterator c.each.yielded_by c.next.result c.next.new.self c.in-None.is c.next.ensures.steps in
    let whole = ap length (sym (map-id c.each.yielded) ∙ end.0) in
    let count = h.coarse_ranks in
    let done = c.each.invariant in
    record { count = omega (arith, whole, count, done.0, done.1); each = done.2 w h }
