use Rattle.std.proofs.Common.{◌≡◌, refl, sym, ap, ◌∙◌, arith}
use Rattle.std.proofs.lemmas.Bool.{false≢true}
use Rattle.std.specs.Prelude.{true, false, not, ◌&&◌}
use Rattle.samr_boxlist.specs.Covers.{cover}
use Rattle.samr_boxlist.proofs.Disjointness.{none_meet, none_meet-from, NoneMeet-from, IsDisjoint-from, none_meet-empty, twice, cover-tail}
use Rattle.samr_boxlist.proofs.cover.disjoint.Goals as goal
use Rattle.samr_boxlist.proofs.cover.disjoint.Goals.{Then-meets_any, In_default}

some_meet : (c : Then-meets_any) → none_meet c.args.list.now ≡ false
some_meet c =
    c.loop-first.invariant.same ∙ ap none_meet c.in-Some.ensures.cases.0
    ∙ ap (λ t. not t && none_meet c.in-Some.others.now) (sym c.meets_any.ensures.value ∙ c.if-meets_any.true)

pub returns-then-meets_any-clause-pairs : goal.returns-then-meets_any-clause-pairs
returns-then-meets_any-clause-pairs c =
    (λ t. absurd (false≢true t), λ h. sym (some_meet c) ∙ none_meet-from c.args.list.now h)

pub returns-then-meets_any-clause-cells : goal.returns-then-meets_any-clause-cells
returns-then-meets_any-clause-cells c = (
  λ t. absurd (false≢true t),
  λ h.
      let r = c.meets_any.ensures.cell c.if-meets_any.true in
      let two = twice r.0 c.in-Some.first.now c.in-Some.others.now r.1 r.2 in
      let more = c.loop-first.invariant.less r.0 in
      let whole = ap (cover r.0) c.in-Some.ensures.cases.0 in
      let once = h r.0 in
      absurd (omega (arith, two, more, whole, once)),
)

pub loop-first-preserved : goal.loop-first-preserved
loop-first-preserved c = record {
  same =
      c.loop-first.invariant.same ∙ ap none_meet c.in-Some.ensures.cases.0
      ∙ ap (λ t. not t && none_meet c.in-Some.others.now) (sym c.meets_any.ensures.value ∙ c.if-meets_any.false);
  less = λ x.
      let more = c.loop-first.invariant.less x in
      let whole = ap (cover x) c.in-Some.ensures.cases.0 in
      let tail = cover-tail x c.in-Some.first.now c.in-Some.others.now in
      omega (arith, more, whole, tail);
}

all_seen : (c : In_default) → none_meet c.args.list.now ≡ true
all_seen c = c.loop-first.invariant.same ∙ none_meet-empty c.loop-first.rest.now c.in_default.ensures.cases

pub returns-clause-pairs : goal.returns-clause-pairs
returns-clause-pairs c = (λ t. NoneMeet-from c.args.list.now (all_seen c), λ h. refl)

pub returns-clause-cells : goal.returns-clause-cells
returns-clause-cells c = (λ t. IsDisjoint-from c.args.list.now (all_seen c), λ h. refl)
