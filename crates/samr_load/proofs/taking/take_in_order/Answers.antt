use Rattle.std.proofs.Common.{◌≡◌, arith, ◌∙◌, ◌-◌, ◌<◌, ◌≤◌, ◌^◌, ap, subst, List, ◌∷◌}
use Rattle.std.proofs.lemmas.List.Elements.{All-head, All-tail}
use Rattle.std.specs.Prelude.{All}
use Rattle.samr_load.specs.Pieces.{Placed, size_of}
use Rattle.samr_load.specs.Taking.{taking}
use Rattle.samr_load.proofs.TakeSteps.{goes_on_taken, goes_on_rest, ends_taken, ends_rest, all_taken, goes_on_cells, ends_cells, all_cells_taken}
use Rattle.samr_load.proofs.taking.take_in_order.Goals as goal

fits_here : (list : List Placed) (first : Placed) (others : List Placed) → list ≡ first ∷ others → All (λ q. size_of q < 2 ^ 63) list
    → All (λ q. size_of q < 2 ^ 63) (first ∷ others)
fits_here list first others e all = subst (λ (qs : List Placed). All (λ q. size_of q < 2 ^ 63) qs) e all

pub size-cells-requires : goal.size-cells-requires
size-cells-requires c = All-head (λ q. size_of q < 2 ^ 63) c.in-Some.first.now c.in-Some.others.now (fits_here _ _ _ c.in-Some.ensures.cases.0 c.loop-first.invariant.fits)

pub returns-then-cells-room-clause-taken : goal.returns-then-cells-room-clause-taken
returns-then-cells-room-clause-taken c =
    c.in_ok-parts.ensures.taken
    ∙ ends_taken c.args.smallest c.loop-first.room c.loop-first.taken.items (taking c.args.smallest c.args.list.now c.args.want) c.loop-first.left.now
    c.loop-first.invariant.taken c.loop-first.invariant.rest c.in-Some.first.now c.in-Some.others.now c.in-Some.ensures.cases.0
    (omega (arith, c.size-cells.ensures))

pub returns-then-cells-room-clause-rest : goal.returns-then-cells-room-clause-rest
returns-then-cells-room-clause-rest c =
    c.in_ok-parts.ensures.rest
    ∙ ends_rest c.args.smallest c.loop-first.room c.loop-first.taken.items (taking c.args.smallest c.args.list.now c.args.want) c.loop-first.left.now
    c.loop-first.invariant.taken c.loop-first.invariant.rest c.in-Some.first.now c.in-Some.others.now c.in-Some.ensures.cases.0
    (omega (arith, c.size-cells.ensures))

pub loop-first-preserved : goal.loop-first-preserved
loop-first-preserved c =
    let fits : size_of c.in-Some.first.now ≤ c.loop-first.room = omega (arith, c.size-cells.ensures) in
    record {
      taken =
          goes_on_taken c.args.smallest c.loop-first.room c.loop-first.taken.items (taking c.args.smallest c.args.list.now c.args.want) c.loop-first.left.now
          c.loop-first.invariant.taken c.loop-first.invariant.rest c.in-Some.first.now c.in-Some.others.now _ _ c.in-Some.ensures.cases.0 fits
          c.in_ok-push.ensures.items (ap (λ n. c.loop-first.room - n) c.size-cells.ensures);
      rest =
          goes_on_rest c.args.smallest c.loop-first.room c.loop-first.taken.items (taking c.args.smallest c.args.list.now c.args.want) c.loop-first.left.now
          c.loop-first.invariant.taken c.loop-first.invariant.rest c.in-Some.first.now c.in-Some.others.now _ c.in-Some.ensures.cases.0 fits
          (ap (λ n. c.loop-first.room - n) c.size-cells.ensures);
      cells =
          goes_on_cells c.args.list.now c.loop-first.taken.items _ c.loop-first.left.now c.in-Some.first.now c.in-Some.others.now
          c.loop-first.invariant.cells c.in-Some.ensures.cases.0 c.in_ok-push.ensures.items;
      fits = All-tail (λ q. size_of q < 2 ^ 63) c.in-Some.first.now c.in-Some.others.now (fits_here _ _ _ c.in-Some.ensures.cases.0 c.loop-first.invariant.fits);
    }

pub returns-clause-taken : goal.returns-clause-taken
returns-clause-taken c =
    (all_taken c.args.smallest c.loop-first.room c.loop-first.taken.items (taking c.args.smallest c.args.list.now c.args.want) c.loop-first.left.now
    c.loop-first.invariant.taken c.loop-first.invariant.rest c.in_default.ensures.cases).0

pub returns-clause-rest : goal.returns-clause-rest
returns-clause-rest c =
    c.new.ensures.items
    ∙ (all_taken c.args.smallest c.loop-first.room c.loop-first.taken.items (taking c.args.smallest c.args.list.now c.args.want) c.loop-first.left.now
    c.loop-first.invariant.taken c.loop-first.invariant.rest c.in_default.ensures.cases).1

pub returns-then-cells-room-clause-cells : goal.returns-then-cells-room-clause-cells
returns-then-cells-room-clause-cells c =
    ends_cells c.args.list.now c.loop-first.taken.items c.loop-first.left.now _ _ c.in-Some.first.now c.in-Some.others.now c.args.smallest c.loop-first.room
    c.requires.some c.loop-first.invariant.cells c.in-Some.ensures.cases.0 c.in_ok-parts.ensures.whole c.in_ok-parts.ensures.taken c.in_ok-parts.ensures.rest

pub returns-clause-cells : goal.returns-clause-cells
returns-clause-cells c =
    all_cells_taken c.args.list.now c.loop-first.taken.items c.loop-first.left.now _ c.loop-first.invariant.cells c.in_default.ensures.cases c.new.ensures.items
