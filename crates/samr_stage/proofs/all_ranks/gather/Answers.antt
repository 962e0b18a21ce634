use Rattle.std.proofs.Common.{◌<◌, ◌≤◌, length, refl, sym, ◌∙◌, arith}
use Rattle.std.proofs.lemmas.List.{length-set}
use Rattle.std.proofs.lemmas.Option.{slice_get_read}
use Rattle.samr_stage.specs.Exchange.{AreParts}
use Rattle.samr_stage.proofs.Mailboxes.{HoldHeard-none, HoldHeard-more, told_within, AreTelling-none, AreTelling-more, AreTelling-all}
use Rattle.samr_stage.proofs.all_ranks.gather.Goals as goal
use Rattle.samr_stage.proofs.all_ranks.gather.Goals.{After-index_mut}

-- the stage at hand has not told its letters
starting : (g : _) (c : After-index_mut g) (w : g.S.Stage.Whole) → AreParts g.S.Stage.starts g.S.Stage.ranks_of w c.args.stages.now.items → g.S.Stage.starts c.index_mut.result.now w c.each.sender
starting g c w parts =
    let upto : c.each.sender ≤ c.each.sender = omega arith in
    let within : c.each.sender < length c.each.stages.items = omega (arith, c.args.stages.now.ok.0) in
    (c.each.invariant.stages w parts).silent c.each.sender c.index_mut.result.now upto (slice_get_read c.each.stages.items _ c.each.sender c.index_mut.result.now refl within c.index_mut.ensures.value)

pub each-init : goal.each-init
each-init g c = record {
  same_stages = refl;
  same_boxes = c.in_ok-boxes.ensures.len ∙ c.len.ensures ∙ c.args.stages.now.ok.0;
  stages = λ w parts. AreTelling-none g.S.Stage.starts g.S.Stage.waits g.S.Stage.ranks_of w c.args.stages.now.items parts;
  boxes = λ w parts. HoldHeard-none (λ box. box.items) (g.S.Stage.says w) c.in_ok-boxes.boxes.items c.in_ok-boxes.ensures.empty;
}

pub letters-requires : goal.letters-requires
letters-requires g c = (c.requires.parts.0, c.each.sender, starting g c c.requires.parts.0 c.requires.parts.1)

pub deliver-requires : goal.deliver-requires
deliver-requires g c =
    let w = c.requires.parts.0 in
    let parts = c.requires.parts.1 in
    let here = starting g (goal.at.deliver-requires g c).After-index_mut w parts in
    told_within (g.S.Stage.says w c.each.sender) (g.S.Stage.ranks_of w) (length c.each.boxes.items) c.in_ok-letters.letters.items (parts.same_ranks ∙ sym c.each.invariant.same_boxes) (c.in_ok-letters.ensures.letters w c.each.sender here)

pub each-preserved : goal.each-preserved
each-preserved g c =
    let before = c.each.invariant in
    let here = starting g (goal.at.each-preserved g c).After-index_mut in
    record {
      same_stages = length-set c.each.stages.items c.each.sender c.letters.new.self ∙ before.same_stages;
      same_boxes = c.in_ok-deliver.ensures.same_ranks ∙ before.same_boxes;
      stages = λ w parts. AreTelling-more g.S.Stage.starts g.S.Stage.waits g.S.Stage.ranks_of w c.each.sender c.each.stages.items c.letters.new.self (before.stages w parts) (c.in_ok-letters.ensures.waits w c.each.sender (here w parts));
      boxes = λ w parts. HoldHeard-more (λ box. box.items) (g.S.Stage.says w) (g.S.Stage.ranks_of w) c.each.sender c.in_ok-letters.letters.items c.each.boxes.items c.deliver.new.boxes.items (before.same_boxes ∙ sym parts.same_ranks) (c.in_ok-letters.ensures.letters w c.each.sender (here w parts)) (before.boxes w parts) c.in_ok-deliver.ensures;
    }

pub returns-clause-stages : goal.returns-clause-stages
returns-clause-stages g c = λ w parts.
    let upto : length c.args.stages.now.items ≤ c.each.sender = omega (arith, c.args.stages.now.ok.0) in
    AreTelling-all g.S.Stage.starts g.S.Stage.waits g.S.Stage.ranks_of w c.args.stages.now.items c.each.stages.items c.each.sender parts c.each.invariant.same_stages upto (c.each.invariant.stages w parts)
