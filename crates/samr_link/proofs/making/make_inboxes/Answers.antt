use Rattle.std.proofs.Common.{◌≡◌, [], ◌∷◌, ◌++◌, length, map, ap, ◌∙◌, arith}
use Rattle.std.proofs.lemmas.List.{length_push, map_push}
use Rattle.std.proofs.lemmas.List.Elements.{All-push, All-same}
use Rattle.samr_link.specs.Queue.{IsRoomy, inbox_id, IsKeeper, IsNewTake}
use Rattle.samr_link.proofs.Lending.{new_step}
use Rattle.samr_link.proofs.Zips.{zip_push}
use Rattle.samr_link.proofs.making.make_inboxes.Goals as goal

pub ranks-preserved : goal.ranks-preserved
ranks-preserved g c =
    let before = c.ranks.invariant in
    let inbox = c.in_ok-inbox.inbox in
    let made = c.in_ok-inbox.ensures in
    let lent = c.lend_taker-taker.ensures in
    let new = new_step (inbox_id inbox) c.in_ok-inbox.keeper c.lend_taker-taker.new.keeper c.lend_taker-taker.result made.fits.0 made.fresh lent.same.0 lent.same.1 lent.keeper lent.taker in
    let ids = map inbox_id c.ranks.inboxes.items in
    let pushed : map inbox_id c.push.new.self.items ≡ ids ++ inbox_id inbox ∷ [] = ap (map inbox_id) c.in_ok-push.ensures.items ∙ map_push inbox_id c.ranks.inboxes.items inbox in
    record {
      count = omega (arith, ap length c.in_ok-push.ensures.items, length_push c.ranks.inboxes.items inbox, before.count);
      roomy = All-same IsRoomy c.push.new.self.items (c.ranks.inboxes.items ++ inbox ∷ []) c.in_ok-push.ensures.items (All-push IsRoomy c.ranks.inboxes.items inbox before.roomy made.fits.1);
      keepers = rw (pushed, c.in_ok-push-2.ensures.items) (zip_push (IsKeeper 0) ids c.ranks.keepers.items (inbox_id inbox) c.lend_taker-taker.new.keeper before.keepers new.0);
      takers = rw (pushed, c.in_ok-push-3.ensures.items) (zip_push IsNewTake ids c.ranks.takers.items (inbox_id inbox) c.lend_taker-taker.result before.takers new.1);
    }
