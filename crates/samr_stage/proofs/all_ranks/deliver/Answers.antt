use Rattle.std.proofs.Common.{◌<◌, length, refl, ap, arith}
use Rattle.std.proofs.lemmas.Iterator.Adapters.{YieldsList-from_vec}
use Rattle.std.proofs.lemmas.Iterator.Consumers.{YieldsList-turn}
use Rattle.std.proofs.lemmas.Option.{slice_get_read}
use Rattle.samr_stage.proofs.Mailboxes.{Deliver-none, Deliver-more}
use Rattle.samr_stage.proofs.all_ranks.deliver.Goals as goal

pub each-init : goal.each-init
each-init g c = Deliver-none (λ box. box.items) c.args.sender c.args.boxes.now.items

pub each-preserved : goal.each-preserved
each-preserved g c =
    let turn = YieldsList-turn (YieldsList-from_vec c.args.letters.items (cc) (cc)) c.each.yielded c.each.to-iterator c.each.yielded_by c.next.result c.next.new.self (c.in-Some.to, c.in-Some.body) c.in-Some.is c.next.ensures.steps in
    let within : c.from.result < length c.each.boxes.items =
    omega (arith, c.requires (length c.each.yielded) (c.in-Some.to, c.in-Some.body) turn.0, ap (λ l. l.0) turn.1, c.from.ensures, c.each.invariant.same_ranks) in
    let here = slice_get_read c.each.boxes.items _ c.from.result c.index_mut.result.now refl within c.index_mut.ensures.value in
    Deliver-more (λ box. box.items) c.args.sender c.from.result c.in-Some.to c.in-Some.body c.each.yielded c.args.boxes.now.items c.each.boxes.items c.index_mut.result.now c.push.new.self c.from.ensures c.each.invariant here c.in_ok-push.ensures.items
