use Rattle.std.proofs.Common.{arith}
use Rattle.samr_sign.specs.Fields.{tagged_in}
use Rattle.samr_rounds.proofs.Searching.{node_from, first_part, second_part, after_drop, after_accept, after_split}
use Rattle.samr_rounds.proofs.clusters.+push_clusters.Goals as goal

pub push_clusters-requires : goal.push_clusters-requires
push_clusters-requires t c =
    let node = node_from c.bx.view_is c.bx.invariant c.requires.few in
    let part = first_part (tagged_in c.args.fields.now) c.args.rule.now c.args.bx c.in-Split.first c.in-Split.second _ node c.in_ok-decision_on.ensures c.in-Split.is in
    (omega (arith, part.less, c.decreases), (c.requires.apart, part.node.few))

pub push_clusters-requires-in-Split : goal.push_clusters-requires-in-Split
push_clusters-requires-in-Split t c =
    let node = node_from c.bx.view_is c.bx.invariant c.requires.few in
    let part = second_part (tagged_in c.args.fields.now) c.args.rule.now c.args.bx c.in-Split.first c.in-Split.second _ node c.in_ok-decision_on.ensures c.in-Split.is in
    (omega (arith, part.less, c.decreases), (c.requires.apart, part.node.few))

pub returns-in-Drop : goal.returns-in-Drop
returns-in-Drop t c =
    after_drop (tagged_in c.args.fields.now) c.args.rule.now c.args.bx _ c.args.out.now.items (node_from c.bx.view_is c.bx.invariant c.requires.few) c.in_ok-decision_on.ensures c.in-Drop.is

pub returns-in_ok-accept-in-Accept : goal.returns-in_ok-accept-in-Accept
returns-in_ok-accept-in-Accept t c =
    after_accept (tagged_in c.args.fields.now) c.args.rule.now c.args.bx c.in-Accept.b _ c.args.out.now.items _ (node_from c.bx.view_is c.bx.invariant c.requires.few) c.in_ok-decision_on.ensures c.in-Accept.is
    c.in_ok-accept-in-Accept.ensures

pub returns-in_ok-push_clusters-in-Split-2 : goal.returns-in_ok-push_clusters-in-Split-2
returns-in_ok-push_clusters-in-Split-2 t c =
    after_split (tagged_in c.args.fields.now) c.args.rule.now c.args.bx c.in-Split.first c.in-Split.second _ c.args.out.now.items _ _ (node_from c.bx.view_is c.bx.invariant c.requires.few) c.in_ok-decision_on.ensures c.in-Split.is
    c.in_ok-push_clusters-in-Split.ensures c.in_ok-push_clusters-in-Split-2.ensures
