use Rattle.std.proofs.Common.{sym, ◌∙◌}
use Rattle.samr_sign.specs.Fields.{tagged}
use Rattle.samr_mesh_plain.proofs.OwnTags.{not_tag, own_tag}
use Rattle.samr_mesh_plain.proofs.owners.is_own_tag.Goals as goal

pub returns-then-not-has : goal.returns-then-not-has
returns-then-not-has c = not_tag (tagged c.args.tags.now) c.args.level.now c.args.rank c.args.x (sym c.has.ensures ∙ c.if-not-has.true)

pub returns : goal.returns
returns c = own_tag (tagged c.args.tags.now) c.args.level.now c.args.rank c.args.x c.is_own.result (sym c.has.ensures ∙ c.if-not-has.false) c.is_own.ensures
