use Rattle.std.proofs.Common.{◌≡◌, Bool, rules}
use Rattle.std.specs.Ordering.{is_le}
use Rattle.std.proofs.lemmas.Fn.{always_returns_same}
use Rattle.samr_stage.specs.Label.{label_cmp}
use Rattle.samr_stage.proofs.KeptLetters.{up_to_first, front_is, rest_is}
use Rattle.samr_stage.proofs.kept.count_of.Goals as goal

pub returns-clause-front : goal.returns-clause-front
returns-clause-front g c =
    let name = g.M.Mail.name in
    let first : g.row.M.Denot → Bool = λ y. is_le (label_cmp (name y).label c.args.label) in
    let point = c.partition_point.ensures.partitioned first (always_returns_same _ (λ a r. r ≡ first a.0.now) _ (λ a r f' k. (search rules, search rules))) (up_to_first name c.args.label c.args.kept.now c.requires.rising) in
    front_is name c.args.label c.args.kept.now c.partition_point.result c.partition_point.ensures.bound c.requires.ahead point

pub returns-clause-rest : goal.returns-clause-rest
returns-clause-rest g c =
    let name = g.M.Mail.name in
    let first : g.row.M.Denot → Bool = λ y. is_le (label_cmp (name y).label c.args.label) in
    let point = c.partition_point.ensures.partitioned first (always_returns_same _ (λ a r. r ≡ first a.0.now) _ (λ a r f' k. (search rules, search rules))) (up_to_first name c.args.label c.args.kept.now c.requires.rising) in
    rest_is name c.args.label c.args.kept.now c.partition_point.result c.partition_point.ensures.bound c.requires.ahead point
