use Rattle.std.proofs.Common.{◌≡◌, ◌∙◌, rules}
use Rattle.std.specs.declared.cmp.Ordering.{Ordering}
use Rattle.std.proofs.lemmas.Fn.{always_returns_same}
use Rattle.samr_stage.specs.Label.{name_cmp}
use Rattle.samr_stage.proofs.KeptLetters.{searchable, stored_between, stored_found}
use Rattle.samr_stage.proofs.kept.store.Goals as goal

pub returns : goal.returns
returns g c =
    let name = g.M.Mail.name in
    let kept = c.args.kept.now.items in
    let order : g.row.M.Denot → Ordering = λ y. name_cmp (name y) (name c.args.letter) in
    let found = c.in-Err.ensures.position order (always_returns_same _ (λ a r. r ≡ order a.0.now) _ (λ a r f' k. (search rules, search rules))) in
    let place = rw c.deref.ensures.value at found in
    c.in_ok-insert.ensures.items ∙ stored_between name kept c.args.letter c.in-Err.place (place (searchable name kept (name c.args.letter) c.requires))

pub returns-in-Ok : goal.returns-in-Ok
returns-in-Ok g c =
    let name = g.M.Mail.name in
    let kept = c.args.kept.now.items in
    let order : g.row.M.Denot → Ordering = λ y. name_cmp (name y) (name c.args.letter) in
    let found = c.in-Ok.ensures.position order (always_returns_same _ (λ a r. r ≡ order a.0.now) _ (λ a r f' k. (search rules, search rules))) in
    let place = rw c.deref.ensures.value at found in
    let within = rw c.deref.ensures.value at c.in-Ok.ensures.bound in
    stored_found name kept c.args.letter _ c.requires within place
