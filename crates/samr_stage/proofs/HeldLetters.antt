-- The letters that a rank holds at a label are all that it awaits there exactly where there are as many.
use Rattle.std.proofs.Common.{◌≡◌, ℕ, List, length, map, sym, ap, ◌∙◌, subst, Some, is_some, IsTrue, Contains}
use Rattle.std.specs.declared.cmp.Ordering.TheVariants.{Less}
use Rattle.std.proofs.lemmas.List.{length-map}
use Rattle.std.proofs.lemmas.List.Elements.{All-contains}
use Rattle.samr_stage.specs.declared.label.Label.{Label}
use Rattle.samr_stage.specs.declared.label.Name.{Name}
use Rattle.samr_stage.specs.Label.{name_cmp}
use Rattle.samr_stage.specs.LabelLaws.{name_cmp_total}
use Rattle.samr_stage.specs.Course.{Course, IsCourse, awaited}
use Rattle.samr_stage.specs.Held.{IsHeld}
use Rattle.samr_stage.proofs.Orders.{never_less}
use Rattle.samr_stage.proofs.Lists.{Contains-from_map, same_by_count}
use Rattle.samr_stage.proofs.Courses.{rising-map, rising-awaited, is_awaited}

module _ {M R B : Type 0} (run : M → R) (name : M → Name) (body : M → B) (course : R → Course B)
    (truth : (x : M) → (course (run x)).letter (name x) ≡ Some (body x)) (r : R) (on_course : IsCourse (course r)) (at : Label) (rank : ℕ) (held : List M) (is_held : IsHeld run name r at rank held) where
  -- each letter held is one that is awaited
  pub held_awaited : (n : Name) → Contains (map name held) n → Contains (awaited (course r) at rank) n
  held_awaited n c =
      let found = Contains-from_map name held n c in
      let own = All-contains (λ x. run x ≡ r) held found.0 is_held.own found.1 in
      let here = All-contains (λ x. (name x).label ≡ at) held found.0 is_held.here found.1 in
      let mine = All-contains (λ x. (name x).addressee ≡ rank) held found.0 is_held.mine found.1 in
      let HasLetter : R → Type 0 = λ s. IsTrue (is_some ((course s).letter (name found.0))) in
      let there = subst HasLetter own (ap is_some (truth found.0)) in
      let K : Label → ℕ → Type 0 = λ l k. Contains (awaited (course r) l k) (name found.0) in
      let L : Name → Type 0 = λ k. Contains (awaited (course r) at rank) k in
      let among = is_awaited (course r) (name found.0) there (on_course.sender (name found.0) there).0 in
      subst L found.2 (subst (λ k. K at k) mine (subst (λ l. K l (name found.0).addressee) here among))

  pub ready_by_count : length held ≡ length (awaited (course r) at rank) → map name held ≡ awaited (course r) at rank
  ready_by_count same =
      same_by_count (λ a b. name_cmp a b ≡ Less) (never_less name_cmp_total) name_cmp_total.trans (map name held) (awaited (course r) at rank) (rising-map name held is_held.rising) (rising-awaited (course r) at rank) held_awaited (length-map held name ∙ same)

-- and as many where they are all
pub count_by_ready : {M B : Type 0} (name : M → Name) (c : Course B) (at : Label) (rank : ℕ) (held : List M) → map name held ≡ awaited c at rank → length held ≡ length (awaited c at rank)
count_by_ready name c at rank held same = sym (length-map held name) ∙ ap length same
