use Rattle.std.proofs.Common.{◌≡◌, ◌<◌, ℕ, List, length, get_or, set, sym, ap, ◌∙◌, subst, ⊎_elim, arith, All, false}
use Rattle.std.proofs.lemmas.Bool.{cases_lt, false≢true}
use Rattle.std.proofs.lemmas.List.{length-set, set-set, get_or-set_same, get_or-set_other}
use Rattle.std.proofs.lemmas.List.Elements.{All-set}
use Rattle.samr_drive.specs.Slots.{Trio}
use Rattle.samr_drive.specs.Standing.{SlotOk, IsFit, IsAway}
use Rattle.samr_drive.specs.declared.slot.Slot.{Slot}
use Rattle.samr_drive.proofs.Trios.{trio_set}
use Rattle.samr_drive.proofs.kept.turn_all.Goals as goal
use Rattle.samr_drive.proofs.kept.turn_all.Goals.{then-left, else-left}

pub slots-preserved : goal.slots-preserved
slots-preserved g c =
    let p = g.P.Program in
    let m = g.P.Mail.Mail in
    let w = g.L.Link in
    let S : Type 0 = Slot g.row.P.Denot g.row.L.Denot g.row.P-Mail.Denot g.row.P-Mail-Run.Denot in
    let old : List S = c.slots.slots.items in
    let place = c.slots.place in
    let before = c.slots.invariant in
    let new : S = c.turn_slot-slot.result in
    let was : c.replace-slot.result ≡ c.index_mut.result.now = c.replace-slot.ensures.value in
    let same : set (set old place c.replace-slot.new.dest) place new ≡ set old place new = set-set old place c.replace-slot.new.dest new in
    let within : place < length old = omega (arith, before.count, c.args.slots.now.ok.0, c.slots-test.true, c.len-place-end.ensures) in
    let left : c.if-left.left ≡ false → (c.slots.left ≡ false) × IsAway p m w new = λ none.
    elim c.if-left.branch [
      | then-left v ↦ absurd (false≢true (sym none ∙ (v.left-is ∙ v.if-left.true)))
      | else-left v ↦ (v.if-left.false, v.is_kept-left.ensures (sym v.left-is ∙ none))
    ] in
    let Fit : List S → Type 0 = λ l. All (IsFit p m w) l in
    record {
      count = ap length same ∙ (length-set old place new ∙ before.count);
      fit = subst Fit (sym same) (All-set (IsFit p m w) old place new c.turn_slot-slot.ensures.fit before.fit);
      stand = λ ms es ok.
          let Ok : List S → Type 0 = λ l. Trio (SlotOk p m w) ms es l in
          subst Ok (sym same) (trio_set (SlotOk p m w) ms es old place c.index_mut.result.now new (before.stand ms es ok) c.index_mut.ensures.value
          (λ s e is. let K : S → Type 0 = λ x. SlotOk p m w s e x in c.turn_slot-slot.ensures.stands s e (subst K (sym was) is)));
      away = λ none k d lt.
          let both = left none in
          let Away : List S → Type 0 = λ l. IsAway p m w (get_or l k d) in
          let At : S → Type 0 = λ x. IsAway p m w x in
          subst Away (sym same) (⊎_elim
          (λ earlier.
          let apart : k ≡ place → ⊥ = λ e. omega (arith, earlier, e) in
          subst At (sym (get_or-set_other old place k new d apart)) (before.away both.0 k d earlier))
          (λ later.
          let e : place ≡ k = omega (arith, lt, later) in
          let K : ℕ → Type 0 = λ j. IsAway p m w (get_or (set old place new) j d) in
          subst K e (subst At (sym (get_or-set_same old place new d within)) both.1)) (cases_lt k place));
    }
