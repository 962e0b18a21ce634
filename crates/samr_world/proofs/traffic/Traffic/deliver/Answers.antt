use Rattle.std.proofs.Common.{◌≡◌, ℕ, ◌<◌, slice_get, Some, refl, sym, ap, ◌∙◌, set, length, subst}
use Rattle.samr_world.proofs.InPlace.{get_read, All-get}
use Rattle.samr_world.proofs.Outcomes.{takes_it}
use Rattle.samr_world.proofs.traffic.Traffic.deliver.Goals as goal

pub returns-clause-happens : goal.returns-clause-happens
returns-clause-happens g c = λ _.
    let p = g.P.Program in
    let m = g.P.Mail.Mail in
    let machines = c.args.self.now.machines.items in
    let flight = c.args.self.now.flight.items in
    let letter = c.remove-letter.result in
    let before = c.index_mut-machine.result.now in
    let is : slice_get flight c.args.place ≡ Some letter = get_read flight c.args.place c.args.place c.len.result letter refl (c.len.ensures ∙ c.args.self.now.flight.ok.0) c.if-place-len.false c.remove-letter.ensures.value in
    let same : c.from-addressee.result ≡ (m.name letter).addressee = c.from-addressee.ensures ∙ ap (λ n. n.addressee) c.name.ensures in
    let addressed = All-get (λ x. (m.name x).addressee < length machines) flight c.args.place letter is c.requires.1.addressed in
    let IsBelow : ℕ → Type 0 = λ i. i < length machines in
    record {
      letter = letter;
      before = before;
      after = c.turn.new.self;
      is = is;
      here = get_read machines c.from-addressee.result (m.name letter).addressee (length machines) before same refl (subst IsBelow (sym same) addressed) c.index_mut-machine.ensures.value;
      takes = takes_it p m before letter c.in_ok-turn.field-0 c.turn.new.self c.in_ok-turn.ensures.rule;
      sound = c.in_ok-turn.ensures.sound;
      machines = ap (λ i. set machines i c.turn.new.self) same;
      flight = c.remove-letter.ensures.items;
      lost = refl;
    }
