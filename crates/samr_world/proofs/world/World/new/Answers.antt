use Rattle.std.proofs.Common.{◌≡◌, List, [], ◌∷◌, ◌++◌, length, reverse, sym, ap, ◌∙◌, subst, append_assoc, append-nil, refl, arith, Some, slice_get}
use Rattle.std.specs.List.{AllZip}
use Rattle.std.proofs.lemmas.List.{nil_from_length, reverse-append}
use Rattle.samr_stage.specs.Machine.{State}
use Rattle.samr_world.specs.Traffic.{IsBegun}
use Rattle.samr_world.specs.World.{StandsIn}
use Rattle.samr_world.specs.Weight.{weight}
use Rattle.samr_world.proofs.InPlace.{get_middle}
use Rattle.samr_world.proofs.FirstWorld.{zip_length, stands_first, weight_first}
use Rattle.samr_world.proofs.world.World.new.Goals as goal

pub new-requires : goal.new-requires
new-requires g c =
    let before = c.pop.new.self.items in
    let program = c.in-Some.program in
    let so_far = c.loop-program.invariant in
    let parts : before ++ program ∷ so_far.rest ≡ c.args.programs.items = sym (append_assoc before (program ∷ []) so_far.rest) ∙ ap (λ ps. ps ++ so_far.rest) (sym c.in-Some.ensures.items) ∙ so_far.parts in
    let K : List g.row.P.Denot → Type 0 = λ ps. slice_get ps (length before) ≡ Some program in
    (c.requires.1.fresh (length before) program (subst K parts (get_middle before program so_far.rest))).stands

pub loop-program-preserved : goal.loop-program-preserved
loop-program-preserved g c =
    let before = c.pop.new.self.items in
    let program = c.in-Some.program in
    let so_far = c.loop-program.invariant in
    let machine = c.in_ok-new.field-0 in
    let p = g.P.Program in
    let m = g.P.Mail.Mail in
    let is_begun : IsBegun p m program machine = record { begins = c.in_ok-new.ensures.begins; sound = c.in_ok-new.ensures.sound; working = c.in_ok-new.ensures.working } in
    let K : List (State g.row.P.Denot g.row.P-Mail.Denot) → Type 0 = λ ms. AllZip (IsBegun p m) (program ∷ so_far.rest) ms in
    let back = ap reverse c.in_ok-push.ensures.items ∙ reverse-append c.loop-program.machines.items (machine ∷ []) in
    record {
      rest = program ∷ so_far.rest;
      parts = sym (append_assoc before (program ∷ []) so_far.rest) ∙ ap (λ ps. ps ++ so_far.rest) (sym c.in-Some.ensures.items) ∙ so_far.parts;
      begun = subst K (sym back) (is_begun, so_far.begun);
      capacity = c.in-Some.ensures.capacity ∙ so_far.capacity;
    }

pub loop-program-init : goal.loop-program-init
loop-program-init g c =
    let K : List (State g.row.P.Denot g.row.P-Mail.Denot) → Type 0 = λ ms. AllZip (IsBegun g.P.Program g.P.Mail.Mail) [] (reverse ms) in
    record {
      rest = [];
      parts = append-nil c.args.programs.items;
      begun = subst K (sym c.new-machines.ensures.items) tt;
      capacity = refl;
    }

-- the machines of all the programs, once none is left
all_begun : {X Y : Type 0} (K : X → Y → Type 0) (left rest all : List X) (machines reversed : List Y) → left ≡ [] → left ++ rest ≡ all → AllZip K rest machines → reversed ≡ machines → AllZip K all reversed
all_begun K left rest all machines reversed none parts begun back =
    let same : rest ≡ all = ap (λ ps. ps ++ rest) (sym none) ∙ parts in
    subst (λ ys. AllZip K all ys) (sym back) (subst (λ xs. AllZip K xs machines) same begun)

pub invariant_of-result : goal.invariant_of-result
invariant_of-result g c =
    let p = g.P.Program in
    let m = g.P.Mail.Mail in
    let so_far = c.loop-program.invariant in
    let empty = c.in_default.ensures.cases in
    let none = nil_from_length c.loop-program.programs.items (sym c.loop-program.programs.ok.0 ∙ empty.0) in
    let begun = all_begun (IsBegun p m) c.loop-program.programs.items so_far.rest c.args.programs.items (reverse c.loop-program.machines.items) c.reverse.new.self.items none so_far.parts so_far.begun c.reverse.ensures.items in
    let K : List g.row.P-Mail.Denot → Type 0 = λ xs. StandsIn p m c.requires.0 (record { machines = c.reverse.new.self.items; flight = xs; lost = 0 }) in
    let count = zip_length (IsBegun p m) c.args.programs.items c.reverse.new.self.items begun in
    let capacity = c.in_default.ensures.capacity ∙ so_far.capacity in
    let fits = c.args.programs.ok in
    record {
      stands = λ _. (c.requires.0, subst K (sym c.new-2.ensures.items) (stands_first p m g.met.P.Mail.Mail.truth g.met.P.Program.on_course c.requires.0 c.args.programs.items c.reverse.new.self.items c.requires.1 begun));
      empty = nil_from_length c.pop.new.self.items (sym c.pop.new.self.ok.0 ∙ empty.1);
      room = omega (arith, count, capacity, fits);
    }

pub returns-clause-stands : goal.returns-clause-stands
returns-clause-stands g c = λ r team.
    let p = g.P.Program in
    let m = g.P.Mail.Mail in
    let so_far = c.loop-program.invariant in
    let none = nil_from_length c.loop-program.programs.items (sym c.loop-program.programs.ok.0 ∙ c.in_default.ensures.cases.0) in
    let begun = all_begun (IsBegun p m) c.loop-program.programs.items so_far.rest c.args.programs.items (reverse c.loop-program.machines.items) c.reverse.new.self.items none so_far.parts so_far.begun c.reverse.ensures.items in
    let K : List g.row.P-Mail.Denot → Type 0 = λ xs. StandsIn p m r (record { machines = c.reverse.new.self.items; flight = xs; lost = 0 }) in
    subst K (sym c.new-2.ensures.items) (stands_first p m g.met.P.Mail.Mail.truth g.met.P.Program.on_course r c.args.programs.items c.reverse.new.self.items team begun)

pub returns-clause-weighs : goal.returns-clause-weighs
returns-clause-weighs g c = λ r team.
    let p = g.P.Program in
    let m = g.P.Mail.Mail in
    let so_far = c.loop-program.invariant in
    let none = nil_from_length c.loop-program.programs.items (sym c.loop-program.programs.ok.0 ∙ c.in_default.ensures.cases.0) in
    let begun = all_begun (IsBegun p m) c.loop-program.programs.items so_far.rest c.args.programs.items (reverse c.loop-program.machines.items) c.reverse.new.self.items none so_far.parts so_far.begun c.reverse.ensures.items in
    let flight = ap (λ (xs : List g.row.P-Mail.Denot). weight p m (record { machines = c.reverse.new.self.items; flight = xs; lost = 0 })) c.new-2.ensures.items in
    flight ∙ weight_first p m g.met.P.Mail.Mail.truth g.met.P.Program.on_course r c.args.programs.items c.reverse.new.self.items team begun
