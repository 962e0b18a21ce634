use Rattle.std.proofs.Common.{ap, subst, sym, ◌∙◌}
use Rattle.samr_box.specs.declared.vector.IVec.{IVec}
use Rattle.samr_box.specs.Vector.{IsShift, minus, times}
use Rattle.samr_border.specs.Turns.{turns, IsShiftOf}
use Rattle.samr_border.proofs.TurnLaws.{kept_turns, turns_home, turns_shift, IsShift-of}
use Rattle.samr_border.proofs.turning.turns.Goals as goal

pub invariant_of-result : goal.invariant_of-result
invariant_of-result c =
    let d = c.args.d.now in
    let x = c.args.x in
    let s : IVec = record { k = c.turn.result; j = c.turn-2.result; i = c.turn-3.result } in
    subst IsShift (sym (kept_turns d x s c.turn.ensures.value c.turn-2.ensures.value c.turn-3.ensures.value)) (IsShift-of d (turns d x) (turns_shift d x))

pub returns-clause-home : goal.returns-clause-home
returns-clause-home c = λ near.
    let d = c.args.d.now in
    let x = c.args.x in
    let s : IVec = record { k = c.turn.result; j = c.turn-2.result; i = c.turn-3.result } in
    ap (λ (v : IVec). minus x (times v d.size)) (kept_turns d x s c.turn.ensures.value c.turn-2.ensures.value c.turn-3.ensures.value)
    ∙ turns_home d x c.turn.ensures.space near

pub returns-clause-shift : goal.returns-clause-shift
returns-clause-shift c =
    let d = c.args.d.now in
    let x = c.args.x in
    let s : IVec = record { k = c.turn.result; j = c.turn-2.result; i = c.turn-3.result } in
    let P : IVec → Type 0 = λ v. IsShiftOf d v in
    subst P (sym (kept_turns d x s c.turn.ensures.value c.turn-2.ensures.value c.turn-3.ensures.value)) (turns_shift d x)
