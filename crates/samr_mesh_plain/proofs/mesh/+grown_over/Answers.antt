use Rattle.std.proofs.Common.{◌<◌, ◌∙◌, sym, arith}
use Rattle.samr_mesh_plain.proofs.MeshFacts.{grown_none, can_grow, next_level, first_pass, grown_is}
use Rattle.samr_mesh_plain.proofs.mesh.+grown_over.Goals as goal

pub returns-then-more-eq0 : goal.returns-then-more-eq0
returns-then-more-eq0 t c =
    c.new.ensures.items ∙ sym (grown_none c.args.problem.now c.args.ranks c.args.more c.args.number c.args.level.now c.if-more-eq0.true)

pub grown-requires : goal.grown-requires
grown-requires t c =
    let some : 0 < c.args.more = omega (arith, c.if-more-eq0.false) in
    can_grow c.args.problem.now c.args.ranks c.args.more c.args.number c.args.level.now some c.requires.ranks c.requires.room c.requires.level

pub grown_over-requires : goal.grown_over-requires
grown_over-requires t c =
    let some : 0 < c.args.more = omega (arith, c.if-more-eq0.false) in
    let can = can_grow c.args.problem.now c.args.ranks c.args.more c.args.number c.args.level.now some c.requires.ranks c.requires.room c.requires.level in (
      omega (arith, c.decreases, some),
      (
        c.requires.ranks,
        (
          omega (arith, c.requires.room, some),
          next_level c.args.problem.now (first_pass c.args.ranks c.args.number c.args.level.now) c.in_ok-new.new c.accepted.ensures can c.in_ok-new.ensures,
        ),
      ),
    )

pub returns : goal.returns
returns t c =
    let some : 0 < c.args.more = omega (arith, c.if-more-eq0.false) in
    grown_is c.args.problem.now c.args.ranks c.args.more c.args.number c.args.level.now c.in_ok-new.new c.in_ok-above.above.items c.in_ok-levels.levels.items some
    c.in_ok-new.ensures c.in_ok-above.ensures c.in_ok-levels.ensures
