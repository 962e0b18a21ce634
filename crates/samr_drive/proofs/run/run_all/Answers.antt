use Rattle.std.proofs.Common.{rules}
use denote.Param.Send.{sendable}
use Rattle.samr_drive.proofs.run.run_all.Goals as goal

pub scoped-requires : goal.scoped-requires
scoped-requires g c = record {
  at = λ a.
      let b = c.type_bounds in
      let r = c.requires in
      ((search sendable, search sendable, search sendable, search sendable, search sendable), (r.few, (r.flags, (r.pairs, (r.room, search (rules, sendable))))));
}
