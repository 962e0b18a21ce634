use Rattle.std.proofs.Common.{◌≡◌, ◌++◌, take}
use Rattle.std.specs.List.{flat_map, AllByRecursion}
use Rattle.samr_formats.proofs.lists.spell_each.Given as goal

abbrev pub invariant-loop-one : goal.invariant-loop-one
invariant-loop-one g l = record {
  spelled : l.out.items ≡ l.fn.out.items ++ flat_map g.T.Format.spelling (take l.one-index l.list);
  fits : AllByRecursion g.T.Format.fits (take l.one-index l.list);
}
