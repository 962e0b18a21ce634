use Rattle.std.proofs.Common.{◌≡◌, take}
use Rattle.std.specs.List.{filter_map, All}
use Rattle.samr_box.specs.Corners.{IsBox, met}
use Rattle.samr_boxlist.proofs.cover.intersect.Given as goal

abbrev pub invariant-loop-a : goal.invariant-loop-a
invariant-loop-a l = record {
  items : l.parts.items ≡ filter_map (λ a. met a l.b) (take l.a-index l.list);
  boxes : All IsBox l.parts.items;
}
