use Rattle.std.proofs.Common.{suc, ap, ◌∙◌, take}
use Rattle.std.specs.Prelude.{List}
use Rattle.std.specs.List.{flat_map}
use Rattle.samr_box.specs.declared.vector.IVec.{IVec}
use Rattle.samr_level.specs.Overlaps.{Scale, scale_in}
use Rattle.samr_level.specs.Refs.{Link}
use Rattle.samr_level.proofs.Searches.{overlaps_by_search}
use Rattle.samr_verify.specs.Nearby.{edges_from}
use Rattle.samr_verify.proofs.nearby.overlaps_at_most.Goals as goal

pub returns : goal.returns
returns c =
    c.in_ok-edges.ensures
    ∙ ap (λ (n : Scale). take (suc c.args.most) (flat_map (λ a. edges_from n c.in_ok-shifts_in.field-0.items c.args.heads.now a) c.args.bases.now)) c.new.ensures
    ∙ ap (λ (ss : List IVec). take (suc c.args.most) (flat_map (λ a. edges_from (scale_in c.args.finer.now c.args.width c.args.base_ratio c.args.head_ratio) ss c.args.heads.now a) c.args.bases.now)) c.in_ok-shifts_in.ensures
    ∙ ap (λ (l : List Link). take (suc c.args.most) l) (overlaps_by_search (scale_in c.args.finer.now c.args.width c.args.base_ratio c.args.head_ratio) c.args.bases.now c.args.heads.now)
