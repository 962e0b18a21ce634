-- Lines that ranks have for their own boxes are together those of the whole level.
use Rattle.std.proofs.Common.{◌≡◌, ℕ, ◌<◌, List, [], ◌∷◌, ◌++◌, refl, sym, ap, ◌∙◌}
use Rattle.std.specs.List.{flat_map, range_with_len}
use Rattle.std.specs.Ordering.{nat_cmp, ordering_then}
use Rattle.std.specs.declared.cmp.Ordering.{Ordering}
use Rattle.std.specs.declared.cmp.Ordering.TheVariants.{Less}
use Rattle.std.proofs.lemmas.List.Concat.{flat_map-append}
use Rattle.samr_level.specs.Refs.{Owned, Link}
use Rattle.samr_level.specs.RefOrders.{ref_cmp, edge_cmp}
use Rattle.samr_level.specs.Regions.{Area}
use Rattle.samr_level.specs.Levels.{IsLevel, own}
use Rattle.samr_level.specs.Overlaps.{Scale, true_overlaps, of_rank}
use Rattle.samr_level.proofs.RefLaws.{ref_total, edge_total}
use Rattle.samr_level.proofs.Overlapping.{overlaps_sorted, Member-from_overlaps}
use Rattle.samr_sched.specs.Ask.{Scheduling}
use Rattle.samr_sched.specs.PlanRows.{rows_of}
use Rattle.samr_problem.specs.Fields.{Fields}
use Rattle.samr_mesh.specs.Domains.{area_of, level0_of}
use Rattle.samr_report.specs.LevelLines.{edge_line, edge_lines}
use Rattle.samr_report.specs.Level0Text.{edges0_of}
use Rattle.samr_report.specs.ScheduleLines.{row_line, rows_at, row_lines}
use Rattle.samr_report.specs.Merging.{BoxLinesMerge, EdgeLinesMerge, RowLinesMerge}
use Rattle.samr_report.proofs.ByOwner.{nat_less, by_owner}

then_less : (o p q : Ordering) → o ≡ Less → ordering_then (ordering_then o p) q ≡ Less
then_less o p q e = cc

first_owner : (a b : Link) → a.base.owner < b.base.owner → edge_cmp a b ≡ Less
first_owner a b below = then_less (nat_cmp a.base.owner b.base.owner) _ _ (nat_less a.base.owner b.base.owner below)

first_box : (a b : Owned) → a.owner < b.owner → ref_cmp a b ≡ Less
first_box a b below = one_less (nat_cmp a.owner b.owner) _ (nat_less a.owner b.owner below)
  where
    one_less : (o p : Ordering) → o ≡ Less → ordering_then o p ≡ Less
    one_less o p e = cc

-- lists of lines of lists, one after another
of_all : {X Y Z : Type 0} (lines : X → List Y) (f : Z → List X) (rs : List Z) → flat_map (λ r. flat_map lines (f r)) rs ≡ flat_map lines (flat_map f rs)
of_all lines f [] = refl
of_all lines f (r ∷ rs) = ap (λ t. flat_map lines (f r) ++ t) (of_all lines f rs) ∙ sym (flat_map-append lines (f r) (flat_map f rs))

-- the boxes of all ranks are the level
pub level_of_ranks : (area : Area) (ranks : ℕ) (level : List Owned) → IsLevel area ranks level → flat_map (λ r. own r level) (range_with_len 0 ranks) ≡ level
unfolding own
level_of_ranks area ranks level is = by_owner ref_total (λ (b : Owned). b.owner) first_box level ranks is.in_order is.owners

-- and so are their edges
pub edges_of_ranks : (n : Scale) (area other : Area) (ranks : ℕ) (level heads : List Owned) → IsLevel area ranks level → IsLevel other ranks heads
    → flat_map (λ r. of_rank r (true_overlaps n level heads)) (range_with_len 0 ranks) ≡ true_overlaps n level heads
unfolding of_rank
edges_of_ranks n area other ranks level heads is are =
    by_owner edge_total (λ (e : Link). e.base.owner) first_owner (true_overlaps n level heads) ranks (overlaps_sorted n level heads is.in_order are.in_order)
    (λ e m. is.owners e.base (Member-from_overlaps n level heads e m).is_base)

pub box_lines_merge : BoxLinesMerge
unfolding own
box_lines_merge lines area ranks level is =
    of_all lines (λ r. own r level) (range_with_len 0 ranks) ∙ ap (flat_map lines) (level_of_ranks area ranks level is)

pub edge_lines_merge : EdgeLinesMerge
edge_lines_merge lines n area other ranks level heads is are =
    of_all lines (λ r. of_rank r (true_overlaps n level heads)) (range_with_len 0 ranks)
    ∙ ap (flat_map lines) (edges_of_ranks n area other ranks level heads is are)

-- those of level 0 to itself
pub level0_edge_lines : (p : Fields) (ranks : ℕ) → IsLevel (area_of p) ranks (level0_of p ranks)
    → flat_map (λ r. edge_lines 0 0 (of_rank r (edges0_of p ranks))) (range_with_len 0 ranks) ≡ edge_lines 0 0 (edges0_of p ranks)
unfolding edges0_of edge_lines
level0_edge_lines p ranks is = edge_lines_merge (edge_line 0 0) _ (area_of p) (area_of p) ranks (level0_of p ranks) (level0_of p ranks) is is

-- the rows of a rank, box by box
its_rows : (l r : ℕ) (w : Scheduling) → flat_map (λ row. row_line l row) (rows_of w r) ≡ flat_map (λ b. flat_map (λ row. row_line l row) (rows_at w b)) (own r w.level)
unfolding rows_of
its_rows l r w = sym (of_all (λ row. row_line l row) (λ b. rows_at w b) (own r w.level))

all_rows : (l : ℕ) (w : Scheduling) (rs : List ℕ)
    → flat_map (λ r. flat_map (λ row. row_line l row) (rows_of w r)) rs ≡ flat_map (λ r. flat_map (λ b. flat_map (λ row. row_line l row) (rows_at w b)) (own r w.level)) rs
all_rows l w [] = refl
all_rows l w (r ∷ rs) =
    ap (λ t. t ++ flat_map (λ r. flat_map (λ row. row_line l row) (rows_of w r)) rs) (its_rows l r w)
    ∙ ap (λ t. flat_map (λ b. flat_map (λ row. row_line l row) (rows_at w b)) (own r w.level) ++ t) (all_rows l w rs)

pub row_lines_merge : RowLinesMerge
unfolding row_lines
row_lines_merge l ranks area w is =
    all_rows l w (range_with_len 0 ranks) ∙ box_lines_merge (λ b. flat_map (λ row. row_line l row) (rows_at w b)) area ranks w.level is
