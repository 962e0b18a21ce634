-- The stages of a pass, in order: who visits the label of each, and its letters.
use Rattle.std.specs.Prelude.{ℕ, zero, suc, ◌+◌, ◌-◌, ◌*◌, Bool, true, ◌&&◌, ◌||◌, nat_eq, nat_lt, List, [], length, map, filter, sum_by}
use Rattle.std.specs.List.{range_with_len, list_any}
use Rattle.samr_box.specs.Corners.{Corners}
use Rattle.samr_level.specs.Refs.{Owned, Link}
use Rattle.samr_level.specs.Levels.{own}
use Rattle.samr_sign.specs.Counts.{Sign}
use Rattle.samr_sign.specs.Laws.{depth}
use Rattle.samr_rounds.specs.Rounds.{opened}
use Rattle.samr_tags.specs.declared.seen.Seen.{Seen}
use Rattle.samr_tags.specs.BufferRow.{buffer_row}
use Rattle.samr_tags.specs.CoverRow.{cover_row}
use Rattle.samr_cluster.specs.declared.verdict.Ruling.{Ruling}
use Rattle.samr_cluster.specs.Rounds as clusters
use Rattle.samr_cluster.specs.Rounds.{open_of, near_of}
use Rattle.samr_cluster.specs.ReportRow.{was_told, report_row}
use Rattle.samr_cluster.specs.DecideRow.{decide_row}
use Rattle.samr_cluster.specs.EdgesRow.{edges_row}
use Rattle.samr_tree.specs.SumUp.{sum_row}
use Rattle.samr_tree.specs.TellDown.{tell_row}
use Rattle.samr_tree.specs.TreeSum.{rounds_up, rounds_down, sums_at, tellings_at, goes_up, goes_down}
use Rattle.samr_load.specs.Pieces.{Placed}
use Rattle.samr_load.specs.Balanced.{cells_in}
use Rattle.samr_balance.specs.declared.hands.Gift.{Gift}
use Rattle.samr_balance.specs.Home.{balancing_of}
use Rattle.samr_balance.specs.Rounds as hands
use Rattle.samr_balance.specs.WayUp.{up_row}
use Rattle.samr_balance.specs.WayDown.{down_row, visits_down}
use Rattle.samr_balance.specs.HomeRow.{Cutting, home_row}
use Rattle.samr_modify.specs.declared.entries.Replaced.{Replaced}
use Rattle.samr_modify.specs.ModifyRow.{modify_row}
use Rattle.samr_bridge.specs.BridgeRow.{bridge_row}
use Rattle.samr_data.specs.declared.parcel.Parcel.{Parcel}
use Rattle.samr_values.specs.Values.{Renewing}
use Rattle.samr_values.specs.ValuesRow.{values_row}
use Rattle.samr_mesh.specs.Meshes.{level_at}
use Rattle.samr_mesh.specs.Passes.{tagging, covering, cut_level, new_level}
use Rattle.samr_wholes.specs.Wholes.{clustering, homing, modifying}
use Rattle.samr_wholes.specs.Bridges.{to_old, to_itself, from_above, to_below}
use Rattle.samr_hierarchy.specs.Hierarchies.{renewing}
use Rattle.samr_hierarchy.specs.Passes.{first_values, renewing_at}
use Rattle.samr_stage.specs.declared.label.Label.{Label}
use Rattle.samr_phase.specs.Stretch.{Stop}
use Rattle.samr_msg.specs.Places.{AtPass, AtRound, AtPart, label_of, round_of, next_round, gone_through, mesh_of, hierarchy_before, old_above, old_below}

-- 1: tagged cells, to those who have boxes near
abbrev pub buffering : Stop AtPass AtPass (List Seen)
buffering = record {
  label = label_of 1;
  visits = λ w rank. true;
  says = λ w. buffer_row (tagging w.at.setting.problem w.pass);
  after = λ w. w;
}

-- 2: what the new level two above needs below it, where it was made
abbrev pub is_some_level : List Owned → Bool
is_some_level level = nat_lt 0 (length level)

abbrev pub covers_told : Stop AtPass AtPass (List Corners)
covers_told = record {
  label = label_of 2;
  visits = λ w rank. is_some_level w.pass.above;
  says = λ w. cover_row (covering w.at.setting.problem w.pass);
  after = λ w. w;
}

-- 3: the clustering, in rounds as long as a node is open: reports to the directors, and their decisions
abbrev pub clusters_at : AtRound → clusters.Round
clusters_at w = record { whole = clustering w.at.at.setting.problem w.at.pass; number = w.round }

abbrev pub directs_open : AtRound → ℕ → Bool
directs_open w rank = list_any (λ b. true) (open_of (clusters_at w) rank)

abbrev pub all_ranks : AtRound → List ℕ
all_ranks w = range_with_len 0 w.at.pass.ranks

abbrev pub reports_told : Stop AtRound AtRound (List Sign)
reports_told = record {
  label = λ w. round_of 3 (record { at = w.at; round = 2 * w.round });
  visits = λ w rank. nat_eq w.round 0 || directs_open w rank || list_any (λ d. was_told (clusters_at w) rank d) (all_ranks w);
  says = λ w. report_row (clusters_at w);
  after = λ w. w;
}

abbrev pub is_near_one : AtRound → ℕ → Bool
is_near_one w rank = list_any (λ d. list_any (λ b. true) (near_of (clusters_at w) d rank)) (all_ranks w)

abbrev pub decisions_told : Stop AtRound AtRound (List Ruling)
decisions_told = record {
  label = λ w. round_of 3 (record { at = w.at; round = 2 * w.round + 1 });
  visits = λ w rank. directs_open w rank || is_near_one w rank;
  says = λ w. decide_row (clusters_at w);
  after = next_round;
}

-- the rounds in which a node is open, which come first
unfoldable pub open_rounds : AtPass → ℕ
open_rounds w =
    let c = clustering w.at.setting.problem w.pass in
    length (filter (λ q. list_any (λ b. true) (opened c.tags c.rule c.roots q)) (range_with_len 0 (sum_by depth c.roots)))

abbrev pub rounds_open : AtRound → ℕ
rounds_open w = open_rounds w.at - w.round

-- 4: the overlaps of the clusters with the level
abbrev pub edges_told : Stop AtPass AtPass (List Link)
edges_told = record {
  label = label_of 4;
  visits = λ w rank. true;
  says = λ w. edges_row (clustering w.at.setting.problem w.pass);
  after = λ w. w;
}

-- 5 and 6: the number of all cells that the cut leaves, up the tree of the ranks and down
unfoldable pub loads_of : AtPass → List ℕ
loads_of w = map (λ rank. cells_in (own rank (cut_level w.at.setting.problem w.pass))) (range_with_len 0 w.pass.ranks)

abbrev pub sums_told : Stop AtRound AtRound ℕ
sums_told = record {
  label = round_of 5;
  visits = λ w. goes_up w.at.pass.ranks w.round;
  says = λ w. sum_row (sums_at (loads_of w.at) w.round);
  after = next_round;
}

abbrev pub totals_told : Stop AtRound AtRound ℕ
totals_told = record {
  label = round_of 6;
  visits = λ w. goes_down w.at.pass.ranks w.round;
  says = λ w. tell_row (tellings_at (loads_of w.at) w.round);
  after = next_round;
}

abbrev pub ups_left : AtRound → ℕ
ups_left w = rounds_up (loads_of w.at) - w.round

abbrev pub downs_left : AtRound → ℕ
downs_left w = rounds_down (loads_of w.at) - w.round

-- whether the cut leaves anything: else the pass ends here
abbrev pub leaves_cells : AtPass → Bool
leaves_cells w = nat_lt 0 (cells_in (cut_level w.at.setting.problem w.pass))

-- 7 and 8: boxes up the tree, and down to the ranks that need cells
abbrev pub hands_at : AtRound → hands.Round
hands_at w = record { balancing = balancing_of (homing w.at.at.setting.problem w.at.pass); round = w.round }

abbrev pub boxes_up : Stop AtRound AtRound Gift
boxes_up = record {
  label = round_of 7;
  visits = λ w. goes_up w.at.pass.ranks w.round;
  says = λ w. up_row (hands_at w);
  after = next_round;
}

abbrev pub boxes_down : Stop AtRound AtRound (List Placed)
boxes_down = record {
  label = round_of 8;
  visits = λ w. visits_down (hands_at w);
  says = λ w. down_row (hands_at w);
  after = next_round;
}

-- 9: pieces to the owners of the boxes that they were cut from
abbrev pub pieces_told : Stop AtPass AtPass (List Cutting)
pieces_told = record {
  label = label_of 9;
  visits = λ w rank. true;
  says = λ w. home_row (homing w.at.setting.problem w.pass);
  after = λ w. w;
}

-- 10: the pieces that take the place of each cluster
abbrev pub pieces_placed : Stop AtPass AtPass (List Replaced)
pieces_placed = record {
  label = label_of 10;
  visits = λ w rank. true;
  says = λ w. modify_row (modifying w.at.setting.problem w.pass);
  after = λ w. w;
}

-- 11: the bridges: to the old level of the new one's number, from the new level to itself, from the new level above, and to the old level two below
abbrev pub bridge_label : ℕ → AtPass → Label
bridge_label round w = round_of 11 (record { at = w; round = round })

abbrev pub bridged_to_old : Stop AtPass AtPass (List Link)
bridged_to_old = record {
  label = bridge_label 0;
  visits = λ w rank. is_some_level (old_above w);
  says = λ w. bridge_row (to_old w.at.setting.problem w.pass (old_above w));
  after = λ w. w;
}

abbrev pub bridged_to_itself : Stop AtPass AtPass (List Link)
bridged_to_itself = record {
  label = bridge_label 1;
  visits = λ w rank. true;
  says = λ w. bridge_row (to_itself w.at.setting.problem w.pass);
  after = λ w. w;
}

abbrev pub bridged_from_above : Stop AtPass AtPass (List Link)
bridged_from_above = record {
  label = bridge_label 2;
  visits = λ w rank. is_some_level w.pass.above;
  says = λ w. bridge_row (from_above w.at.setting.problem w.pass (old_above w));
  after = λ w. w;
}

abbrev pub bridged_to_below : Stop AtPass AtPass (List Link)
bridged_to_below = record {
  label = bridge_label 3;
  visits = λ w rank. nat_lt 0 w.pass.number && nat_lt 0 w.at.step;
  says = λ w. bridge_row (to_below w.at.setting.problem w.pass.ranks (w.pass.number - 1) (new_level w.at.setting.problem w.pass) w.pass.level (old_below w));
  after = λ w. w;
}

-- 12: the values of the new level, from the old level of its number and from the one below it
abbrev pub renewing_of : AtPass → Renewing
renewing_of w = by w.at.step
  where
    by : ℕ → Renewing
    by zero =
        let levels = mesh_of w.at in
        renewing w.at.setting.problem w.pass.ranks w.pass.number (level_at levels (w.pass.number + 1)) [] w.pass.level (λ f x. 0)
        (first_values w.at.setting.problem w.pass.ranks levels w.pass.number)
    by (suc t) = renewing_at w.at.setting.problem w.pass.ranks (hierarchy_before w.at) (mesh_of w.at) w.pass.number

abbrev pub values_told : Stop AtPass AtPart (List Parcel)
values_told = record {
  label = label_of 12;
  visits = λ w rank. true;
  says = λ w. values_row (renewing_of w);
  after = gone_through;
}
