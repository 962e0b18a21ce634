-- The worked rows, by computation.
use Rattle.std.proofs.Common.{refl}
use Rattle.samr_boxlist.specs.Pieces.{pieces}
use Rattle.samr_boxlist.specs.Slabs.{without}
use Rattle.samr_level.specs.Blocks.{level0, with_owners, blocks_of, block_at}
use Rattle.samr_level.specs.Levels.{own}
use Rattle.samr_level.specs.Overlaps.{shifts}
use Rattle.samr_level.specs.RefOrders.{inserted, in_order}
use Rattle.samr_load.specs.Ascent.{up_of}
use Rattle.samr_load.specs.Descent.{down}
use Rattle.samr_load.specs.Pieces.{sorted}
use Rattle.samr_load.specs.Taking.{taking}
use Rattle.samr_nest.specs.Nested.{nested}
use Rattle.samr_rounds.specs.Clusters.{decided, cut_up, clusters_in, clusters}
use Rattle.samr_rounds.specs.Owners.{own_tags, most, owner_in, counts_of, owner_of, cluster_level}
use Rattle.samr_shape.specs.Tags.{touches, tags}
use Rattle.samr_sign.specs.Counts.{weigh, tally, planes}
use Rattle.samr_sign.specs.Decide.{zero_of, turns, turn_of, cut_of, decide_of}
use Rattle.samr_sign.specs.Line.{zero_cut}
use Rattle.samr_tags.specs.Buffer.{tags_of}
use Rattle.samr_tags.specs.Cover.{covered}
use Rattle.samr_mesh.specs.Domains.{roots_at}
use Rattle.samr_mesh.specs.Passes.{shape_at, tags_in, clusters_of, cuts_of, cut_level, pieces_of, new_level}
use Rattle.samr_mesh.specs.Meshes.{mesh_from, first_mesh, grown_over, renewed_over, regridded}
use Rattle.samr_mesh.specs.Rows.{LevelsGoWithTheirShape, TwoRanksShareALevel, CoverKeepsTheFinest, OverParts, Drifting}

pub leaving_is : LevelsGoWithTheirShape
unfolding level0 with_owners blocks_of block_at inserted in_order roots_at tags_in tags_of covered shape_at tags touches tally weigh planes zero_of turns turn_of cut_of decide_of zero_cut decided cut_up clusters_in clusters own_tags most owner_in counts_of owner_of cluster_level own pieces without nested up_of down sorted taking clusters_of cuts_of cut_level pieces_of new_level shifts mesh_from first_mesh grown_over renewed_over regridded
leaving_is = record { step0 = refl; step1 = refl; step2 = refl }

pub shared_is : TwoRanksShareALevel
unfolding level0 with_owners blocks_of block_at inserted in_order roots_at tags_in tags_of covered shape_at tags touches tally weigh planes zero_of turns turn_of cut_of decide_of zero_cut decided cut_up clusters_in clusters own_tags most owner_in counts_of owner_of cluster_level own pieces without nested up_of down sorted taking clusters_of cuts_of cut_level pieces_of new_level shifts mesh_from first_mesh grown_over renewed_over regridded
shared_is = record { step0 = refl }

pub moving_is : CoverKeepsTheFinest
unfolding level0 with_owners blocks_of block_at inserted in_order roots_at tags_in tags_of covered shape_at tags touches tally weigh planes zero_of turns turn_of cut_of decide_of zero_cut decided cut_up clusters_in clusters own_tags most owner_in counts_of owner_of cluster_level own pieces without nested up_of down sorted taking clusters_of cuts_of cut_level pieces_of new_level shifts mesh_from first_mesh grown_over renewed_over regridded
moving_is = record { step0 = refl; step1 = refl }

pub parts_are : OverParts
unfolding level0 with_owners blocks_of block_at inserted in_order roots_at tags_in tags_of covered shape_at tags touches tally weigh planes zero_of turns turn_of cut_of decide_of zero_cut decided cut_up clusters_in clusters own_tags most owner_in counts_of owner_of cluster_level own pieces without nested up_of down sorted taking clusters_of cuts_of cut_level pieces_of new_level shifts mesh_from first_mesh grown_over renewed_over regridded
parts_are = record { step0 = refl }

pub drifting_is : Drifting
unfolding level0 with_owners blocks_of block_at inserted in_order roots_at tags_in tags_of covered shape_at tags touches tally weigh planes zero_of turns turn_of cut_of decide_of zero_cut decided cut_up clusters_in clusters own_tags most owner_in counts_of owner_of cluster_level own pieces without nested up_of down sorted taking clusters_of cuts_of cut_level pieces_of new_level shifts mesh_from first_mesh grown_over renewed_over regridded
drifting_is = record { step0 = refl; step1 = refl; step2 = refl; step3 = refl }
