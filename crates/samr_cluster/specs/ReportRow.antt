-- What the ranks report of the nodes that they are near, and how the reports of a node are put together.
use Rattle.std.specs.Prelude.{ℕ, Bool, true, List, [], ◌∷◌, ◌++◌, length, take, drop, map, filter, nat_eq, nat_lt, if◌then◌else◌, Option}
use Rattle.std.specs.List.{find, list_any, flat_map}
use Rattle.std.specs.Option.{option_map_or}
use Rattle.std.specs.Ordering.{is_eq}
use Rattle.samr_box.specs.Corners.{Corners}
use Rattle.samr_box.specs.Orders.{corner_cmp}
use Rattle.samr_stage.specs.declared.stage.Held.{Held}
use Rattle.samr_sign.specs.Counts.{Sign, sign, total}
use Rattle.samr_sign.specs.Fields.{Field, tagged_in}
use Rattle.samr_rounds.specs.declared.owner.RankTags.{RankTags}
use Rattle.samr_rounds.specs.Owners.{own_tags}
use Rattle.samr_rounds.specs.Ranks.{sum_of_signs}
use Rattle.samr_cluster.specs.declared.nodes.Told.{Told}
use Rattle.samr_cluster.specs.declared.nodes.Counted.{Counted}
use Rattle.samr_cluster.specs.Rounds.{Round, told_of, near_of}
use Rattle.samr_cluster.specs.SomeRows.{some_row}

-- whether a director told a rank a node
abbrev pub was_told : Round → ℕ → ℕ → Bool
was_told x r d = list_any (λ b. true) (told_of x d r)

-- the signatures of a rank's own tags in those nodes of a director that it is near
abbrev pub signs_of : Round → ℕ → ℕ → List Sign
signs_of x r d = map (λ b. sign (own_tags x.whole.tags x.whole.level r) b) (near_of x d r)

-- a rank reports to each other rank that told it a node, also where it is near none
unfoldable pub report_row : Round → ℕ → ℕ → Option (List Sign)
report_row x = some_row x.whole.ranks (λ from to. was_told x from to) (λ from to. signs_of x from to)

-- the signatures of the nodes of a director, from fields
abbrev pub sign_for : ℕ → List Field → Told → List Sign
sign_for director fields t = if nat_eq t.director director then sign (tagged_in fields) t.node ∷ [] else []

unfoldable pub signs_for : ℕ → List Field → List Told → List Sign
signs_for director fields near = flat_map (λ t. sign_for director fields t) near

-- how many letters are from ranks below one
abbrev pub count_below : ℕ → List (Held (List Sign)) → ℕ
count_below rank held = length (filter (λ h. nat_lt h.sender rank) held)

-- the reports of all ranks: the letters, and the rank's own behind those from ranks below
unfoldable pub with_own : ℕ → List Sign → List (Held (List Sign)) → List (Held (List Sign))
with_own rank own held =
    take (count_below rank held) held ++ (record { sender = rank; body = own } ∷ drop (count_below rank held) held)

-- the signature of a node among some, if it is there
unfoldable pub signed : Corners → List Sign → List Sign
signed node signs = option_map_or (λ s. s ∷ []) (find (λ s. is_eq (corner_cmp s.bx node)) signs) []

abbrev pub signs_on : Corners → List (Held (List Sign)) → List Sign
signs_on node reports = flat_map (λ h. signed node h.body) reports

-- how many tags a sender reports
abbrev pub tags_from : ℕ → List Sign → List RankTags
tags_from sender signs = map (λ s. record { rank = sender; tags = total s }) signs

-- what the reports have of a node
unfoldable pub count_in : List (Held (List Sign)) → Corners → Counted
count_in reports node = record { node = node; sum = sum_of_signs node (signs_on node reports); tags = flat_map (λ h. tags_from h.sender (signed node h.body)) reports }
