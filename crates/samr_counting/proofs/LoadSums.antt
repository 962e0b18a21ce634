-- The loads of all ranks, and a rank's part of a round of their sum.
use Rattle.std.proofs.Common.{◌≡◌, ℕ, zero, suc, ◌+◌, ◌-◌, ◌<◌, ◌≤◌, ◌^◌, List, length, map, refl, sym, ap, ◌∙◌, subst, arith, true, false, sum, slice_index, Bool, nat_lt, nat_eq, cond, if◌then◌else◌, add-one, filter, unsigned_abs}
use Rattle.std.proofs.lemmas.Bool.{ltb-false}
use Rattle.std.specs.List.{range_with_len, flat_map}
use Rattle.std.proofs.lemmas.List.FromFn.{sum_by-map-range_with_len_more, get_or-map-range_with_len, length-map-range_with_len}
use Rattle.std.proofs.lemmas.List.Kept.{IsStrictlySortedBy-filter}
use Rattle.samr_bits.specs.Sums.{sum_below}
use Rattle.samr_box.specs.Corners.{Corners}
use Rattle.samr_box.specs.Lists.{Member}
use Rattle.samr_box.proofs.Members.{Member-from_map, Member-flat_map, Member-from_flat_map, Member-filter, Member-from_filter}
use Rattle.samr_boxlist.specs.Pieces.{chopped}
use Rattle.samr_level.specs.declared.parts.Move.{Move}
use Rattle.samr_level.specs.Levels.{own}
use Rattle.samr_level.specs.Refs.{Owned}
use Rattle.samr_level.specs.RefOrders.{ref_cmp, in_order}
use Rattle.samr_level.proofs.RefLaws.{ref_total, same_from_ref_cmp}
use Rattle.samr_level.proofs.Sorting.{Member-from_in_order, Member-in_order, sorted-in_order, in_order_is}
use Rattle.samr_load.specs.Pieces.{size_of}
use Rattle.samr_load.specs.Balanced.{cells_in}
use Rattle.samr_load.proofs.Wholes.{all_owned}
use Rattle.samr_modify.specs.Entries.{moves_of}
use Rattle.samr_nest.specs.Nested.{nested, cut_of}
use Rattle.samr_problem.specs.Fields.{Fields}
use Rattle.samr_tree.specs.Tree.{bottom}
use Rattle.samr_tree.specs.SumUp.{IsSum}
use Rattle.samr_tree.specs.TellDown.{IsTelling}
use Rattle.samr_tree.specs.TreeSum.{AreSummable, rounds_up, rounds_down, sums_at, tellings_at}
use Rattle.samr_tree.proofs.TreeLemmas.{depth-le}
use Rattle.samr_tree.proofs.Seating.{up_part, down_part}
use Rattle.samr_tree.proofs.TreeTotals.{all_after, never_more}
use Rattle.samr_mesh.specs.Domains.{area_at}
use Rattle.samr_mesh.specs.Passes.{Pass, clusters_of, cuts_of, cut_level}
use Rattle.samr_mesh.proofs.CellBounds.{few_cells}
use Rattle.samr_mesh.proofs.Passing.{cut_are}
use Rattle.samr_msg.specs.Places.{AtPass, AtRound, first_round}
use Rattle.samr_msg.specs.PassStops.{loads_of, ups_left, downs_left}
use Rattle.samr_regrid.specs.Standing.{IsPassOf}
use Rattle.samr_counting.specs.Rounds.{IsRound}

-- the boxes that the cuts of a rank's own clusters leave are its own boxes of what all cuts leave
same_owner : (p : Fields) (w : Pass) (m : Move) (z : Owned) → Member m (cuts_of p w) → Member z m.news → z.owner ≡ m.old.owner
unfolding cuts_of
same_owner p w m z there new =
    let (c, within, e) = Member-from_map (cut_of (area_at p w.number) w.level p.nest (unsigned_abs p.largest)) m (clusters_of p w) there in
    let (b, n, f) = Member-from_map (λ (b : Corners). let o : Owned = record { owner = c.owner; bx = b } in o) z (chopped (unsigned_abs p.largest) (nested (area_at p w.number) w.level p.nest c.bx)) (subst (λ (v : Move). Member z v.news) e new) in
    ap (λ (o : Owned). o.owner) f ∙ ap (λ (v : Move). v.old.owner) (sym e)

pub own_left : (p : Fields) (w : Pass) (r : ℕ) → in_order ref_cmp (flat_map (λ (m : Move). m.news) (moves_of r (cuts_of p w))) ≡ own r (cut_level p w)
unfolding own moves_of cut_level
own_left p w r =
    let news : Move → List Owned = λ m. m.news in
    let mine : Move → Bool = λ m. nat_eq m.old.owner r in
    let all = cuts_of p w in
    sym (in_order_is ref_total same_from_ref_cmp (flat_map news (filter mine all)) (filter (λ b. nat_eq b.owner r) (in_order ref_cmp (flat_map news all)))
    (IsStrictlySortedBy-filter ref_cmp (λ b. nat_eq b.owner r) (in_order ref_cmp (flat_map news all)) (sorted-in_order ref_total (flat_map news all)))
    (λ z m.
    let (kept, is_own) = Member-from_filter (λ (b : Owned). nat_eq b.owner r) z (in_order ref_cmp (flat_map news all)) m in
    let (c, within, new) = Member-from_flat_map news z all (Member-from_in_order ref_total z (flat_map news all) kept) in
    Member-flat_map news z c (filter mine all) (Member-filter mine c all within (ap (λ n. nat_eq n r) (sym (same_owner p w c z within new)) ∙ is_own)) new)
    (λ z m.
    let (c, within, new) = Member-from_flat_map news z (filter mine all) m in
    let (there, is_own) = Member-from_filter mine c all within in
    Member-filter (λ (b : Owned). nat_eq b.owner r) z (in_order ref_cmp (flat_map news all)) (Member-in_order ref_total same_from_ref_cmp z (flat_map news all) (Member-flat_map news z c all there new))
    (ap (λ n. nat_eq n r) (same_owner p w c z there new) ∙ is_own)))

sum_range : (f : ℕ → ℕ) (n : ℕ) → sum (map f (range_with_len 0 n)) ≡ sum_below f n
sum_range f zero = refl
sum_range f (suc n) =
    let more : sum (map f (range_with_len 0 (n + 1))) ≡ sum (map f (range_with_len 0 n)) + f n = sum_by-map-range_with_len_more (λ x. x) f 0 n n (omega arith) in
    subst (λ m. sum (map f (range_with_len 0 m)) ≡ sum_below f n + f n) (add-one n) (more ∙ ap (λ s. s + f n) (sum_range f n))

-- what rank 0 has, and nothing elsewhere
at_root : (r n m : ℕ) → (r ≡ 0 → n ≡ m) → (if nat_lt 0 r then 0 else n) ≡ (if nat_lt 0 r then 0 else m)
at_root r n m same = by (nat_lt 0 r) refl
  where
    by : (t : Bool) → nat_lt 0 r ≡ t → (cond t 0 n) ≡ (cond t 0 m)
    by true e = refl
    by false e = same (let root = ltb-false 0 r e in omega (arith, root))

-- each rank has a number
pub loads_length : (w : AtPass) → length (loads_of w) ≡ w.pass.ranks
unfolding loads_of
loads_length w = length-map-range_with_len (λ rank. cells_in (own rank (cut_level w.at.setting.problem w.pass))) 0 w.pass.ranks

module _ (w : AtPass) (is : IsPassOf w) where
  pub loads_sum : sum (loads_of w) ≡ cells_in (cut_level w.at.setting.problem w.pass)
  unfolding loads_of
  loads_sum =
      sum_range (λ rank. cells_in (own rank (cut_level w.at.setting.problem w.pass))) w.pass.ranks
      ∙ all_owned size_of w.pass.ranks (cut_level w.at.setting.problem w.pass) (cut_are w.at.setting.problem w.pass is.can).owners

  loads_few : sum (loads_of w) ≤ 4194304
  loads_few =
      let few = few_cells w.at.setting.problem w.pass.number w.pass.ranks (cut_level w.at.setting.problem w.pass) is.can.can.here (cut_are w.at.setting.problem w.pass is.can) in
      omega (arith, loads_sum, few)

  summable : w.at.setting.ranks < 2 ^ 16 → AreSummable (loads_of w)
  summable few = record {
    some = subst (λ n. 0 < n) (sym (loads_length w)) is.can.some;
    few = subst (λ n. n < 2 ^ 16) (sym (loads_length w ∙ is.same_ranks)) few;
    fits = omega (arith, loads_few);
  }

  load_at : (r : ℕ) → r < w.pass.ranks → slice_index (loads_of w) r ≡ cells_in (own r (cut_level w.at.setting.problem w.pass))
  unfolding loads_of
  load_at r within = get_or-map-range_with_len (λ rank. cells_in (own rank (cut_level w.at.setting.problem w.pass))) 0 w.pass.ranks r r 0 within (omega arith)

  load_small : (r : ℕ) → r < w.pass.ranks → cells_in (own r (cut_level w.at.setting.problem w.pass)) < 2 ^ 63
  load_small r within =
      let most = never_more (loads_of w) 0 r (subst (λ n. r < n) (sym (loads_length w)) within) in
      let at : (sums_at (loads_of w) 0).number r ≡ cells_in (own r (cut_level w.at.setting.problem w.pass)) = load_at r within in
      omega (arith, most, at, loads_few)

  left_is : (r : ℕ) (cuts : List Move) (left : List Owned) → cuts ≡ moves_of r (cuts_of w.at.setting.problem w.pass) → left ≡ in_order ref_cmp (flat_map (λ (m : Move). m.news) cuts)
      → left ≡ own r (cut_level w.at.setting.problem w.pass)
  left_is r cuts left same of = of ∙ ap (λ (l : List Move). in_order ref_cmp (flat_map (λ (m : Move). m.news) l)) same ∙ own_left w.at.setting.problem w.pass r

  pub left_small : (r : ℕ) (cuts : List Move) (left : List Owned) → r < w.at.setting.ranks → cuts ≡ moves_of r (cuts_of w.at.setting.problem w.pass) → left ≡ in_order ref_cmp (flat_map (λ (m : Move). m.news) cuts)
      → cells_in left < 2 ^ 63
  left_small r cuts left within same of =
      subst (λ (l : List Owned). cells_in l < 2 ^ 63) (sym (left_is r cuts left same of)) (load_small r (subst (λ n. r < n) (sym is.same_ranks) within))

  -- a rank begins with its own number
  pub first_number : (r number : ℕ) (cuts : List Move) (left : List Owned) → r < w.at.setting.ranks → cuts ≡ moves_of r (cuts_of w.at.setting.problem w.pass) → left ≡ in_order ref_cmp (flat_map (λ (m : Move). m.news) cuts)
      → number ≡ cells_in left → IsRound (rounds_up (loads_of w) + 1) (sums_at (loads_of w) 0).number 0 number (first_round w) r
  first_number r number cuts left within same of is_number = record {
    same_round = refl;
    same_number = is_number ∙ ap cells_in (left_is r cuts left same of) ∙ sym (load_at r (subst (λ n. r < n) (sym is.same_ranks) within));
    below = omega arith;
  }

  -- the height of the tree
  pub height_down : (ranks height : ℕ) → ranks ≡ w.pass.ranks → height ≡ bottom ranks → height ≡ rounds_down (loads_of w)
  height_down ranks height n h = h ∙ ap bottom (n ∙ sym (loads_length w))

  pub height_up : (ranks height : ℕ) → ranks ≡ w.pass.ranks → height ≡ bottom ranks → height + 1 ≡ rounds_up (loads_of w)
  height_up ranks height n h = ap (λ k. k + 1) (height_down ranks height n h)

pub height_small : (ranks height : ℕ) → ranks < 2 ^ 16 → height ≡ bottom ranks → height + 1 < 2 ^ 32
height_small ranks height few h = omega (arith, h, depth-le (ranks - 1), few)

module _ (w : AtRound) (r : ℕ) (is : IsPassOf w.at) (few : w.at.at.setting.ranks < 2 ^ 16) (within : r < w.at.at.setting.ranks) where
  values : List ℕ
  values = loads_of w.at

  all : AreSummable (loads_of w.at)
  all = summable w.at is few

  is_rank : r < length (loads_of w.at)
  is_rank = subst (λ n. r < n) (sym (loads_length w.at ∙ is.same_ranks)) within

  pub up_sum : (rank ranks round number : ℕ) → rank ≡ r → ranks ≡ w.at.pass.ranks → IsRound (rounds_up (loads_of w.at)) (sums_at (loads_of w.at) w.round).number round number w r
      → IsSum rank ranks round number (sums_at (loads_of w.at) w.round) r
  up_sum rank ranks round number own n turn =
      let part = up_part (loads_of w.at) r ranks w.round number all is_rank (n ∙ sym (loads_length w.at)) turn.same_number in
      record {
        same_rank = own;
        same_ranks = part.same_ranks;
        same_round = turn.same_round ∙ part.same_round;
        same_number = part.same_number;
        within = omega (arith, part.within, own);
        fits = part.fits;
      }

  pub down_telling : (rank ranks round number : ℕ) → rank ≡ r → ranks ≡ w.at.pass.ranks → IsRound (rounds_down (loads_of w.at)) (tellings_at (loads_of w.at) w.round).number round number w r
      → IsTelling rank ranks round number (tellings_at (loads_of w.at) w.round) r
  down_telling rank ranks round number own n turn =
      let part = down_part (loads_of w.at) r ranks w.round number all is_rank (n ∙ sym (loads_length w.at)) turn.same_number in
      record {
        same_rank = own;
        same_ranks = part.same_ranks;
        same_round = turn.same_round ∙ part.same_round;
        same_number = part.same_number;
        within = omega (arith, part.within, own);
      }

  pub up_small : (round : ℕ) → round ≡ w.round → w.round < rounds_up (loads_of w.at) → round + 1 < 2 ^ 32
  up_small round same below = omega (arith, same, below, depth-le (length (loads_of w.at) - 1), all.few)

  pub down_small : (round : ℕ) → round ≡ w.round → w.round < rounds_down (loads_of w.at) → round + 1 < 2 ^ 32
  down_small round same below = omega (arith, same, below, depth-le (length (loads_of w.at) - 1), all.few)

  -- a rank on the way up begins one more round, or is over
  pub up_on : (height round number : ℕ) → height + 1 ≡ rounds_up (loads_of w.at) → round ≤ height
      → IsRound (rounds_up (loads_of w.at) + 1) (sums_at (loads_of w.at) w.round).number round number w r
      → (0 < ups_left w) × IsRound (rounds_up (loads_of w.at)) (sums_at (loads_of w.at) w.round).number round number w r
  up_on height round number end more turn =
      (omega (arith, end, more, turn.same_round), record { same_round = turn.same_round; same_number = turn.same_number; below = omega (arith, end, more, turn.same_round) })

  pub up_over : (height round number given : ℕ) → height + 1 ≡ rounds_up (loads_of w.at) → height < round
      → IsRound (rounds_up (loads_of w.at) + 1) (sums_at (loads_of w.at) w.round).number round number w r → given ≡ (if nat_lt 0 r then 0 else number)
      → (ups_left w ≡ 0) × IsRound (rounds_down (loads_of w.at) + 1) (tellings_at (loads_of w.at) 0).number 0 given (first_round w.at) r
  up_over height round number given end over turn root =
      let last : w.round ≡ rounds_up (loads_of w.at) = omega (arith, end, over, turn.same_round, turn.below) in (
        omega (arith, last),
        record {
          same_round = refl;
          same_number = root ∙ at_root r number ((sums_at (loads_of w.at) (rounds_up (loads_of w.at))).number r) (λ zeroth. turn.same_number ∙ ap (λ k. (sums_at (loads_of w.at) k).number r) last);
          below = omega arith;
        },
      )

  pub down_on : (height round number : ℕ) → height ≡ rounds_down (loads_of w.at) → round < height
      → IsRound (rounds_down (loads_of w.at) + 1) (tellings_at (loads_of w.at) w.round).number round number w r
      → (0 < downs_left w) × IsRound (rounds_down (loads_of w.at)) (tellings_at (loads_of w.at) w.round).number round number w r
  down_on height round number end more turn =
      (omega (arith, end, more, turn.same_round), record { same_round = turn.same_round; same_number = turn.same_number; below = omega (arith, end, more, turn.same_round) })

  pub down_over : (height round number : ℕ) → height ≡ rounds_down (loads_of w.at) → height ≤ round
      → IsRound (rounds_down (loads_of w.at) + 1) (tellings_at (loads_of w.at) w.round).number round number w r
      → (downs_left w ≡ 0) × (number ≡ cells_in (cut_level w.at.at.setting.problem w.at.pass))
  down_over height round number end over turn =
      let last : w.round ≡ rounds_down (loads_of w.at) = omega (arith, end, over, turn.same_round, turn.below) in
      (omega (arith, last), turn.same_number ∙ ap (λ k. (tellings_at (loads_of w.at) k).number r) last ∙ all_after (loads_of w.at) r is_rank ∙ loads_sum w.at is)
