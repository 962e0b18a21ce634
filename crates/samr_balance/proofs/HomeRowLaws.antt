-- The letters home: what they weigh, and that all of them together weigh what a rank waits for.
use Rattle.std.proofs.Common.{◌≡◌, ℕ, ◌+◌, ◌-◌, ◌<◌, ◌≤◌, ◌^◌, refl, sym, ap, subst, ◌∙◌, inl, inr, arith, nat_lt, nat_eq}
use Rattle.std.proofs.lemmas.Bool.{cond-true, cond_both, lt-ltb, ltb-true, ltb-false, and_from}
use Rattle.std.proofs.lemmas.List.Sums.{sum_by-cons}
use Rattle.std.specs.Prelude.{Bool, true, false, cond, ◌&&◌, not, List, [], ◌∷◌, ◌++◌, map, filter, sum_by, Option, Some, None}
use Rattle.std.specs.List.{cons_option}
use Rattle.std.specs.Option.{option_map}
use Rattle.samr_box.specs.Corners.{cells_of}
use Rattle.samr_bits.specs.Sums.{sum_below}
use Rattle.samr_bits.proofs.Sums.{sum_ext, sum_member}
use Rattle.samr_stage.specs.declared.stage.Held.{Held}
use Rattle.samr_stage.specs.Row.{told, heard, column}
use Rattle.samr_stage.proofs.Rows.{along_same, along_more, along_none}
use Rattle.samr_level.specs.Refs.{Owned}
use Rattle.samr_level.specs.RefOrders.{ref_cmp}
use Rattle.samr_level.specs.Levels.{own}
use Rattle.samr_load.specs.Pieces.{Placed, whole, size_of, total, sorted}
use Rattle.samr_load.specs.Balanced.{cells_in}
use Rattle.samr_load.proofs.Totals.{Each, total-is_sum}
use Rattle.samr_load.proofs.Parting.{IsSolid}
use Rattle.samr_load.proofs.Shapes.{cells_shared, origin_shared, solid_inherits}
use Rattle.samr_load.proofs.Descents.{pieces_each}
use Rattle.samr_load.proofs.Keeping.{balance_keeps}
use Rattle.samr_load.proofs.Wholes.{own_solid, all_owned}
use Rattle.samr_balance.specs.Home.{Homes, balancing_of, pieces_in, AreHomes, HasPieces}
use Rattle.samr_balance.specs.HomeRow.{Cutting, cutting_of, cutting_cmp, of_owner, size_for, told_of, weight, line_of, home_row}
use Rattle.samr_balance.proofs.Counts.{sum-sorted, sum-map, sum-filter}
use Rattle.samr_balance.proofs.LineSums.{sum_along, but, sum_but}
use Rattle.samr_balance.proofs.WayDownStage.{no_cells}

-- what a letter weighs is the cells of the pieces
pub weight_is : (rank : ℕ) (pieces : List Placed) → weight (told_of rank pieces) ≡ sum_by (size_for rank) pieces
unfolding weight told_of of_owner
weight_is rank pieces =
    sum-sorted (λ (c : Cutting). cells_of c.bx) cutting_cmp (map cutting_of (filter (λ (q : Placed). nat_eq q.origin.owner rank) pieces))
    ∙ sum-map (λ (c : Cutting). cells_of c.bx) cutting_of (filter (λ (q : Placed). nat_eq q.origin.owner rank) pieces)
    ∙ sum-filter size_of (λ (q : Placed). nat_eq q.origin.owner rank) pieces

pub cells_are : (boxes : List Owned) → sum_by (λ (o : Owned). cells_of o.bx) boxes ≡ cells_in boxes
cells_are [] = refl
cells_are (o ∷ boxes) = omega (arith, sum_by-cons (λ (o : Owned). cells_of o.bx) o boxes, cells_are boxes)

-- the cells of a rank's boxes
own_cells : (rank : ℕ) (boxes : List Owned) → total (size_for rank) (map whole boxes) ≡ cells_in (own rank boxes)
unfolding own
own_cells rank [] = refl
own_cells rank (o ∷ boxes) =
    cond_both (nat_eq o.owner rank) (o ∷ own rank boxes) (own rank boxes)
    (λ l. total (size_for rank) (map whole (o ∷ boxes)) ≡ cells_in l)
    (λ on. let here = ap (λ t. cond {A = ℕ} t (cells_of o.bx) 0) on in omega (arith, here, own_cells rank boxes))
    (λ off. let here = ap (λ t. cond {A = ℕ} t (cells_of o.bx) 0) off in omega (arith, here, own_cells rank boxes))

own_within : (rank : ℕ) (boxes : List Owned) → cells_in (own rank boxes) ≤ cells_in boxes
unfolding own
own_within rank [] = omega arith
own_within rank (o ∷ boxes) =
    cond_both (nat_eq o.owner rank) (o ∷ own rank boxes) (own rank boxes) (λ l. cells_in l ≤ cells_in (o ∷ boxes))
    (λ on. omega (arith, own_within rank boxes))
    (λ off. omega (arith, own_within rank boxes))

module _ (w : Homes) (h : AreHomes w) where
  pub solid_pieces : (rank : ℕ) → rank < w.ranks → Each IsSolid (pieces_in w rank)
  solid_pieces rank inside =
      pieces_each (balancing_of w) IsSolid solid_inherits (λ q s. s) h.some
      (own_solid w.quota w.ranks w.smallest w.boxes h.some (λ o m. (h.owned o m).0)) rank inside

  -- the pieces of a rank's boxes on all ranks have their cells
  pub all_for : (rank : ℕ) → sum_below (λ k. sum_by (size_for rank) (pieces_in w k)) w.ranks ≡ cells_in (own rank w.boxes)
  all_for rank =
      let kept = balance_keeps (balancing_of w) h.some
      (own_solid w.quota w.ranks w.smallest w.boxes h.some (λ o m. (h.owned o m).0))
      (size_for rank) (origin_shared (λ (q : Placed). nat_eq q.origin.owner rank) (λ q b. refl) size_of cells_shared) in
      let sums = sum_ext (λ k. total (size_for rank) (pieces_in w k)) (λ k. sum_by (size_for rank) (pieces_in w k)) w.ranks
      (λ k below. total-is_sum (size_for rank) (pieces_in w k)) in
      sym sums ∙ kept ∙ all_owned (size_for rank) w.ranks w.boxes (λ o m. (h.owned o m).1) ∙ own_cells rank w.boxes

  pub some_for : (rank k : ℕ) → k < w.ranks → sum_by (size_for rank) (pieces_in w k) ≤ cells_in (own rank w.boxes)
  some_for rank k inside = omega (arith, all_for rank, sum_member (λ k. sum_by (size_for rank) (pieces_in w k)) w.ranks k inside)

  pub own_small : (rank : ℕ) → cells_in (own rank w.boxes) < 2 ^ 63
  own_small rank = omega (arith, own_within rank w.boxes, h.cells)

  pub weight_small : (rank k : ℕ) → k < w.ranks → weight (told_of rank (pieces_in w k)) < 2 ^ 63
  weight_small rank k inside = omega (arith, weight_is rank (pieces_in w k), some_for rank k inside, own_small rank)

  -- who has no cells of a rank's boxes has nothing to tell it
  pub none_told : (rank k : ℕ) → k < w.ranks → weight (told_of rank (pieces_in w k)) ≡ 0 → told_of rank (pieces_in w k) ≡ []
  unfolding told_of of_owner sorted
  none_told rank k inside none =
      let few = sum-filter size_of (λ (q : Placed). nat_eq q.origin.owner rank) (pieces_in w k) in
      let all = total-is_sum size_of (filter (λ (q : Placed). nat_eq q.origin.owner rank) (pieces_in w k)) in
      ap (λ l. sorted cutting_cmp (map cutting_of l))
      (no_cells (filter (λ (q : Placed). nat_eq q.origin.owner rank) (pieces_in w k)) (solid_filter (pieces_in w k) (solid_pieces k inside))
      (omega (arith, few, all, weight_is rank (pieces_in w k), none)))
    where
      solid_filter : (l : List Placed) → Each IsSolid l → Each IsSolid (filter (λ (q : Placed). nat_eq q.origin.owner rank) l)
      solid_filter [] each = each
      solid_filter (q ∷ qs) each =
          cond_both (nat_eq q.origin.owner rank) (q ∷ filter (λ (q : Placed). nat_eq q.origin.owner rank) qs) (filter (λ (q : Placed). nat_eq q.origin.owner rank) qs) (λ l. Each IsSolid l)
          (λ on. cons_solid q (filter (λ (q : Placed). nat_eq q.origin.owner rank) qs) (each q (inl refl)) (solid_filter qs (λ p m. each p (inr m))))
          (λ off. solid_filter qs (λ p m. each p (inr m)))
        where
          cons_solid : (q : Placed) (qs : List Placed) → IsSolid q → Each IsSolid qs → Each IsSolid (q ∷ qs)
          cons_solid q qs here later p (inl e) = subst IsSolid (sym e) here
          cons_solid q qs here later p (inr m) = later p m

  -- a sum over the letters that a rank holds
  module _ (rank : ℕ) (within : rank < w.ranks) (g : ℕ → List Cutting → ℕ) (nothing : (k : ℕ) → g k [] ≡ 0) where
    abbrev of_letter : Held (List Cutting) → ℕ
    of_letter letter = g letter.sender letter.body

    abbrev here : ℕ → Option (List Cutting) → ℕ
    here k o = sum_by of_letter (cons_option (option_map (λ body. let l : Held (List Cutting) = record { sender = k; body = body } in l) o) [])

    one_line : (k : ℕ) → k < w.ranks → (s t : Bool) → nat_eq k rank ≡ s → nat_lt 0 (weight (told_of rank (pieces_in w k))) ≡ t
        → here k (cond (not s && t) (Some (told_of rank (pieces_in w k))) None) ≡ cond s 0 (g k (told_of rank (pieces_in w k)))
    one_line k inside true t e f = refl
    one_line k inside false true e f =
        let letter : Held (List Cutting) = record { sender = k; body = told_of rank (pieces_in w k) } in
        omega (arith, sum_by-cons of_letter letter [])
    one_line k inside false false e f =
        let none = none_told rank k inside (omega (arith, ltb-false 0 (weight (told_of rank (pieces_in w k))) f)) in
        sym (ap (g k) none ∙ nothing k)

    one_is : (k : ℕ) → k < w.ranks → here k (home_row w k rank) ≡ but rank (λ k. g k (told_of rank (pieces_in w k))) k
    unfolding home_row line_of
    one_is k inside =
        let both = and_from (nat_lt k w.ranks) (nat_lt rank w.ranks) (lt-ltb k w.ranks inside) (lt-ltb rank w.ranks within) in
        ap (here k) (cond-true (nat_lt k w.ranks && nat_lt rank w.ranks) (line_of (pieces_in w k) k rank) None both)
        ∙ one_line k inside (nat_eq k rank) (nat_lt 0 (weight (told_of rank (pieces_in w k)))) refl refl

    pub sum_heard : sum_by of_letter (heard (column (home_row w) rank) w.ranks) + g rank (told_of rank (pieces_in w rank))
        ≡ sum_below (λ k. g k (told_of rank (pieces_in w k))) w.ranks
    sum_heard =
        let all = sum_along of_letter (λ from body. let l : Held (List Cutting) = record { sender = from; body = body } in l) (column (home_row w) rank) w.ranks in
        let each = sum_ext (λ k. here k (home_row w k rank)) (but rank (λ k. g k (told_of rank (pieces_in w k)))) w.ranks one_is in
        let rest = sum_but rank (λ k. g k (told_of rank (pieces_in w k))) w.ranks within in
        omega (arith, all, each, rest)

  -- what the letters for a rank weigh together
  pub weight_heard : (rank : ℕ) → rank < w.ranks
      → sum_by (λ (l : Held (List Cutting)). weight l.body) (heard (column (home_row w) rank) w.ranks) + sum_by (size_for rank) (pieces_in w rank) ≡ cells_in (own rank w.boxes)
  unfolding weight
  weight_heard rank within =
      let all = sum_heard rank within (λ k body. weight body) (λ k. refl) in
      let same = sum_ext (λ k. weight (told_of rank (pieces_in w k))) (λ k. sum_by (size_for rank) (pieces_in w k)) w.ranks (λ k below. weight_is rank (pieces_in w k)) in
      omega (arith, all, same, weight_is rank (pieces_in w rank), all_for rank)

-- what a letter tells, by its place in the row
pub row_is : (w : Homes) (from to : ℕ) (body : List Cutting) → home_row w from to ≡ Some body → (from < w.ranks) × (body ≡ told_of to (pieces_in w from))
unfolding home_row line_of
row_is w from to body e =
    by (nat_lt from w.ranks) (nat_lt to w.ranks) (not (nat_eq from to) && nat_lt 0 (weight (told_of to (pieces_in w from)))) (λ t. ltb-true from w.ranks t) e
  where
    by : (s t v : Bool) → (s ≡ true → from < w.ranks) → cond (s && t) (cond v (Some (told_of to (pieces_in w from))) None) None ≡ Some body
        → (from < w.ranks) × (body ≡ told_of to (pieces_in w from))
    by true true true inside e = (inside refl, cc)
    by true true false inside e = absurd cc
    by true false v inside e = absurd cc
    by false t v inside e = absurd cc

module _ (rank ranks : ℕ) (pieces : List Placed) (olds : List Owned) (w : Homes) (r : ℕ) (is : HasPieces rank ranks pieces olds w r) where
  pub line_small : (to : ℕ) → weight (told_of to pieces) < 2 ^ 63
  line_small to =
      subst (λ (l : List Placed). weight (told_of to l) < 2 ^ 63) (sym is.same_pieces) (weight_small w is.homes to r is.within)

  pub letter_small : (from : ℕ) (body : List Cutting) → home_row w from r ≡ Some body → weight body < 2 ^ 63
  letter_small from body e =
      let at = row_is w from r body e in
      subst (λ (l : List Cutting). weight l < 2 ^ 63) (sym at.1) (weight_small w is.homes r from at.0)

  pub letters_are : (items : List (ℕ × List Cutting)) → items ≡ told (line_of pieces rank) ranks → items ≡ told (home_row w r) w.ranks
  unfolding home_row
  letters_are items e =
      e ∙ ap (λ (l : List Placed). told (line_of l rank) ranks) is.same_pieces ∙ ap (λ (k : ℕ). told (line_of (pieces_in w r) k) ranks) is.same_rank
      ∙ ap (λ (n : ℕ). told (line_of (pieces_in w r) r) n) is.same_ranks
      ∙ along_same (λ to body. let p : ℕ × List Cutting = (to, body) in p) (line_of (pieces_in w r) r) (home_row w r) w.ranks same
    where
      same : (k : ℕ) → k < w.ranks → line_of (pieces_in w r) r k ≡ home_row w r k
      same k inside =
          sym (cond-true (nat_lt r w.ranks && nat_lt k w.ranks) (line_of (pieces_in w r) r k) None
          (and_from (nat_lt r w.ranks) (nat_lt k w.ranks) (lt-ltb r w.ranks is.within) (lt-ltb k w.ranks inside)))

  pub olds_cells : sum_by (λ (o : Owned). cells_of o.bx) olds ≡ cells_in (own r w.boxes)
  olds_cells =
      ap (sum_by (λ (o : Owned). cells_of o.bx)) is.same_olds ∙ sum-sorted (λ (o : Owned). cells_of o.bx) ref_cmp (own r w.boxes) ∙ cells_are (own r w.boxes)

  pub olds_small : sum_by (λ (o : Owned). cells_of o.bx) olds < 2 ^ 63
  olds_small = omega (arith, olds_cells, own_small w is.homes r)

  own_part : sum_by (size_for rank) pieces ≡ sum_by (size_for r) (pieces_in w r)
  own_part = ap (λ (k : ℕ). sum_by (size_for k) pieces) is.same_rank ∙ ap (sum_by (size_for r)) is.same_pieces

  pub own_part_within : sum_by (size_for rank) pieces ≤ sum_by (λ (o : Owned). cells_of o.bx) olds
  own_part_within = omega (arith, own_part, olds_cells, some_for w is.homes r r is.within)

  pub goal_is : (n m : ℕ) → n ≡ sum_by (λ (o : Owned). cells_of o.bx) olds → m ≡ sum_by (size_for rank) pieces
      → n - m ≡ sum_by (λ (l : Held (List Cutting)). weight l.body) (heard (column (home_row w) r) w.ranks)
  goal_is n m e f = omega (arith, e, f, own_part, olds_cells, weight_heard w is.homes r is.within)

-- the letters to one more rank
pub line_more : (line : ℕ → Option (List Cutting)) (n : ℕ) (before after : List (ℕ × List Cutting)) → before ≡ told line n
    → after ≡ before ++ cons_option (option_map (λ body. let p : ℕ × List Cutting = (n, body) in p) (line n)) [] → after ≡ told line (n + 1)
line_more line n before after so_far more =
    more ∙ ap (λ l. l ++ cons_option (option_map (λ body. let p : ℕ × List Cutting = (n, body) in p) (line n)) []) so_far
    ∙ sym (along_more (λ to body. let p : ℕ × List Cutting = (to, body) in p) line n)

pub line_none : (line : ℕ → Option (List Cutting)) (items : List (ℕ × List Cutting)) → items ≡ [] → items ≡ told line 0
line_none line items none = none ∙ sym (along_none (λ to body. let p : ℕ × List Cutting = (to, body) in p) line)
