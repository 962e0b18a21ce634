-- What a rank has before the balance and after it is its part of that of all ranks.
use Rattle.std.proofs.Common.{◌≡◌, ℕ, ◌<◌, List, ◌++◌, map, nat_eq, refl, sym, ap, subst, ◌∙◌, inl, inr, arith}
use Rattle.std.proofs.lemmas.Bool.{cond_both}
use Rattle.std.proofs.lemmas.Bool.Decides.{nat_tests}
use Rattle.std.proofs.lemmas.List.Kept.{IsStrictlySortedBy-filter}
use Rattle.std.specs.Prelude.{Bool, true, false, cond, [], ◌∷◌, unsigned_abs, Option, Some}
use Rattle.std.specs.List.{flat_map, range_with_len, find}
use Rattle.std.specs.Option.{option_map_or}
use Rattle.std.specs.List.Sorted.{IsStrictlySortedBy}
use Rattle.std.specs.Ordering.{is_eq, is_le}
use Rattle.std.specs.declared.cmp.Ordering.{Ordering}
use Rattle.samr_box.specs.Corners.{Corners}
use Rattle.samr_box.specs.Lists.{Member}
use Rattle.samr_box.proofs.Ascending.{sorted-head, sorted-tail}
use Rattle.samr_box.proofs.Members.{Member-map, Member-from_map, Member-flat_map, Member-from_flat_map, Member-filter, Member-from_filter}
use Rattle.samr_level.specs.declared.parts.Move.{Move}
use Rattle.samr_level.specs.Refs.{Owned}
use Rattle.samr_level.specs.RefOrders.{ref_cmp}
use Rattle.samr_level.specs.Levels.{own}
use Rattle.samr_level.proofs.BlockCells.{Member-range, Member-from_range}
use Rattle.samr_level.proofs.Level0Pairs.{Member-own, Member-from_own}
use Rattle.samr_level.proofs.RefLaws.{ref_total, same_from_ref_cmp}
use Rattle.samr_level.proofs.Sorting.{Member-in_order, Member-from_in_order, in_order_is}
use Rattle.samr_load.specs.Balanced.{owned_by, quota_of, cells_in}
use Rattle.samr_load.specs.Pieces.{Placed, put_in, sorted, of_origin}
use Rattle.samr_load.proofs.Totals.{each_sorted}
use Rattle.samr_load.proofs.Wholes.{all_cells}
use Rattle.samr_balance.specs.Home.{Homes, pieces_in, news_on, news_of, move_of, homed_of}
use Rattle.samr_balance.specs.declared.homed.Homed.{Homed}
use Rattle.samr_boxlist.specs.Pieces.{chopped}
use Rattle.samr_nest.specs.CutLevels as cut_levels
use Rattle.samr_nest.specs.Nested.{cut_of, nested}
use Rattle.samr_modify.specs.Entries.{moves_of}
use Rattle.samr_modify.specs.ModifyParts.{IsPiece, ArePieces}
use Rattle.samr_modify.specs.Pieces.{Piece}
use Rattle.samr_problem.specs.Fields.{Fields}
use Rattle.samr_tags.proofs.Buffering.{ref_itself, same_ref}
use Rattle.samr_mesh.specs.Domains.{area_at}
use Rattle.samr_mesh.specs.Passes.{Pass, clusters_of, cuts_of, cut_level}
use Rattle.samr_mesh.specs.Soundness.{CanRun}
use Rattle.samr_mesh.proofs.Passing.{cut_are}
use Rattle.samr_wholes.specs.Wholes.{homing, replaced, modifying}
use Rattle.samr_balancing.specs.Shares.{news_in, moved, new_box}

flat_map_same : {X Y : Type 0} (f g : X → List Y) (xs : List X) → ((x : X) → Member x xs → f x ≡ g x) → flat_map f xs ≡ flat_map g xs
flat_map_same f g [] same = refl
flat_map_same {X} {Y} f g (x ∷ xs) same =
    ap (λ (l : List Y). l ++ flat_map f xs) (same x (inl refl)) ∙ ap (λ (l : List Y). g x ++ l) (flat_map_same f g xs (λ y m. same y (inr m)))

map_same : {X Y : Type 0} (f g : X → Y) (xs : List X) → ((x : X) → Member x xs → f x ≡ g x) → map f xs ≡ map g xs
map_same f g [] same = refl
map_same {X} {Y} f g (x ∷ xs) same =
    ap (λ (y : Y). y ∷ map f xs) (same x (inl refl)) ∙ ap (λ (l : List Y). g x ∷ l) (map_same f g xs (λ y m. same y (inr m)))

-- members of a sorted list
from_sorted : (y : Owned) (xs : List Owned) → Member y (sorted ref_cmp xs) → Member y xs
from_sorted y xs m = each_sorted (λ v. Member v xs) ref_cmp xs (λ v n. n) y m

first_in : (x : Owned) (ys : List Owned) → Member x (put_in ref_cmp x ys)
first_in x [] = inl refl
first_in x (y ∷ ys) = cond_both (is_le (ref_cmp x y)) (x ∷ y ∷ ys) (y ∷ put_in ref_cmp x ys) (λ l. Member x l) (λ _. inl refl) (λ _. inr (first_in x ys))

others_in : (z x : Owned) (ys : List Owned) → Member z ys → Member z (put_in ref_cmp x ys)
others_in z x [] m = absurd m
others_in z x (y ∷ ys) (inl e) =
    cond_both (is_le (ref_cmp x y)) (x ∷ y ∷ ys) (y ∷ put_in ref_cmp x ys) (λ l. Member z l) (λ _. inr (inl e)) (λ _. inl e)
others_in z x (y ∷ ys) (inr m) =
    cond_both (is_le (ref_cmp x y)) (x ∷ y ∷ ys) (y ∷ put_in ref_cmp x ys) (λ l. Member z l) (λ _. inr (inr m)) (λ _. inr (others_in z x ys m))

in_sorted : (z : Owned) (xs : List Owned) → Member z xs → Member z (sorted ref_cmp xs)
unfolding sorted
in_sorted z [] m = absurd m
in_sorted z (x ∷ xs) (inl e) = subst (λ (v : Owned). Member v (put_in ref_cmp x (sorted ref_cmp xs))) (sym e) (first_in x (sorted ref_cmp xs))
in_sorted z (x ∷ xs) (inr m) = others_in z x (sorted ref_cmp xs) (in_sorted z xs m)

-- a list in strict order is sorted
put_first : (x : Owned) (xs : List Owned) → IsStrictlySortedBy ref_cmp (x ∷ xs) → put_in ref_cmp x xs ≡ x ∷ xs
put_first x [] s = refl
put_first x (y ∷ ys) s =
    ap (λ (t : Ordering). cond (is_le t) (x ∷ y ∷ ys) (y ∷ put_in ref_cmp x ys)) (sorted-head ref_cmp x (y ∷ ys) s y (inl refl))

sorted_again : (xs : List Owned) → IsStrictlySortedBy ref_cmp xs → sorted ref_cmp xs ≡ xs
unfolding sorted
sorted_again [] s = refl
sorted_again (x ∷ xs) s = ap (put_in ref_cmp x) (sorted_again xs (sorted-tail ref_cmp x xs s)) ∙ put_first x xs s

abbrev found_by : Option Move → List Owned
found_by found = option_map_or (λ m. m.news) found []

-- what is found of a box in a list of moves in strict order
one_found : (w : Homes) (b : Owned) (os : List Owned) → IsStrictlySortedBy ref_cmp os → Member b os → news_in (map (move_of w) os) b ≡ news_of w b
one_found w b [] s m = absurd m
one_found w b (o ∷ os) s (inl e) =
    let here : is_eq (ref_cmp o b) ≡ true = subst (λ (v : Owned). is_eq (ref_cmp v b) ≡ true) e (ref_itself b) in
    ap (λ (t : Bool). found_by (cond t (Some (move_of w o)) (find (λ m. is_eq (ref_cmp m.old b)) (map (move_of w) os)))) here ∙ ap (news_of w) (sym e)
one_found w b (o ∷ os) s (inr m) =
    ap (λ (t : Bool). found_by (cond t (Some (move_of w o)) (find (λ m. is_eq (ref_cmp m.old b)) (map (move_of w) os)))) (ap is_eq (sorted-head ref_cmp o os s b m))
    ∙ one_found w b os (sorted-tail ref_cmp o os s) m

-- a new box of a box: a piece of it on a rank
record IsNews (p : Fields) (w : Pass) (b o : Owned) : Type 0 where
  rank : ℕ
  below : rank < w.ranks
  q : Placed
  there : Member q (pieces_in (homing p w) rank)
  origin : q.origin ≡ b
  is : o ≡ owned_by rank q

-- a box that the cut leaves, with the move that leaves it
record IsLeft (p : Fields) (w : Pass) (b : Owned) : Type 0 where
  m : Move
  there : Member m (cuts_of p w)
  new : Member b m.news

same_piece : {a b : Piece} → a.bx ≡ b.bx → a.old_owner ≡ b.old_owner → a ≡ b
same_piece {a} {b} bx owner =
    ap (λ (c : Corners). let q : Piece = record { bx = c; old_owner = a.old_owner } in q) bx
    ∙ ap (λ (n : ℕ). let q : Piece = record { bx = b.bx; old_owner = n } in q) owner

module _ (p : Fields) (w : Pass) (run : CanRun p w) where
  from_home : (b o : Owned) → Member o (news_of (homing p w) b) → IsNews p w b o
  unfolding news_of
  from_home b o m =
      let all = flat_map (news_on (homing p w) b) (range_with_len 0 w.ranks) in
      let r = Member-from_flat_map (news_on (homing p w) b) o (range_with_len 0 w.ranks) (from_sorted o all m) in
      let below = Member-from_range r.0 0 w.ranks r.1 in
      let u = Member-from_map (owned_by r.0) o (of_origin b (pieces_in (homing p w) r.0)) r.2 in
      let f = Member-from_filter (λ (q : Placed). is_eq (ref_cmp q.origin b)) u.0 (pieces_in (homing p w) r.0) u.1 in
      record { rank = r.0; below = omega (arith, below); q = u.0; there = f.0; origin = same_ref u.0.origin b f.1; is = u.2 }

  to_home : (b o : Owned) → IsNews p w b o → Member o (news_of (homing p w) b)
  unfolding news_of
  to_home b o n =
      let all = flat_map (news_on (homing p w) b) (range_with_len 0 w.ranks) in
      let passes : is_eq (ref_cmp n.q.origin b) ≡ true = subst (λ (v : Owned). is_eq (ref_cmp n.q.origin v) ≡ true) n.origin (ref_itself n.q.origin) in
      let f = Member-filter (λ (q : Placed). is_eq (ref_cmp q.origin b)) n.q (pieces_in (homing p w) n.rank) n.there passes in
      let u = Member-map (owned_by n.rank) n.q (of_origin b (pieces_in (homing p w) n.rank)) f in
      in_sorted o all
      (Member-flat_map (news_on (homing p w) b) o n.rank (range_with_len 0 w.ranks) (Member-range n.rank 0 w.ranks (omega arith) (omega (arith, n.below)))
      (subst (λ (v : Owned). Member v (news_on (homing p w) b n.rank)) (sym n.is) u))

  -- what is left of a cluster has its owner
  same_owner : (m : Move) → Member m (cuts_of p w) → (b : Owned) → Member b m.news → b.owner ≡ m.old.owner
  unfolding cuts_of
  same_owner m there b new =
      let c = Member-from_map (cut_of (area_at p w.number) w.level p.nest (unsigned_abs p.largest)) m (clusters_of p w) there in
      let left = subst (λ (v : Move). Member b v.news) c.2 new in
      let k = Member-from_map (λ (x : Corners). let o : Owned = record { owner = c.0.owner; bx = x } in o) b (chopped (unsigned_abs p.largest) (nested (area_at p w.number) w.level p.nest c.0.bx)) left in
      ap (λ (v : Owned). v.owner) k.2 ∙ sym (ap (λ (v : Move). v.old.owner) c.2)

  left_from : (b : Owned) → Member b (cut_level p w) → IsLeft p w b
  unfolding cut_level
  left_from b there =
      let m = Member-from_flat_map (λ (v : Move). v.news) b (cuts_of p w) (Member-from_in_order ref_total b (flat_map (λ (v : Move). v.news) (cuts_of p w)) there) in
      record { m = m.0; there = m.1; new = m.2 }

  left_to : (m : Move) (b : Owned) → Member m (cuts_of p w) → Member b m.news → Member b (cut_level p w)
  unfolding cut_level
  left_to m b there new =
      Member-in_order ref_total same_from_ref_cmp b (flat_map (λ (v : Move). v.news) (cuts_of p w)) (Member-flat_map (λ (v : Move). v.news) b m (cuts_of p w) there new)

  own_moves_from : (r : ℕ) (moves : List Move) (m : Move) → Member m (moves_of r moves) → Member m moves × (m.old.owner ≡ r)
  unfolding moves_of
  own_moves_from r moves m there =
      let f = Member-from_filter (λ (v : Move). nat_eq v.old.owner r) m moves there in
      let t = f.1 in
      (f.0, grind (arith, nat_tests, t))

  own_moves_to : (r : ℕ) (moves : List Move) (m : Move) → Member m moves → m.old.owner ≡ r → Member m (moves_of r moves)
  unfolding moves_of
  own_moves_to r moves m there e = Member-filter (λ (v : Move). nat_eq v.old.owner r) m moves there (grind (arith, nat_tests, e))

  own_sorted : (r : ℕ) → IsStrictlySortedBy ref_cmp (own r (cut_level p w))
  unfolding own
  own_sorted r = IsStrictlySortedBy-filter ref_cmp (λ (b : Owned). nat_eq b.owner r) (cut_level p w) (cut_are p w run).in_order

  -- all that is left of a rank's clusters is what it owns of the level
  pub own_is : (r : ℕ) → own r (cut_level p w) ≡ cut_levels.news_of (moves_of r (cuts_of p w))
  own_is r =
      let mine = moves_of r (cuts_of p w) in
      in_order_is ref_total same_from_ref_cmp (flat_map (λ (v : Move). v.news) mine) (own r (cut_level p w)) (own_sorted r)
      (λ b there.
      let f = Member-from_own r (cut_level p w) b there in
      let left = left_from b f.0 in
      Member-flat_map (λ (v : Move). v.news) b left.m mine (own_moves_to r (cuts_of p w) left.m left.there (sym (same_owner left.m left.there b left.new) ∙ f.1)) left.new)
      (λ b there.
      let m = Member-from_flat_map (λ (v : Move). v.news) b mine there in
      let f = own_moves_from r (cuts_of p w) m.0 m.1 in
      Member-own r (cut_level p w) b (left_to m.0 b f.0 m.2) (same_owner m.0 f.0 b m.2 ∙ f.1))

  -- what becomes of a rank's clusters
  replaced_moves : (r : ℕ) (moves : List Move) → moves_of r (map (replaced p w) moves) ≡ map (replaced p w) (moves_of r moves)
  unfolding moves_of
  replaced_moves r [] = refl
  replaced_moves r (m ∷ moves) = by (nat_eq m.old.owner r) (replaced_moves r moves)
    where
      by : (t : Bool) → moves_of r (map (replaced p w) moves) ≡ map (replaced p w) (moves_of r moves)
          → cond t (replaced p w m ∷ moves_of r (map (replaced p w) moves)) (moves_of r (map (replaced p w) moves)) ≡ map (replaced p w) (cond t (m ∷ moves_of r moves) (moves_of r moves))
      by true rest = ap (λ (l : List Move). replaced p w m ∷ l) rest
      by false rest = rest

  moves_again : (r : ℕ) → map (moved (map (move_of (homing p w)) (own r (cut_level p w)))) (moves_of r (cuts_of p w)) ≡ moves_of r (modifying p w).moves
  moves_again r =
      let mine = own r (cut_level p w) in
      map_same (moved (map (move_of (homing p w)) mine)) (replaced p w) (moves_of r (cuts_of p w))
      (λ m there.
      let f = own_moves_from r (cuts_of p w) m there in
      ap (λ (l : List Owned). let v : Move = record { old = m.old; news = l } in v)
      (flat_map_same (news_in (map (move_of (homing p w)) mine)) (news_of (homing p w)) m.news
      (λ b new. one_found (homing p w) b mine (own_sorted r) (Member-own r (cut_level p w) b (left_to m b f.0 new) (same_owner m f.0 b new ∙ f.1)))))
      ∙ sym (replaced_moves r (cuts_of p w))

  pub moves_are : (r : ℕ) (homed : Homed) (entries cuts made : List Move) → homed ≡ homed_of (homing p w) r → entries ≡ homed.mapping.entries → cuts ≡ moves_of r (cuts_of p w)
      → made ≡ map (moved entries) cuts → made ≡ moves_of r (modifying p w).moves
  unfolding homed_of
  moves_are r homed entries cuts made e f g h =
      h ∙ ap (λ (l : List Move). map (moved l) cuts) (f ∙ ap (λ (v : Homed). v.mapping.entries) e ∙ ap (map (move_of (homing p w))) (sorted_again (own r (cut_level p w)) (own_sorted r)))
      ∙ ap (map (moved (map (move_of (homing p w)) (own r (cut_level p w))))) g ∙ moves_again r

  -- a rank's pieces are its new boxes
  module _ (r : ℕ) (inside : r < w.ranks) where
    to_piece : (q : Placed) → Member q (pieces_in (homing p w) r) → IsPiece (modifying p w) r (new_box q)
    to_piece q there =
        let cut = cut_are p w run in
        let cells = all_cells (quota_of (cells_in (cut_level p w)) w.ranks) w.ranks (homing p w).smallest (cut_level p w) run.can.some_planes (λ o m. cut.not_empty o m) (λ o m. cut.owners o m) in
        let home = cells.origins q (Member-flat_map (pieces_in (homing p w)) q r (range_with_len 0 w.ranks) (Member-range r 0 w.ranks (omega arith) (omega (arith, inside))) there) in
        let left = left_from q.origin home in
        let news = to_home q.origin (owned_by r q) (record { rank = r; below = inside; q = q; there = there; origin = refl; is = refl }) in (
          replaced p w left.m,
          Member-map (replaced p w) left.m (cuts_of p w) left.there,
          sym (same_owner left.m left.there q.origin left.new),
          Member-flat_map (news_of (homing p w)) (owned_by r q) q.origin left.m.news left.new news,
        )

    from_piece : (v : Piece) → IsPiece (modifying p w) r v → Member v (map new_box (pieces_in (homing p w) r))
    from_piece v is =
        let m = Member-from_map (replaced p w) is.0 (cuts_of p w) is.1 in
        let new : Owned = record { owner = r; bx = v.bx } in
        let b = Member-from_flat_map (news_of (homing p w)) new m.0.news (subst (λ (u : Move). Member new u.news) m.2 is.3) in
        let n = from_home b.0 new b.2 in
        let here : n.rank ≡ r = sym (ap (λ (o : Owned). o.owner) n.is) in
        let there = subst (λ (k : ℕ). Member n.q (pieces_in (homing p w) k)) here n.there in
        let owner = ap (λ (o : Owned). o.owner) n.origin ∙ same_owner m.0 m.1 b.0 b.1 ∙ sym (ap (λ (u : Move). u.old.owner) m.2) ∙ is.2 in
        subst (λ (u : Piece). Member u (map new_box (pieces_in (homing p w) r))) (same_piece {a = new_box n.q} {b = v} (sym (ap (λ (o : Owned). o.bx) n.is)) owner)
        (Member-map new_box n.q (pieces_in (homing p w) r) there)

    pieces_again : ArePieces (modifying p w) r (map new_box (pieces_in (homing p w) r))
    pieces_again = record {
      only = λ v there.
          let u = Member-from_map new_box v (pieces_in (homing p w) r) there in
          subst (λ (x : Piece). IsPiece (modifying p w) r x) (sym u.2) (to_piece u.0 u.1);
      all = from_piece;
    }

    pub pieces_are : (homed : Homed) (pieces : List Placed) (news : List Piece) → homed ≡ homed_of (homing p w) r → pieces ≡ homed.pieces → news ≡ map new_box pieces → ArePieces (modifying p w) r news
    unfolding homed_of
    pieces_are homed pieces news e f g =
        subst (λ (l : List Piece). ArePieces (modifying p w) r l) (sym (g ∙ ap (map new_box) (f ∙ ap (λ (v : Homed). v.pieces) e))) pieces_again
