-- What is found by pairs of edges that leave one box: members, and that found edges are the true overlaps.
use Rattle.std.proofs.Common.{◌≡◌, sym, ap, subst, ◌∙◌}
use Rattle.std.proofs.lemmas.Bool.{and_parts, and_from}
use Rattle.std.proofs.lemmas.Bool.Decides.{Decides-int_eq}
use Rattle.std.proofs.lemmas.Cmp.{tied_itself}
use Rattle.std.specs.Cmp.{Equal-is}
use Rattle.std.specs.Ordering.{int_eq, is_eq}
use Rattle.std.specs.Prelude.{ℤ, pos, true, ◌&&◌, List, map, filter}
use Rattle.samr_box.specs.declared.vector.IVec.{IVec}
use Rattle.samr_box.specs.Vector.{alike}
use Rattle.samr_box.specs.Space.{is_zero}
use Rattle.samr_box.specs.Lists.{Member}
use Rattle.samr_box.proofs.Vectors.{same_cell}
use Rattle.samr_box.proofs.Members.{Member-map, Member-from_map, Member-flat_map, Member-from_flat_map, Member-filter, Member-from_filter}
use Rattle.samr_level.specs.Refs.{Owned, Link}
use Rattle.samr_level.specs.RefOrders.{ref_cmp}
use Rattle.samr_level.specs.Overlaps.{Scale, is_true}
use Rattle.samr_level.proofs.RefLaws.{ref_total, edge_total, same_from_ref_cmp, same_from_edge_cmp}
use Rattle.samr_level.proofs.Sorting.{Member-in_order, Member-from_in_order}
use Rattle.samr_bridge.specs.Found.{leave_one_box, joined, all_joined, found_by}

-- the two tests on a pair
pub same_box : (a b : Owned) → is_eq (ref_cmp a b) ≡ true → a ≡ b
same_box a b t = same_from_ref_cmp a b ((Equal-is (ref_cmp a b)).0 t)

pub same_box-is : (a b : Owned) → a ≡ b → is_eq (ref_cmp a b) ≡ true
same_box-is a b e = ap (λ (v : Owned). is_eq (ref_cmp a v)) (sym e) ∙ ap is_eq (tied_itself ref_total a)

int_is : (x y : ℤ) → int_eq x y ≡ true → x ≡ y
int_is x y t = (Decides-int_eq x y).0 t

pub zero_is : (s : IVec) → is_zero s ≡ true → s ≡ alike (pos 0)
zero_is s t =
    let k = and_parts (int_eq s.k (pos 0)) (int_eq s.j (pos 0) && int_eq s.i (pos 0)) t in
    let j = and_parts (int_eq s.j (pos 0)) (int_eq s.i (pos 0)) k.1 in
    same_cell (int_is s.k (pos 0) k.0) (int_is s.j (pos 0) j.0) (int_is s.i (pos 0) j.1)

pub zero_is_zero : (s : IVec) → s ≡ alike (pos 0) → is_zero s ≡ true
zero_is_zero s e = ap is_zero e

pub leave-from : (a b : Link) → leave_one_box a b ≡ true → (a.base ≡ b.base) × (a.shift ≡ alike (pos 0))
leave-from a b t =
    let p = and_parts (is_eq (ref_cmp a.base b.base)) (is_zero a.shift) t in
    (same_box a.base b.base p.0, zero_is a.shift p.1)

pub leave-is : (a b : Link) → a.base ≡ b.base → a.shift ≡ alike (pos 0) → leave_one_box a b ≡ true
leave-is a b p q = and_from (is_eq (ref_cmp a.base b.base)) (is_zero a.shift) (same_box-is a.base b.base p) (zero_is_zero a.shift q)

-- a pair of edges by which an edge is found
pub record IsFoundBy (n : Scale) (to_east to_west : List Link) (e a b : Link) : Type 0 where
  pub east : Member a to_east
  pub west : Member b to_west
  pub pair : leave_one_box a b ≡ true
  pub is : e ≡ joined a b
  pub near : is_true n e ≡ true

pub Member-all_joined : (to_east to_west : List Link) (a b : Link) → Member a to_east → Member b to_west → leave_one_box a b ≡ true → Member (joined a b) (all_joined to_east to_west)
Member-all_joined to_east to_west a b east west t =
    Member-flat_map (λ a. map (λ b. joined a b) (filter (λ b. leave_one_box a b) to_west)) (joined a b) a to_east east
    (Member-map (λ b. joined a b) b (filter (λ b. leave_one_box a b) to_west) (Member-filter (λ b. leave_one_box a b) b to_west west t))

pub Member-from_all_joined : (to_east to_west : List Link) (e : Link) → Member e (all_joined to_east to_west)
    → (a b : Link) × Member a to_east × Member b to_west × (leave_one_box a b ≡ true) × (e ≡ joined a b)
Member-from_all_joined to_east to_west e m =
    let r = Member-from_flat_map (λ a. map (λ b. joined a b) (filter (λ b. leave_one_box a b) to_west)) e to_east m in
    let q = Member-from_map (λ b. joined r.0 b) e (filter (λ b. leave_one_box r.0 b) to_west) r.2 in
    let p = Member-from_filter (λ b. leave_one_box r.0 b) q.0 to_west q.1 in
    (r.0, q.0, r.1, p.0, p.1, q.2)

pub Member-found_by : (n : Scale) (to_east to_west : List Link) (e a b : Link) → IsFoundBy n to_east to_west e a b → Member e (found_by n to_east to_west)
unfolding found_by
Member-found_by n to_east to_west e a b h =
    Member-in_order edge_total same_from_edge_cmp e (filter (λ e. is_true n e) (all_joined to_east to_west))
    (Member-filter (λ e. is_true n e) e (all_joined to_east to_west)
    (subst (λ (v : Link). Member v (all_joined to_east to_west)) (sym h.is) (Member-all_joined to_east to_west a b h.east h.west h.pair)) h.near)

pub Member-from_found_by : (n : Scale) (to_east to_west : List Link) (e : Link) → Member e (found_by n to_east to_west) → (a b : Link) × IsFoundBy n to_east to_west e a b
unfolding found_by
Member-from_found_by n to_east to_west e m =
    let f = Member-from_filter (λ e. is_true n e) e (all_joined to_east to_west)
    (Member-from_in_order edge_total e (filter (λ e. is_true n e) (all_joined to_east to_west)) m) in
    let r = Member-from_all_joined to_east to_west e f.0 in
    (r.0, r.1, record { east = r.2; west = r.3; pair = r.4; is = r.5; near = f.1 })
