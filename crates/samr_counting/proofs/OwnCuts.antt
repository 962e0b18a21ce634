-- The cuts of a rank's own clusters.
use Rattle.std.proofs.Common.{FitsSigned, w64, arith, ◌<◌, ◌+◌, ◌++◌, length, take, get_or, ◌≡◌, ℕ, true, refl, sym, ap, ◌∙◌, subst, filter, nat_eq, map, unsigned_abs, cond}
use Rattle.std.specs.Prelude.{Bool, false, ℤ, pos, ◌≤ℤ◌, List, [], ◌∷◌, IsTrue}
use Rattle.std.specs.Ordering.{is_eq}
use Rattle.std.proofs.lemmas.Bool.{eqb-true}
use Rattle.std.proofs.lemmas.Int.{ints}
use Rattle.std.proofs.lemmas.List.{take_more, map-append}
use Rattle.std.proofs.lemmas.List.Elements.{All-get_or}
use Rattle.samr_box.proofs.Members.{All-from_members}
use Rattle.samr_box.specs.declared.vector.IVec.{IVec}
use Rattle.samr_box.specs.Corners.{IsBox, holds_box, grown}
use Rattle.samr_box.specs.Space.{whole}
use Rattle.samr_box.specs.Lists.{Member}
use Rattle.samr_box.proofs.Members.{Member-from_filter}
use Rattle.samr_level.specs.declared.parts.Move.{Move}
use Rattle.samr_level.specs.Levels.{own}
use Rattle.samr_level.specs.Neighbours.{IsWidth}
use Rattle.samr_level.specs.Refs.{Owned, Link}
use Rattle.samr_level.specs.RefOrders.{ref_cmp}
use Rattle.samr_level.specs.Regions.{Area}
use Rattle.samr_modify.specs.Entries.{edges_of, moves_of}
use Rattle.samr_nest.specs.Nested.{cut_of, AreEdgesTo}
use Rattle.samr_tags.proofs.Buffering.{ref_itself, same_ref}
use Rattle.samr_problem.specs.Fields.{Fields}
use Rattle.samr_mesh.specs.Domains.{area_at}
use Rattle.samr_mesh.specs.Passes.{Pass, clusters_of, cuts_of}
use Rattle.samr_mesh.proofs.Passing.{cluster_room}
use Rattle.samr_mesh.proofs.Scaling.{nest_at}
use Rattle.samr_wholes.proofs.PassedOn.{cluster_inside, cluster_edges}
use Rattle.samr_counting.specs.Cutting.{IsCutting}

own_member : (r : ℕ) (c : Owned) (level : List Owned) → Member c (own r level) → Member c level × (c.owner ≡ r)
unfolding own
own_member r c level m = let (there, is_own) = Member-from_filter (λ (b : Owned). nat_eq b.owner r) c level m in (there, eqb-true c.owner r is_own)

module _ (edges : List Link) (region : Area) (nest : IVec) (largest : ℤ) (p : Fields) (w : Pass) (r : ℕ) (is : IsCutting edges region nest largest p w r) (c : Owned) (m : Member c (own r (clusters_of p w))) where
  pub home : IsTrue (holds_box (whole region.frame) c.bx)
  home = subst (λ (a : Area). IsTrue (holds_box (whole a.frame) c.bx)) (sym is.same_region) (cluster_inside p w is.can c (own_member r c (clusters_of p w) m).0)

  pub width : IsWidth region.frame nest
  width = subst (λ (a : Area). IsWidth a.frame nest) (sym is.same_region) (subst (λ (n : IVec). IsWidth (area_at p w.number).frame n) (sym is.same_nest) (nest_at p w.number is.can.can))

  pub room : IsBox (grown c.bx nest)
  room = subst (λ (n : IVec). IsBox (grown c.bx n)) (sym is.same_nest) (cluster_room p w is.can c (own_member r c (clusters_of p w) m).0)

  pub edges_are : (near : List Link) → near ≡ edges_of c edges → AreEdgesTo region w.level nest c near
  unfolding edges_of
  edges_are near same =
      let (there, is_own) = own_member r c (clusters_of p w) m in
      let test : Link → Bool = λ e. is_eq (ref_cmp e.base c) in
      let base : AreEdgesTo (area_at p w.number) w.level p.nest c (filter test edges) =
      subst (λ (es : List Link). AreEdgesTo (area_at p w.number) w.level p.nest c (filter test es)) (sym is.same_edges)
      (cluster_edges p w is.can c there r test is_own (λ e. (λ t. same_ref e.base c t, λ e'. subst (λ (b : Owned). IsTrue (is_eq (ref_cmp b c))) (sym e') (ref_itself c)))) in
      subst (λ (a : Area). AreEdgesTo a w.level nest c near) (sym is.same_region)
      (subst (λ (n : IVec). AreEdgesTo (area_at p w.number) w.level n c near) (sym is.same_nest)
      (subst (λ (es : List Link). AreEdgesTo (area_at p w.number) w.level p.nest c es) (sym same) base))

pub some_of : (edges : List Link) (region : Area) (nest : IVec) (largest : ℤ) (p : Fields) (w : Pass) (r : ℕ) → IsCutting edges region nest largest p w r → pos 1 ≤ℤ largest
some_of edges region nest largest p w r is = subst (λ z. pos 1 ≤ℤ z) (sym is.same_largest) is.some

-- numbers of a problem are in range
pub fits_of : (edges : List Link) (region : Area) (nest : IVec) (largest : ℤ) (p : Fields) (w : Pass) (r : ℕ) → IsCutting edges region nest largest p w r → FitsSigned w64 largest
fits_of edges region nest largest p w r is =
    let same = is.same_largest in
    let low = is.some in
    let high = is.few in
    omega (arith, ints, same, low, high)

-- one more of a list
pub one_more_cut : (f : Owned → Move) (clusters : List Owned) (i : ℕ) (now next : List Move) (m : Move) (c : Owned) → i < length clusters → get_or clusters i c ≡ c → next ≡ now ++ m ∷ []
    → now ≡ map f (take i clusters) → m ≡ f c → next ≡ map f (take (i + 1) clusters)
one_more_cut f clusters i now next m c below here pushed so_far is =
    let more : take (i + 1) clusters ≡ take i clusters ++ c ∷ [] = take_more clusters i c below ∙ ap (λ (x : Owned). take i clusters ++ x ∷ []) here in
    pushed ∙ ap (λ (l : List Move). l ++ m ∷ []) so_far ∙ ap (λ (x : Move). map f (take i clusters) ++ x ∷ []) is
    ∙ sym (map-append f (take i clusters) (c ∷ [])) ∙ ap (map f) (sym more)

pub item_of : (r : ℕ) (level clusters : List Owned) (i : ℕ) (c : Owned) → i < length clusters → get_or clusters i c ≡ c → clusters ≡ own r level → Member c (own r level)
item_of r level clusters i c below here same =
    subst (Member c) same (subst (λ (x : Owned). Member x clusters) here (All-get_or (λ (b : Owned). Member b clusters) clusters i c below (All-from_members (λ (b : Owned). Member b clusters) clusters (λ b m. m))))

mapped : (r : ℕ) (f : Owned → Move) (cs : List Owned) → ((c : Owned) → (f c).old ≡ c) → map f (filter (λ c. nat_eq c.owner r) cs) ≡ filter (λ m. nat_eq m.old.owner r) (map f cs)
mapped r f [] same = refl
mapped r f (c ∷ cs) same = by (nat_eq c.owner r) (ap (λ (o : Owned). nat_eq o.owner r) (same c)) (mapped r f cs same)
  where
    by : (u : Bool) → nat_eq (f c).old.owner r ≡ u → map f (filter (λ c. nat_eq c.owner r) cs) ≡ filter (λ m. nat_eq m.old.owner r) (map f cs)
        → map f (cond u (c ∷ filter (λ c. nat_eq c.owner r) cs) (filter (λ c. nat_eq c.owner r) cs)) ≡ filter (λ m. nat_eq m.old.owner r) (map f (c ∷ cs))
    by true e rest = rw e (ap (λ (l : List Move). f c ∷ l) rest)
    by false e rest = rw e rest

pub all_of : (edges : List Link) (region : Area) (nest : IVec) (largest : ℤ) (p : Fields) (w : Pass) (r : ℕ) (clusters : List Owned) → IsCutting edges region nest largest p w r → clusters ≡ own r (clusters_of p w)
    → map (cut_of region w.level nest (unsigned_abs largest)) clusters ≡ moves_of r (cuts_of p w)
unfolding moves_of cuts_of own
all_of edges region nest largest p w r clusters is same =
    ap (map (cut_of region w.level nest (unsigned_abs largest))) same
    ∙ ap (λ (a : Area). map (cut_of a w.level nest (unsigned_abs largest)) (own r (clusters_of p w))) is.same_region
    ∙ ap (λ (n : IVec). map (cut_of (area_at p w.number) w.level n (unsigned_abs largest)) (own r (clusters_of p w))) is.same_nest
    ∙ ap (λ z. map (cut_of (area_at p w.number) w.level p.nest (unsigned_abs z)) (own r (clusters_of p w))) is.same_largest
    ∙ mapped r (cut_of (area_at p w.number) w.level p.nest (unsigned_abs p.largest)) (clusters_of p w) (λ c. refl)
