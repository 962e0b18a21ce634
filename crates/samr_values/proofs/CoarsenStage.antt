-- A rank's stage against its part of the coarsened level.
use Rattle.std.proofs.Common.{◌≡◌, ℕ, ◌+◌, ◌<◌, suc, length, get_or, refl, sym, ap, subst, ◌∙◌, inl, inr, arith, sum_by}
use Rattle.std.proofs.lemmas.Bool.Decides.{nat_tests}
use Rattle.std.specs.Prelude.{Bool, cond, ◌&&◌, nat_eq, List, [], ◌∷◌, map, zip}
use Rattle.std.specs.List.{All, enumerate_from}
use Rattle.samr_box.specs.declared.vector.IVec.{IVec}
use Rattle.samr_box.specs.Corners.{Corners, grown, holds}
use Rattle.samr_box.specs.Lists.{Member}
use Rattle.samr_box.proofs.Members.{Member-map, Member-from_map, Member-from_filter}
use Rattle.samr_stage.specs.declared.stage.Held.{Held}
use Rattle.samr_stage.specs.Row.{told, heard, column}
use Rattle.samr_level.specs.Refs.{Owned}
use Rattle.samr_level.specs.Levels.{own}
use Rattle.samr_data.specs.Grids.{Grid, value_at}
use Rattle.samr_data.specs.Places.{cells_in}
use Rattle.samr_data.proofs.Patches.{with_values}
use Rattle.samr_ops.specs.declared.rules.CoarsenRule.{CoarsenRule}
use Rattle.samr_ops.specs.declared.rules.CoarsenRule.TheVariants.{First}
use Rattle.samr_peers.specs.Peers.{other_owners, peer_row}
use Rattle.samr_peers.proofs.PeerRows.{letters_are, count_is}
use Rattle.samr_data.specs.declared.parcel.Parcel.{Parcel}
use Rattle.samr_values.specs.Patches.{poured}
use Rattle.samr_values.specs.Parcels.{IsParcel, is_told, Tell}
use Rattle.samr_values.specs.Coarsen.{Coarsening, IsCoarsening, fields, merged, is_under, after, coarsened_patches, downs, ups}
use Rattle.samr_values.specs.CoarsenRow.{coarse_parcels, coarsen_row}
use Rattle.samr_values.specs.CoarsenParts.{HasOwn}
use Rattle.samr_values.specs.Merging.{parcels_with}
use Rattle.samr_values.proofs.CoarsenRowLaws.{edges_turn, all_parcels, told_is, values_tell}

pub row_is : (w : Coarsening) → coarsen_row w ≡ peer_row w.ranks (downs w) (coarse_parcels w)
unfolding coarsen_row
row_is w = refl

-- the place of a numbered item is its number
placed : {X : Type 0} (k : ℕ) (xs : List X) (d : X) (f : ℕ × X) → Member f (enumerate_from k xs) → (i : ℕ) × (f.0 ≡ k + i) × (get_or xs i d ≡ f.1)
placed k [] d f m = absurd m
placed {X} k (x ∷ xs) d f (inl same) = (0, ap (λ (g : ℕ × X). g.0) same ∙ omega arith, sym (ap (λ (g : ℕ × X). g.1) same))
placed k (x ∷ xs) d f (inr m) = let r = placed (k + 1) xs d f m in let at = r.1 in (suc r.0, omega (arith, at), r.2)

map_same : {X Y : Type 0} (f g : X → Y) (xs : List X) → ((x : X) → Member x xs → f x ≡ g x) → map f xs ≡ map g xs
map_same f g [] same = refl
map_same {X} {Y} f g (x ∷ xs) same =
    ap (λ (y : Y). y ∷ map f xs) (same x (inl refl)) ∙ ap (λ (l : List Y). g x ∷ l) (map_same f g xs (λ y m. same y (inr m)))

-- lists with numbers, and the same beside numbered items
numbered : {X C D : Type 0} (g : ℕ → C → D) (h : ℕ × X → C → D) (k : ℕ) (xs : List X) (cs : List C) → length xs ≡ length cs
    → ((f : ℕ × X) (c : C) → Member f (enumerate_from k xs) → Member c cs → g f.0 c ≡ h f c)
    → map (λ (e : ℕ × C). g e.0 e.1) (enumerate_from k cs) ≡ map (λ (e : (ℕ × X) × C). h e.0 e.1) (zip (enumerate_from k xs) cs)
numbered g h k [] [] e same = refl
numbered g h k [] (c ∷ cs) e same = absurd (omega (arith, e))
numbered g h k (x ∷ xs) [] e same = absurd (omega (arith, e))
numbered {X} {C} {D} g h k (x ∷ xs) (c ∷ cs) e same =
    ap (λ (d : D). d ∷ map (λ (e : ℕ × C). g e.0 e.1) (enumerate_from (k + 1) cs)) (same (k, x) c (inl refl) (inl refl))
    ∙ ap (λ (l : List D). h (k, x) c ∷ l) (numbered g h (k + 1) xs cs (omega (arith, e)) (λ f d m n. same f d (inr m) (inr n)))

length_pairs : {X Y : Type 0} (xs : List X) (ys : List Y) → length xs ≡ length ys → length (zip xs ys) ≡ length xs
length_pairs [] ys e = refl
length_pairs (x ∷ xs) [] e = absurd (omega (arith, e))
length_pairs (x ∷ xs) (y ∷ ys) e = let h = length_pairs xs ys (omega (arith, e)) in omega (arith, h)

pub own_from : (r : ℕ) (level : List Owned) (a : Owned) → Member a (own r level) → Member a level × (a.owner ≡ r)
unfolding own
own_from r level a m = let f = Member-from_filter (λ b. nat_eq b.owner r) a level m in (f.0, grind (arith, nat_tests, f.1))

-- the values of a field by its number
abbrev numbered_values : Coarsening → ℕ → IVec → ℕ
numbered_values w n x = merged w (n, get_or (zip w.rules w.moduli) n (First, 0)) x

values_are : (w : Coarsening) (f : ℕ × (CoarsenRule × ℕ)) (x : IVec) → Member f (fields w) → merged w f x ≡ numbered_values w f.0 x
values_are w f x m =
    let r = placed 0 (zip w.rules w.moduli) (First, 0) f m in
    let at : r.0 ≡ f.0 = let e = r.1 in omega (arith, e) in
    let its : f.1 ≡ get_or (zip w.rules w.moduli) f.0 (First, 0) = sym r.2 ∙ ap (λ (k : ℕ). get_or (zip w.rules w.moduli) k (First, 0)) at in
    ap (λ (v : CoarsenRule × ℕ). merged w (f.0, v) x) its

-- what the code of the stage gives
abbrev pub IsPouredFrom : List Parcel → List (Held (List Parcel)) → List (List Grid) → List (List Grid) → Type 0
IsPouredFrom own_parcels held fields out =
    (values : ℕ → IVec → ℕ) → ((f : ℕ) (b : Corners) → Tell f b (parcels_with own_parcels held) (values f))
    → out ≡ map (λ e. map (λ p. poured p (is_told e.0 p.bx (parcels_with own_parcels held)) (values e.0)) e.1) (enumerate_from 0 fields)

module _ (own_parcels : List Parcel) (senders : List ℕ) (coarse : List (List Grid)) (w : Coarsening) (r : ℕ) (h : HasOwn own_parcels senders coarse w r)
    (held : List (Held (List Parcel))) (are : held ≡ heard (column (coarsen_row w) r) w.ranks) where
  heard_are : held ≡ heard (column (peer_row w.ranks (downs w) (coarse_parcels w)) r) w.ranks
  heard_are = are ∙ ap (λ row. heard (column row r) w.ranks) (row_is w)

  pub all_are_parcels : All IsParcel (parcels_with own_parcels held)
  all_are_parcels = all_parcels w h.is r h.within own_parcels held h.same_own heard_are

  one_patch : (f : ℕ × (CoarsenRule × ℕ)) (c : List Grid) (p : Grid) → Member f (fields w) → Member c coarse → Member p c
      → poured p (is_told f.0 p.bx (parcels_with own_parcels held)) (numbered_values w f.0) ≡ after w f p
  one_patch f c p mf mc mp =
      let there = subst (λ (l : List Corners). Member p.bx l) (h.coarse_boxes c mc) (Member-map (λ (p : Grid). p.bx) p c mp) in
      let a = Member-from_map (λ (b : Owned). b.bx) p.bx (own r w.coarser) there in
      let o = own_from r w.coarser a.0 a.1 in
      ap (with_values p)
      (map_same (λ x. cond (is_told f.0 p.bx (parcels_with own_parcels held) x) (numbered_values w f.0 x) (value_at p x))
      (λ x. cond (holds p.bx x && is_under w x) (merged w f x) (value_at p x)) (cells_in (grown p.bx p.width))
      (λ x m.
      ap (λ (t : Bool). cond t (numbered_values w f.0 x) (value_at p x))
      (subst (λ (b : Corners). is_told f.0 b (parcels_with own_parcels held) x ≡ (holds b x && is_under w x)) (sym a.2)
      (told_is w h.is r h.within own_parcels held h.same_own heard_are f a.0 x mf o.0 o.1))
      ∙ ap (λ (v : ℕ). cond (holds p.bx x && is_under w x) v (value_at p x)) (sym (values_are w f x mf))))

  pub ends : (out : List (List Grid))
      → IsPouredFrom own_parcels held coarse out
      → out ≡ coarsened_patches w r
  unfolding coarsened_patches
  ends out has =
      let all = parcels_with own_parcels held in
      let count = length_pairs w.rules w.moduli h.is.same_length in
      let fields_count = h.coarse_fields in
      has (numbered_values w) (values_tell w h.is r h.within own_parcels held h.same_own heard_are (numbered_values w) (values_are w))
      ∙ numbered (λ n c. map (λ p. poured p (is_told n p.bx all) (numbered_values w n)) c) (λ f c. map (λ p. after w f p) c) 0 (zip w.rules w.moduli) coarse
      (omega (arith, count, fields_count))
      (λ f c mf mc. map_same (λ p. poured p (is_told f.0 p.bx all) (numbered_values w f.0)) (λ p. after w f p) c (λ p mp. one_patch f c p mf mc mp))
      ∙ ap (λ (l : List (List Grid)). map (λ e. map (λ p. after w e.0 p) e.1) (zip (fields w) l)) h.same_coarse

-- what the rank tells, and how many letters come for it
pub tells : (w : Coarsening) (r : ℕ) (letters : List (ℕ × List Parcel)) → IsCoarsening w → r < w.ranks
    → letters ≡ map (λ to. (to, coarse_parcels w r to)) (other_owners r (downs w r)) → letters ≡ told (coarsen_row w r) w.ranks
tells w r letters t within same =
    same
    ∙ sym (letters_are w.ranks (downs w) (ups w) (coarse_parcels w) (edges_turn w t) r within)
    ∙ ap (λ row. told (row r) w.ranks) (sym (row_is w))

pub awaits : (w : Coarsening) (r : ℕ) → IsCoarsening w → r < w.ranks → length (other_owners r (ups w r)) ≡ sum_by (λ (held : Held (List Parcel)). 1) (heard (column (coarsen_row w) r) w.ranks)
awaits w r t within =
    count_is w.ranks (downs w) (ups w) (coarse_parcels w) (edges_turn w t) r within
    ∙ ap (λ row. sum_by (λ (held : Held (List Parcel)). 1) (heard (column row r) w.ranks)) (sym (row_is w))
