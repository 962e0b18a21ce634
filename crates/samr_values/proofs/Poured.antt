-- Own parcels and those of letters, poured into a patch.
use Rattle.std.proofs.Common.{◌≡◌, ℕ, ◌+◌, ◌<◌, length, get_or, take, refl, sym, ap, ◌∙◌, arith}
use Rattle.std.proofs.lemmas.List.{take_more, map_push}
use Rattle.std.proofs.lemmas.List.Folds.{list_any-append}
use Rattle.std.proofs.lemmas.Grind.{flat_map-append}
use Rattle.std.specs.Prelude.{Bool, ◌&&◌, ◌||◌, List, [], ◌∷◌, ◌++◌, map}
use Rattle.std.specs.List.{All, flat_map, enumerate_from}
use Rattle.samr_box.specs.declared.vector.IVec.{IVec}
use Rattle.samr_box.specs.Corners.{Corners, holds}
use Rattle.samr_box.specs.Lists.{Member}
use Rattle.samr_box.proofs.Members.{Member-append_left, Member-append_right, Member-flat_map, All-from_members, member_of_All}
use Rattle.samr_stage.specs.declared.stage.Held.{Held}
use Rattle.samr_data.specs.Grids.{Grid}
use Rattle.samr_data.specs.declared.parcel.Parcel.{Parcel}
use Rattle.samr_values.specs.Patches.{poured}
use Rattle.samr_values.specs.Parcels.{IsParcel, has_fine, is_told, Tell}
use Rattle.samr_values.specs.Merging.{parcels_with}

in_own : (own_parcels : List Parcel) (held : List (Held (List Parcel))) (q : Parcel) → Member q own_parcels → Member q (parcels_with own_parcels held)
in_own own_parcels held q m = Member-append_left q own_parcels (flat_map (λ letter. letter.body) held) m

in_letter : (own_parcels : List Parcel) (held : List (Held (List Parcel))) (letter : Held (List Parcel)) (q : Parcel) → Member letter held → Member q letter.body
    → Member q (parcels_with own_parcels held)
in_letter own_parcels held letter q m n =
    Member-append_right q own_parcels (flat_map (λ letter. letter.body) held) (Member-flat_map (λ (letter : Held (List Parcel)). letter.body) q letter held m n)

pub own_of : (own_parcels : List Parcel) (held : List (Held (List Parcel))) → All IsParcel (parcels_with own_parcels held) → All IsParcel own_parcels
own_of own_parcels held h =
    All-from_members IsParcel own_parcels (λ q m. member_of_All IsParcel q (parcels_with own_parcels held) h (in_own own_parcels held q m))

pub letter_of : (own_parcels : List Parcel) (held : List (Held (List Parcel))) (letter : Held (List Parcel)) → Member letter held
    → All IsParcel (parcels_with own_parcels held) → All IsParcel letter.body
letter_of own_parcels held letter m h =
    All-from_members IsParcel letter.body (λ q n. member_of_All IsParcel q (parcels_with own_parcels held) h (in_letter own_parcels held letter q m n))

pub own_tells : (f : ℕ) (b : Corners) (own_parcels : List Parcel) (held : List (Held (List Parcel))) (v : IVec → ℕ) → Tell f b (parcels_with own_parcels held) v → Tell f b own_parcels v
own_tells f b own_parcels held v agree = λ q x m. agree q x (in_own own_parcels held q m)

pub letter_tells : (f : ℕ) (b : Corners) (own_parcels : List Parcel) (held : List (Held (List Parcel))) (letter : Held (List Parcel)) (v : IVec → ℕ) → Member letter held
    → Tell f b (parcels_with own_parcels held) v → Tell f b letter.body v
letter_tells f b own_parcels held letter v m agree = λ q x n. agree q x (in_letter own_parcels held letter q m n)

end : {X : Type 0} (l : List X) → l ++ [] ≡ l
end [] = refl
end {X} (y ∷ l) = ap (λ (m : List X). y ∷ m) (end l)

pub told_first : (p : Grid) (f : ℕ) (own_parcels : List Parcel) (v : IVec → ℕ) → poured p (is_told f p.bx own_parcels) v ≡ poured p (is_told f p.bx (parcels_with own_parcels [])) v
told_first p f own_parcels v = ap (λ (l : List Parcel). poured p (is_told f p.bx l) v) (sym (end own_parcels))

joined : (own_parcels : List Parcel) (held : List (Held (List Parcel))) (i : ℕ) (letter : Held (List Parcel)) → i < length held → letter ≡ get_or held i letter
    → parcels_with own_parcels (take (i + 1) held) ≡ parcels_with own_parcels (take i held) ++ letter.body
joined own_parcels held i letter below here =
    ap (λ (l : List (Held (List Parcel))). parcels_with own_parcels l) (take_more held i letter below ∙ ap (λ (y : Held (List Parcel)). take i held ++ y ∷ []) (sym here))
    ∙ ap (λ (l : List Parcel). own_parcels ++ l) (flat_map-append (λ (letter : Held (List Parcel)). letter.body) (take i held) (letter ∷ []))
    ∙ ap (λ (l : List Parcel). own_parcels ++ (flat_map (λ (letter : Held (List Parcel)). letter.body) (take i held) ++ l)) (end letter.body)
    ∙ sym (assoc own_parcels (flat_map (λ (letter : Held (List Parcel)). letter.body) (take i held)) letter.body)
  where
    assoc : (a b c : List Parcel) → (a ++ b) ++ c ≡ a ++ (b ++ c)
    assoc [] b c = refl
    assoc (y ∷ a) b c = ap (λ (l : List Parcel). y ∷ l) (assoc a b c)

pub told_more : (f : ℕ) (b c : Corners) (own_parcels : List Parcel) (held : List (Held (List Parcel))) (i : ℕ) (letter : Held (List Parcel)) (x : IVec) → c ≡ b → i < length held
    → letter ≡ get_or held i letter
    → (is_told f b (parcels_with own_parcels (take i held)) x || is_told f c letter.body x) ≡ is_told f b (parcels_with own_parcels (take (i + 1) held)) x
told_more f b c own_parcels held i letter x same below here =
    let has : Parcel → Bool = λ q. has_fine f b q && holds q.region x in
    ap (λ (d : Corners). is_told f b (parcels_with own_parcels (take i held)) x || is_told f d letter.body x) same
    ∙ sym (list_any-append has (parcels_with own_parcels (take i held)) letter.body)
    ∙ ap (λ (l : List Parcel). is_told f b l x) (sym (joined own_parcels held i letter below here))

-- one more patch, and one more field
pub one_more_patch : (f : Grid → Grid) (patches : List Grid) (p q : Grid) (was now : List Grid) → q ≡ f p → was ≡ map f patches → now ≡ was ++ q ∷ []
    → now ≡ map f (patches ++ p ∷ [])
one_more_patch f patches p q was now is before step =
    step ∙ ap (λ (l : List Grid). l ++ q ∷ []) before ∙ ap (λ (g : Grid). map f patches ++ g ∷ []) is ∙ sym (map_push f patches p)

enumerate_push : {X : Type 0} (k n : ℕ) (xs : List X) (x : X) → k + length xs ≡ n → enumerate_from k (xs ++ x ∷ []) ≡ enumerate_from k xs ++ (n, x) ∷ []
enumerate_push {X} k n [] x e = let at : k ≡ n = omega (arith, e) in ap (λ (m : ℕ). let l : List (ℕ × X) = (m, x) ∷ [] in l) at
enumerate_push {X} k n (y ∷ ys) x e = ap (λ (l : List (ℕ × X)). (k, y) ∷ l) (enumerate_push (k + 1) n ys x (omega (arith, e)))

pub one_more_field : (f : ℕ × List Grid → List Grid) (fields : List (List Grid)) (n : ℕ) (c new : List Grid) (was now : List (List Grid)) → length fields ≡ n
    → new ≡ f (n, c) → was ≡ map f (enumerate_from 0 fields) → now ≡ was ++ new ∷ [] → now ≡ map f (enumerate_from 0 (fields ++ c ∷ []))
one_more_field f fields n c new was now count is before step =
    step
    ∙ ap (λ (l : List (List Grid)). l ++ new ∷ []) before
    ∙ ap (λ (g : List Grid). map f (enumerate_from 0 fields) ++ g ∷ []) is
    ∙ sym (ap (λ (l : List (ℕ × List Grid)). map f l) (enumerate_push 0 n fields c (omega (arith, count))) ∙ map_push f (enumerate_from 0 fields) (n, c))

-- one more letter
pub one_more_letter : (f : ℕ → List Parcel) (all : List ℕ) (i to : ℕ) (body : List Parcel) (was now : List (ℕ × List Parcel)) → i < length all → to ≡ get_or all i 0
    → body ≡ f to → was ≡ map (λ k. (k, f k)) (take i all) → now ≡ was ++ (to, body) ∷ [] → now ≡ map (λ k. (k, f k)) (take (i + 1) all)
one_more_letter f all i to body was now below here is before step =
    step
    ∙ ap (λ (l : List (ℕ × List Parcel)). l ++ (to, body) ∷ []) before
    ∙ ap (λ (b : List Parcel). map (λ k. (k, f k)) (take i all) ++ (to, b) ∷ []) is
    ∙ sym (map_push (λ (k : ℕ). (k, f k)) (take i all) to)
    ∙ ap (λ (l : List ℕ). map (λ k. (k, f k)) l) (sym (take_more all i 0 below ∙ ap (λ (y : ℕ). take i all ++ y ∷ []) (sym here)))
