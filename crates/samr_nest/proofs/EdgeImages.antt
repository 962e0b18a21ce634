-- The images near a box that the edges of a cluster name are those of the whole level, in the same order.
use Rattle.std.proofs.Common.{◌≡◌, refl, sym, ap, ◌∙◌, subst, inl, inr, arith}
use Rattle.std.proofs.lemmas.Int.{ints, clamps}
use Rattle.std.proofs.lemmas.Bool.{false≢true, false_from_ne_true}
use Rattle.std.specs.Prelude.{ℤ, pos, ◌*ℤ◌, ◌+ℤ◌, ◌-ℤ◌, ◌≤ℤ◌, Bool, true, false, cond, List, [], ◌∷◌, ◌++◌, map, filter, Option, Some, None}
use Rattle.std.specs.Int.{int_max}
use Rattle.std.specs.List.{filter_map, flat_map, cons_option}
use Rattle.samr_box.specs.declared.vector.IVec.{IVec}
use Rattle.samr_box.specs.Vector.{alike, AtMost, times, greatest, IsRatio}
use Rattle.samr_box.specs.Corners.{Corners, Meet, meets, met, common, grown}
use Rattle.samr_box.specs.Ratios.{floor, coarse, refined}
use Rattle.samr_box.specs.Space.{Space, image}
use Rattle.samr_box.specs.Lists.{Member}
use Rattle.samr_box.proofs.Vectors.{same_cell}
use Rattle.samr_box.proofs.Totals.{same_corners}
use Rattle.samr_box.proofs.Products.{mul_one, mul_comm}
use Rattle.samr_box.proofs.Floors.{floor_self}
use Rattle.samr_box.proofs.CellSets.{meets-from, Meet-test}
use Rattle.samr_level.specs.Refs.{Owned, Link, link}
use Rattle.samr_level.specs.Overlaps.{shifts, scale_in, is_true, all_links, true_overlaps}
use Rattle.samr_level.proofs.Overlapping.{Member-from_all_links}
use Rattle.samr_level.proofs.Steps.{map_append}
use Rattle.samr_border.specs.Images.{images_by}

-- two levels of the same ratio are compared as they are
factor_one : (r : ℤ) → pos 1 ≤ℤ r → floor (int_max r r) r ≡ pos 1
factor_one r p =
    let e : int_max r r ≡ r = omega (arith, ints, clamps) in
    ap (λ (v : ℤ). floor v r) e ∙ floor_self r (omega (arith, ints))

pub same_factor : (r : IVec) → IsRatio r → coarse (greatest r r) r ≡ alike (pos 1)
same_factor r h = same_cell (factor_one r.k h.low.k) (factor_one r.j h.low.j) (factor_one r.i h.low.i)

one_on : (x : ℤ) → x *ℤ pos 1 ≡ x
one_on x = mul_comm x (pos 1) ∙ mul_one x

pub times_one : (x : IVec) → times x (alike (pos 1)) ≡ x
times_one x = same_cell (one_on x.k) (one_on x.j) (one_on x.i)

last_on : (x : ℤ) → (x *ℤ pos 1) +ℤ (pos 1 -ℤ pos 1) ≡ x
last_on x = let e = one_on x in omega (arith, ints, e)

pub refined_one : (b : Corners) → refined b (alike (pos 1)) ≡ b
refined_one b = same_corners (times_one b.lo) (same_cell (last_on b.hi.k) (last_on b.hi.j) (last_on b.hi.i))

near_by : (d : Space) (w f : IVec) (a b : Corners) (s : IVec) → f ≡ alike (pos 1)
    → meets (grown (refined a f) (times (times w f) f)) (image d (refined b f) s) ≡ meets (grown a w) (image d b s)
near_by d w f a b s e =
    let one = alike (pos 1) in
    ap (λ (v : IVec). meets (grown (refined a v) (times (times w v) v)) (image d (refined b v) s)) e
    ∙ ap (λ (v : Corners). meets (grown v (times (times w one) one)) (image d (refined b one) s)) (refined_one a)
    ∙ ap (λ (v : IVec). meets (grown a v) (image d (refined b one) s)) (times_one (times w one) ∙ times_one w)
    ∙ ap (λ (v : Corners). meets (grown a w) (image d v s)) (refined_one b)

pub near_is : (d : Space) (w r : IVec) (e : Link) → IsRatio r
    → is_true (scale_in d w r r) e ≡ meets (grown e.base.bx w) (image d e.head.bx e.shift)
near_is d w r e h = near_by d w (coarse (greatest r r) r) e.base.bx e.head.bx e.shift (same_factor r h)

-- what a filter drops, a map may drop too
filter_map_filter : {X Y : Type 0} (h : X → Option Y) (p : X → Bool) (xs : List X) → ((x : X) → Member x xs → p x ≡ false → h x ≡ None)
    → filter_map h (filter p xs) ≡ filter_map h xs
filter_map_filter h p [] none = refl
filter_map_filter {X} {Y} h p (x ∷ xs) none = by_test (p x) refl (filter_map_filter h p xs (λ v m. none v (inr m)))
  where
    by_test : (t : Bool) → p x ≡ t → filter_map h (filter p xs) ≡ filter_map h xs
        → filter_map h (cond t (x ∷ filter p xs) (filter p xs)) ≡ cons_option (h x) (filter_map h xs)
    by_test true e rest = ap (λ (l : List Y). cons_option (h x) l) rest
    by_test false e rest = rest ∙ ap (λ (o : Option Y). cons_option o (filter_map h xs)) (sym (none x (inl refl) e))

pub filter_map_map : {X Y Z : Type 0} (k : Y → Option Z) (f : X → Y) (xs : List X) → filter_map (λ x. k (f x)) xs ≡ filter_map k (map f xs)
filter_map_map k f [] = refl
filter_map_map {X} {Y} {Z} k f (x ∷ xs) = ap (λ (l : List Z). cons_option (k (f x)) l) (filter_map_map k f xs)

map_map : {X Y Z : Type 0} (g : Y → Z) (f : X → Y) (xs : List X) → map g (map f xs) ≡ map (λ x. g (f x)) xs
map_map g f [] = refl
map_map {X} {Y} {Z} g f (x ∷ xs) = ap (λ (l : List Z). g (f x) ∷ l) (map_map g f xs)

append_nothing : {X : Type 0} (xs : List X) → xs ++ [] ≡ xs
append_nothing [] = refl
append_nothing {X} (x ∷ xs) = ap (λ (l : List X). x ∷ l) (append_nothing xs)

-- the images that all edges of a box name
abbrev pub image_of : Space → Link → Corners
image_of d e = image d e.head.bx e.shift

images_of_links : (d : Space) (c : Owned) (level : List Owned) (ss : List IVec)
    → map (image_of d) (flat_map (λ b. map (λ s. link c b s) ss) level) ≡ images_by d ss (map (λ b. b.bx) level)
images_of_links d c [] ss = refl
images_of_links d c (b ∷ level) ss =
    map_append (image_of d) (map (λ s. link c b s) ss) (flat_map (λ b. map (λ s. link c b s) ss) level)
    ∙ ap (λ (l : List Corners). l ++ map (image_of d) (flat_map (λ b. map (λ s. link c b s) ss) level)) (map_map (image_of d) (λ s. link c b s) ss)
    ∙ ap (λ (l : List Corners). map (λ s. image d b.bx s) ss ++ l) (images_of_links d c level ss)

-- a box that the image meets inside of another box meets also that one
no_part : (d : Space) (c g : Corners) (e : Link) (w : IVec) → e.base.bx ≡ c → AtMost (grown c w).lo g.lo → AtMost g.hi (grown c w).hi
    → meets (grown e.base.bx w) (image_of d e) ≡ false → met (image_of d e) g ≡ None
no_part d c g e w same low high f =
    let out : meets (image_of d e) g ≡ false =
    false_from_ne_true (meets (image_of d e) g)
    (λ t.
    let m = Meet-test {a = image_of d e} {b = g} t in
    let o : Meet (grown c w) (image_of d e) = record {
      low = record { k = omega (arith, ints, low.k, m.high.k); j = omega (arith, ints, low.j, m.high.j); i = omega (arith, ints, low.i, m.high.i) };
      high = record { k = omega (arith, ints, high.k, m.low.k); j = omega (arith, ints, high.j, m.low.j); i = omega (arith, ints, high.i, m.low.i) };
    } in
    let P : Corners → Type 0 = λ v. meets (grown v w) (image_of d e) ≡ true in
    false≢true (sym f ∙ subst P (sym same) (meets-from {a = grown c w} {b = image_of d e} o))) in
    ap (λ (t : Bool). cond t (Some (common (image_of d e) g)) None) out

pub edge_images : (d : Space) (c : Owned) (level : List Owned) (g : Corners) (w r : IVec) → IsRatio r
    → AtMost (grown c.bx w).lo g.lo → AtMost g.hi (grown c.bx w).hi
    → filter_map (λ e. met (image d e.head.bx e.shift) g) (true_overlaps (scale_in d w r r) (c ∷ []) level)
    ≡ filter_map (λ b. met b g) (images_by d (shifts d.periodic) (map (λ b. b.bx) level))
unfolding true_overlaps
edge_images d c level g w r ratio low high =
    let ss = shifts d.periodic in
    let links = flat_map (λ b. map (λ s. link c b s) ss) level in
    filter_map_filter (λ e. met (image_of d e) g) (λ e. is_true (scale_in d w r r) e) (all_links (c ∷ []) level ss)
    (λ e m f.
    let base = (Member-from_all_links (c ∷ []) level ss e m).0 in
    no_part d c.bx g e w (ap (λ (v : Owned). v.bx) (one_base e base)) low high (sym (near_is d w r e ratio) ∙ f))
    ∙ filter_map_map (λ b. met b g) (image_of d) (links ++ [])
    ∙ ap (λ (l : List Link). filter_map (λ b. met b g) (map (image_of d) l)) (append_nothing links)
    ∙ ap (λ (l : List Corners). filter_map (λ b. met b g) l) (images_of_links d c level ss)
  where
    one_base : (e : Link) → Member e.base (c ∷ []) → e.base ≡ c
    one_base e (inl same) = same
    one_base e (inr none) = absurd none
