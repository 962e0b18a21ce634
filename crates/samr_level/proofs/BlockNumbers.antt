-- Blocks numbered one after the other: as the search of one box finds them, and through all boxes.
use Rattle.std.proofs.Common.{◌≡◌, ℕ, zero, suc, ◌+◌, ◌*◌, ◌<◌, ◌≤◌, refl, sym, ap, ◌∙◌, length, get_or, take, drop, arith, length-append}
use Rattle.std.proofs.lemmas.List.{length-map, take-append-drop}
use Rattle.std.proofs.lemmas.List.Concat.{flat_map-append}
use Rattle.std.specs.Prelude.{Bool, List, [], ◌∷◌, ◌++◌, map, filter}
use Rattle.std.specs.List.{flat_map, range_with_len, enumerate_from}
use Rattle.samr_box.specs.declared.vector.Axis.TheVariants.{I, J, K}
use Rattle.samr_box.specs.declared.vector.IVec.{IVec}
use Rattle.samr_box.specs.Corners.{Corners, meets}
use Rattle.samr_level.specs.Refs.{Owned}
use Rattle.samr_level.specs.Blocks.{blocks_along, place, block_at, blocks_of, blocks_in, owner_of}
use Rattle.samr_level.specs.Cuts.{Cut, along, member_at, row_in, plane_in, members_in}
use Rattle.samr_boxlist.proofs.Steps.{take_step}
use Rattle.samr_level.proofs.Steps.{filter_append}
use Rattle.samr_level.proofs.Searches.{filter-flat_map, flat_map-same}

-- boxes with the owners of the numbers from n on
abbrev pub numbered : ℕ → ℕ → ℕ → List Corners → List Owned
numbered count ranks n bs = map (λ b. record { owner = owner_of count ranks b.0; bx = b.1 }) (enumerate_from n bs)

pub numbered-append : (count ranks n : ℕ) (xs ys : List Corners) → numbered count ranks n (xs ++ ys) ≡ numbered count ranks n xs ++ numbered count ranks (n + length xs) ys
numbered-append count ranks n [] ys = ap (λ (k : ℕ). numbered count ranks k ys) (omega arith)
numbered-append count ranks n (x ∷ xs) ys =
    ap (λ (l : List Owned). let o : Owned = record { owner = owner_of count ranks n; bx = x } in o ∷ l)
    (numbered-append count ranks (n + 1) xs ys
    ∙ ap (λ (k : ℕ). numbered count ranks (n + 1) xs ++ numbered count ranks k ys) (omega arith))

numbered_row : (count ranks n : ℕ) (g : ℕ → Corners) (a k : ℕ)
    → numbered count ranks (n + a) (map g (range_with_len a k)) ≡ map (λ x. record { owner = owner_of count ranks (n + x); bx = g x }) (range_with_len a k)
numbered_row count ranks n g a zero = refl
numbered_row count ranks n g a (suc k) =
    ap (λ (l : List Owned). let o : Owned = record { owner = owner_of count ranks (n + a); bx = g a } in o ∷ l)
    (ap (λ (m : ℕ). numbered count ranks m (map g (range_with_len (a + 1) k))) (omega arith) ∙ numbered_row count ranks n g (a + 1) k)

numbered_rows : (count ranks n m : ℕ) (f : ℕ → List Corners) → ((y : ℕ) → length (f y) ≡ m) → (a k : ℕ)
    → numbered count ranks (n + a * m) (flat_map f (range_with_len a k)) ≡ flat_map (λ y. numbered count ranks (n + y * m) (f y)) (range_with_len a k)
numbered_rows count ranks n m f long a zero = refl
numbered_rows count ranks n m f long a (suc k) =
    let here = long a in
    let e : (n + a * m) + length (f a) ≡ n + (a + 1) * m = omega (arith, here) in
    numbered-append count ranks (n + a * m) (f a) (flat_map f (range_with_len (a + 1) k))
    ∙ ap (λ (l : List Owned). numbered count ranks (n + a * m) (f a) ++ l)
    (ap (λ (v : ℕ). numbered count ranks v (flat_map f (range_with_len (a + 1) k))) e ∙ numbered_rows count ranks n m f long (a + 1) k)

length_range : (a k : ℕ) → length (range_with_len a k) ≡ k
length_range a zero = refl
length_range a (suc k) = let r = length_range (a + 1) k in omega (arith, r)

length_rows : {X : Type 0} (m : ℕ) (f : ℕ → List X) → ((y : ℕ) → length (f y) ≡ m) → (a k : ℕ) → length (flat_map f (range_with_len a k)) ≡ k * m
length_rows m f long a zero = omega arith
length_rows m f long a (suc k) =
    let here = long a in
    let rest = length_rows m f long (a + 1) k in
    length-append (f a) (flat_map f (range_with_len (a + 1) k)) ∙ omega (arith, here, rest)

row_of : Cut → ℕ → ℕ → List Corners
row_of c y z = map (λ x. block_at c.block c.bx (place x y z)) (range_with_len 0 (along I c))

plane_of : Cut → ℕ → List Corners
plane_of c z = flat_map (λ y. map (λ x. block_at c.block c.bx (place x y z)) (range_with_len 0 (along I c))) (range_with_len 0 (along J c))

length_row : (c : Cut) (y z : ℕ) → length (row_of c y z) ≡ along I c
unfolding row_of
length_row c y z = length-map (range_with_len 0 (along I c)) (λ x. block_at c.block c.bx (place x y z)) ∙ length_range 0 (along I c)

length_plane : (c : Cut) (z : ℕ) → length (plane_of c z) ≡ along J c * along I c
unfolding plane_of row_of
length_plane c z = length_rows (along I c) (λ y. map (λ x. block_at c.block c.bx (place x y z)) (range_with_len 0 (along I c))) (λ y. length_row c y z) 0 (along J c)

length-blocks : (c : Cut) → length (blocks_of c.block c.bx) ≡ along I c * along J c * along K c
unfolding blocks_of plane_of
length-blocks c = length_rows (along J c * along I c) (plane_of c) (λ z. length_plane c z) 0 (along K c) ∙ omega arith

pub length-blocks_of : (block : IVec) (p : Corners) → length (blocks_of block p) ≡ blocks_along I block p * blocks_along J block p * blocks_along K block p
length-blocks_of block p = length-blocks (record { bx = p; block = block; first = 0; count = 0; ranks = 0 })

-- the members of one box
row_members : (c : Cut) (y z n : ℕ) → n ≡ c.first + (z * along J c + y) * along I c
    → numbered c.count c.ranks n (row_of c y z) ≡ map (λ x. member_at c x y z) (range_with_len 0 (along I c))
unfolding row_of member_at
row_members c y z n e =
    ap (λ (k : ℕ). numbered c.count c.ranks k (map (λ x. block_at c.block c.bx (place x y z)) (range_with_len 0 (along I c)))) (omega (arith, e))
    ∙ numbered_row c.count c.ranks n (λ x. block_at c.block c.bx (place x y z)) 0 (along I c)
    ∙ map_same (λ x. record { owner = owner_of c.count c.ranks (n + x); bx = block_at c.block c.bx (place x y z) }) (λ x. member_at c x y z) (range_with_len 0 (along I c))
    (λ x. ap (λ (k : ℕ). let o : Owned = record { owner = owner_of c.count c.ranks k; bx = block_at c.block c.bx (place x y z) } in o) (omega (arith, e)))
  where
    map_same : (f g : ℕ → Owned) (xs : List ℕ) → ((x : ℕ) → f x ≡ g x) → map f xs ≡ map g xs
    map_same f g [] h = refl
    map_same f g (x ∷ xs) h = ap (λ (o : Owned). o ∷ map f xs) (h x) ∙ ap (λ (l : List Owned). g x ∷ l) (map_same f g xs h)

filter_each : {X : Type 0} (p : X → Bool) (h : ℕ → X) (xs : List ℕ) → filter p (map h xs) ≡ flat_map (λ x. filter p (h x ∷ [])) xs
filter_each p h [] = refl
filter_each p h (x ∷ xs) = filter_append p (h x ∷ []) (map h xs) ∙ ap (λ l. filter p (h x ∷ []) ++ l) (filter_each p h xs)

row_met : (w : Corners) (c : Cut) (y z n : ℕ) → n ≡ c.first + (z * along J c + y) * along I c
    → filter (λ b. meets w b.bx) (numbered c.count c.ranks n (row_of c y z)) ≡ row_in w c y z
unfolding row_in
row_met w c y z n e =
    ap (filter (λ b. meets w b.bx)) (row_members c y z n e)
    ∙ filter_each (λ b. meets w b.bx) (λ x. member_at c x y z) (range_with_len 0 (along I c))

plane_met : (w : Corners) (c : Cut) (z n : ℕ) → n ≡ c.first + z * (along J c * along I c)
    → filter (λ b. meets w b.bx) (numbered c.count c.ranks n (plane_of c z)) ≡ plane_in w c z
unfolding plane_of row_of plane_in
plane_met w c z n e =
    let f = row_of c in
    ap (filter (λ b. meets w b.bx))
    (ap (λ (k : ℕ). numbered c.count c.ranks k (flat_map (λ y. row_of c y z) (range_with_len 0 (along J c)))) (omega arith)
    ∙ numbered_rows c.count c.ranks n (along I c) (λ y. row_of c y z) (λ y. length_row c y z) 0 (along J c))
    ∙ filter-flat_map (λ b. meets w b.bx) (λ y. numbered c.count c.ranks (n + y * along I c) (row_of c y z)) (range_with_len 0 (along J c))
    ∙ flat_map-same (λ y. filter (λ b. meets w b.bx) (numbered c.count c.ranks (n + y * along I c) (row_of c y z))) (λ y. row_in w c y z) (range_with_len 0 (along J c))
    (λ y. row_met w c y z (n + y * along I c) (omega (arith, e)))

pub members_met : (w : Corners) (c : Cut) → filter (λ b. meets w b.bx) (numbered c.count c.ranks c.first (blocks_of c.block c.bx)) ≡ members_in w c
unfolding blocks_of members_in plane_of
members_met w c =
    ap (filter (λ b. meets w b.bx))
    (ap (λ (k : ℕ). numbered c.count c.ranks k (flat_map (plane_of c) (range_with_len 0 (along K c)))) (omega arith)
    ∙ numbered_rows c.count c.ranks c.first (along J c * along I c) (plane_of c) (λ z. length_plane c z) 0 (along K c))
    ∙ filter-flat_map (λ b. meets w b.bx) (λ z. numbered c.count c.ranks (c.first + z * (along J c * along I c)) (plane_of c z)) (range_with_len 0 (along K c))
    ∙ flat_map-same (λ z. filter (λ b. meets w b.bx) (numbered c.count c.ranks (c.first + z * (along J c * along I c)) (plane_of c z))) (λ z. plane_in w c z) (range_with_len 0 (along K c))
    (λ z. plane_met w c z (c.first + z * (along J c * along I c)) refl)

-- the blocks of a list of boxes, one box more
pub blocks_more : (block : IVec) (bs more : List Corners) (p : Corners) → more ≡ bs ++ p ∷ [] → blocks_in block more ≡ blocks_in block bs ++ blocks_of block p
blocks_more block bs more p e =
    ap (blocks_in block) e ∙ flat_map-append (λ p. blocks_of block p) bs (p ∷ []) ∙ ap (λ l. blocks_in block bs ++ l) (nil_right (blocks_of block p))
  where
    nil_right : (xs : List Corners) → xs ++ [] ≡ xs
    nil_right [] = refl
    nil_right (x ∷ xs) = ap (λ l. x ∷ l) (nil_right xs)

pub one_box_more : (w : Corners) (c : Cut) (bs more : List Corners) (out next : List Owned) → more ≡ bs ++ c.bx ∷ [] → c.first ≡ length (blocks_in c.block bs)
    → out ≡ filter (λ b. meets w b.bx) (numbered c.count c.ranks 0 (blocks_in c.block bs)) → next ≡ out ++ members_in w c
    → next ≡ filter (λ b. meets w b.bx) (numbered c.count c.ranks 0 (blocks_in c.block more))
one_box_more w c bs more out next e first so_far step =
    let p : Owned → Bool = λ b. meets w b.bx in
    let n : 0 + length (blocks_in c.block bs) ≡ c.first = omega (arith, first) in
    step ∙ ap (λ l. l ++ members_in w c) so_far
    ∙ ap (λ l. filter p (numbered c.count c.ranks 0 (blocks_in c.block bs)) ++ l)
    (sym (ap (λ (k : ℕ). filter p (numbered c.count c.ranks k (blocks_of c.block c.bx))) n ∙ members_met w c))
    ∙ sym (filter_append p (numbered c.count c.ranks 0 (blocks_in c.block bs)) (numbered c.count c.ranks (0 + length (blocks_in c.block bs)) (blocks_of c.block c.bx)))
    ∙ ap (filter p)
    (sym
    (ap (numbered c.count c.ranks 0) (blocks_more c.block bs more c.bx e)
    ∙ numbered-append c.count c.ranks 0 (blocks_in c.block bs) (blocks_of c.block c.bx)))

pub longer : (block : IVec) (bs more : List Corners) (p : Corners) → more ≡ bs ++ p ∷ [] → length (blocks_in block more) ≡ length (blocks_in block bs) + length (blocks_of block p)
longer block bs more p e = ap length (blocks_more block bs more p e) ∙ length-append (blocks_in block bs) (blocks_of block p)

-- the blocks of the first boxes are no more than all
pub shorter : (block : IVec) (bs rest : List Corners) → length (blocks_in block bs) ≤ length (blocks_in block (bs ++ rest))
shorter block bs rest =
    let e = ap length (flat_map-append (λ p. blocks_of block p) bs rest) ∙ length-append (blocks_in block bs) (blocks_in block rest) in
    omega (arith, e)

-- a box of the list, with those before it: its blocks are numbered within all
pub room : (block : IVec) (boxes : List Corners) (i : ℕ) (p : Corners) → i < length boxes → p ≡ get_or boxes i p
    → length (blocks_in block (take i boxes)) + length (blocks_of block p) ≤ length (blocks_in block boxes)
room block boxes i p more is =
    let e = longer block (take i boxes) (take (i + 1) boxes) p (take_step boxes i p more is) in
    let up = shorter block (take (i + 1) boxes) (drop (i + 1) boxes) in
    let whole = ap (λ (l : List Corners). length (blocks_in block l)) (take-append-drop (i + 1) boxes) in
    omega (arith, e, up, whole)

pub box_members : (c : Cut) → numbered c.count c.ranks c.first (blocks_of c.block c.bx)
    ≡ flat_map (λ z. flat_map (λ y. map (λ x. member_at c x y z) (range_with_len 0 (along I c))) (range_with_len 0 (along J c))) (range_with_len 0 (along K c))
unfolding blocks_of plane_of row_of
box_members c =
    ap (λ (k : ℕ). numbered c.count c.ranks k (flat_map (plane_of c) (range_with_len 0 (along K c)))) (omega arith)
    ∙ numbered_rows c.count c.ranks c.first (along J c * along I c) (plane_of c) (λ z. length_plane c z) 0 (along K c)
    ∙ flat_map-same (λ z. numbered c.count c.ranks (c.first + z * (along J c * along I c)) (plane_of c z))
    (λ z. flat_map (λ y. map (λ x. member_at c x y z) (range_with_len 0 (along I c))) (range_with_len 0 (along J c))) (range_with_len 0 (along K c))
    (λ z.
    let n = c.first + z * (along J c * along I c) in
    ap (λ (k : ℕ). numbered c.count c.ranks k (flat_map (λ y. row_of c y z) (range_with_len 0 (along J c)))) (omega arith)
    ∙ numbered_rows c.count c.ranks n (along I c) (λ y. row_of c y z) (λ y. length_row c y z) 0 (along J c)
    ∙ flat_map-same (λ y. numbered c.count c.ranks (n + y * along I c) (row_of c y z)) (λ y. map (λ x. member_at c x y z) (range_with_len 0 (along I c))) (range_with_len 0 (along J c))
    (λ y. row_members c y z (n + y * along I c) (omega arith)))
