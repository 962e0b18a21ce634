-- Pieces have at most so many planes on each axis.
use Rattle.std.proofs.Common.{◌≡◌, ℕ, ◌+◌, ◌*◌, ◌≤◌, sym, subst, arith}
use Rattle.std.proofs.lemmas.Int.{ints, clamps}
use Rattle.std.specs.Prelude.{pos, ◌+ℤ◌, ◌≤ℤ◌, ◌<ℤ◌, List}
use Rattle.std.specs.List.{range_with_len}
use Rattle.std.specs.Int.{div_ceil}
use Rattle.samr_box.specs.declared.vector.Axis.{Axis}
use Rattle.samr_box.specs.declared.vector.Axis.TheVariants.{I, J, K}
use Rattle.samr_box.specs.Vector.{at}
use Rattle.samr_box.specs.Corners.{Corners, span}
use Rattle.samr_box.specs.Lists.{Member}
use Rattle.samr_box.proofs.Members.{Member-from_map, Member-from_flat_map}
use Rattle.samr_boxlist.specs.Pieces.{piece, pieces, chopped_on, chopped}

abbrev pub IsShort : Axis → ℕ → Corners → Type 0
IsShort axis most q = at axis q.hi <ℤ (at axis q.lo +ℤ pos most)

next_piece : (p most : ℕ) → (p + 1) * most ≡ p * most + most
next_piece p most = omega arith

piece_short : (axis : Axis) (most : ℕ) (b : Corners) (p : ℕ) → IsShort axis most (piece axis most b p)
piece_short I most b p = let e = next_piece p most in omega (arith, ints, clamps, e)
piece_short J most b p = let e = next_piece p most in omega (arith, ints, clamps, e)
piece_short K most b p = let e = next_piece p most in omega (arith, ints, clamps, e)

piece_of : (axis : Axis) (most : ℕ) (b q : Corners) → Member q (pieces axis most b) → (p : ℕ) × (q ≡ piece axis most b p)
unfolding pieces
piece_of axis most b q m =
    let r = Member-from_map (piece axis most b) q (range_with_len 0 (div_ceil (span axis b) most)) m in
    (r.0, r.2)

pub pieces_short : (most : ℕ) (list : List Corners) (q : Corners) → Member q (chopped most list) → (axis : Axis) → IsShort axis most q
pieces_short most list q m axis =
    let k = Member-from_flat_map (pieces K most) q (chopped_on J most (chopped_on I most list)) m in
    let j = Member-from_flat_map (pieces J most) k.0 (chopped_on I most list) k.1 in
    let i = Member-from_flat_map (pieces I most) j.0 list j.1 in
    let on_k = piece_of K most k.0 q k.2 in
    let on_j = piece_of J most j.0 k.0 j.2 in
    let on_i = piece_of I most i.0 j.0 i.2 in
    all_short axis i.0 j.0 k.0 on_i.0 on_j.0 on_k.0 on_i.1 on_j.1 on_k.1
  where
    all_short : (axis : Axis) (a b c : Corners) (n o p : ℕ) → b ≡ piece I most a n → c ≡ piece J most b o → q ≡ piece K most c p → IsShort axis most q
    all_short I a b c n o p x y z =
        let S : Corners → Type 0 = λ v. IsShort I most v in
        subst S (sym z) (subst S (sym y) (subst S (sym x) (piece_short I most a n)))
    all_short J a b c n o p x y z =
        let S : Corners → Type 0 = λ v. IsShort J most v in
        subst S (sym z) (subst S (sym y) (piece_short J most b o))
    all_short K a b c n o p x y z =
        let S : Corners → Type 0 = λ v. IsShort K most v in
        subst S (sym z) (piece_short K most c p)

pub short_span : (axis : Axis) (most : ℕ) (q : Corners) → at axis q.lo ≤ℤ at axis q.hi → IsShort axis most q → span axis q ≤ most
short_span axis most q full h = omega (arith, ints, full, h)
