-- Two lists side by side.
use Rattle.std.proofs.Common.{◌≡◌, ℕ, zero, suc, ◌<◌, List, [], ◌∷◌, ◌++◌, length, get_or, set, refl, ap, arith}
use Rattle.std.specs.List.{AllZip}

module _ {X Y : Type 0} where
  -- one member of the second list changed
  pub zip_set : (R : X → Y → Type 0) (xs : List X) (ys : List Y) (i : ℕ) (y : Y) → ((d : X) → i < length xs → R (get_or xs i d) y) → AllZip R xs ys → AllZip R xs (set ys i y)
  zip_set R [] [] i y here all = all
  zip_set R [] (z ∷ zs) i y here all = absurd all
  zip_set R (x ∷ xs) [] i y here all = absurd all
  zip_set R (x ∷ xs) (z ∷ zs) zero y here all = (here x (omega arith), all.1)
  zip_set R (x ∷ xs) (z ∷ zs) (suc i) y here all = (all.0, zip_set R xs zs i y (λ d below. here d (omega (arith, below))) all.1)

  pub zip_weaker : (R S : X → Y → Type 0) → ((x : X) (y : Y) → R x y → S x y) → (xs : List X) (ys : List Y) → AllZip R xs ys → AllZip S xs ys
  zip_weaker R S f [] [] all = all
  zip_weaker R S f [] (y ∷ ys) all = absurd all
  zip_weaker R S f (x ∷ xs) [] all = absurd all
  zip_weaker R S f (x ∷ xs) (y ∷ ys) all = (f x y all.0, zip_weaker R S f xs ys all.1)

  pub zip_at : (R : X → Y → Type 0) (xs : List X) (ys : List Y) (i : ℕ) (d : X) (e : Y) → AllZip R xs ys → i < length xs → R (get_or xs i d) (get_or ys i e)
  zip_at R [] [] i d e all below = absurd (omega (arith, below))
  zip_at R [] (y ∷ ys) i d e all below = absurd all
  zip_at R (x ∷ xs) [] i d e all below = absurd all
  zip_at R (x ∷ xs) (y ∷ ys) zero d e all below = all.0
  zip_at R (x ∷ xs) (y ∷ ys) (suc i) d e all below = zip_at R xs ys i d e all.1 (omega (arith, below))

  pub zip_length : (R : X → Y → Type 0) (xs : List X) (ys : List Y) → AllZip R xs ys → length xs ≡ length ys
  zip_length R [] [] all = refl
  zip_length R [] (y ∷ ys) all = absurd all
  zip_length R (x ∷ xs) [] all = absurd all
  zip_length R (x ∷ xs) (y ∷ ys) all = ap suc (zip_length R xs ys all.1)

  pub zip_push : (R : X → Y → Type 0) (xs : List X) (ys : List Y) (x : X) (y : Y) → AllZip R xs ys → R x y → AllZip R (xs ++ x ∷ []) (ys ++ y ∷ [])
  zip_push R [] [] x y all here = (here, tt)
  zip_push R [] (z ∷ zs) x y all here = absurd all
  zip_push R (z ∷ zs) [] x y all here = absurd all
  zip_push R (w ∷ ws) (z ∷ zs) x y all here = (all.0, zip_push R ws zs x y all.1 here)

  pub zip_from : (R : X → Y → Type 0) (xs : List X) (ys : List Y) → length xs ≡ length ys → ((k : ℕ) (d : X) (e : Y) → k < length xs → R (get_or xs k d) (get_or ys k e)) → AllZip R xs ys
  zip_from R [] [] same all = tt
  zip_from R [] (y ∷ ys) same all = absurd (omega (arith, same))
  zip_from R (x ∷ xs) [] same all = absurd (omega (arith, same))
  zip_from R (x ∷ xs) (y ∷ ys) same all = (all 0 x y (omega arith), zip_from R xs ys (omega (arith, same)) (λ k d e below. all (suc k) d e (omega (arith, below))))
