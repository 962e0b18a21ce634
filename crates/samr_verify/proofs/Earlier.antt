-- A look-up of all boxes tells whether a box meets one before a place.
use Rattle.std.proofs.Common.{◌≡◌, ℕ, zero, suc, ◌+◌, ◌<◌, ◌≤◌, refl, arith, map, take}
use Rattle.std.proofs.lemmas.Bool.Decides.{nat_tests}
use Rattle.std.specs.Prelude.{Bool, true, false, ◌||◌, nat_lt, List, [], ◌∷◌}
use Rattle.std.specs.List.{list_any}
use Rattle.samr_box.specs.Corners.{Corners, meets}
use Rattle.samr_find.specs.Places.{places_from, meeting}
use Rattle.samr_level.specs.Refs.{Owned}
use Rattle.samr_verify.specs.Deciding.{begins_below}
use Rattle.samr_verify.specs.MeshFaults.{meets_earlier}

lt_true : (a b : ℕ) → a < b → nat_lt a b ≡ true
lt_true a b h = grind (arith, nat_tests, h)

lt_false : (a b : ℕ) → b ≤ a → nat_lt a b ≡ false
lt_false a b h = grind (arith, nat_tests, h)

module _ (test : Corners → Bool) where
  -- no place from a number on is below it
  from_there : (n m : ℕ) (xs : List Owned) → m ≤ n → begins_below (places_from n test (map (λ a. a.bx) xs)) m ≡ false
  from_there n m [] h = refl
  from_there n m (x ∷ xs) h = by (test x.bx) refl (from_there (n + 1) m xs (omega (arith, h)))
    where
      by : (t : Bool) → test x.bx ≡ t → begins_below (places_from (n + 1) test (map (λ a. a.bx) xs)) m ≡ false → begins_below (places_from n test (x.bx ∷ map (λ a. a.bx) xs)) m ≡ false
      by true e rest = rw e (lt_false n m h)
      by false e rest = rw e rest

  first_below : (n i m : ℕ) (xs : List Owned) → m ≡ n + i → begins_below (places_from n test (map (λ a. a.bx) xs)) m ≡ list_any (λ a. test a.bx) (take i xs)
  first_below n zero m xs e = from_there n m xs (omega (arith, e))
  first_below n (suc i) m [] e = refl
  first_below n (suc i) m (x ∷ xs) e = by (test x.bx) refl (first_below (n + 1) i m xs (omega (arith, e)))
    where
      by : (t : Bool) → test x.bx ≡ t → begins_below (places_from (n + 1) test (map (λ a. a.bx) xs)) m ≡ list_any (λ a. test a.bx) (take i xs)
          → begins_below (places_from n test (x.bx ∷ map (λ a. a.bx) xs)) m ≡ (test x.bx || list_any (λ a. test a.bx) (take i xs))
      by true t rest = rw t (lt_true n m (omega (arith, e)))
      by false t rest = rw t rest

pub earlier_is : (boxes : List Owned) (i : ℕ) (b : Owned) → begins_below (meeting (map (λ a. a.bx) boxes) b.bx) i ≡ meets_earlier boxes i b
unfolding meeting
earlier_is boxes i b = first_below (λ a. meets a b.bx) 0 i i boxes (omega arith)
