-- The list of the values of a box's cells: it is determined by what it has for each cell.
use Rattle.std.proofs.Common.{◌≡◌, ℕ, ◌<◌, Bool, true, false, cond, List, map, length, get_or, refl, ap, sym, ◌∙◌, arith, zero-add}
use Rattle.std.proofs.lemmas.List.{length-map, get_or-map, ext_get_or}
use Rattle.std.proofs.lemmas.List.FromFn.{length-map-range_with_len, get_or-map-range_with_len}
use Rattle.std.specs.List.{range_with_len}
use Rattle.std.specs.Prelude.{◌||◌}
use Rattle.samr_box.specs.declared.vector.IVec.{IVec}
use Rattle.samr_box.specs.Vector.{AtMost}
use Rattle.samr_box.specs.Corners.{Corners, Holds, cells_of}
use Rattle.samr_data.specs.Places.{place, cell_at, cells_in}
use Rattle.samr_data.specs.Values.{value_in, listed, changed_in}
use Rattle.samr_data.proofs.PlaceLaws.{place_below, cell_at-place, place-cell_at, cell_at_holds}

pub length-listed : (b : Corners) (f : IVec → ℕ) → length (listed b f) ≡ cells_of b
unfolding cells_in
length-listed b f = length-map (map (cell_at b) (range_with_len 0 (cells_of b))) f ∙ length-map-range_with_len (cell_at b) 0 (cells_of b)

get_or-listed : (b : Corners) (f : IVec → ℕ) (n : ℕ) → n < cells_of b → get_or (listed b f) n 0 ≡ f (cell_at b n)
unfolding cells_in
get_or-listed b f n h =
    let long : length (map (cell_at b) (range_with_len 0 (cells_of b))) ≡ cells_of b = length-map-range_with_len (cell_at b) 0 (cells_of b) in
    get_or-map f (map (cell_at b) (range_with_len 0 (cells_of b))) n (cell_at b 0) 0 (omega (arith, long, h))
    ∙ ap f (get_or-map-range_with_len (cell_at b) 0 (cells_of b) n n (cell_at b 0) h (zero-add n))

pub value_in-listed : (b : Corners) (f : IVec → ℕ) (x : IVec) → Holds b x → value_in b (listed b f) x ≡ f x
value_in-listed b f x h = get_or-listed b f (place b x) (place_below b x h) ∙ ap f (cell_at-place b x h)

pub listed_is : (b : Corners) (f : IVec → ℕ) (vs : List ℕ) → AtMost b.lo b.hi → length vs ≡ cells_of b → ((x : IVec) → Holds b x → value_in b vs x ≡ f x) → vs ≡ listed b f
listed_is b f vs order long each =
    ext_get_or 0 vs (listed b f) (long ∙ sym (length-listed b f))
    (λ n h.
    let below : n < cells_of b = omega (arith, long, h) in
    ap (λ m. get_or vs m 0) (sym (place-cell_at b n)) ∙ each (cell_at b n) (cell_at_holds b n order below) ∙ sym (get_or-listed b f n below))

pub listed_same : (b : Corners) (f g : IVec → ℕ) → AtMost b.lo b.hi → ((x : IVec) → Holds b x → f x ≡ g x) → listed b f ≡ listed b g
listed_same b f g order each =
    listed_is b g (listed b f) order (length-listed b f) (λ x h. value_in-listed b f x h ∙ each x h)

cond_or : (u t : Bool) (a d : ℕ) → cond u a (cond t a d) ≡ cond (u || t) a d
cond_or true t a d = refl
cond_or false t a d = refl

-- a list whose values were changed where one test holds, and now where another holds
pub changed_more : (b : Corners) (old was now : List ℕ) (t u both : IVec → Bool) (f : IVec → ℕ) → AtMost b.lo b.hi → length now ≡ cells_of b
    → was ≡ listed b (changed_in b old t f) → ((x : IVec) → Holds b x → value_in b now x ≡ cond (u x) (f x) (value_in b was x))
    → ((x : IVec) → Holds b x → (u x || t x) ≡ both x) → now ≡ listed b (changed_in b old both f)
changed_more b old was now t u both f order long e step tests =
    listed_is b (changed_in b old both f) now order long
    (λ x h.
    step x h
    ∙ ap (λ v. cond (u x) (f x) v) (ap (λ l. value_in b l x) e ∙ value_in-listed b (changed_in b old t f) x h)
    ∙ cond_or (u x) (t x) (f x) (value_in b old x)
    ∙ ap (λ v. cond v (f x) (value_in b old x)) (tests x h))

pub changed_none : (b : Corners) (old : List ℕ) (t : IVec → Bool) (f : IVec → ℕ) → AtMost b.lo b.hi → length old ≡ cells_of b
    → ((x : IVec) → Holds b x → t x ≡ false) → old ≡ listed b (changed_in b old t f)
changed_none b old t f order long none =
    listed_is b (changed_in b old t f) old order long (λ x h. sym (ap (λ v. cond v (f x) (value_in b old x)) (none x h)))

pub changed_same : (b : Corners) (old : List ℕ) (t u : IVec → Bool) (f : IVec → ℕ) → AtMost b.lo b.hi → ((x : IVec) → Holds b x → t x ≡ u x)
    → listed b (changed_in b old t f) ≡ listed b (changed_in b old u f)
changed_same b old t u f order same =
    listed_same b (changed_in b old t f) (changed_in b old u f) order (λ x h. ap (λ v. cond v (f x) (value_in b old x)) (same x h))
