-- The problem that is made is one that is accepted.
use Rattle.std.proofs.Common.{◌≡◌, refl, sym, subst, ℕ, ◌+◌, ◌*◌, ◌<◌, ◌≤◌, ℤ, pos, negsuc, ◌-ℤ◌, ◌≤ℤ◌, Bool, true, false, List, [], ◌∷◌, map, arith, length}
use Rattle.std.specs.List.{list_all, range_with_len}
use Rattle.std.specs.Prelude.{nat_lt}
use Rattle.std.proofs.lemmas.Bool.Decides.{nat_tests}
use Rattle.std.proofs.lemmas.Int.{ints}
use Rattle.std.proofs.Math.Nat.{mod-lt, mul-le-mul}
use Rattle.std.proofs.lemmas.List.FromFn.{length-map-range_with_len}
use Rattle.samr_box.specs.declared.vector.IVec.{IVec}
use Rattle.samr_shape.specs.declared.shape.Shape.{Shape}
use Rattle.samr_problem.specs.declared.field.Field.{Field}
use Rattle.samr_problem.specs.declared.probe.Probe.{Probe}
use Rattle.samr_box.specs.Corners.{Corners}
use Rattle.samr_problem.specs.Fields.{cell_count, width_of, widest}
use Rattle.samr_problem.specs.Lengths.{lengths_of}
use Rattle.samr_problem.specs.Faults.{is_nested, ghosts_fit, ghost_fits, is_large}
use Rattle.samr_problem.specs.Problems.{IsProblem, is_shape, is_field, is_init, is_border, is_flat_field, is_flat_shape}
use Rattle.samr_problem.specs.Values.{is_within, axes_within}
use Rattle.samr_problem.proofs.Bounds.{le_back}
use Rattle.samr_generate.specs.Draws.{draw}
use Rattle.samr_generate.specs.Made.{flat, ball, balls, square, ratios, field, made}

-- a draw is below its bound
draw_below : (seed n bound : ℕ) → 0 < bound → draw seed n bound < bound
unfolding draw
draw_below seed n bound some = mod-lt _ some

within : (low high z : ℤ) → low ≤ℤ z → z ≤ℤ high → is_within low high z ≡ true
unfolding is_within
within low high z a b = rw (le_back low z a, le_back z high b) refl

flat_within : (low high i j : ℤ) → low ≤ℤ i → i ≤ℤ high → low ≤ℤ j → j ≤ℤ high → axes_within 2 low high (flat i j) ≡ true
unfolding axes_within
flat_within low high i j a b c d = rw (within low high i a b, within low high j c d) refl

-- each ball has a place, a radius and a velocity that a problem may have, and lies in the plane
ball_is_shape : (domain : IVec) (ratio : List IVec) (seed size n : ℕ) → 1 ≤ size → size ≤ 64 → is_shape 2 (lengths_of domain ratio) (ball seed size n) ≡ true
unfolding is_shape ball
ball_is_shape domain ratio seed size n some few =
    let i = draw_below seed n (32 * size) (omega (arith, some)) in
    let j = draw_below seed (n + 1) (32 * size) (omega (arith, some)) in
    let r = draw_below seed (n + 2) (2 * size) (omega (arith, some)) in
    let p = draw_below seed (n + 3) 9 (omega arith) in
    let q = draw_below seed (n + 4) 9 (omega arith) in
    rw (
      flat_within (negsuc 8388607) (pos 8388608) (pos (draw seed n (32 * size))) (pos (draw seed (n + 1) (32 * size)))
          (omega (arith, ints)) (omega (arith, ints, i, few)) (omega (arith, ints)) (omega (arith, ints, j, few)),
      within (pos 0) (pos 4194304) (pos (draw seed (n + 2) (2 * size) + 1)) (omega (arith, ints)) (omega (arith, ints, r, few)),
      flat_within (negsuc 4095) (pos 4096) (pos (draw seed (n + 3) 9) -ℤ pos 4) (pos (draw seed (n + 4) 9) -ℤ pos 4)
          (omega (arith, ints)) (omega (arith, ints, p)) (omega (arith, ints)) (omega (arith, ints, q)),
    )
    refl

ball_is_flat : (seed size n : ℕ) → is_flat_shape (ball seed size n) ≡ true
unfolding ball
ball_is_flat seed size n = refl

all_made : (test : Shape → Bool) (one : ℕ → Shape) → ((n : ℕ) → test (one n) ≡ true) → (ns : List ℕ) → list_all test (map one ns) ≡ true
all_made test one each [] = refl
all_made test one each (n ∷ ns) = rw (each n, all_made test one each ns) refl

balls_are_shapes : (domain : IVec) (ratio : List IVec) (seed size : ℕ) → 1 ≤ size → size ≤ 64 → list_all (is_shape 2 (lengths_of domain ratio)) (balls seed size) ≡ true
unfolding balls
balls_are_shapes domain ratio seed size some few =
    all_made (is_shape 2 (lengths_of domain ratio)) (λ n. ball seed size (n * 5 + 1)) (λ n. ball_is_shape domain ratio seed size (n * 5 + 1) some few) (range_with_len 0 (draw seed 0 3 + 1))

balls_are_flat : (seed size : ℕ) → list_all is_flat_shape (balls seed size) ≡ true
unfolding balls
balls_are_flat seed size = all_made is_flat_shape (λ n. ball seed size (n * 5 + 1)) (λ n. ball_is_flat seed size (n * 5 + 1)) (range_with_len 0 (draw seed 0 3 + 1))

few_balls : (seed size : ℕ) → length (balls seed size) ≤ 32
unfolding balls
few_balls seed size =
    let few = draw_below seed 0 3 (omega arith) in
    let long = length-map-range_with_len (λ n. ball seed size (n * 5 + 1)) 0 (draw seed 0 3 + 1) in
    omega (arith, few, long)

field_is : is_field 2 field ≡ true
unfolding is_field axes_within is_within is_init is_border
field_is = refl

field_is_flat : is_flat_field field ≡ true
unfolding is_flat_field
field_is_flat = refl

square_most : (size : ℕ) → size ≤ 64 → size * size ≤ 4096
square_most size few = mul-le-mul few few

small_square : (size : ℕ) → size ≤ 64 → cell_count (square size) ≤ 4194304
unfolding cell_count
small_square size few =
    let most = square_most size few in
    let e : 8 * size * (8 * size) * 1 ≡ 64 * (size * size) = omega arith in
    subst (λ (n : ℕ). n ≤ 4194304) (sym e) (omega (arith, most))

lt_back : (a b : ℕ) → b ≤ a → nat_lt a b ≡ false
lt_back a b h = grind (arith, nat_tests)

not_large : (size : ℕ) → size ≤ 64 → is_large (square size) ratios ≡ false
unfolding is_large lengths_of
not_large size few =
    let most = square_most size few in
    let e : 8 * size * 2 * 2 * (8 * size * 2 * 2) * (1 * 1 * 1) ≡ 1024 * (size * size) = omega arith in
    let less : 8 * size * 2 * 2 * (8 * size * 2 * 2) * (1 * 1 * 1) ≤ 4194304 = subst (λ (n : ℕ). n ≤ 4194304) (sym e) (omega (arith, most)) in
    lt_back 4194304 _ less

nest_is : list_all (is_nested ratios (flat (pos 1) (pos 1))) (field ∷ []) ≡ true
unfolding is_nested ghosts_fit ghost_fits
nest_is = refl

pub made_is : (seed size : ℕ) → 1 ≤ size → size ≤ 64 → IsProblem (made seed size)
unfolding made axes_within is_within width_of widest
made_is seed size some few = record {
  format = record { above = omega arith; below = omega arith };
  dim = record { above = omega arith; below = omega arith };
  domain = record {
    i_low = omega (arith, ints, some);
    i_high = omega (arith, ints, few);
    j_low = omega (arith, ints, some);
    j_high = omega (arith, ints, few);
    k_low = omega (arith, ints);
    k_high = omega (arith, ints);
  };
  block = record {
    i_low = omega (arith, ints);
    i_high = omega (arith, ints);
    j_low = omega (arith, ints);
    j_high = omega (arith, ints);
    k_low = omega (arith, ints);
    k_high = omega (arith, ints);
  };
  levels = record { above = omega arith; below = omega arith };
  ratios = refl;
  ratio = refl;
  nest = refl;
  tag_buffer = refl;
  efficiency = record { above = omega arith; below = omega arith };
  smallest = refl;
  largest = refl;
  tile = refl;
  regrid = record { above = omega arith; below = omega arith };
  steps = record { above = omega arith; below = omega arith };
  fields = rw (field_is) refl;
  some_field = omega arith;
  few_fields = omega arith;
  few_probes = omega arith;
  probes = refl;
  parts = refl;
  few_parts = omega arith;
  apart = λ i j d less most. absurd (omega (arith, most));
  with_parts = λ h. absurd (omega (arith, h));
  few_shapes = few_balls seed size;
  shapes = balls_are_shapes (square size) ratios seed size some few;
  flat = λ e. record {
    periodic = refl;
    nest = refl;
    tag_buffer = refl;
    ratio = refl;
    fields = rw (field_is_flat) refl;
    probes = refl;
    parts = refl;
    shapes = balls_are_flat seed size;
    width = refl;
  };
  nested = nest_is;
  width = refl;
  wide = record { k = omega (arith, ints); j = omega (arith, ints, some); i = omega (arith, ints, some) };
  finest = not_large size few;
  cells = small_square size few;
}

-- a problem with the parts of that which is made is it
pub same_made : (seed size : ℕ) (domain nest tag_buffer width : IVec) (ratio : List IVec) (fields : List Field) (probes : List Probe) (parts : List Corners) (shapes : List Shape)
    → domain ≡ square size → nest ≡ flat (pos 1) (pos 1) → tag_buffer ≡ flat (pos 1) (pos 1) → width ≡ flat (pos 1) (pos 1) → ratio ≡ ratios → fields ≡ field ∷ [] → probes ≡ [] → parts ≡ [] → shapes ≡ balls seed size
    → record {
      format = 1;
      dim = 2;
      domain = domain;
      periodic = record { k = false; j = true; i = true };
      block = record { k = pos 1; j = pos 8; i = pos 8 };
      levels = 3;
      ratio = ratio;
      nest = nest;
      tag_buffer = tag_buffer;
      efficiency = 70;
      smallest = pos 2;
      largest = pos 32;
      tile = pos 0;
      regrid = 2;
      steps = 8;
      fields = fields;
      probes = probes;
      parts = parts;
      shapes = shapes;
      width = width;
    } ≡ made seed size
unfolding made
same_made seed size domain nest tag_buffer width ratio fields probes parts shapes d n t w r f q p s = rw (d, n, t, w, r, f, q, p, s) refl
