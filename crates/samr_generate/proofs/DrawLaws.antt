-- The words of a generator, one more.
use Rattle.std.proofs.Common.{◌≡◌, refl, ap, sym, ◌∙◌, ℕ, ◌+◌, ◌*◌, ℤ, pos, ◌-ℤ◌, add-one, arith}
use Rattle.rand_pcg.specs.Lcg.{Lcg}
use Rattle.rand_pcg.specs.Pcg.{pcg32}
use Rattle.samr_box.specs.declared.vector.IVec.{IVec}
use Rattle.samr_shape.specs.declared.shape.Shape.TheVariants.{Ball}
use Rattle.samr_generate.specs.Draws.{generator, draw}
use Rattle.samr_generate.specs.Made.{flat, ball}

pub next_generator : (seed n word : ℕ) (now next : Lcg) → (word, next) ≡ pcg32 now → now ≡ generator seed n → next ≡ generator seed (n + 1)
unfolding generator
next_generator seed n word now next step is =
    ap (λ (g : ℕ × Lcg). g.1) step ∙ ap (λ (g : Lcg). (pcg32 g).1) is ∙ ap (generator seed) (sym (add-one n))

-- a ball from its draws, one after another
pub ball_is : (seed size n : ℕ) (i j radius p q : ℤ) (at velocity : IVec)
    → i ≡ pos (draw seed n (32 * size)) → j ≡ pos (draw seed (n + 1) (32 * size)) → radius ≡ pos (draw seed (n + 1 + 1) (2 * size) + 1)
    → p ≡ pos (draw seed (n + 1 + 1 + 1) 9) -ℤ pos 4 → q ≡ pos (draw seed (n + 1 + 1 + 1 + 1) 9) -ℤ pos 4
    → at ≡ flat i j → velocity ≡ flat p q → Ball at radius velocity ≡ ball seed size n
unfolding ball
ball_is seed size n i j radius p q at velocity a b c d e f g =
    let two : n + 1 + 1 ≡ n + 2 = omega arith in
    let three : n + 1 + 1 + 1 ≡ n + 3 = omega arith in
    let four : n + 1 + 1 + 1 + 1 ≡ n + 4 = omega arith in
    let c2 : radius ≡ pos (draw seed (n + 2) (2 * size) + 1) = c ∙ ap (λ (k : ℕ). pos (draw seed k (2 * size) + 1)) two in
    let d2 : p ≡ pos (draw seed (n + 3) 9) -ℤ pos 4 = d ∙ ap (λ (k : ℕ). pos (draw seed k 9) -ℤ pos 4) three in
    let e2 : q ≡ pos (draw seed (n + 4) 9) -ℤ pos 4 = e ∙ ap (λ (k : ℕ). pos (draw seed k 9) -ℤ pos 4) four in
    rw (f, g, a, b, c2, d2, e2) refl
