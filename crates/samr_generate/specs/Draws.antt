-- Draws from the generator of a seed: its output words, one after another, modulo what each draw asks for.
use Rattle.std.specs.Prelude.{ℕ, zero, suc, ◌%◌}
use Rattle.rand_core.specs.Pcg32Seed.{pcg32_seed}
use Rattle.rand_pcg.specs.Lcg.{Lcg}
use Rattle.rand_pcg.specs.Pcg.{pcg32, pcg32_of_seed}

-- the generator of a seed, behind its first words
unfoldable pub generator : ℕ → ℕ → Lcg
generator seed zero = pcg32_of_seed (pcg32_seed 16 seed)
generator seed (suc n) = (pcg32 (generator seed n)).1

-- the draw with a number, of a number below a bound
unfoldable pub draw : ℕ → ℕ → ℕ → ℕ
draw seed n bound = (pcg32 (generator seed n)).0 % bound
