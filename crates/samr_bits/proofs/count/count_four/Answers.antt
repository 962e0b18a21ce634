use Rattle.std.proofs.Common.{◌≡◌, ◌+◌, ◌≤◌, ◌<◌, ◌^◌, ℕ, List, [], ◌∷◌, length, take, get_or, map, refl, arith, subst, sym}
use Rattle.std.specs.Prelude.{count_ones}
use Rattle.std.proofs.lemmas.Nat.{ones-le}
use lib.Lanes.{fold_l}
use Rattle.samr_bits.specs.Bits.{ones_of}
use Rattle.samr_bits.proofs.count.count_four.Goals as goal

four : (words : List ℕ) → length words ≡ 4 → fold_l (λ (s x : ℕ). s + x) 0 (map (λ (x : ℕ). x) (map count_ones (take 4 words))) ≡ ones_of words
four (a ∷ b ∷ c ∷ d ∷ []) h = refl
four [] h = absurd (omega arith)
four (a ∷ []) h = absurd (omega arith)
four (a ∷ b ∷ []) h = absurd (omega arith)
four (a ∷ b ∷ c ∷ []) h = absurd (omega arith)
four (a ∷ b ∷ c ∷ d ∷ e ∷ ws) h = absurd (omega arith)

most : (words : List ℕ) → length words ≡ 4 → ((i : ℕ) → get_or words i 0 < 2 ^ 64) → ones_of words ≤ 256
most (a ∷ b ∷ c ∷ d ∷ []) h fits = omega (arith, ones-le 64 a (fits 0), ones-le 64 b (fits 1), ones-le 64 c (fits 2), ones-le 64 d (fits 3))
most [] h fits = omega arith
most (a ∷ []) h fits = absurd (omega arith)
most (a ∷ b ∷ []) h fits = absurd (omega arith)
most (a ∷ b ∷ c ∷ []) h fits = absurd (omega arith)
most (a ∷ b ∷ c ∷ d ∷ e ∷ ws) h fits = absurd (omega arith)

pub returns-clause-value : goal.returns-clause-value
returns-clause-value c = four c.args.words.now c.requires

pub returns-clause-small : goal.returns-clause-small
returns-clause-small c =
    subst (λ (n : ℕ). n ≤ 256) (sym (four c.args.words.now c.requires)) (most c.args.words.now c.requires (λ i. (c.type_inv.words i).fits))
