-- Words of 64 bits as one row of bits.
use Rattle.std.specs.Prelude.{ℕ, ◌+◌, ◌/◌, ◌%◌, nat_eq, Bool, cond, List, sum_by, slice_index, count_ones}
use Rattle.std.specs.Int.{bit_at}
use Rattle.samr_bits.specs.Sums.{sum_below}

-- bit p is set
abbrev pub is_set : List ℕ → ℕ → Bool
is_set words p = nat_eq (bit_at (slice_index words (p / 64)) (p % 64)) 1

-- 1 where a test holds, else 0
abbrev pub one : Bool → ℕ
one test = cond test 1 0

-- how many of n bits are set, from one on: of the row, and of one word
abbrev pub set_among : List ℕ → ℕ → ℕ → ℕ
set_among words from n = sum_below (λ c. one (is_set words (from + c))) n

abbrev pub bits_of : ℕ → ℕ → ℕ → ℕ
bits_of word from n = sum_below (λ c. bit_at word (from + c)) n

-- how many bits are set in all words
abbrev pub ones_of : List ℕ → ℕ
ones_of words = sum_by count_ones words
