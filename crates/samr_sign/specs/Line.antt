-- The counts of the planes on one axis, and where a cut may come. A cut comes before a place, places counted from 0.
use Rattle.std.specs.Prelude.{ℕ, ◌+◌, ◌-◌, ◌*◌, nat_eq, nat_lt, nat_le, ℤ, pos, ◌+ℤ◌, ◌-ℤ◌, ◌*ℤ◌, int_lt, unsigned_abs, Bool, ◌&&◌, ◌||◌, if◌then◌else◌, List, length, take, drop, filter, slice_index, Option, Some, None}
use Rattle.std.specs.Int.{abs_diff}
use Rattle.std.specs.List.{fold, prefix_len, suffix_len, range_with_len}

-- how many planes without a tag come first, and how many come last
abbrev pub leading : List ℕ → ℕ
leading s = prefix_len (λ n. nat_eq n 0) s

abbrev pub trailing : List ℕ → ℕ
trailing s = suffix_len (λ n. nat_eq n 0) s

-- the counts from the first plane with a tag to the last
abbrev pub kept : List ℕ → List ℕ
kept s = take ((length s - trailing s) - leading s) (drop (leading s) s)

-- both parts of so many planes have at least `least`
abbrev pub admissible : ℕ → ℕ → ℕ → Bool
admissible least planes c = nat_le least c && nat_le least (planes - c)

-- twice the distance of a cut's plane from the middle
abbrev pub off : ℕ → ℕ → ℕ
off planes c = abs_diff (2 * c + 1) planes

-- of two cuts the one nearer to the middle, the earlier on a tie
abbrev pub nearer : ℕ → Option ℕ → ℕ → Option ℕ
nearer planes None c = Some c
nearer planes (Some b) c = if nat_lt (off planes c) (off planes b) then Some c else Some b

-- the admissible plane without a tag that is nearest to the middle
abbrev pub is_zero_cut : ℕ → List ℕ → ℕ → Bool
is_zero_cut least s c = admissible least (length s) c && nat_eq (slice_index s c) 0

unfoldable pub zero_cut : ℕ → List ℕ → Option ℕ
zero_cut least s = fold (nearer (length s)) None (filter (is_zero_cut least s) (range_with_len 0 (length s)))

-- the second difference
abbrev pub bend : List ℕ → ℕ → ℤ
bend s c = (pos (slice_index s (c - 1)) +ℤ pos (slice_index s (c + 1))) -ℤ (pos 2 *ℤ pos (slice_index s c))

abbrev pub opposite : ℤ → ℤ → Bool
opposite x y = (int_lt x (pos 0) && int_lt (pos 0) y) || (int_lt (pos 0) x && int_lt y (pos 0))

-- an admissible cut at which the second difference changes its sign, and by how much it jumps
abbrev pub is_turn : ℕ → List ℕ → ℕ → Bool
is_turn least s c = admissible least (length s) c && (nat_lt 1 c && (nat_lt c (length s - 1) && opposite (bend s (c - 1)) (bend s c)))

abbrev pub jump : List ℕ → ℕ → ℕ
jump s c = unsigned_abs (bend s c -ℤ bend s (c - 1))
