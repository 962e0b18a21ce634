-- One transfer after another, each from where the one before it ended.
use Rattle.std.proofs.Common.{◌≡◌, ℕ, ◌+◌, ◌-◌, ◌<◌, ◌≤◌, List, [], ◌++◌, length, take, drop, min, sym, ap, ◌∙◌, arith, length-append, take-append-drop}
use Rattle.std.proofs.lemmas.List.{length-drop, length-take-le, take_all, drop_all, drop-drop, take-append-le}
use Rattle.std.proofs.Math.Seq.{take-add}
use Rattle.std.specs.declared.option.Option.{Option}
use Rattle.std.specs.Io.KnownBytes.{Consumes, Appends}
use Rattle.std.proofs.KnownBytes.{Consumes-trans, Appends-trans}
use Rattle.samr_io.specs.Transfers.{TakesAtMost}

-- a slice from i to the end is what is left behind the first i
pub take-rest : (i : ℕ) (xs : List ℕ) → take (length xs - i) (drop i xs) ≡ drop i xs
take-rest i xs = take_all (length xs - i) (drop i xs) (omega (arith, length-drop i xs))

-- the first i were appended, and then n more from there
pub appends_next : (a b c : Option (List ℕ)) (i n : ℕ) (text : List ℕ) → Appends a b (take i text)
    → Appends b c (take n (take (length text - i) (drop i text))) → Appends a c (take (i + n) text)
appends_next a b c i n text before more =
    rw take-add (Appends-trans a b c _ _ before (rw take-rest at more))

-- some bytes were taken, and then more, in all at most as many as the limit
pub takes_more : (a b c : Option (List ℕ)) (bytes more : List ℕ) (limit : ℕ) → Consumes a b bytes → Consumes b c more
    → length bytes + length more ≤ limit → TakesAtMost a c limit
takes_more a b c bytes more limit before after short =
    (bytes ++ more, Consumes-trans a b c bytes more before after, omega (arith, length-append bytes more))

-- a buffer that took the front of the rest: it begins with what was taken, and nothing is taken only
-- where there is no room or no rest
pub front_read : (all copied buf : List ℕ) (i n : ℕ) → n ≡ min (length buf) (length (take (length all - i) (drop i all)))
    → copied ≡ take n (take (length all - i) (drop i all))
    → (drop i all ≡ take n (copied ++ drop n buf) ++ drop (i + n) all)
    × (n ≡ 0 → 0 < length (copied ++ drop n buf) → drop (i + n) all ≡ [])
front_read all copied buf i n count is_front =
    let rest = drop i all in
    let least : n ≡ min (length buf) (length rest) = rw take-rest at count in
    let taken : copied ≡ take n rest = rw take-rest at is_front in
    let within : n ≤ length rest = omega arith in
    let full : length copied ≡ n = ap length taken ∙ length-take-le n rest within in
    let begins : take n (copied ++ drop n buf) ≡ copied =
    take-append-le n copied (drop n buf) (omega arith) ∙ take_all n copied (omega arith) in
    let left : drop (i + n) all ≡ drop n rest = sym (drop-drop n i all) in (
      rw (begins, left, taken) (sym (take-append-drop n rest)),
      λ none some. left ∙ drop_all n rest (omega (arith, length-append copied (drop n buf), length-drop n buf)),
    )
