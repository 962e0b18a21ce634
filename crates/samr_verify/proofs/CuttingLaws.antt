-- The first line of a text.
use Rattle.std.proofs.Common.{◌≡◌, ℕ, ◌+◌, ◌<◌, ◌≤◌, List, [], ◌∷◌, ◌++◌, length, take, drop, get_or, cond, refl, sym, ap, ◌∙◌, arith}
use Rattle.std.proofs.lemmas.Bool.{ne_eqb, eq-eqb}
use Rattle.std.proofs.lemmas.List.{take_more, drop_more, take_all, drop_all}
use Rattle.samr_verify.specs.Cutting.{put_before, lines_of}

-- bytes before a text
abbrev pub put_front : List ℕ → List (List ℕ) → List (List ℕ)
put_front [] lines = lines
put_front (c ∷ cs) lines = put_before c (put_front cs lines)

put_more : (xs : List ℕ) (c : ℕ) (lines : List (List ℕ)) → put_front (xs ++ c ∷ []) lines ≡ put_front xs (put_before c lines)
put_more [] c lines = refl
put_more (x ∷ xs) c lines = ap (put_before x) (put_more xs c lines)

put_line : (xs line : List ℕ) (lines : List (List ℕ)) → put_front xs (line ∷ lines) ≡ (xs ++ line) ∷ lines
put_line [] line lines = refl
put_line (x ∷ xs) line lines = ap (put_before x) (put_line xs line lines)

put_last : (x : ℕ) (xs : List ℕ) → put_front (x ∷ xs) [] ≡ (x ∷ xs) ∷ []
put_last x [] = refl
put_last x (y ∷ ys) = ap (put_before x) (put_last y ys)

put_all : (text : List ℕ) → 0 < length text → put_front text [] ≡ text ∷ []
put_all [] some = absurd (omega (arith, some))
put_all (x ∷ xs) some = put_last x xs

pub begins : (text : List ℕ) → lines_of text ≡ put_front (take 0 text) (lines_of (drop 0 text))
begins text = ap lines_of refl

pub goes_on : (text : List ℕ) (i d : ℕ) → i < length text → (get_or text i d ≡ 10 → ⊥) → lines_of text ≡ put_front (take i text) (lines_of (drop i text))
    → lines_of text ≡ put_front (take (i + 1) text) (lines_of (drop (i + 1) text))
unfolding lines_of
goes_on text i d more other known =
    let c = get_or text i d in
    let rest = drop (i + 1) text in
    known ∙ ap (λ t. put_front (take i text) (lines_of t)) (drop_more text i d more)
    ∙ ap (λ b. put_front (take i text) (cond b ((10 ∷ []) ∷ lines_of rest) (put_before c (lines_of rest)))) (ne_eqb c 10 other)
    ∙ sym (put_more (take i text) c (lines_of rest)) ∙ ap (λ t. put_front t (lines_of rest)) (sym (take_more text i d more))

pub stops : (text : List ℕ) (i d : ℕ) → i < length text → get_or text i d ≡ 10 → lines_of text ≡ put_front (take i text) (lines_of (drop i text))
    → lines_of text ≡ take (i + 1) text ∷ lines_of (drop (i + 1) text)
unfolding lines_of
stops text i d more feed known =
    let c = get_or text i d in
    let rest = drop (i + 1) text in
    known ∙ ap (λ t. put_front (take i text) (lines_of t)) (drop_more text i d more)
    ∙ ap (λ b. put_front (take i text) (cond b ((10 ∷ []) ∷ lines_of rest) (put_before c (lines_of rest)))) (eq-eqb c 10 feed)
    ∙ put_line (take i text) (10 ∷ []) (lines_of rest)
    ∙ ap (λ n. (take i text ++ n ∷ []) ∷ lines_of rest) (sym feed)
    ∙ ap (λ t. t ∷ lines_of rest) (sym (take_more text i d more))

pub ends : (text : List ℕ) (i : ℕ) → 0 < length text → length text ≤ i → lines_of text ≡ put_front (take i text) (lines_of (drop i text))
    → lines_of text ≡ text ∷ []
unfolding lines_of
ends text i some all known =
    known ∙ ap (λ t. put_front (take i text) (lines_of t)) (drop_all i text all) ∙ ap (λ t. put_front t []) (take_all i text all) ∙ put_all text some

pub whole : (text : List ℕ) (n : ℕ) → n ≡ length text → lines_of text ≡ text ∷ [] → lines_of text ≡ take n text ∷ lines_of (drop n text)
unfolding lines_of
whole text n here known =
    let over : length text ≤ n = omega (arith, here) in
    known ∙ ap (λ t. t ∷ []) (sym (take_all n text over)) ∙ ap (λ t. take n text ∷ lines_of t) (sym (drop_all n text over))
