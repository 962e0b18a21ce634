-- Every cut is admissible.
use Rattle.std.proofs.Common.{◌≡◌, ℕ, ◌-◌, ◌*◌, ◌/◌, ◌<◌, ◌≤◌, Bool, true, false, cond, List, [], ◌∷◌, ◌++◌, length, refl, ap, sym, subst, ◌∙◌, arith, Option, Some, None, IfSome}
use Rattle.std.specs.Prelude.{filter, nat_le, nat_lt}
use Rattle.std.specs.List.{range_with_len, fold}
use Rattle.std.proofs.lemmas.Bool.{and_from, and_parts, leb-true, le-leb}
use Rattle.std.proofs.lemmas.List.Sums.{fold-append}
use Rattle.samr_box.specs.declared.vector.Axis.{Axis}
use Rattle.samr_box.specs.Corners.{Corners, span}
use Rattle.samr_sign.specs.declared.cuts.Cut.{Cut}
use Rattle.samr_sign.specs.declared.cuts.Turn.{Turn}
use Rattle.samr_sign.specs.declared.cuts.Ranked.{Ranked}
use Rattle.samr_sign.specs.Counts.{Sign}
use Rattle.samr_sign.specs.Line.{admissible, off, nearer, is_zero_cut, zero_cut, is_turn}
use Rattle.samr_sign.specs.Decide.{line, ranked, cut_on, zero_of, turn_at, turns, sharper, turn_of, chosen, cut_of}
use Rattle.samr_sign.proofs.Lines.{fold_map}

-- a fact that each step keeps holds of a fold over what passes a test
fold_holds : {A X : Type 0} (P : A → Type 0) (p : X → Bool) (f : A → X → A) → ((a : A) (x : X) → P a → p x ≡ true → P (f a x)) → (a : A) (xs : List X) → P a → P (fold f a (filter p xs))
fold_holds P p f step a [] h = h
fold_holds {A} {X} P p f step a (x ∷ xs) h = by_test (p x) (λ e. fold_holds P p f step (f a x) xs (step a x h e)) (fold_holds P p f step a xs h)
  where
    by_test : (b : Bool) → (b ≡ true → P (fold f (f a x) (filter p xs))) → P (fold f a (filter p xs)) → P (fold f a (cond b (x ∷ filter p xs) (filter p xs)))
    by_test true q r = q refl
    by_test false q r = r

choice : {X : Type 0} (P : X → Type 0) (b : Bool) (x y : X) → P x → P y → P (cond b x y)
choice P true x y p q = p
choice P false x y p q = q

-- the cut is admissible on its axis
abbrev pub Fits : Sign → ℕ → Cut → Type 0
Fits s least c = admissible least (length (line c.axis s)) c.place ≡ true

nearer_holds : (P : ℕ → Type 0) (planes : ℕ) (best : Option ℕ) (c : ℕ) → IfSome best P → P c → IfSome (nearer planes best c) P
nearer_holds P planes None c h p = p
nearer_holds P planes (Some b) c h p = choice (λ (o : Option ℕ). IfSome o P) (nat_lt (off planes c) (off planes b)) (Some c) (Some b) p h

zero_fits : (least : ℕ) (s : List ℕ) → IfSome (zero_cut least s) (λ c. admissible least (length s) c ≡ true)
unfolding zero_cut
zero_fits least s =
    fold_holds (λ o. IfSome o (λ c. admissible least (length s) c ≡ true)) (is_zero_cut least s) (nearer (length s))
    (λ a c h t. nearer_holds (λ n. admissible least (length s) n ≡ true) (length s) a c h (and_parts (admissible least (length s) c) _ t).0)
    None (range_with_len 0 (length s)) tt

on_axis : (s : Sign) (least : ℕ) (axis : Axis) (z : Option ℕ) (other : Option Cut) → IfSome z (λ c. admissible least (length (line axis s)) c ≡ true) → IfSome other (Fits s least) → IfSome (cut_on axis z other) (Fits s least)
on_axis s least axis None other h p = p
on_axis s least axis (Some c) other h p = h

zero_of_fits : (s : Sign) (least : ℕ) (r : Ranked) → IfSome (zero_of s least r) (Fits s least)
unfolding zero_of
zero_of_fits s least r =
    let third = on_axis s least r.third (zero_cut least (line r.third s)) None (zero_fits least (line r.third s)) tt in
    let second = on_axis s least r.second (zero_cut least (line r.second s)) _ (zero_fits least (line r.second s)) third in
    on_axis s least r.first (zero_cut least (line r.first s)) _ (zero_fits least (line r.first s)) second

sharper_holds : (P : Turn → Type 0) (best : Option Turn) (t : Turn) → IfSome best P → P t → IfSome (sharper best t) P
sharper_holds P None t h p = p
sharper_holds P (Some b) t h p = choice (λ (o : Option Turn). IfSome o P) (nat_lt b.jump t.jump) (Some t) (Some b) p h

turns_fit : (s : Sign) (least : ℕ) (axis : Axis) (best : Option Turn) → IfSome best (λ t. Fits s least t.cut) → IfSome (fold sharper best (turns least axis (line axis s))) (λ t. Fits s least t.cut)
unfolding turns
turns_fit s least axis best h =
    let P : Option Turn → Type 0 = λ o. IfSome o (λ t. Fits s least t.cut) in
    let made = fold_holds P (is_turn least (line axis s)) (λ v n. sharper v (turn_at axis (line axis s) n))
    (λ a c q t. sharper_holds (λ u. Fits s least u.cut) a (turn_at axis (line axis s) c) q (and_parts (admissible least (length (line axis s)) c) _ t).0)
    best (range_with_len 0 (length (line axis s))) h in
    subst P (sym (fold_map sharper (turn_at axis (line axis s)) best (filter (is_turn least (line axis s)) (range_with_len 0 (length (line axis s)))))) made

turn_of_fits : (s : Sign) (least : ℕ) (r : Ranked) → IfSome (turn_of s least r) (λ t. Fits s least t.cut)
unfolding turn_of
turn_of_fits s least r =
    let P : Option Turn → Type 0 = λ o. IfSome o (λ t. Fits s least t.cut) in
    let one = turns least r.first (line r.first s) in
    let two = turns least r.second (line r.second s) in
    let three = turns least r.third (line r.third s) in
    let whole : fold sharper None (one ++ two ++ three) ≡ fold sharper (fold sharper (fold sharper None one) two) three =
    fold-append sharper None (one ++ two) three ∙ ap (λ v. fold sharper v three) (fold-append sharper None one two) in
    subst P (sym whole) (turns_fit s least r.third _ (turns_fit s least r.second _ (turns_fit s least r.first None tt)))

chosen_fits : (s : Sign) (least : ℕ) (z : Option Cut) (t : Option Turn) (half : Cut) → IfSome z (Fits s least) → IfSome t (λ u. Fits s least u.cut) → Fits s least half → Fits s least (chosen z t half)
chosen_fits s least (Some c) t half p q r = p
chosen_fits s least None (Some t) half p q r = q
chosen_fits s least None None half p q r = r

halved : (least n : ℕ) → 2 * least ≤ n → admissible least n (n / 2) ≡ true
halved least n h = and_from (nat_le least (n / 2)) (nat_le least (n - n / 2)) (le-leb least (n / 2) (omega arith)) (le-leb least (n - n / 2) (omega arith))

pub cut_fits : (s : Sign) (least : ℕ) (b : Corners) → span (ranked b).first b ≡ length (line (ranked b).first s) → 2 * least ≤ span (ranked b).first b → Fits s least (cut_of s least b)
unfolding cut_of
cut_fits s least b e h =
    chosen_fits s least (zero_of s least (ranked b)) (turn_of s least (ranked b)) (record { axis = (ranked b).first; place = span (ranked b).first b / 2 })
    (zero_of_fits s least (ranked b)) (turn_of_fits s least (ranked b))
    (ap (λ n. admissible least n (span (ranked b).first b / 2)) (sym e) ∙ halved least (span (ranked b).first b) h)

-- so it leaves a plane on each side
pub fits_parts : (least planes c : ℕ) → admissible least planes c ≡ true → 0 < least → (0 < c) × (c < planes)
fits_parts least planes c t h =
    let s = and_parts (nat_le least c) (nat_le least (planes - c)) t in
    let low = leb-true least c s.0 in
    let high = leb-true least (planes - c) s.1 in
    (omega (arith, low, h), omega (arith, high, h))

pub cut_parts : (s : Sign) (least : ℕ) (b : Corners) (c : Cut) → ((axis : Axis) → span axis b ≡ length (line axis s)) → 2 * least ≤ span (ranked b).first b → 0 < least → c ≡ cut_of s least b
    → (0 < c.place) × (c.place < span c.axis b)
cut_parts s least b c lengths long some e =
    let fits : Fits s least c = subst (λ v. Fits s least v) (sym e) (cut_fits s least b (lengths (ranked b).first) long) in
    let parts = fits_parts least (length (line c.axis s)) c.place fits some in
    (parts.0, omega (arith, parts.1, lengths c.axis))
