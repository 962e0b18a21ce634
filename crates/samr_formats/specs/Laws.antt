-- Each format reads what it spells, and nothing else.
use Rattle.std.proofs.Common.{◌≡◌, ℕ, zero, suc, ◌+◌, ◌^◌, ◌<◌, ◌≤◌, Bool, true, false, cond, ltb, List, [], ◌∷◌, ◌++◌, length, take, drop, Option, Some, None, refl, sym, ap, subst, ◌∙◌, append_assoc, arith, inl, inr}
use Rattle.std.specs.Int.{Width, w16, w32, w64, byte_len, from_be_bytes, to_be_bytes}
use Rattle.std.specs.List.{flat_map, AllByRecursion}
use Rattle.std.proofs.lemmas.Bool.{cases_lt, ltb-false, le-ltb}
use Rattle.std.proofs.lemmas.List.{take_at, drop_at, take-append-drop, length-append, length-take, get_or-drop, get_or-take, get_or_past}
use Rattle.std.proofs.lemmas.List.Concat.{flat_map-cons}
use Rattle.std.proofs.lemmas.Nat.{be_bytes_2, be_bytes_4, be_bytes_8, from_be_bytes-to_be_bytes_2, from_be_bytes-to_be_bytes_4, from_be_bytes-to_be_bytes_8}
use Rattle.samr_formats.specs.Formats.{◌>>=◌, IsBytes, Takes, IsFormat, read_byte, read_number, spell_pair, FitsPair, read_pair, read_many, spell_list, FitsList, read_list, read_as, read_only}

pub IsBytes-drop : (n : ℕ) (bytes : List ℕ) → IsBytes bytes → IsBytes (drop n bytes)
IsBytes-drop n bytes h i = rw get_or-drop (h (n + i))

pub IsBytes-take : (n : ℕ) (bytes : List ℕ) → IsBytes bytes → IsBytes (take n bytes)
IsBytes-take n bytes h i =
    elim (cases_lt i n) [
      | inl lt ↦ rw (get_or-take n bytes i 0 lt) (h i)
      | inr le ↦ rw (get_or_past (take n bytes) i 0 (omega (arith, length-take n bytes))) (omega arith)
    ]

-- the value of a step that did not fail
pub bind_some : {A B : Type 0} (r : Option A) (f : A → Option B) (y : B) → (r >>= f) ≡ Some y → (x : A) × (r ≡ Some x) × (f x ≡ Some y)
bind_some (Some x) f y e = (x, refl, e)
bind_some None f y e = absurd cc

-- tests that did not fail
pub guard_some : {A : Type 0} (b : Bool) (x y : A) → cond b None (Some x) ≡ Some y → (b ≡ false) × (x ≡ y)
guard_some true x y e = absurd cc
guard_some false x y e = (refl, cc)

pub only_some : {A : Type 0} (b : Bool) (x y : A) → cond b (Some x) None ≡ Some y → (b ≡ true) × (x ≡ y)
only_some true x y e = (refl, cc)
only_some false x y e = absurd cc

abbrev there : {A : Type 0} → A → Option A
there x = Some x

pub some_is : {A : Type 0} (x y : A) → there x ≡ there y → x ≡ y
some_is x y e = cc

pub Takes-then : (a x b y c : List ℕ) → Takes a x b → Takes b y c → Takes a (x ++ y) c
Takes-then a x b y c p q = record { parts = p.parts ∙ ap (λ (t : List ℕ). x ++ t) q.parts ∙ sym (append_assoc x y c); rest_fits = q.rest_fits }

-- ---- numbers

pub IsBytes-rest : (b : ℕ) (bytes : List ℕ) → IsBytes (b ∷ bytes) → IsBytes bytes
IsBytes-rest b bytes h i = h (suc i)

byte_takes : (bytes : List ℕ) (x : ℕ) (rest : List ℕ) → IsBytes bytes → read_byte bytes ≡ Some (x, rest) → Takes bytes (x ∷ []) rest × (x < 256)
byte_takes [] x rest fits e = absurd cc
byte_takes (b ∷ bytes) x rest fits e =
    subst (λ (p : ℕ × List ℕ). Takes (b ∷ bytes) (p.0 ∷ []) p.1 × (p.0 < 256)) (some_is (b, bytes) (x, rest) e) (record { parts = refl; rest_fits = IsBytes-rest b bytes fits }, fits 0)

pub byte_format : IsFormat (λ n. n ∷ []) (λ n. n < 256) read_byte
byte_format = record { takes = byte_takes; again = λ x rest fits. refl }

pub record IsWide (w : Width) (limit : ℕ) : Type 0 where
  pub len : (n : ℕ) → length (to_be_bytes w n) ≡ byte_len w
  pub back : (bytes : List ℕ) → length bytes ≡ byte_len w → IsBytes bytes → to_be_bytes w (from_be_bytes w bytes) ≡ bytes
  pub again : (n : ℕ) → n < limit → from_be_bytes w (to_be_bytes w n) ≡ n
  pub below : (bytes : List ℕ) → IsBytes bytes → from_be_bytes w bytes < limit

wide16 : IsWide w16 (2 ^ 16)
wide16 = record {
  len = λ n. refl;
  back = λ bytes len fits. be_bytes_2 bytes _ len fits refl;
  again = λ n lt. from_be_bytes-to_be_bytes_2 n lt;
  below = λ bytes fits. omega (arith, fits 0, fits 1);
}

wide32 : IsWide w32 (2 ^ 32)
wide32 = record {
  len = λ n. refl;
  back = λ bytes len fits. be_bytes_4 bytes _ len fits refl;
  again = λ n lt. from_be_bytes-to_be_bytes_4 n lt;
  below = λ bytes fits. omega (arith, fits 0, fits 1, fits 2, fits 3);
}

wide64 : IsWide w64 (2 ^ 64)
wide64 = record {
  len = λ n. refl;
  back = λ bytes len fits. be_bytes_8 bytes _ len fits refl;
  again = λ n lt. from_be_bytes-to_be_bytes_8 n lt;
  below = λ bytes fits. omega (arith, fits 0, fits 1, fits 2, fits 3, fits 4, fits 5, fits 6, fits 7);
}

number_takes : (w : Width) (limit : ℕ) (wide : IsWide w limit) (bytes : List ℕ) (n : ℕ) (rest : List ℕ) → IsBytes bytes → read_number w bytes ≡ Some (n, rest) → Takes bytes (to_be_bytes w n) rest × (n < limit)
number_takes w limit wide bytes n rest fits e =
    let g = guard_some (ltb (length bytes) (byte_len w)) (from_be_bytes w (take (byte_len w) bytes), drop (byte_len w) bytes) (n, rest) e in
    let long : byte_len w ≤ length bytes = ltb-false _ _ g.0 in
    let n-is : from_be_bytes w (take (byte_len w) bytes) ≡ n = ap (λ (p : ℕ × List ℕ). p.0) g.1 in
    let rest-is : drop (byte_len w) bytes ≡ rest = ap (λ (p : ℕ × List ℕ). p.1) g.1 in
    let front : to_be_bytes w n ≡ take (byte_len w) bytes = rw (← n-is) (wide.back (take (byte_len w) bytes) (omega (arith, length-take (byte_len w) bytes)) (IsBytes-take (byte_len w) bytes fits)) in
    (record { parts = rw (front, ← rest-is) (sym (take-append-drop (byte_len w) bytes)); rest_fits = rw (← rest-is) (IsBytes-drop (byte_len w) bytes fits) }, rw (← n-is) (wide.below (take (byte_len w) bytes) (IsBytes-take (byte_len w) bytes fits)))

number_again : (w : Width) (limit : ℕ) (wide : IsWide w limit) (n : ℕ) (rest : List ℕ) → n < limit → read_number w (to_be_bytes w n ++ rest) ≡ Some (n, rest)
number_again w limit wide n rest lt =
    let len = wide.len n in
    let long : ltb (length (to_be_bytes w n ++ rest)) (byte_len w) ≡ false = le-ltb _ _ (omega (arith, length-append (to_be_bytes w n) rest)) in
    rw (long, take_at (to_be_bytes w n) rest (byte_len w) len, drop_at (to_be_bytes w n) rest (byte_len w) len, wide.again n lt) refl

number_format : (w : Width) (limit : ℕ) → IsWide w limit → IsFormat (to_be_bytes w) (λ n. n < limit) (read_number w)
number_format w limit wide = record { takes = number_takes w limit wide; again = number_again w limit wide }

pub format16 : IsFormat (to_be_bytes w16) (λ n. n < 2 ^ 16) (read_number w16)
format16 = number_format w16 (2 ^ 16) wide16

pub format32 : IsFormat (to_be_bytes w32) (λ n. n < 2 ^ 32) (read_number w32)
format32 = number_format w32 (2 ^ 32) wide32

pub format64 : IsFormat (to_be_bytes w64) (λ n. n < 2 ^ 64) (read_number w64)
format64 = number_format w64 (2 ^ 64) wide64

-- ---- one after the other

pub pair_format : {A B : Type 0} {spell_a : A → List ℕ} {spell_b : B → List ℕ} {fits_a : A → Type 0} {fits_b : B → Type 0} {read_a : List ℕ → Option (A × List ℕ)} {read_b : List ℕ → Option (B × List ℕ)}
    → IsFormat spell_a fits_a read_a → IsFormat spell_b fits_b read_b → IsFormat (spell_pair spell_a spell_b) (FitsPair fits_a fits_b) (read_pair read_a read_b)
pair_format {A} {B} {spell_a} {spell_b} {fits_a} {fits_b} {read_a} {read_b} f g = record {
  takes = λ bytes x rest fits e.
      let a = bind_some (read_a bytes) (λ x. read_b x.1 >>= λ y. Some ((x.0, y.0), y.1)) (x, rest) e in
      let b = bind_some (read_b a.0.1) (λ y. Some ((a.0.0, y.0), y.1)) (x, rest) a.2 in
      let first = f.takes bytes a.0.0 a.0.1 fits a.1 in
      let second = g.takes a.0.1 b.0.0 b.0.1 first.0.rest_fits b.1 in
      subst (λ (p : (A × B) × List ℕ). Takes bytes (spell_pair spell_a spell_b p.0) p.1 × FitsPair fits_a fits_b p.0) (some_is ((a.0.0, b.0.0), b.0.1) (x, rest) b.2)
      (Takes-then bytes (spell_a a.0.0) a.0.1 (spell_b b.0.0) b.0.1 first.0 second.0, (first.1, second.1));
  again = λ x rest fits.
      ap (read_pair read_a read_b) (append_assoc (spell_a x.0) (spell_b x.1) rest) ∙ rw (f.again x.0 (spell_b x.1 ++ rest) fits.0, g.again x.1 rest fits.1) refl;
}

-- ---- lists

many_take : {A : Type 0} {spell : A → List ℕ} {fits : A → Type 0} {read : List ℕ → Option (A × List ℕ)} → IsFormat spell fits read
    → (n : ℕ) (bytes : List ℕ) (x : List A × List ℕ) → IsBytes bytes → read_many read n bytes ≡ Some x → Takes bytes (flat_map spell x.0) x.1 × (length x.0 ≡ n) × AllByRecursion fits x.0
many_take {A} {spell} {fits} {read} f zero bytes x ok e =
    subst (λ (y : List A × List ℕ). Takes bytes (flat_map spell y.0) y.1 × (length y.0 ≡ 0) × AllByRecursion fits y.0) (some_is ([], bytes) x e) (record { parts = refl; rest_fits = ok }, refl, tt)
many_take {A} {spell} {fits} {read} f (suc n) bytes x ok e =
    let a = bind_some (read bytes) (λ first. read_many read n first.1 >>= λ others. Some (first.0 ∷ others.0, others.1)) x e in
    let b = bind_some (read_many read n a.0.1) (λ others. Some (a.0.0 ∷ others.0, others.1)) x a.2 in
    let first = f.takes bytes a.0.0 a.0.1 ok a.1 in
    let second = many_take f n a.0.1 b.0 first.0.rest_fits b.1 in
    let both = Takes-then bytes (spell a.0.0) a.0.1 (flat_map spell b.0.0) b.0.1 first.0 second.0 in
    let made : List A × List ℕ = (a.0.0 ∷ b.0.0, b.0.1) in
    subst (λ (y : List A × List ℕ). Takes bytes (flat_map spell y.0) y.1 × (length y.0 ≡ suc n) × AllByRecursion fits y.0) (some_is made x b.2) (rw flat_map-cons both, ap suc second.1, (first.1, second.2))

many_again : {A : Type 0} {spell : A → List ℕ} {fits : A → Type 0} {read : List ℕ → Option (A × List ℕ)} → IsFormat spell fits read
    → (xs : List A) (rest : List ℕ) → AllByRecursion fits xs → read_many read (length xs) (flat_map spell xs ++ rest) ≡ Some (xs, rest)
many_again f [] rest ok = refl
many_again {A} {spell} {fits} {read} f (x ∷ xs) rest ok =
    let regrouped : flat_map spell (x ∷ xs) ++ rest ≡ spell x ++ (flat_map spell xs ++ rest) = ap (λ (t : List ℕ). t ++ rest) (flat_map-cons spell x xs) ∙ append_assoc (spell x) (flat_map spell xs) rest in
    ap (read_many read (suc (length xs))) regrouped ∙ rw (f.again x (flat_map spell xs ++ rest) ok.0, many_again f xs rest ok.1) refl

pub list_format : {A : Type 0} {spell : A → List ℕ} {fits : A → Type 0} {read : List ℕ → Option (A × List ℕ)} → IsFormat spell fits read → IsFormat (spell_list spell) (FitsList fits) (read_list read)
list_format {A} {spell} {fits} {read} f = record {
  takes = λ bytes x rest ok e.
      let a = bind_some (read_number w64 bytes) (λ n. read_many read n.0 n.1) (x, rest) e in
      let count = format64.takes bytes a.0.0 a.0.1 ok a.1 in
      let items = many_take f a.0.0 a.0.1 (x, rest) count.0.rest_fits a.2 in
      let both : Takes bytes (to_be_bytes w64 a.0.0 ++ flat_map spell x) rest = Takes-then bytes (to_be_bytes w64 a.0.0) a.0.1 (flat_map spell x) rest count.0 items.0 in
      let len : length x ≡ a.0.0 = items.1 in
      (subst (λ (k : ℕ). Takes bytes (to_be_bytes w64 k ++ flat_map spell x) rest) (sym len) both, (omega (arith, len, count.1), items.2));
  again = λ x rest ok.
      ap (read_list read) (append_assoc (to_be_bytes w64 (length x)) (flat_map spell x) rest) ∙ rw (format64.again (length x) (flat_map spell x ++ rest) ok.0, many_again f x rest ok.1) refl;
}

-- ---- values spelled as others, and values that pass a test

pub as_format : {A B : Type 0} {spell : A → List ℕ} {fits : A → Type 0} {read : List ℕ → Option (A × List ℕ)} → IsFormat spell fits read
    → (to : B → A) (from : A → B) → ((x : B) → from (to x) ≡ x) → ((x : A) → to (from x) ≡ x)
    → IsFormat (λ x. spell (to x)) (λ x. fits (to x)) (read_as from read)
as_format {A} {B} {spell} {fits} {read} f to from back forth = record {
  takes = λ bytes x rest ok e.
      let a = bind_some (read bytes) (λ y. Some (from y.0, y.1)) (x, rest) e in
      let one = f.takes bytes a.0.0 a.0.1 ok a.1 in
      let other : Takes bytes (spell (to (from a.0.0))) a.0.1 × fits (to (from a.0.0)) = subst (λ (y : A). Takes bytes (spell y) a.0.1 × fits y) (sym (forth a.0.0)) one in
      subst (λ (p : B × List ℕ). Takes bytes (spell (to p.0)) p.1 × fits (to p.0)) (some_is (from a.0.0, a.0.1) (x, rest) a.2) other;
  again = λ x rest ok. rw (f.again (to x) rest ok) (ap (λ (y : B). Some (y, rest)) (back x));
}

pub only_format : {A : Type 0} {spell : A → List ℕ} {fits : A → Type 0} {read : List ℕ → Option (A × List ℕ)} → IsFormat spell fits read
    → (test : A → Bool) → IsFormat spell (λ x. fits x × (test x ≡ true)) (read_only test read)
only_format {A} {spell} {fits} {read} f test = record {
  takes = λ bytes x rest ok e.
      let a = bind_some (read bytes) (λ y. cond (test y.0) (Some y) None) (x, rest) e in
      let g = only_some (test a.0.0) a.0 (x, rest) a.2 in
      let one = f.takes bytes a.0.0 a.0.1 ok a.1 in
      subst (λ (p : A × List ℕ). Takes bytes (spell p.0) p.1 × (fits p.0 × (test p.0 ≡ true))) g.1 (one.0, (one.1, g.0));
  again = λ x rest ok. rw (f.again x rest ok.0, ok.1) refl;
}

-- a value that is spelled as another one, where each that fits comes from one that fits
pub via_format : {A B : Type 0} {spell : A → List ℕ} {fits : A → Type 0} {read : List ℕ → Option (A × List ℕ)} → IsFormat spell fits read
    → (to : B → A) (from : A → B) (fits_b : B → Type 0) → ((x : B) → fits_b x → fits (to x) × (from (to x) ≡ x)) → ((x : A) → fits x → fits_b (from x) × (to (from x) ≡ x))
    → IsFormat (λ x. spell (to x)) fits_b (read_as from read)
via_format {A} {B} {spell} {fits} {read} f to from fits_b back forth = record {
  takes = λ bytes x rest ok e.
      let a = bind_some (read bytes) (λ y. Some (from y.0, y.1)) (x, rest) e in
      let one = f.takes bytes a.0.0 a.0.1 ok a.1 in
      let there = forth a.0.0 one.1 in
      let other : Takes bytes (spell (to (from a.0.0))) a.0.1 = subst (λ (y : A). Takes bytes (spell y) a.0.1) (sym there.1) one.0 in
      subst (λ (p : B × List ℕ). Takes bytes (spell (to p.0)) p.1 × fits_b p.0) (some_is (from a.0.0, a.0.1) (x, rest) a.2) (other, there.0);
  again = λ x rest ok. rw (f.again (to x) rest (back x ok).0) (ap (λ (y : B). Some (y, rest)) (back x ok).1);
}

-- another name for what fits
pub weaker : {A : Type 0} {spell : A → List ℕ} {fits : A → Type 0} {read : List ℕ → Option (A × List ℕ)} → IsFormat spell fits read
    → (same : A → Type 0) → ((x : A) → same x → fits x) → ((x : A) → fits x → same x) → IsFormat spell same read
weaker f same to from = record {
  takes = λ bytes x rest ok e. let one = f.takes bytes x rest ok e in (one.0, from x one.1);
  again = λ x rest ok. f.again x rest (to x ok);
}

-- ---- one of several kinds

pub either : {A P : Type 0} (b : Bool) (x y : Option A) (z : A) → (b ≡ true → x ≡ Some z → P) → (y ≡ Some z → P) → cond b x y ≡ Some z → P
either true x y z here there e = here refl e
either false x y z here there e = there e

pub kind_takes : {A B : Type 0} {spell : A → List ℕ} {fits : A → Type 0} {read : List ℕ → Option (A × List ℕ)} → IsFormat spell fits read
    → (make : A → B) (spell_b : B → List ℕ) (fits_b : B → Type 0) (kind : ℕ) → ((x : A) → spell_b (make x) ≡ kind ∷ spell x) → ((x : A) → fits x → fits_b (make x))
    → (n : ℕ) (bytes : List ℕ) (b : B) (rest : List ℕ) → n ≡ kind → IsBytes bytes → read_as make read bytes ≡ Some (b, rest) → Takes (n ∷ bytes) (spell_b b) rest × fits_b b
kind_takes {A} {B} {spell} {fits} {read} f make spell_b fits_b kind same fit n bytes b rest is ok e =
    let a = bind_some (read bytes) (λ y. Some (make y.0, y.1)) (b, rest) e in
    let one = f.takes bytes a.0.0 a.0.1 ok a.1 in
    let parts : n ∷ bytes ≡ spell_b (make a.0.0) ++ a.0.1 = ap (λ (k : ℕ). k ∷ bytes) is ∙ ap (λ (t : List ℕ). kind ∷ t) one.0.parts ∙ ap (λ (t : List ℕ). t ++ a.0.1) (sym (same a.0.0)) in
    subst (λ (p : B × List ℕ). Takes (n ∷ bytes) (spell_b p.0) p.1 × fits_b p.0) (some_is (make a.0.0, a.0.1) (b, rest) a.2)
    (record { parts = parts; rest_fits = one.0.rest_fits }, fit a.0.0 one.1)

pub kind_again : {A B : Type 0} {spell : A → List ℕ} {fits : A → Type 0} {read : List ℕ → Option (A × List ℕ)} → IsFormat spell fits read
    → (make : A → B) (x : A) (rest : List ℕ) → fits x → read_as make read (spell x ++ rest) ≡ Some (make x, rest)
kind_again f make x rest ok = rw (f.again x rest ok) refl
