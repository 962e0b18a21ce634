-- What a call finds that reads all of some bytes.
use Rattle.std.proofs.Common.{◌≡◌, ℕ, cond, eqb, eqb-true, List, [], ◌++◌, length, Option, Some, None, Result, Ok, Err, refl, sym, ap, subst, ◌∙◌}
use Rattle.std.specs.Prelude.{IfOk}
use Rattle.std.proofs.lemmas.List.{append-nil, nil_from_length}
use Rattle.samr_formats.specs.declared.unread.Unread.{Unread}
use Rattle.samr_formats.specs.Formats.{◌>>=◌, Gives, IsBytes, IsFormat}
use Rattle.samr_formats.specs.Laws.{bind_some, only_some}
use Rattle.samr_formats.specs.Wholes.{read_whole}

whole_taken : {A : Type 0} {spell : A → List ℕ} {fits : A → Type 0} {read : List ℕ → Option (A × List ℕ)} → IsFormat spell fits read
    → (bytes : List ℕ) (x : A) → IsBytes bytes → read_whole read bytes ≡ Some x → (bytes ≡ spell x) × fits x
whole_taken {A} {spell} {fits} {read} f bytes x ok e =
    let a = bind_some (read bytes) (λ y. cond (eqb (length y.1) 0) (Some y.0) None) x e in
    let g = only_some (eqb (length a.0.1) 0) a.0.0 x a.2 in
    let one = f.takes bytes a.0.0 a.0.1 ok a.1 in
    let nothing : a.0.1 ≡ [] = nil_from_length a.0.1 (eqb-true _ _ g.0) in
    let all : bytes ≡ spell a.0.0 = one.0.parts ∙ ap (λ (r : List ℕ). spell a.0.0 ++ r) nothing ∙ append-nil (spell a.0.0) in
    subst (λ (y : A). (bytes ≡ spell y) × fits y) g.1 (all, one.1)

pub whole_again : {A : Type 0} {spell : A → List ℕ} {fits : A → Type 0} {read : List ℕ → Option (A × List ℕ)} → IsFormat spell fits read
    → (x : A) → fits x → read_whole read (spell x) ≡ Some x
whole_again {A} {spell} {fits} {read} f x ok =
    ap (λ (t : List ℕ). read t >>= λ y. cond (eqb (length y.1) 0) (Some y.0) None) (sym (append-nil (spell x)))
    ∙ rw (f.again x [] ok) refl

pub is_whole : {A : Type 0} {spell : A → List ℕ} {fits : A → Type 0} {read : List ℕ → Option (A × List ℕ)} → IsFormat spell fits read
    → (bytes : List ℕ) (found : Result A Unread) → IsBytes bytes → Gives (λ x. x) found (read_whole read bytes) → IfOk found (λ x. (bytes ≡ spell x) × fits x)
is_whole f bytes (Ok x) ok e = whole_taken f bytes x ok e
is_whole f bytes (Err e) ok h = tt
