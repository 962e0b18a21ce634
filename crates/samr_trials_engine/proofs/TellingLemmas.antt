-- What the two ranks of the telling give out and await.
use Rattle.std.proofs.Common.{◌≡◌, ℕ, zero, suc, ◌<◌, Bool, true, false, if◌then◌else◌, cond, nat_eq, [], ◌∷◌, length, refl, sym, arith}
use Rattle.samr_stage.specs.Course.{passing, sent, awaited, label_at}
use Rattle.samr_trials_engine.specs.Telling.{telling, told, telling_course}

pub telling_at : (left : Bool) → telling ≡ label_at (telling ∷ []) (if left then 1 else 0)
unfolding label_at
telling_at true = refl
telling_at false = refl

sent_there : (number rank : ℕ) → rank < 2 → cond (nat_eq rank 0) (told ∷ []) [] ≡ sent (telling_course number) telling rank
unfolding sent passing
sent_there number zero h = refl
sent_there number (suc zero) h = refl
sent_there number (suc (suc r)) h = absurd (omega arith)

pub first_tells : (number rank : ℕ) (left : Bool) → rank ≡ 0 → told ∷ [] ≡ sent (telling_course number) (label_at (telling ∷ []) (if left then 1 else 0)) rank
first_tells number rank left h = rw (sym (telling_at left), h) (sent_there number 0 (omega arith))

pub second_is_quiet : (number rank : ℕ) (left : Bool) → rank < 2 → (rank ≡ 0 → ⊥) → [] ≡ sent (telling_course number) (label_at (telling ∷ []) (if left then 1 else 0)) rank
second_is_quiet number rank left h k = let second : rank ≡ 1 = omega arith in rw (sym (telling_at left), second) (sent_there number 1 (omega arith))

count_there : (number rank : ℕ) → rank < 2 → length (awaited (telling_course number) telling rank) ≡ rank
unfolding awaited passing
count_there number zero h = refl
count_there number (suc zero) h = refl
count_there number (suc (suc r)) h = absurd (omega arith)

pub count_awaited : (number rank : ℕ) (left : Bool) → rank < 2 → length (awaited (telling_course number) (label_at (telling ∷ []) (if left then 1 else 0)) rank) ≡ rank
count_awaited number rank left h = rw (sym (telling_at left)) (count_there number rank h)
