-- What linear refinement gives is below the modulus, and only the real axes count.
use Rattle.std.proofs.Common.{◌≡◌, ℕ, ◌<◌, Bool, true, false, List, refl, ap, ◌∙◌, arith}
use Rattle.std.specs.Prelude.{ℤ, pos, negsuc, ◌+ℤ◌, unsigned_abs, if◌then◌else◌}
use Rattle.std.specs.Int.{int_rem_euclid}
use Rattle.std.proofs.Math.Nat.{mod-lt}
use Rattle.samr_box.specs.declared.vector.Axis.{Axis}
use Rattle.samr_box.specs.declared.vector.Axis.TheVariants.{I, J, K}
use Rattle.samr_box.specs.declared.vector.IVec.{IVec}
use Rattle.samr_box.specs.Vector.{at}
use Rattle.samr_box.specs.Space.{flag}
use Rattle.samr_linear.specs.declared.linear.Linear.{Linear}
use Rattle.samr_linear.specs.Lin.{on, share, share_on, lin}
use Rattle.samr_linear.specs.Laws.{OnlyRealAxesCount}

remainder_small : (x : ℤ) (m : ℕ) → 0 < m → unsigned_abs (int_rem_euclid x (pos m)) < m
remainder_small (pos a) m some = mod-lt a some
remainder_small (negsuc a) m some = omega (arith, some)

pub lin_fits : (s : Linear) (v : ℕ) (low high : List ℕ) (o : IVec) → 0 < s.modulus → lin s v low high o < s.modulus
unfolding lin
lin_fits s v low high o some = remainder_small (((pos v +ℤ share_on s low high o I) +ℤ share_on s low high o J) +ℤ share_on s low high o K) s.modulus some

same_share : (real : Bool) (low high low2 high2 : ℕ) (o r : ℤ) → (real ≡ true → (low ≡ low2) × (high ≡ high2)) → (if real then share low high o r else pos 0) ≡ (if real then share low2 high2 o r else pos 0)
same_share true low high low2 high2 o r same =
    let e = same refl in
    ap (λ (n : ℕ). share n high o r) e.0 ∙ ap (λ (n : ℕ). share low2 n o r) e.1
same_share false low high low2 high2 o r same = refl

pub only_real_axes_count : OnlyRealAxesCount
unfolding lin share_on
only_real_axes_count s v low high low2 high2 o same =
    let on_axis : (axis : Axis) → share_on s low high o axis ≡ share_on s low2 high2 o axis = λ axis. same_share (flag axis s.real) (on axis low) (on axis high) (on axis low2) (on axis high2) (at axis o) (at axis s.ratio) (same axis) in
    rw (on_axis I, on_axis J, on_axis K) refl
