-- The shifts, made axis by axis.
use Rattle.std.proofs.Common.{◌≡◌, refl, ◌∙◌, append_assoc}
use Rattle.std.specs.Prelude.{Bool, true, false, cond, pos, negsuc, List, [], ◌∷◌, ◌++◌}
use Rattle.std.specs.List.{flat_map}
use Rattle.samr_box.specs.declared.vector.Axis.{Axis}
use Rattle.samr_box.specs.declared.vector.Axis.TheVariants.{I, J, K}
use Rattle.samr_box.specs.declared.vector.IVec.{IVec}
use Rattle.samr_box.specs.declared.space.Flags.{Flags}
use Rattle.samr_box.specs.Vector.{alike, put}
use Rattle.samr_box.specs.Space.{flag}
use Rattle.samr_level.specs.Overlaps.{shifts}

-- each shift with its neighbours on an axis, where that is periodic
abbrev pub spread : Flags → Axis → List IVec → List IVec
spread f axis ss = cond (flag axis f) (flat_map (λ s. put axis s (negsuc 0) ∷ s ∷ put axis s (pos 1) ∷ []) ss) ss

by_flags : (k j i : Bool) → (let f : Flags = record { k = k; j = j; i = i } in spread f I (spread f J (spread f K (alike (pos 0) ∷ []))) ≡ shifts f)
unfolding shifts
by_flags true true true = refl
by_flags true true false = refl
by_flags true false true = refl
by_flags true false false = refl
by_flags false true true = refl
by_flags false true false = refl
by_flags false false true = refl
by_flags false false false = refl

pub shifts_by_axis : (f : Flags) → spread f I (spread f J (spread f K (alike (pos 0) ∷ []))) ≡ shifts f
shifts_by_axis f = by_flags f.k f.j f.i

pub three_pushed : {X : Type 0} (out : List X) (a b d : X) → ((out ++ a ∷ []) ++ b ∷ []) ++ d ∷ [] ≡ out ++ (a ∷ b ∷ d ∷ [])
three_pushed out a b d = append_assoc (out ++ a ∷ []) (b ∷ []) (d ∷ []) ∙ append_assoc out (a ∷ []) (b ∷ d ∷ [])
