-- What a rank has when the cover begins.
use Rattle.std.proofs.Common.{◌≡◌, ℕ, zero, suc, ◌+◌, ◌-◌, ◌<◌, Bool, true, false, List, [], ◌∷◌, length, nat_lt, if◌then◌else◌, Option, Some, None, is_some, option_map, refl, sym, ap, subst, ◌∙◌, arith}
use Rattle.std.specs.List.{All}
use Rattle.std.proofs.lemmas.Bool.{lt-ltb, ltb-false, ltb-true}
use Rattle.std.proofs.lemmas.List.{get_or_past}
use Rattle.samr_box.specs.declared.vector.IVec.{IVec}
use Rattle.samr_box.specs.Lists.{Member}
use Rattle.samr_box.specs.Space.{Space, finer}
use Rattle.samr_level.specs.declared.parts.Pair.{Pair}
use Rattle.samr_level.specs.Levels.{own_boxes}
use Rattle.samr_level.specs.Pairs.{pair}
use Rattle.samr_level.specs.Refs.{Owned}
use Rattle.samr_level.proofs.Refining.{times_assoc}
use Rattle.samr_sign.specs.Fields.{Field, AreTags}
use Rattle.samr_tags.specs.Buffer.{tags_of}
use Rattle.samr_tags.specs.CoverParts.{HasCovers, down_pair}
use Rattle.samr_tags.specs.CoverRow.{rule, rule_of, HasRoom}
use Rattle.samr_tags.specs.Cover.{downs}
use Rattle.samr_problem.specs.Fields.{Fields}
use Rattle.samr_problem.specs.Problems.{IsProblem}
use Rattle.samr_mesh.specs.Domains.{area_of, step_of, ratio_to}
use Rattle.samr_mesh.specs.Meshes.{level_at, mesh}
use Rattle.samr_mesh.specs.Passes.{Pass, tagging, covering}
use Rattle.samr_mesh.specs.Soundness.{IsMesh, CanRun}
use Rattle.samr_mesh.specs.Stages.{IsAbove}
use Rattle.samr_mesh.proofs.MeshForms.{fresh_mesh}
use Rattle.samr_mesh.proofs.Tagged.{covers_can}
use Rattle.samr_wholes.proofs.CoverRooms as wholes
use Rattle.samr_msg.specs.Runs.{Setting}
use Rattle.samr_msg.specs.Places.{AtStep, AtPass, mesh_of, mesh_before}
use Rattle.samr_msg.specs.PassStops.{is_some_level}
use Rattle.samr_regrid.specs.declared.level.Above.{Above}
use Rattle.samr_regrid.specs.Asking.{asked_mesh}
use Rattle.samr_regrid.specs.Ranks.{pair_at}
use Rattle.samr_regrid.specs.Standing.{IsPassOf, above_part, above_before}
use Rattle.samr_regrid.specs.Above.{two_above}
use Rattle.samr_regrid.proofs.PassesAbove.{is_two_above, asked_level}

-- where nothing is counted there is nothing
pub none_above : (xs : List Owned) → is_some_level xs ≡ false → xs ≡ []
none_above [] none = refl
none_above (x ∷ xs) none = let some = lt-ltb 0 (length (x ∷ xs)) (omega arith) in cc

counted : (b : Owned) (xs : List Owned) → Member b xs → 0 < length xs
counted b [] m = absurd m
counted b (x ∷ xs) m = omega arith

-- the levels of a mesh have boxes
has_level : (p : Fields) (ranks : ℕ) (levels : List (List Owned)) (k : ℕ) → IsMesh p ranks levels → nat_lt (suc k) (length levels) ≡ is_some_level (level_at levels (suc k))
has_level p ranks levels k is = by (nat_lt (suc k) (length levels)) refl
  where
    by : (u : Bool) → nat_lt (suc k) (length levels) ≡ u → u ≡ is_some_level (level_at levels (suc k))
    by true e =
        let (b, m) = is.boxes k (ltb-true (suc k) (length levels) e) in
        sym (lt-ltb 0 (length (level_at levels (suc k))) (counted b (level_at levels (suc k)) m))
    by false e = ap is_some_level (sym (get_or_past levels (suc k) [] (ltb-false (suc k) (length levels) e)))

if_some : {X : Type 0} (u : Bool) (x : X) → is_some (if u then Some x else None) ≡ u
if_some true x = refl
if_some false x = refl

some_by : (s : Setting) (step number r : ℕ) (w : Pass) (later : List Pass) → IsProblem s.problem → 0 < s.ranks → w.above ≡ two_above (record { at = record { setting = s; step = step }; number = number; pass = w; later = later })
    → is_some (above_before (record { setting = s; step = step }) r w.number) ≡ is_some_level w.above
some_by s zero number r w later is some same = ap is_some_level (sym same)
some_by s (suc t) number r w later is some same =
    let at : AtStep = record { setting = s; step = suc t } in
    let two : w.number + 2 ≡ suc (w.number + 1) = omega arith in
    let levels = mesh_of at in
    if_some (nat_lt (w.number + 2) (length levels)) (above_part at r (w.number + 2))
    ∙ ap (λ n. nat_lt n (length levels)) two ∙ has_level s.problem s.ranks levels (w.number + 1) (fresh_mesh s.problem s.ranks (suc t) is some)
    ∙ ap (λ n. is_some_level (level_at levels n)) (sym two) ∙ ap is_some_level (sym same)

some_mapped : {X Y : Type 0} (f : X → Y) (o : Option X) → is_some o ≡ is_some (option_map f o)
some_mapped f None = refl
some_mapped f (Some x) = refl

some_ranks : (w : AtPass) → IsPassOf w → 0 < w.at.setting.ranks
some_ranks w h = subst (λ n. 0 < n) h.same_ranks h.can.some

module _ (w : AtPass) (r : ℕ) (problem : IsProblem w.at.setting.problem) (is : IsPassOf w) where
  -- a rank has the new level two above where there is one
  pub is_covered : {X : Type 0} (f : X → Above) (above : Option X) → option_map f above ≡ above_before w.at r w.pass.number → is_some above ≡ is_some_level w.pass.above
  is_covered f above same =
      some_mapped f above ∙ ap is_some same
      ∙ some_by w.at.setting w.at.step w.number r w.pass w.later problem (some_ranks w is) (is_two_above w problem is)

-- its overlaps with the level are those of the cover
chosen : {X : Type 0} (u : Bool) (x y : X) → (if u then Some x else None) ≡ Some y → y ≡ x
chosen true x y e = cc
chosen false x y e = cc

same_pair : (p : Fields) (w : Pass) (r l below : ℕ) (fine level : List Owned) → l ≡ suc (suc w.number) → below ≡ w.number → fine ≡ w.above → level ≡ w.level
    → pair_at p fine l level below r ≡ down_pair (covering p w) r
same_pair p w r l below fine level up down top bottom =
    let frame = (area_of p).frame in
    let ratio = ratio_to p w.number in
    ap (λ n. pair_at p fine n level below r) up ∙ ap (λ n. pair_at p fine (suc (suc w.number)) level n r) down
    ∙ ap (λ (v : List Owned). pair_at p v (suc (suc w.number)) level w.number r) top ∙ ap (λ (v : List Owned). pair_at p w.above (suc (suc w.number)) v w.number r) bottom
    ∙ ap (λ (q : IVec). pair frame p.width q ratio w.above w.level r) (times_assoc ratio (step_of p w.number) (step_of p (suc w.number)))

cover_by : (s : Setting) (step number r : ℕ) (w : Pass) (later : List Pass) (a : Above) → w.above ≡ two_above (record { at = record { setting = s; step = step }; number = number; pass = w; later = later })
    → level_at (asked_mesh s step) w.number ≡ w.level → above_before (record { setting = s; step = step }) r w.number ≡ Some a → a.cover ≡ down_pair (covering s.problem w) r
cover_by s zero number r w later a same below e = absurd (differ e)
  where
    differ : {a : Above} → None ≡ Some a → ⊥
    differ e = cc
cover_by s (suc t) number r w later a same below e =
    let at : AtStep = record { setting = s; step = suc t } in
    let l = w.number + 2 in
    let up : w.number + 2 ≡ suc (suc w.number) = omega arith in
    let down : w.number + 2 - 2 ≡ w.number = omega arith in
    let back : suc t - 1 ≡ t = omega arith in
    ap (λ (v : Above). v.cover) (chosen (nat_lt l (length (mesh_of at))) (above_part at r l) a e)
    ∙ same_pair s.problem w r l (l - 2) (level_at (mesh_of at) l) (level_at (mesh_before at) (l - 2)) up down (sym same)
    (ap (λ u. level_at (mesh s.problem s.ranks u) (l - 2)) back ∙ ap (level_at (mesh s.problem s.ranks t)) down ∙ below)

pub cover_is : (w : AtPass) (r : ℕ) (a : Above) → IsProblem w.at.setting.problem → IsPassOf w → above_before w.at r w.pass.number ≡ Some a → a.cover ≡ down_pair (covering w.at.setting.problem w.pass) r
cover_is w r a problem is e = cover_by w.at.setting w.at.step w.number r w.pass w.later a (is_two_above w problem is) (asked_level w is) e

-- what it needs is in range
pub rooms : (p : Fields) (w : Pass) (r : ℕ) (frame : Space) (covers : Pair) (nest upper lower : IVec) → CanRun p w → IsAbove p w → frame ≡ (area_of p).frame → covers ≡ down_pair (covering p w) r
    → nest ≡ p.nest → upper ≡ step_of p (suc w.number) → lower ≡ step_of p w.number → All (HasRoom (rule (finer frame covers.forth.head_ratio) upper nest lower)) covers.forth.edges
rooms p w r frame covers nest upper lower run above f c n u l =
    let all : All (HasRoom (rule_of (covering p w))) (downs (covering p w) r) = (wholes.rooms p w run above r).1 in
    rw (f, c, n, u, l) all

pub cover_begins : (w : AtPass) (r : ℕ) (rank ranks : ℕ) (frame : Space) (fields : List Field) (covers : Pair) (nest upper lower : IVec) → IsPassOf w → r < w.at.setting.ranks
    → rank ≡ r → ranks ≡ w.pass.ranks → frame ≡ (area_of w.at.setting.problem).frame → covers ≡ down_pair (covering w.at.setting.problem w.pass) r → nest ≡ w.at.setting.problem.nest
    → upper ≡ step_of w.at.setting.problem (suc w.pass.number) → lower ≡ step_of w.at.setting.problem w.pass.number
    → AreTags (own_boxes r w.pass.level) (tags_of (tagging w.at.setting.problem w.pass)) fields
    → HasCovers rank ranks frame fields covers nest upper lower (covering w.at.setting.problem w.pass) r
cover_begins w r rank ranks frame fields covers nest upper lower is within own many space same low up down tags = record {
  owned = (covers_can w.at.setting.problem w.pass is.can is.above).0.owned;
  same_rank = own;
  same_ranks = many;
  within = subst (λ n. r < n) (sym is.same_ranks) within;
  same_frame = space;
  same_tags = tags;
  same_pair = same;
  same_nest = low;
  same_upper = up;
  same_lower = down;
}
