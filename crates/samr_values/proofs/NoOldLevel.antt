-- A level of which no rank had an old one: fields without patches will do for its old patches.
use Rattle.std.proofs.Common.{◌≡◌, ℕ, ◌<◌, length, get_or, refl, sym, ap, subst, ◌∙◌, inl, inr, arith}
use Rattle.std.proofs.lemmas.List.Elements.{All-get_or}
use Rattle.std.proofs.lemmas.Option.{slice_get_within, slice_get-get_or}
use Rattle.std.specs.Prelude.{List, [], ◌∷◌, map, Option, Some, slice_get}
use Rattle.std.specs.List.{All}
use Rattle.samr_box.specs.declared.vector.IVec.{IVec}
use Rattle.samr_box.specs.Corners.{Corners}
use Rattle.samr_box.specs.Lists.{Member}
use Rattle.samr_box.specs.Orders.{corner_cmp}
use Rattle.samr_box.proofs.Ascending.{sorted-nil}
use Rattle.samr_level.specs.declared.parts.Pair.{Pair}
use Rattle.samr_level.specs.Refs.{Owned, Link}
use Rattle.samr_level.specs.Levels.{own}
use Rattle.samr_data.specs.Grids.{Grid}
use Rattle.samr_ops.specs.declared.rules.Rules.{Rules}
use Rattle.samr_values.specs.Patches.{HasValues, IsBased, AreBased, HaveNumber}
use Rattle.samr_values.specs.Values.{Renewing}
use Rattle.samr_values.specs.ValuesParts.{HasFields, HasOld}

-- a field without patches for each rule
abbrev pub AreEmpty : List (List Grid) → List Rules → Type 0
AreEmpty empties rules = (length empties ≡ length rules) × All (λ (field : List Grid). field ≡ []) empties

empty_at : (empties : List (List Grid)) → All (λ (field : List Grid). field ≡ []) empties → (f : ℕ) (field : List Grid) → slice_get empties f ≡ Some field → field ≡ []
empty_at empties all f field got =
    let below = slice_get_within empties f field got in
    let is : Some field ≡ Some (get_or empties f field) = sym got ∙ slice_get-get_or empties f field below in
    let same : field ≡ get_or empties f field = cc in
    same ∙ All-get_or (λ (v : List Grid). v ≡ []) empties f field below all

own_nothing : (r : ℕ) (level : List Owned) → level ≡ [] → own r level ≡ []
unfolding own
own_nothing r level none = ap (own r) none

cons_nothing : (x : List Grid) (xs : List (List Grid)) → x ∷ xs ≡ [] → ⊥
cons_nothing x xs e = cc

-- what is chosen: the old patches, where they have fields, else empty ones
pub chosen_fields : (patches chosen empties : List (List Grid)) (rules : List Rules) → AreEmpty empties rules → (0 < length patches → chosen ≡ patches)
    → (patches ≡ [] → chosen ≡ empties) → (edges : List Link) → HaveNumber edges patches (length rules) → length chosen ≡ length rules
chosen_fields [] chosen empties rules are some none edges has = ap length (none refl) ∙ are.0
chosen_fields (x ∷ xs) chosen empties rules are some none edges (inl e) = absurd (cons_nothing x xs e.1)
chosen_fields (x ∷ xs) chosen empties rules are some none edges (inr e) = ap length (some (omega arith)) ∙ e

-- there is no patch among those of no fields
no_field : (chosen empties : List (List Grid)) (rules : List Rules) → AreEmpty empties rules → chosen ≡ empties → (f : ℕ) (field : List Grid) → slice_get chosen f ≡ Some field
    → (field ≡ []) × (0 < length rules)
no_field chosen empties rules are is f field got =
    let at : slice_get empties f ≡ Some field = subst (λ (l : List (List Grid)). slice_get l f ≡ Some field) is got in
    let below = slice_get_within empties f field at in
    let count = are.0 in
    (empty_at empties are.1 f field at, omega (arith, below, count))

based_nothing : (edges : List Link) (field : List Grid) → edges ≡ [] → field ≡ [] → IsBased edges field
based_nothing edges field no_edges no_patches =
    subst (λ (l : List Grid). IsBased edges l) (sym no_patches)
    (subst (λ (l : List Link). IsBased l []) (sym no_edges) (record { order = sorted-nil corner_cmp; there = λ e m. absurd m }))

pub chosen_based : (patches chosen empties : List (List Grid)) (rules : List Rules) → AreEmpty empties rules → (0 < length patches → chosen ≡ patches)
    → (patches ≡ [] → chosen ≡ empties) → (edges : List Link) → HaveNumber edges patches (length rules) → AreBased edges patches → AreBased edges chosen
chosen_based [] chosen empties rules are some none edges (inl e) based f field got =
    based_nothing edges field e.0 (no_field chosen empties rules are (none refl) f field got).0
chosen_based [] chosen empties rules are some none edges (inr e) based f field got =
    let fields = (no_field chosen empties rules are (none refl) f field got).1 in absurd (omega (arith, fields, e))
chosen_based (x ∷ xs) chosen empties rules are some none edges has based f field got =
    based f field (subst (λ (l : List (List Grid)). slice_get l f ≡ Some field) (some (omega arith)) got)

values_nothing : (values : ℕ → IVec → ℕ) (boxes : List Owned) (chosen : List (List Grid)) → ((f : ℕ) (field : List Grid) → slice_get chosen f ≡ Some field → (field ≡ []) × (boxes ≡ []))
    → HasValues values boxes chosen
values_nothing values boxes chosen none = record {
  full = λ f field got.
      let e = none f field got in
      ap (λ (l : List Grid). map (λ p. p.bx) l) e.0 ∙ ap (λ (l : List Owned). map (λ b. b.bx) l) (sym e.1);
  same = λ f field got p x m h. absurd (subst (λ (l : List Grid). Member p l) (none f field got).0 m);
}

pub chosen_old : (patches chosen empties : List (List Grid)) (rules : List Rules) → AreEmpty empties rules → (0 < length patches → chosen ≡ patches) → (patches ≡ [] → chosen ≡ empties)
    → (rank : ℕ) (news : List Corners) (same : Option Pair) (coarser : Pair) (step : IVec) (coarse : List (List Grid)) (w : Renewing) (r : ℕ)
    → HasOld rank news same coarser step patches coarse rules w r → HasOld rank news same coarser step chosen coarse rules w r
chosen_old (x ∷ xs) chosen empties rules are some none rank news same coarser step coarse w r h =
    subst (λ (l : List (List Grid)). HasOld rank news same coarser step l coarse rules w r) (sym (some (omega arith))) h
chosen_old [] chosen empties rules are some none rank news same coarser step coarse w r h =
    let nothing : (f : ℕ) (field : List Grid) → slice_get chosen f ≡ Some field → (field ≡ []) × (own r w.olds ≡ []) = λ f field got.
    let no = no_field chosen empties rules are (none refl) f field got in
    (no.0, own_nothing r w.olds (old_level no.1 h.has.fields)) in
    record {
      is = h.is;
      same_rank = h.same_rank;
      within = h.within;
      same_boxes = h.same_boxes;
      same_old = h.same_old;
      same_coarser = h.same_coarser;
      same_step = h.same_step;
      has = record {
        same_rules = h.has.same_rules;
        same_values = values_nothing w.values (own r w.olds) chosen nothing;
        fields = inr (ap length (none refl) ∙ are.0 ∙ ap (λ (l : List Rules). length l) h.has.same_rules);
        coarse_values = h.has.coarse_values;
        coarse_fields = h.has.coarse_fields;
      };
    }
  where
    old_level : 0 < length rules → HasFields w [] → w.olds ≡ []
    old_level some (inl e) = e.0
    old_level some (inr e) = let count = ap (λ (l : List Rules). length l) h.has.same_rules in absurd (omega (arith, some, e, count))
