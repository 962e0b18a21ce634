use Rattle.std.proofs.Common.{◌≡◌, ◌<◌, ◌≤◌, ◌^◌, ◌∙◌, ℕ, suc, ap, arith, length, refl, subst, sym, inl, inr}
use Rattle.std.proofs.lemmas.Bool.{and_parts, cond-false}
use Rattle.std.proofs.lemmas.List.Sums.{sum_by-cons}
use Rattle.std.proofs.lemmas.List.Elements.{All-from_get_or}
use Rattle.std.proofs.lemmas.Option.{slice_get-get_or}
use Rattle.std.specs.Prelude.{Bool, List, [], ◌∷◌, true, false, ◌&&◌, ◌==◌, cond, pos, Some, slice_get, get_or, map, filter, nat_eq, sum_by}
use Rattle.std.specs.List.{All, AllPairs, list_any}
use Rattle.std.specs.List.Sorted.{IsStrictlySortedBy}
use Rattle.samr_box.specs.declared.vector.IVec.{IVec}
use Rattle.samr_box.specs.Vector.{alike, AtMost, IsRatio}
use Rattle.samr_box.specs.Corners.{Corners, IsBox, Holds, Meet, holds, cells_of}
use Rattle.samr_box.specs.Space.{Space, whole as whole_of}
use Rattle.samr_box.specs.Lists.{Member}
use Rattle.samr_box.proofs.CellSets.{Holds-test, Meet-cell}
use Rattle.samr_box.proofs.Members.{member_of_All, Member-map, Member-from_map, Member-from_filter}
use Rattle.samr_level.specs.Refs.{Owned}
use Rattle.samr_level.specs.RefOrders.{ref_cmp, in_order}
use Rattle.samr_level.specs.Levels.{own, IsLevel, own_boxes}
use Rattle.samr_level.specs.Regions.{IsArea, boxes_of}
use Rattle.samr_level.proofs.RefLaws.{ref_total}
use Rattle.samr_level.proofs.Sorting.{sorted-in_order}
use Rattle.samr_sign.specs.declared.rule.CutRule.{CutRule}
use Rattle.samr_sign.specs.Fields.{Field, AreApart, AreTags}
use Rattle.samr_rounds.specs.Owners.{AreTagsOf}
use Rattle.samr_rounds.proofs.Lists.{any_member, member_any, sum_zero, sum_map}
use Rattle.samr_cluster.specs.Cluster.{Clustering}
use Rattle.samr_cluster.specs.ClusterOnAll.{HaveAllTags}
use Rattle.samr_trials_stages.proofs.clusters.clustered.Goals as goal

abbrev boxes : List Owned → List Corners
boxes level = map (λ (b : Owned). b.bx) level

-- no two members of a level have a common cell
abbrev NoneShare : List Owned → Type 0
NoneShare level = AllPairs (λ (a b : Corners). ¬ Meet a b) (boxes level)

turned : {a b : Corners} → Meet a b → Meet b a
turned m = record { low = m.high; high = m.low }

first_alone : (b : Owned) (bs : List Owned) → NoneShare (b ∷ bs) → (a : Owned) → Member a bs → ¬ Meet b.bx a.bx
first_alone b bs h a m =
    member_of_All (λ (v : Corners). ¬ Meet b.bx v) a.bx (boxes bs) (λ k d p. h 0 (suc k) d (omega arith) (omega (arith, p))) (Member-map (λ (o : Owned). o.bx) a bs m)

others : (b : Owned) (bs : List Owned) → NoneShare (b ∷ bs) → NoneShare bs
others b bs h = λ i j d p q. h (suc i) (suc j) d (omega (arith, p)) (omega (arith, q))

one_box : (level : List Owned) → NoneShare level → (a b : Owned) → Member a level → Member b level → Meet a.bx b.bx → a ≡ b
one_box [] h a b m n meet = absurd m
one_box (c ∷ cs) h a b (inl e) (inl f) meet = e ∙ sym f
one_box (c ∷ cs) h a b (inl e) (inr n) meet = absurd (first_alone c cs h b n (subst (λ (v : Owned). Meet v.bx b.bx) e meet))
one_box (c ∷ cs) h a b (inr m) (inl f) meet = absurd (first_alone c cs h a m (turned (subst (λ (v : Owned). Meet a.bx v.bx) f meet)))
one_box (c ∷ cs) h a b (inr m) (inr n) meet = one_box cs (others c cs h) a b m n meet

-- so a cell lies in one member at most
abbrev here : IVec → Corners → ℕ
here x b = cond (holds b x) 1 0

in_one : (x : IVec) (level : List Owned) → NoneShare level → sum_by (λ (b : Owned). here x b.bx) level ≤ 1
in_one x [] h = omega arith
in_one x (c ∷ cs) h = by (holds c.bx x) refl (in_one x cs (others c cs h)) (first_alone c cs h)
  where
    away : (b : Owned) (v : Bool) → holds b.bx x ≡ v → (holds b.bx x ≡ true → ⊥) → here x b.bx ≡ 0
    away b true e none = absurd (none e)
    away b false e none = ap (λ (t : Bool). cond t 1 0) e

    by : (v : Bool) → holds c.bx x ≡ v → sum_by (λ (b : Owned). here x b.bx) cs ≤ 1 → ((a : Owned) → Member a cs → ¬ Meet c.bx a.bx) → sum_by (λ (b : Owned). here x b.bx) (c ∷ cs) ≤ 1
    by false e rest alone =
        let none : here x c.bx ≡ 0 = ap (λ (t : Bool). cond t 1 0) e in
        omega (arith, sum_by-cons (λ (b : Owned). here x b.bx) c cs, none, rest)
    by true e rest alone =
        let one : here x c.bx ≡ 1 = ap (λ (t : Bool). cond t 1 0) e in
        let none = sum_zero (λ (b : Owned). here x b.bx) cs (λ b m. away b (holds b.bx x) refl (λ t. alone b m (Meet-cell {a = c.bx} {b = b.bx} {x = x} (Holds-test e) (Holds-test t)))) in
        omega (arith, sum_by-cons (λ (b : Owned). here x b.bx) c cs, one, none)

less_kept : {X : Type 0} (f : X → ℕ) (x : X) (rest kept : List X) (v : Bool) → sum_by f kept ≤ sum_by f rest → sum_by f (cond v (x ∷ kept) kept) ≤ sum_by f (x ∷ rest)
less_kept f x rest kept true e = omega (arith, sum_by-cons f x kept, sum_by-cons f x rest, e)
less_kept f x rest kept false e = omega (arith, sum_by-cons f x rest, e)

less_filtered : {X : Type 0} (p : X → Bool) (f : X → ℕ) (xs : List X) → sum_by f (filter p xs) ≤ sum_by f xs
less_filtered p f [] = omega arith
less_filtered p f (x ∷ xs) = less_kept f x xs (filter p xs) (p x) (less_filtered p f xs)

fields_apart : (level : List Owned) (rank : ℕ) (fields : List Field) → NoneShare level → map (λ (f : Field). f.bx) fields ≡ own_boxes rank level → AreApart fields
unfolding own
fields_apart level rank fields apart same x =
    let kept = filter (λ (b : Owned). nat_eq b.owner rank) level in
    let first = sum_map (here x) (λ (f : Field). f.bx) fields in
    let middle : sum_by (here x) (map (λ (f : Field). f.bx) fields) ≡ sum_by (here x) (boxes kept) = ap (λ (l : List Corners). sum_by (here x) l) same in
    let last = sum_map (here x) (λ (b : Owned). b.bx) kept in
    let less = less_filtered (λ (b : Owned). nat_eq b.owner rank) (λ (b : Owned). here x b.bx) level in
    let most = in_one x level apart in
    let all : sum_by (λ (f : Field). here x f.bx) fields ≤ 1 = omega (arith, first, middle, last, less, most) in
    all

-- the tags: in the level, and in a box that is tagged
abbrev in_level : List Owned → IVec → Bool
in_level level x = list_any (λ (b : Owned). holds b.bx x) level

abbrev spotted : List Corners → IVec → Bool
spotted spots x = list_any (λ (s : Corners). holds s x) spots

abbrev tags_of : List Owned → List Corners → IVec → Bool
tags_of level spots x = in_level level x && spotted spots x

with_level : (h l t : Bool) → (h ≡ true → l ≡ true) → (h && t) ≡ (h && (l && t))
with_level true l t e = ap (λ (v : Bool). v && t) (sym (e refl))
with_level false l t e = refl

field_inside : (level : List Owned) (rank : ℕ) (fields : List Field) (f : Field) (x : IVec) → map (λ (f : Field). f.bx) fields ≡ own_boxes rank level → Member f fields → holds f.bx x ≡ true → in_level level x ≡ true
unfolding own
field_inside level rank fields f x same m t =
    let kept = filter (λ (b : Owned). nat_eq b.owner rank) level in
    let there : Member f.bx (boxes kept) = subst (λ (l : List Corners). Member f.bx l) same (Member-map (λ (f : Field). f.bx) f fields m) in
    let o = Member-from_map (λ (b : Owned). b.bx) f.bx kept there in
    let owned = (Member-from_filter (λ (b : Owned). nat_eq b.owner rank) o.0 level o.1).0 in
    any_member (λ (b : Owned). holds b.bx x) o.0 level owned (ap (λ (b : Corners). holds b x) (sym o.2) ∙ t)

in_the_level : (level : List Owned) (spots : List Corners) (rank : ℕ) (fields : List Field) → AreTags (own_boxes rank level) (spotted spots) fields → AreTags (own_boxes rank level) (tags_of level spots) fields
in_the_level level spots rank fields a = record {
  same_boxes = a.same_boxes;
  cells = λ f x m. a.cells f x m ∙ with_level (holds f.bx x) (in_level level x) (spotted spots x) (field_inside level rank fields f x a.same_boxes m);
}

tags_inside : (level : List Owned) (spots : List Corners) → AreTagsOf level (tags_of level spots)
tags_inside level spots x t =
    let found = member_any (λ (b : Owned). holds b.bx x) level (and_parts (in_level level x) (spotted spots x) t).0 in
    (found.0, found.1, Holds-test found.2)

abbrev whole : ℕ → Space → IVec → List Owned → IVec → List Corners → CutRule → List Corners → Clustering
whole ranks frame ratio level width spots rule roots = record {
  ranks = ranks;
  frame = frame;
  ratio = ratio;
  level = level;
  width = width;
  tags = tags_of level spots;
  rule = rule;
  roots = roots;
}

some_area : (level : List Owned) (b : Owned) (x : IVec) → Member b level → Holds b.bx x → (p : Corners) × Member p (boxes level) × Holds p x
some_area level b x m h = (b.bx, Member-map (λ (o : Owned). o.bx) b level m, h)

parts_are : (frame : Space) (p : Corners) (ps : List Corners) → boxes_of (record { frame = frame; parts = p ∷ ps }) ≡ p ∷ ps
parts_are frame p ps =
    let no : (length (p ∷ ps) == 0) ≡ false = grind arith in
    cond-false (length (p ∷ ps) == 0) (whole_of frame ∷ []) (p ∷ ps) no

level_is : (frame : Space) (ranks : ℕ) (level : List Owned) (given : List Owned) → level ≡ in_order ref_cmp given → All (λ (b : Owned). (b.owner < ranks) × IsBox b.bx) level → IsArea (record { frame = frame; parts = boxes level })
    → IsLevel (record { frame = frame; parts = boxes level }) ranks level
level_is frame ranks [] given sorted fit area = record {
  in_order = subst (λ (l : List Owned). IsStrictlySortedBy ref_cmp l) (sym sorted) (sorted-in_order ref_total given);
  not_empty = λ b m. absurd m;
  inside = λ b x m h. absurd m;
  disjoint = λ a b m n meet. absurd m;
  owners = λ b m. absurd m;
}
level_is frame ranks (l ∷ ls) given sorted fit area =
    let P : Owned → Type 0 = λ b. (b.owner < ranks) × IsBox b.bx in
    record {
      in_order = subst (λ (l : List Owned). IsStrictlySortedBy ref_cmp l) (sym sorted) (sorted-in_order ref_total given);
      not_empty = λ b m. (member_of_All P b (l ∷ ls) fit m).1.order;
      inside = λ b x m h. subst (λ (bs : List Corners). (p : Corners) × Member p bs × Holds p x) (sym (parts_are frame l.bx (boxes ls))) (some_area (l ∷ ls) b x m h);
      disjoint = λ a b m n meet. one_box (l ∷ ls) area.apart a b m n meet;
      owners = λ b m. (member_of_All P b (l ∷ ls) fit m).0;
    }

abbrev Fits : ℕ → Owned → Type 0
Fits ranks b = (b.owner < ranks) × IsBox b.bx

abbrev Small : Corners → Type 0
Small b = IsBox b × (cells_of b < 2 ^ 63)

-- the fields of all ranks
abbrev HaveFields : List Owned → List Corners → List (List Field) → Type 0
HaveFields level spots fields = (rank : ℕ) (own : List Field) → slice_get fields rank ≡ Some own → AreTags (own_boxes rank level) (spotted spots) own

all_apart : (level : List Owned) (spots : List Corners) (fields : List (List Field)) → NoneShare level → HaveFields level spots fields → All (λ (f : List Field). AreApart f) fields
all_apart level spots fields apart each =
    All-from_get_or (λ (f : List Field). AreApart f) fields []
    (λ k less. let own = get_or fields k [] in fields_apart level k own apart (each k own (slice_get-get_or fields k [] less)).same_boxes)

have_all : (ranks : ℕ) (frame inner : Space) (ratio : IVec) (level given : List Owned) (width : IVec) (spots : List Corners) (rule : CutRule) (roots : List Corners) (fields : List (List Field))
    → IsRatio ratio → AtMost (alike (pos 0)) width → level ≡ in_order ref_cmp given → All (Fits ranks) level → IsArea (record { frame = inner; parts = boxes level }) → All Small roots → length fields ≡ ranks → HaveFields level spots fields
    → HaveAllTags frame fields roots rule width ratio (whole ranks frame ratio level width spots rule roots)
have_all ranks frame inner ratio level given width spots rule roots fields is low sorted fit area small count each = record {
  is = record {
    area = record { frame = inner; parts = boxes level };
    level = level_is inner ranks level given sorted fit area;
    tags = tags_inside level spots;
    roots = λ b m. let s = member_of_All Small b roots small m in record { whole = s.0; few = s.1 };
    ratio = is;
    width = low;
  };
  same_ranks = count;
  same_frame = refl;
  same_tags = λ r f got. in_the_level level spots r f (each r f got);
  same_roots = refl;
  same_rule = refl;
  same_width = refl;
  same_ratio = refl;
}

pub cluster_all-requires-clause-apart : goal.cluster_all-requires-clause-apart
cluster_all-requires-clause-apart c =
    let level = c.as_slice-3.result.now in
    let spots = c.args.spots.now in
    let area = subst (λ (l : List Owned). IsArea (record { frame = c.finer.result; parts = boxes l })) (c.as_slice-2.ensures.value ∙ sym c.as_slice-3.ensures.value) (c.in_ok-are_apart.ensures c.if-not-branch.false) in
    subst (λ (f : List (List Field)). All (λ (own : List Field). AreApart own) f) (sym c.as_slice-4.ensures.value) (all_apart level spots c.in_ok-fields.fields.items area.apart c.in_ok-fields.ensures.each)

pub cluster_all-requires-clause-parts : goal.cluster_all-requires-clause-parts
cluster_all-requires-clause-parts c =
    let level = c.as_slice-3.result.now in
    let spots = c.args.spots.now in
    let ranks = c.args.ranks in
    let area = subst (λ (l : List Owned). IsArea (record { frame = c.finer.result; parts = boxes l })) (c.as_slice-2.ensures.value ∙ sym c.as_slice-3.ensures.value) (c.in_ok-are_apart.ensures c.if-not-branch.false) in
    let fit = subst (All (Fits ranks)) (c.as_slice.ensures.value ∙ sym c.as_slice-3.ensures.value) (c.all_fit.ensures c.if-not-all_fit.false) in
    let w = whole ranks c.args.d.now c.args.to_level level c.args.width spots c.args.rule c.args.roots.now in (
      w,
      subst (λ (f : List (List Field)). HaveAllTags c.args.d.now f c.args.roots.now c.args.rule c.args.width c.args.to_level w) (sym c.as_slice-4.ensures.value)
          (have_all ranks c.args.d.now c.finer.result c.args.to_level level c.args.boxes.items c.args.width spots c.args.rule c.args.roots.now c.in_ok-fields.fields.items
          (subst IsRatio c.factors.ensures.value c.factors.ensures.ratio) (c.is_width.ensures.positive c.if-not-is_width.false) (c.as_slice-3.ensures.value ∙ c.in_level_order-level.ensures) fit area
          (c.all_small.ensures c.if-not-all_small.false) c.in_ok-fields.ensures.length c.in_ok-fields.ensures.each),
    )
