-- What a rank has once it has merged all values.
use Rattle.std.proofs.Common.{◌≡◌, ℕ, ◌<◌, ◌+◌, length, refl, sym, ap, ◌∙◌, subst, inl, inr, arith}
use Rattle.std.specs.Prelude.{◌^◌, List, [], ◌∷◌, map, zip}
use Rattle.std.specs.List.{All, enumerate_from}
use Rattle.samr_box.specs.declared.vector.IVec.{IVec}
use Rattle.samr_box.specs.Lists.{Member}
use Rattle.samr_box.proofs.Members.{Member-from_map, member_of_All}
use Rattle.samr_level.specs.declared.parts.Pair.{Pair}
use Rattle.samr_level.specs.Refs.{Link}
use Rattle.samr_data.specs.Grids.{Grid}
use Rattle.samr_ops.specs.declared.rules.CoarsenRule.{CoarsenRule}
use Rattle.samr_peers.specs.Peers.{other_owners}
use Rattle.samr_data.specs.declared.parcel.Parcel.{Parcel}
use Rattle.samr_values.specs.declared.merging.Merge.{Merge}
use Rattle.samr_values.specs.Patches.{HaveFields, AreBased}
use Rattle.samr_values.specs.Coarsen.{Coarsening, IsRefinement, downs, ups}
use Rattle.samr_values.specs.CoarsenRow.{coarse_parcels}
use Rattle.samr_values.specs.CoarsenParts.{HasFine, HasMerged}
use Rattle.samr_values.specs.Merging.{CanMerge, merges, merge_of, merged_to, step_of}
use Rattle.samr_values.proofs.Under.{quotient}
use Rattle.samr_values.proofs.CoarsenRowLaws.{sent_is}

-- the members of numbered pairs
pair_facts : (k : ℕ) (rules : List CoarsenRule) (moduli : List ℕ) (f : ℕ × (CoarsenRule × ℕ)) → Member f (enumerate_from k (zip rules moduli))
    → (f.0 < k + length rules) × Member f.1.1 moduli
pair_facts k [] moduli f m = absurd m
pair_facts k (x ∷ rules) [] f m = absurd m
pair_facts k (x ∷ rules) (n ∷ moduli) f (inl same) =
    let at : f.0 ≡ k = ap (λ (g : ℕ × (CoarsenRule × ℕ)). g.0) same in
    (omega (arith, at), inl (ap (λ (g : ℕ × (CoarsenRule × ℕ)). g.1.1) same))
pair_facts k (x ∷ rules) (n ∷ moduli) f (inr m) =
    let r = pair_facts (k + 1) rules moduli f m in
    let below = r.0 in
    (omega (arith, below), inr r.1)

-- the fields can be merged
pub can_merge : (rules : List CoarsenRule) (moduli : List ℕ) (step : IVec) (list : List Merge) (edges : List Link) (fine : List (List Grid)) → list ≡ merges step rules moduli
    → All (λ m. 0 < m) moduli → length fine ≡ length rules → AreBased edges fine → ((e : Link) → Member e edges → IsRefinement step e.base.bx) → CanMerge list edges fine
can_merge rules moduli step list edges fine is some count based refinements = record {
  some = λ m mm.
      let r = from m mm in
      let f = pair_facts 0 rules moduli r.0 r.1 in
      subst (λ (n : Merge). 0 < n.modulus) (sym r.2) (member_of_All (λ (m : ℕ). 0 < m) r.0.1.1 moduli some f.1);
  there = λ m mm.
      let r = from m mm in
      let below = (pair_facts 0 rules moduli r.0 r.1).0 in
      let at : m.field ≡ r.0.0 = ap (λ (n : Merge). n.field) r.2 in
      omega (arith, below, count, at);
  based = based;
  refinements = λ m e mm me. subst (λ (n : Merge). IsRefinement n.step e.base.bx) (sym (from m mm).2) (refinements e me);
}
  where
    from : (m : Merge) → Member m list → (f : ℕ × (CoarsenRule × ℕ)) × Member f (enumerate_from 0 (zip rules moduli)) × (m ≡ merge_of step f)
    from m mm =
        Member-from_map (λ (f : ℕ × (CoarsenRule × ℕ)). merge_of step f) m (enumerate_from 0 (zip rules moduli)) (subst (λ (l : List Merge). Member m l) is mm)

pub can_start : (p : Pair) (fine : List (List Grid)) (rules : List CoarsenRule) (moduli : List ℕ) (list : List Merge) (edges : List Link) → list ≡ merges (step_of p) rules moduli
    → edges ≡ p.forth.edges → All (λ m. 0 < m) moduli → length fine ≡ length rules → AreBased p.forth.edges fine
    → ((e : Link) → Member e p.forth.edges → IsRefinement (step_of p) e.base.bx) → CanMerge list edges fine
can_start p fine rules moduli list edges is same some count based refinements =
    subst (λ (l : List Link). CanMerge list l fine) (sym same) (can_merge rules moduli (step_of p) list p.forth.edges fine is some count based refinements)

module _ (rank ranks : ℕ) (p : Pair) (fine coarser : List (List Grid)) (rules : List CoarsenRule) (moduli : List ℕ) (w : Coarsening) (r : ℕ)
    (h : HasFine rank ranks p fine coarser rules moduli w r) where
  pub same_step : step_of p ≡ w.step
  same_step = ap (λ (q : Pair). step_of q) h.same_pair ∙ quotient w.ratio w.step h.is.ratio

  pub same_forth : p.forth.edges ≡ downs w r
  same_forth = ap (λ (q : Pair). q.forth.edges) h.same_pair

  pub same_back : p.back.edges ≡ ups w r
  same_back = ap (λ (q : Pair). q.back.edges) h.same_pair

  same_merges : merges (step_of p) rules moduli ≡ merges w.step w.rules w.moduli
  same_merges =
      ap (λ (s : IVec). merges s rules moduli) same_step
      ∙ ap (λ (l : List CoarsenRule). merges w.step l moduli) h.same_rules
      ∙ ap (λ (l : List ℕ). merges w.step w.rules l) h.same_moduli

  sends : (list : List Merge) (edges : List Link) (to : ℕ) → list ≡ merges (step_of p) rules moduli → edges ≡ p.forth.edges
      → merged_to list w.fine_values edges to ≡ coarse_parcels w r to
  sends list edges to is same =
      ap (λ (l : List Merge). merged_to l w.fine_values edges to) (is ∙ same_merges)
      ∙ ap (λ (l : List Link). merged_to (merges w.step w.rules w.moduli) w.fine_values l to) (same ∙ same_forth)
      ∙ sent_is w r to

  map_all : (f g : ℕ → List Parcel) (xs : List ℕ) → ((k : ℕ) → f k ≡ g k) → map {B = ℕ × List Parcel} (λ k. (k, f k)) xs ≡ map {B = ℕ × List Parcel} (λ k. (k, g k)) xs
  map_all f g [] same = refl
  map_all f g (x ∷ xs) same =
      ap (λ (b : List Parcel). (x, b) ∷ map {B = ℕ × List Parcel} (λ k. (k, f k)) xs) (same x) ∙ ap (λ (l : List (ℕ × List Parcel)). (x, g x) ∷ l) (map_all f g xs same)

  pub has_merged : (list : List Merge) (edges back : List Link) (addressees senders : List ℕ) (letters : List (ℕ × List Parcel)) (mine : List Parcel)
      → list ≡ merges (step_of p) rules moduli → edges ≡ p.forth.edges → back ≡ p.back.edges → length rules < 2 ^ 8
      → addressees ≡ other_owners rank edges → senders ≡ other_owners rank back
      → ((values : ℕ → IVec → ℕ) → HaveFields values fine → letters ≡ map {B = ℕ × List Parcel} (λ to. (to, merged_to list values edges to)) addressees)
      → ((values : ℕ → IVec → ℕ) → HaveFields values fine → mine ≡ merged_to list values edges rank)
      → HasMerged letters mine senders coarser w r
  has_merged list edges back addressees senders letters mine is same home few to_others from_others others own_ones =
      let all = h.coarse_fields in
      let count = ap (λ (l : List CoarsenRule). length l) h.same_rules in
      record {
        rest = record {
          is = h.is;
          within = h.within;
          same_own =
              own_ones w.fine_values h.fine_values.same ∙ sends list edges rank is same ∙ ap (λ (k : ℕ). coarse_parcels w r k) h.same_rank;
          same_senders = from_others ∙ ap (λ (k : ℕ). other_owners k back) h.same_rank ∙ ap (λ (l : List Link). other_owners r l) (home ∙ same_back);
          same_coarse = h.same_coarse;
          coarse_boxes = h.coarse_boxes;
          coarse_fields = h.coarse_fields;
          few = omega (arith, all, count, few);
        };
        same_letters =
            others w.fine_values h.fine_values.same
            ∙ map_all (λ to. merged_to list w.fine_values edges to) (λ to. coarse_parcels w r to) addressees (λ to. sends list edges to is same)
            ∙ ap (λ (l : List ℕ). map {B = ℕ × List Parcel} (λ to. (to, coarse_parcels w r to)) l)
            (to_others ∙ ap (λ (k : ℕ). other_owners k edges) h.same_rank ∙ ap (λ (l : List Link). other_owners r l) (same ∙ same_forth));
      }
