-- What a rank has once it has packed all parcels.
use Rattle.std.proofs.Common.{◌≡◌, ℕ, length, refl, sym, ap, ◌∙◌, inl}
use Rattle.std.specs.Prelude.{List, [], ◌∷◌, ◌++◌, map, Some, None}
use Rattle.samr_box.specs.declared.vector.IVec.{IVec}
use Rattle.samr_box.specs.Corners.{Corners}
use Rattle.samr_box.specs.Lists.{Member}
use Rattle.samr_level.specs.declared.parts.Pair.{Pair}
use Rattle.samr_level.specs.Refs.{Owned, Link}
use Rattle.samr_level.specs.Overlaps.{Scale, scale, true_overlaps, of_rank}
use Rattle.samr_level.proofs.Overlapping.{Member-from_overlaps, Member-from_of_rank}
use Rattle.samr_data.specs.Grids.{Grid}
use Rattle.samr_ops.specs.declared.rules.Rules.{Rules}
use Rattle.samr_peers.specs.Peers.{other_owners}
use Rattle.samr_data.specs.declared.parcel.Parcel.{Parcel}
use Rattle.samr_values.specs.Patches.{HaveFields}
use Rattle.samr_values.specs.Values.{Renewing, old_ups, coarse_ups, to_olds}
use Rattle.samr_values.specs.ValuesRow.{parcels_by, parcels, sends, hears}
use Rattle.samr_values.specs.ValuesParts.{HasOld, HasEdges, HasPacked, Waits}

-- a level that is not there has no edges to it, and none from it
no_members : {X : Type 0} (xs : List X) → ((x : X) → Member x xs → ⊥) → xs ≡ []
no_members [] none = refl
no_members (x ∷ xs) none = absurd (none x (inl refl))

none_to : (n : Scale) (rank : ℕ) (bases : List Owned) → of_rank rank (true_overlaps n bases []) ≡ []
none_to n rank bases =
    no_members (of_rank rank (true_overlaps n bases []))
    (λ e m. (Member-from_overlaps n bases [] e (Member-from_of_rank rank (true_overlaps n bases []) e m).0).is_head)

pub none_from : (n : Scale) (rank : ℕ) (heads : List Owned) → of_rank rank (true_overlaps n [] heads) ≡ []
none_from n rank heads =
    no_members (of_rank rank (true_overlaps n [] heads))
    (λ e m. (Member-from_overlaps n [] heads e (Member-from_of_rank rank (true_overlaps n [] heads) e m).0).is_base)

-- the edges of a rank from its overlaps
module _ (rank : ℕ) (news : List Corners) (coarser : Pair) (step : IVec) (patches coarse : List (List Grid)) (rules : List Rules) (w : Renewing) (r : ℕ) where
  pub edges_with : (p : Pair) → HasOld rank news (Some p) coarser step patches coarse rules w r
      → HasEdges rank news p.forth.edges p.back.edges coarser.forth.edges coarser.back.edges step patches coarse rules w r
  edges_with p h = record {
    is = h.is;
    same_rank = h.same_rank;
    within = h.within;
    same_boxes = h.same_boxes;
    same_olds = ap (λ (v : Pair). v.forth.edges) h.same_old;
    same_old_back = ap (λ (v : Pair). v.back.edges) h.same_old;
    same_coarser = ap (λ (v : Pair). v.forth.edges) h.same_coarser;
    same_coarse_back = ap (λ (v : Pair). v.back.edges) h.same_coarser;
    same_step = h.same_step;
    has = h.has;
  }

  pub edges_without : HasOld rank news None coarser step patches coarse rules w r
      → HasEdges rank news [] [] coarser.forth.edges coarser.back.edges step patches coarse rules w r
  edges_without h =
      let n = scale w.frame w.width w.ratio w.ratio in
      let none : w.olds ≡ [] = h.same_old in
      record {
        is = h.is;
        same_rank = h.same_rank;
        within = h.within;
        same_boxes = h.same_boxes;
        same_olds = sym (ap (λ (l : List Owned). of_rank r (true_overlaps n w.news l)) none ∙ none_to n r w.news);
        same_old_back = sym (ap (λ (l : List Owned). of_rank r (true_overlaps n l w.news)) none ∙ none_from n r w.news);
        same_coarser = ap (λ (v : Pair). v.forth.edges) h.same_coarser;
        same_coarse_back = ap (λ (v : Pair). v.back.edges) h.same_coarser;
        same_step = h.same_step;
        has = h.has;
      }

-- the same of equal edges
pub edges_same : (rank : ℕ) (news : List Corners) (olds old_back coarser coarse_back olds' old_back' coarser' coarse_back' : List Link) (step : IVec) (patches coarse : List (List Grid))
    (rules : List Rules) (w : Renewing) (r : ℕ) → olds' ≡ olds → old_back' ≡ old_back → coarser' ≡ coarser → coarse_back' ≡ coarse_back
    → HasEdges rank news olds old_back coarser coarse_back step patches coarse rules w r → HasEdges rank news olds' old_back' coarser' coarse_back' step patches coarse rules w r
edges_same rank news olds old_back coarser coarse_back olds' old_back' coarser' coarse_back' step patches coarse rules w r one two three four h = record {
  is = h.is;
  same_rank = h.same_rank;
  within = h.within;
  same_boxes = h.same_boxes;
  same_olds = one ∙ h.same_olds;
  same_old_back = two ∙ h.same_old_back;
  same_coarser = three ∙ h.same_coarser;
  same_coarse_back = four ∙ h.same_coarse_back;
  same_step = h.same_step;
  has = h.has;
}

parcels_are : (w : Renewing) (r to : ℕ) → parcels_by w.step w.values w.coarse_values (old_ups w r) (coarse_ups w r) (length w.rules) to ≡ parcels w r to
unfolding parcels
parcels_are w r to = refl

map_all : (f g : ℕ → List Parcel) (xs : List ℕ) → ((k : ℕ) → f k ≡ g k) → map {B = ℕ × List Parcel} (λ k. (k, f k)) xs ≡ map {B = ℕ × List Parcel} (λ k. (k, g k)) xs
map_all f g [] same = refl
map_all f g (x ∷ xs) same =
    ap (λ (b : List Parcel). (x, b) ∷ map {B = ℕ × List Parcel} (λ k. (k, f k)) xs) (same x) ∙ ap (λ (l : List (ℕ × List Parcel)). (x, g x) ∷ l) (map_all f g xs same)

-- what code packs along some edges to this rank
abbrev pub IsPacked : IVec → List Link → List Link → List (List Grid) → List (List Grid) → ℕ → List Parcel → Type 0
IsPacked step old_back coarse_back patches coarse to body =
    (values coarse_values : ℕ → IVec → ℕ) → HaveFields values patches → HaveFields coarse_values coarse
    → body ≡ parcels_by step values coarse_values old_back coarse_back (length patches) to

abbrev pub ArePacked : IVec → List Link → List Link → List (List Grid) → List (List Grid) → List ℕ → List (ℕ × List Parcel) → Type 0
ArePacked step old_back coarse_back patches coarse addressees letters =
    (values coarse_values : ℕ → IVec → ℕ) → HaveFields values patches → HaveFields coarse_values coarse
    → letters ≡ map {B = ℕ × List Parcel} (λ to. (to, parcels_by step values coarse_values old_back coarse_back (length patches) to)) addressees

module _ (rank : ℕ) (news : List Corners) (olds old_back coarser coarse_back : List Link) (step : IVec) (patches coarse : List (List Grid)) (rules : List Rules) (w : Renewing) (r : ℕ)
    (h : HasEdges rank news olds old_back coarser coarse_back step patches coarse rules w r) (count : length patches ≡ length rules) where
  body_is : (to : ℕ) → parcels_by step w.values w.coarse_values old_back coarse_back (length patches) to ≡ parcels w r to
  body_is to =
      ap (λ (s : IVec). parcels_by s w.values w.coarse_values old_back coarse_back (length patches) to) h.same_step
      ∙ ap (λ (l : List Link). parcels_by w.step w.values w.coarse_values l coarse_back (length patches) to) h.same_old_back
      ∙ ap (λ (l : List Link). parcels_by w.step w.values w.coarse_values (old_ups w r) l (length patches) to) h.same_coarse_back
      ∙ ap (λ (n : ℕ). parcels_by w.step w.values w.coarse_values (old_ups w r) (coarse_ups w r) n to) (count ∙ ap (λ (l : List Rules). length l) h.has.same_rules)
      ∙ parcels_are w r to

  sent_are : (sent : List Link) → sent ≡ old_back ++ coarse_back → sent ≡ sends w r
  sent_are sent is =
      is
      ∙ ap (λ (l : List Link). l ++ coarse_back) h.same_old_back
      ∙ ap (λ (l : List Link). old_ups w r ++ l) h.same_coarse_back

  heard_are : (heard : List Link) → heard ≡ olds ++ coarser → heard ≡ hears w r
  heard_are heard is =
      is
      ∙ ap (λ (l : List Link). l ++ coarser) h.same_olds
      ∙ ap (λ (l : List Link). to_olds w r ++ l) h.same_coarser

  pub has_packed : (sent heard : List Link) (addressees senders : List ℕ) (boxes : List Corners) (letters : List (ℕ × List Parcel)) (mine : List Parcel)
      → sent ≡ old_back ++ coarse_back → heard ≡ olds ++ coarser → addressees ≡ other_owners rank sent → senders ≡ other_owners rank heard → boxes ≡ news
      → ArePacked step old_back coarse_back patches coarse addressees letters → IsPacked step old_back coarse_back patches coarse rank mine
      → HasPacked rank step boxes letters mine senders rules w r
  has_packed sent heard addressees senders boxes letters mine sent_is heard_is to_others from_others same_boxes others own_ones = record {
    is = h.is;
    same_rank = h.same_rank;
    within = h.within;
    same_step = h.same_step;
    same_boxes = same_boxes ∙ h.same_boxes;
    same_letters =
        others w.values w.coarse_values h.has.same_values.same h.has.coarse_values.same
        ∙ map_all (λ to. parcels_by step w.values w.coarse_values old_back coarse_back (length patches) to) (λ to. parcels w r to) addressees body_is
        ∙ ap (λ (l : List ℕ). map {B = ℕ × List Parcel} (λ to. (to, parcels w r to)) l)
        (to_others ∙ ap (λ (k : ℕ). other_owners k sent) h.same_rank ∙ ap (λ (l : List Link). other_owners r l) (sent_are sent sent_is));
    same_own =
        own_ones w.values w.coarse_values h.has.same_values.same h.has.coarse_values.same ∙ body_is rank ∙ ap (λ (k : ℕ). parcels w r k) h.same_rank;
    same_senders = from_others ∙ ap (λ (k : ℕ). other_owners k heard) h.same_rank ∙ ap (λ (l : List Link). other_owners r l) (heard_are heard heard_is);
    same_rules = h.has.same_rules;
  }

-- and once it has told them
pub has_told : (rank : ℕ) (step : IVec) (boxes : List Corners) (letters : List (ℕ × List Parcel)) (mine : List Parcel) (senders : List ℕ) (rules : List Rules) (w : Renewing) (r : ℕ)
    → HasPacked rank step boxes letters mine senders rules w r → Waits rank step boxes mine senders rules w r
has_told rank step boxes letters mine senders rules w r h = record {
  is = h.is;
  same_rank = h.same_rank;
  within = h.within;
  same_step = h.same_step;
  same_boxes = h.same_boxes;
  same_own = h.same_own;
  same_senders = h.same_senders;
  same_rules = h.same_rules;
}
