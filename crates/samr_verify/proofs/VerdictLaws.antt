-- The walk over the lines of a text: what the lines read so far leave to the lines behind them.
use Rattle.std.proofs.Common.{◌≡◌, ℕ, ◌+◌, List, [], ◌∷◌, Option, Some, None, Result, Ok, Err, refl, sym, ap, subst, ◌∙◌, arith}
use Rattle.samr_problem.specs.Fields.{Fields}
use Rattle.samr_verify.specs.declared.gathering.Gathered.{Gathered}
use Rattle.samr_verify.specs.declared.line.Line.{Line}
use Rattle.samr_verify.specs.declared.place.Place.{Place}
use Rattle.samr_verify.specs.declared.place.Place.TheVariants.{Begun}
use Rattle.samr_verify.specs.declared.line.Line.TheVariants.{First, Step, LevelOf, BoxOf, EdgeOf, RowOf, SumOf, ProbeOf, End}
use Rattle.samr_verify.specs.declared.printed.PrintedLevel.{PrintedLevel}
use Rattle.samr_verify.specs.ReportLines.{IsMeaning}
use Rattle.samr_verify.specs.Cutting.{lines_of, AreMeanings, none, more}
use Rattle.samr_verify.specs.Form.{meant as meant_at, next_fault, form_fault}
use Rattle.samr_verify.specs.Gathering.{nothing, joined, ended_by, ended, taken, gathered, Fewer}
use Rattle.samr_verify.specs.Standing.{moved_to, stand, gathered_on, end_fault, told, concluded_by, concluded}
use Rattle.samr_verify.specs.Verdicts.{IsVerdict}
use Rattle.samr_verify.proofs.GatheringLaws.{report_told}

-- the fault of form of the lines left, from where a report stands
abbrev pub form_from : Fields → Result Place ℕ → ℕ → List (Option Line) → Option ℕ
form_from p (Err amiss) n later = Some amiss
form_from p (Ok place) n later = form_fault p place n later

stands_on : (p : Fields) (standing : Result Place ℕ) (n : ℕ) (o : Option Line) (later : List (Option Line))
    → form_from p standing n (o ∷ later) ≡ form_from p (stand p standing n o) (n + 1) later
unfolding form_fault
stands_on p (Err amiss) n o later = refl
stands_on p (Ok place) n o later = by_place (meant_at p place o)
  where
    by_place : (m : Option Place) → next_fault m n (λ next. form_fault p next (n + 1) later) ≡ form_from p (moved_to m n) (n + 1) later
    by_place None = refl
    by_place (Some next) = refl

-- all lines of a text, of which some are left
pub record Whole (p : Fields) (text : List ℕ) (standing : Result Place ℕ) (known : Gathered) (n : ℕ) (later : List (Option Line)) : Type 0 where
  pub all : List (Option Line)
  pub meant : AreMeanings p.levels (lines_of text) all
  pub formed : form_fault p Begun 1 all ≡ form_from p standing n later
  pub told : (place : Place) → standing ≡ Ok place → gathered p nothing 1 all ≡ gathered p known n later

abbrev pub Walked : Fields → List ℕ → List ℕ → Result Place ℕ → Gathered → ℕ → Type 0
Walked p text rest standing known n = (later : List (Option Line)) → AreMeanings p.levels (lines_of rest) later → Whole p text standing known n later

pub walk_begins : (p : Fields) (text : List ℕ) → Walked p text text (Ok Begun) nothing 1
walk_begins p text later are = record { all = later; meant = are; formed = refl; told = λ place is. refl }

moves : (p : Fields) (standing : Result Place ℕ) (known : Gathered) (n : ℕ) (o : Option Line) (later : List (Option Line)) (next : Place) → stand p standing n o ≡ Ok next
    → gathered p known n (o ∷ later) ≡ gathered p (gathered_on p (stand p standing n o) known n o) (n + 1) later
unfolding gathered
moves p standing known n None later next is = ap (λ s. gathered p (gathered_on p s known n None) (n + 1) later) (sym is)
moves p standing known n (Some line) later next is = ap (λ s. gathered p (gathered_on p s known n (Some line)) (n + 1) later) (sym is)

stood : (p : Fields) (standing : Result Place ℕ) (n : ℕ) (o : Option Line) (next : Place) → stand p standing n o ≡ Ok next → (place : Place) × (standing ≡ Ok place)
stood p (Err amiss) n o next is = absurd (cc is)
stood p (Ok place) n o next is = (place, refl)

pub walk_goes_on : (p : Fields) (text rest line others : List ℕ) (standing : Result Place ℕ) (known : Gathered) (n m : ℕ) (o : Option Line) → m ≡ n + 1
    → lines_of rest ≡ line ∷ lines_of others → IsMeaning p.levels line o → Walked p text rest standing known n
    → Walked p text others (stand p standing n o) (gathered_on p (stand p standing n o) known n o) m
walk_goes_on p text rest line others standing known n m o count cut is walked later are =
    let w = walked (o ∷ later) (subst (λ ls. AreMeanings p.levels ls (o ∷ later)) (sym cut) (more line o (lines_of others) later is are)) in
    subst (λ k. Whole p text (stand p standing n o) (gathered_on p (stand p standing n o) known n o) k later) (sym count) (record {
      all = w.all;
      meant = w.meant;
      formed = w.formed ∙ stands_on p standing n o later;
      told = λ next stands.
          let before = stood p standing n o next stands in
          w.told before.0 before.1 ∙ moves p standing known n o later next stands;
    })

-- the end
ended_form : (p : Fields) (standing : Result Place ℕ) (n : ℕ) → form_from p standing n [] ≡ end_fault standing n
unfolding form_fault
ended_form p (Err amiss) n = refl
ended_form p (Ok place) n = refl

no_text : (p : Fields) (rest : List ℕ) → rest ≡ [] → AreMeanings p.levels (lines_of rest) []
unfolding lines_of
no_text p rest is = subst (λ t. AreMeanings p.levels (lines_of t) []) (sym is) none

no_lines : (p : Fields) (g : Gathered) (n : ℕ) → gathered p g n [] ≡ g
unfolding gathered
no_lines p g n = refl

stands_well : (standing : Result Place ℕ) (n : ℕ) → end_fault standing n ≡ None → (place : Place) × (standing ≡ Ok place)
stands_well (Err amiss) n is = absurd (cc is)
stands_well (Ok place) n is = (place, refl)

pub walk_ends : (p : Fields) (text rest : List ℕ) (standing : Result Place ℕ) (known : Gathered) (n : ℕ) → rest ≡ [] → Walked p text rest standing known n
    → IsVerdict p text (concluded standing n known)
walk_ends p text rest standing known n empty walked =
    let w = walked [] (no_text p rest empty) in
    let form_is = w.formed ∙ ended_form p standing n in
    record {
      lines = w.all;
      meant = w.meant;
      ill_formed = λ k is. ap (λ o. concluded_by o known) (sym form_is ∙ is);
      formed = λ r is report same.
          let none_is = sym form_is ∙ is in
          let well = stands_well standing n none_is in
          ap (λ o. concluded_by o known) none_is ∙ ap told (sym (w.told well.0 well.1 ∙ no_lines p known n))
          ∙ ap (λ os. told (gathered p nothing 1 os)) (sym same) ∙ report_told p r report;
    }

-- of each there are fewer than lines
pub none_fewer : Fewer nothing 1
none_fewer = record { meshes = omega arith; boxes = omega arith; edges = omega arith }

later : (g : Gathered) (n : ℕ) → Fewer g n → Fewer g (n + 1)
later g n f = record { meshes = omega (arith, f.meshes); boxes = omega (arith, f.boxes); edges = omega (arith, f.edges) }

ended_fewer : (p : Fields) (g : Gathered) (n : ℕ) (vs : List PrintedLevel) → Fewer g n → Fewer (ended_by p g vs) (n + 1)
ended_fewer p g n [] f = record { meshes = omega (arith, f.meshes); boxes = omega (arith, f.boxes); edges = omega (arith, f.edges) }
ended_fewer p g n (v ∷ vs) f = record { meshes = omega (arith, f.meshes); boxes = omega (arith, f.boxes); edges = omega (arith, f.edges) }

taken_fewer : (p : Fields) (g : Gathered) (n : ℕ) (line : Line) → Fewer g n → Fewer (taken p g n line) (n + 1)
unfolding taken ended
taken_fewer p g n (First ranks levels width) f = record { meshes = omega (arith, f.meshes); boxes = omega (arith, f.boxes); edges = omega (arith, f.edges) }
taken_fewer p g n (Step t) f = ended_fewer p g n (joined g.levels g.level) f
taken_fewer p g n (LevelOf l b c) f = record { meshes = omega (arith, f.meshes); boxes = omega (arith, f.boxes); edges = omega (arith, f.edges) }
taken_fewer p g n (BoxOf l b) f = record { meshes = omega (arith, f.meshes); boxes = omega (arith, f.boxes); edges = omega (arith, f.edges) }
taken_fewer p g n (EdgeOf l m e) f = record { meshes = omega (arith, f.meshes); boxes = omega (arith, f.boxes); edges = omega (arith, f.edges) }
taken_fewer p g n (RowOf l r) f = later g n f
taken_fewer p g n (SumOf a l b v) f = later g n f
taken_fewer p g n (ProbeOf a m v) f = later g n f
taken_fewer p g n End f = ended_fewer p g n (joined g.levels g.level) f

pub gathered_fewer : (p : Fields) (standing : Result Place ℕ) (g : Gathered) (n : ℕ) (o : Option Line) → Fewer g n → Fewer (gathered_on p standing g n o) (n + 1)
gathered_fewer p (Err amiss) g n o f = later g n f
gathered_fewer p (Ok place) g n None f = later g n f
gathered_fewer p (Ok place) g n (Some line) f = taken_fewer p g n line f

-- a step of the walk, and its end, as the code makes them
pub walk_step : (p : Fields) (text rest line others : List ℕ) (standing now : Result Place ℕ) (known after : Gathered) (n : ℕ) (o : Option Line)
    → lines_of rest ≡ line ∷ lines_of others → IsMeaning p.levels line o → now ≡ stand p standing n o → after ≡ gathered_on p now known n o
    → Walked p text rest standing known n → Walked p text others now after (n + 1)
walk_step p text rest line others standing now known after n o cut is stands gathers walked =
    subst (λ k. Walked p text others now k (n + 1)) (sym gathers)
    (subst (λ s. Walked p text others s (gathered_on p s known n o) (n + 1)) (sym stands) (walk_goes_on p text rest line others standing known n (n + 1) o refl cut is walked))

pub fewer_step : (p : Fields) (standing : Result Place ℕ) (known after : Gathered) (n : ℕ) (o : Option Line) → after ≡ gathered_on p standing known n o → Fewer known n → Fewer after (n + 1)
fewer_step p standing known after n o gathers f = subst (λ k. Fewer k (n + 1)) (sym gathers) (gathered_fewer p standing known n o f)
