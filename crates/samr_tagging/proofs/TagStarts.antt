-- What a rank has when the tags of the shapes begin.
use Rattle.std.proofs.Common.{◌≡◌, ℕ, ◌∙◌, ap, sym, subst, arith}
use Rattle.std.proofs.lemmas.Int.{ints}
use Rattle.std.specs.Prelude.{ℤ, pos, negsuc, ◌≤ℤ◌, ◌<◌, Bool, List}
use Rattle.std.specs.List.{All}
use Rattle.samr_box.specs.declared.vector.IVec.{IVec}
use Rattle.samr_box.specs.Vector.{alike, AtMost, InRange}
use Rattle.samr_box.specs.Corners.{Corners, Holds}
use Rattle.samr_box.specs.Lists.{Member}
use Rattle.samr_box.specs.Space.{Space}
use Rattle.samr_box.proofs.Members.{All-from_members}
use Rattle.samr_box.proofs.Vectors.{AtMost-trans}
use Rattle.samr_level.specs.declared.parts.Pair.{Pair}
use Rattle.samr_level.specs.Refs.{Owned, Link}
use Rattle.samr_level.specs.Overlaps.{scale, true_overlaps}
use Rattle.samr_level.specs.Levels.{own_boxes}
use Rattle.samr_level.proofs.Overlapping.{Member-from_overlaps, Member-from_of_rank}
use Rattle.samr_tags.specs.BufferParts.{HasSelves}
use Rattle.samr_problem.specs.Fields.{Fields}
use Rattle.samr_mesh.specs.Domains.{area_of, ratio_to}
use Rattle.samr_mesh.specs.Meshes.{level_at}
use Rattle.samr_mesh.specs.Passes.{Pass, tagging, shape_at}
use Rattle.samr_mesh.specs.Soundness.{CanRun}
use Rattle.samr_mesh.proofs.Tagged.{tags_can}
use Rattle.samr_msg.specs.Places.{AtPass}
use Rattle.samr_regrid.specs.declared.level.Level.{Level}
use Rattle.samr_regrid.specs.Asking.{IsServed, IsOwnCell, asked_mesh}
use Rattle.samr_regrid.specs.Ranks.{level_part, pair_at}
use Rattle.samr_regrid.specs.Standing.{IsPassOf, standing}
use Rattle.samr_regrid.proofs.PassesAbove.{asked_level}

-- widths up to that of the overlaps are in range
small_in_range : (x : IVec) → AtMost (alike (pos 0)) x → AtMost x (alike (pos 4194304)) → InRange x
small_in_range x low high =
    let below : (a : ℤ) → pos 0 ≤ℤ a → negsuc 1073741823 ≤ℤ a = λ a l. omega (arith, ints, l) in
    let above : (a : ℤ) → a ≤ℤ pos 4194304 → a ≤ℤ pos 1073741824 = λ a l. omega (arith, ints, l) in
    record {
      low = record { k = below x.k low.k; j = below x.j low.j; i = below x.i low.i };
      high = record { k = above x.k high.k; j = above x.j high.j; i = above x.i high.i };
    }

buffer_small : (p : Fields) (w : Pass) → CanRun p w → InRange p.tag_buffer
buffer_small p w run =
    small_in_range p.tag_buffer run.can.buffer (AtMost-trans run.can.buffer_width (AtMost-trans run.can.width (AtMost-trans run.can.here.wide run.can.here.small)))

pub buffer_in_range : (p : Fields) (w : Pass) (buffer : IVec) → CanRun p w → buffer ≡ p.tag_buffer → InRange buffer
buffer_in_range p w buffer run same = subst InRange (sym same) (buffer_small p w run)

module _ (w : AtPass) (r : ℕ) (is : IsPassOf w) (may_tell : ℕ → ℕ → IVec → Type 0) (is_tagged : ℕ → ℕ → IVec → Bool) (may_first : ℕ → IVec → Type 0) (first : ℕ → IVec → ℕ) (served : IsServed may_tell is_tagged may_first first w.at.setting r) where
  -- the cells of the rank's own boxes of the level
  own_cell : (b : Owned) (x : IVec) → Member b w.pass.level → b.owner ≡ r → Holds b.bx x → IsOwnCell (level_at (asked_mesh w.at.setting w.at.step) w.pass.number) r x
  own_cell b x m own h = subst (λ level. IsOwnCell level r x) (sym (asked_level w is)) (b, m, own, h)

  told_there : (e : Link) → Member e (pair_at w.at.setting.problem w.pass.level w.pass.number w.pass.level w.pass.number r).forth.edges → (x : IVec) → Holds e.base.bx x → may_tell w.pass.number w.at.step x
  told_there e m x h =
      let p = w.at.setting.problem in
      let n = scale (area_of p).frame p.width (ratio_to p w.pass.number) (ratio_to p w.pass.number) in
      let of = Member-from_of_rank r (true_overlaps n w.pass.level w.pass.level) e m in
      let base = (Member-from_overlaps n w.pass.level w.pass.level e of.0).is_base in
      (served.tags w.pass.number w.at.step x (own_cell e.base x base of.1 h)).0

  old_selves : (old : Level) → old ≡ level_part w.at.setting.problem (standing w.at w.number) r w.pass.number
      → old.selves ≡ pair_at w.at.setting.problem w.pass.level w.pass.number w.pass.level w.pass.number r
  old_selves old same =
      ap (λ (l : Level). l.selves) same
      ∙ ap (λ (level : List Owned). pair_at w.at.setting.problem level w.pass.number level w.pass.number r) is.same_level

  pub told_all : (old : Level) (level step : ℕ) → old ≡ level_part w.at.setting.problem (standing w.at w.number) r w.pass.number → level ≡ w.pass.number → step ≡ w.at.step
      → All (λ e. (x : IVec) → Holds e.base.bx x → may_tell level step x) old.selves.forth.edges
  told_all old level step same here now =
      let edges = (pair_at w.at.setting.problem w.pass.level w.pass.number w.pass.level w.pass.number r).forth.edges in
      let Told : ℕ → ℕ → Link → Type 0 = λ l s e. (x : IVec) → Holds e.base.bx x → may_tell l s x in
      let all : All (Told w.pass.number w.at.step) edges = All-from_members (Told w.pass.number w.at.step) edges told_there in
      subst (λ (pair : Pair). All (Told level step) pair.forth.edges) (sym (old_selves old same))
      (subst (λ s. All (Told level s) edges) (sym now) (subst (λ l. All (Told l w.at.step) edges) (sym here) all))

  pub buffer_begins : (old : Level) (rank ranks level step : ℕ) (frame : Space) (boxes : List Corners) (buffer : IVec) → r < w.at.setting.ranks
      → old ≡ level_part w.at.setting.problem (standing w.at w.number) r w.pass.number → rank ≡ r → ranks ≡ w.pass.ranks → level ≡ w.pass.number → step ≡ w.at.step
      → frame ≡ (area_of w.at.setting.problem).frame → boxes ≡ old.boxes → buffer ≡ w.at.setting.problem.tag_buffer
      → HasSelves rank ranks frame boxes old.selves (is_tagged level step) buffer (tagging w.at.setting.problem w.pass) r
  buffer_begins old rank ranks level step frame boxes buffer within same own many here now space listed wide = record {
    owned = (tags_can w.at.setting.problem w.pass is.can).owned;
    same_rank = own;
    same_ranks = many;
    within = subst (λ n. r < n) (sym is.same_ranks) within;
    same_frame = space;
    same_boxes = listed ∙ ap (λ (l : Level). l.boxes) same ∙ ap (own_boxes r) is.same_level;
    same_selves = old_selves old same;
    same_buffer = wide;
    same_shape = λ b x m o h.
        ap (λ l. is_tagged l step x) here ∙ ap (λ s. is_tagged w.pass.number s x) now ∙ (served.tags w.pass.number w.at.step x (own_cell b x m o h)).1
        ∙ ap (λ s. shape_at w.at.setting.problem s w.pass.number x) (sym is.same_step);
  }
