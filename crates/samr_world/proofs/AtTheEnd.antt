-- The programs of a world that has finished.
use Rattle.std.proofs.Common.{◌≡◌, ℕ, ◌≤◌, length, map, ◌∙◌, subst, arith, Bool, true, not, Some, slice_get}
use Rattle.std.proofs.lemmas.List.{length-map}
use Rattle.samr_stage.specs.declared.mail.Mail as letter
use Rattle.samr_stage.specs.declared.program.Program as actor
use Rattle.samr_stage.specs.Machine.{State}
use Rattle.samr_world.specs.World.{Shape, StandsIn, IsFinished, IsAtEnd, HasEnded}
use Rattle.samr_world.proofs.InPlace.{All-get, get_map}

module _ {P M R : Type 0} (p : actor.Ghosts P M R) (m : letter.Ghosts M R) (r : R) (w : Shape P M) (finished : IsFinished p m w) (stands : StandsIn p m r w) where
  at_end : (rank : ℕ) (s : State P M) → slice_get w.machines rank ≡ Some s → IsAtEnd p m r rank s.program
  at_end rank s got =
      let at = stands.team rank s got in
      let over = All-get (λ t. t.over ≡ true) w.machines rank s got finished in
      let K : R → ℕ → Type 0 = λ q i. length ((m.course q).labels i) ≤ p.place s.program in
      let Ends : Bool → Type 0 = λ b. p.stands s.program (not b) in
      let done = subst (K r) at.same_rank (subst (λ q. K q (p.rank_of s.program)) at.same_run (at.sound.over.0 over)) in
      let within = at.within in
      record {
        same_run = at.same_run;
        same_rank = at.same_rank;
        at_end = omega (arith, done, within);
        stands = subst Ends over at.sound.stands;
      }

  pub has_ended : HasEnded p m r (map (λ s. s.program) w.machines)
  has_ended =
      let program : State P M → P = λ s. s.program in
      record {
        ranks = length-map w.machines program ∙ stands.ranks;
        ended = λ rank x got.
            let found = get_map program w.machines rank x got in
            let K : P → Type 0 = λ y. IsAtEnd p m r rank y in
            subst K found.2 (at_end rank found.0 found.1);
      }
