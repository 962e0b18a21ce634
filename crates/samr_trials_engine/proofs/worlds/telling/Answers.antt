use Rattle.std.proofs.Common.{◌≡◌, ℕ, zero, suc, ◌<◌, List, [], ◌∷◌, ◌++◌, false, refl, sym, ap, ◌∙◌, subst, arith, Some, slice_get}
use Rattle.samr_trials_engine.specs.declared.teller.Teller.{Teller}
use Rattle.samr_trials_engine.specs.contracts.teller.TellerProgram.TheImpl as program
use Rattle.samr_trials_engine.specs.contracts.teller.ToldMail.TheImpl as letter
use Rattle.samr_world.specs.World.{IsFresh, IsTeam}
use Rattle.samr_trials_engine.proofs.worlds.telling.Goals as goal

abbrev at_rank : ℕ → Teller
at_rank rank = record { rank = rank; number = 7; left = false }

fresh : (rank : ℕ) → rank < 2 → IsFresh program.ghosts letter.ghosts 7 rank (at_rank rank)
fresh rank below = record { same_run = refl; same_rank = refl; at_first = refl; stands = below }

all_fresh : (rank : ℕ) (teller : Teller) → slice_get (at_rank 0 ∷ at_rank 1 ∷ []) rank ≡ Some teller → IsFresh program.ghosts letter.ghosts 7 rank teller
all_fresh zero teller got =
    let same : at_rank 0 ≡ teller = cc in
    let K : Teller → Type 0 = λ t. IsFresh program.ghosts letter.ghosts 7 0 t in
    subst K same (fresh 0 (omega arith))
all_fresh (suc zero) teller got =
    let same : at_rank 1 ≡ teller = cc in
    let K : Teller → Type 0 = λ t. IsFresh program.ghosts letter.ghosts 7 1 t in
    subst K same (fresh 1 (omega arith))
all_fresh (suc (suc k)) teller got = cc

team : IsTeam program.ghosts letter.ghosts 7 (at_rank 0 ∷ at_rank 1 ∷ [])
team = record { ranks = refl; fresh = all_fresh }

pub new-requires : goal.new-requires
new-requires c =
    let K : List Teller → Type 0 = λ ts. IsTeam program.ghosts letter.ghosts 7 ts in
    let first : c.push.new.self.items ≡ at_rank 0 ∷ [] = c.in_ok-push.ensures.items ∙ ap (λ ts. ts ++ c.new_teller.result ∷ []) c.new-tellers.ensures.items ∙ ap (λ t. t ∷ []) c.new_teller.ensures in
    let both : c.push-2.new.self.items ≡ at_rank 0 ∷ at_rank 1 ∷ [] = c.in_ok-push-2.ensures.items ∙ ap (λ ts. ts ++ c.new_teller-2.result ∷ []) first ∙ ap (λ t. at_rank 0 ∷ t ∷ []) c.new_teller-2.ensures in
    (7, subst K (sym both) team)
