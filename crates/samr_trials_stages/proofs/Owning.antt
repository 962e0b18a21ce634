-- From tests that the ranks own all boxes.
use Rattle.std.proofs.Common.{◌≡◌, ℕ, ◌<◌, sym, subst, inl, inr}
use Rattle.std.proofs.lemmas.Bool.{and_parts, ltb-true}
use Rattle.std.specs.Prelude.{true, ◌&&◌, List, [], ◌∷◌, nat_lt}
use Rattle.std.specs.List.{list_all}
use Rattle.samr_box.specs.Lists.{Member}
use Rattle.samr_level.specs.declared.parts.Move.{Move}
use Rattle.samr_level.specs.Refs.{Owned}
use Rattle.samr_modify.specs.Modify.{Own}

pub own_from : (ranks : ℕ) (level : List Owned) → list_all (λ b. nat_lt b.owner ranks) level ≡ true → Own ranks level
own_from ranks [] t b m = absurd m
own_from ranks (x ∷ xs) t b (inl e) =
    let p = and_parts (nat_lt x.owner ranks) (list_all (λ b. nat_lt b.owner ranks) xs) t in
    subst (λ (v : Owned). v.owner < ranks) (sym e) (ltb-true x.owner ranks p.0)
own_from ranks (x ∷ xs) t b (inr m) =
    let p = and_parts (nat_lt x.owner ranks) (list_all (λ b. nat_lt b.owner ranks) xs) t in
    own_from ranks xs p.1 b m

pub moves_from : (ranks : ℕ) (moves : List Move) → list_all (λ m. nat_lt m.old.owner ranks && list_all (λ b. nat_lt b.owner ranks) m.news) moves ≡ true
    → (m : Move) → Member m moves → (m.old.owner < ranks) × Own ranks m.news
moves_from ranks [] t m h = absurd h
moves_from ranks (x ∷ xs) t m (inl e) =
    let p = and_parts (nat_lt x.old.owner ranks && list_all (λ b. nat_lt b.owner ranks) x.news) (list_all (λ m. nat_lt m.old.owner ranks && list_all (λ b. nat_lt b.owner ranks) m.news) xs) t in
    let q = and_parts (nat_lt x.old.owner ranks) (list_all (λ b. nat_lt b.owner ranks) x.news) p.0 in
    subst (λ (v : Move). (v.old.owner < ranks) × Own ranks v.news) (sym e) (ltb-true x.old.owner ranks q.0, own_from ranks x.news q.1)
moves_from ranks (x ∷ xs) t m (inr h) =
    let p = and_parts (nat_lt x.old.owner ranks && list_all (λ b. nat_lt b.owner ranks) x.news) (list_all (λ m. nat_lt m.old.owner ranks && list_all (λ b. nat_lt b.owner ranks) m.news) xs) t in
    moves_from ranks xs p.1 m h
