use Rattle.std.proofs.Common.{◌≡◌, ◌∙◌, ap, arith, ◌+◌, w64}
use Rattle.std.proofs.lemmas.Int.{to_z-of_z}
use Rattle.samr_generate.specs.Draws.{generator}
use Rattle.samr_generate.proofs.DrawLaws.{ball_is}
use Rattle.samr_generate.proofs.problem.next_ball.Goals as goal

pub returns-clause-value : goal.returns-clause-value
returns-clause-value c = λ seed n is.
    let at1 = c.coordinate-i.ensures.next seed n is in
    let at2 = c.coordinate-j.ensures.next seed (n + 1) at1 in
    let at3 = c.radius-radius.ensures.next seed (n + 1 + 1) at2 in
    let at4 = c.speed-along_i.ensures.next seed (n + 1 + 1 + 1) at3 in
    ball_is seed c.args.size n _ _ _ _ _ _ _
    (to_z-of_z w64 c.coordinate-i.result (record { sfits = c.coordinate-i.type_inv }) ∙ c.coordinate-i.ensures.value seed n is)
    (to_z-of_z w64 c.coordinate-j.result (record { sfits = c.coordinate-j.type_inv }) ∙ c.coordinate-j.ensures.value seed (n + 1) at1)
    (to_z-of_z w64 c.radius-radius.result (record { sfits = c.radius-radius.type_inv }) ∙ c.radius-radius.ensures.value seed (n + 1 + 1) at2)
    (to_z-of_z w64 c.speed-along_i.result (record { sfits = c.speed-along_i.type_inv }) ∙ c.speed-along_i.ensures.value seed (n + 1 + 1 + 1) at3)
    (to_z-of_z w64 c.speed-along_j.result (record { sfits = c.speed-along_j.type_inv }) ∙ c.speed-along_j.ensures.value seed (n + 1 + 1 + 1 + 1) at4)
    c.flat.ensures c.flat-2.ensures

pub returns-clause-next : goal.returns-clause-next
returns-clause-next c = λ seed n is.
    let at1 = c.coordinate-i.ensures.next seed n is in
    let at2 = c.coordinate-j.ensures.next seed (n + 1) at1 in
    let at3 = c.radius-radius.ensures.next seed (n + 1 + 1) at2 in
    let at4 = c.speed-along_i.ensures.next seed (n + 1 + 1 + 1) at3 in
    let five : n + 1 + 1 + 1 + 1 + 1 ≡ n + 5 = omega arith in
    c.speed-along_j.ensures.next seed (n + 1 + 1 + 1 + 1) at4 ∙ ap (generator seed) five
