-- The stages of all ranks, made one after another in order of rank, and what they give.
use Rattle.std.proofs.Common.{◌≡◌, ℕ, ◌+◌, ◌<◌, List, [], ◌∷◌, ◌++◌, length, get_or, sym, ap, ◌∙◌, subst, arith, inl, inr, Some, slice_get, slice_index, sum, All}
use Rattle.std.proofs.lemmas.Option.{slice_get-get_or, get_or_from_slice_get}
use Rattle.samr_stage.specs.Exchange.{AreResults}
use Rattle.samr_stage.proofs.Mailboxes.{slice_get-push_cases}
use Rattle.samr_tree.specs.SumUp.{summed}
use Rattle.samr_tree.specs.TellDown.{informed}
use Rattle.samr_tree.specs.TreeSum.{rounds_down, sums_at, tellings_at}
use Rattle.samr_tree.specs.OnAll.{AreNumbers}
use Rattle.samr_tree.proofs.TreeTotals.{next_at, told_next_at, all_after}

-- one more element, at the place that is its number
pub each_more : {X : Type 0} (P : ℕ → X → Type 0) (xs ys : List X) (n : ℕ) (x : X) → length xs ≡ n → ((k : ℕ) (y : X) → slice_get xs k ≡ Some y → P k y) → P n x → ys ≡ xs ++ x ∷ [] → (k : ℕ) (y : X) → slice_get ys k ≡ Some y → P k y
each_more P xs ys n x len before here is k y got =
    elim (slice_get-push_cases xs x y k (ap (λ zs. slice_get zs k) (sym is) ∙ got)) [
      | inl last ↦ subst (λ m. P m y) (sym (last.0 ∙ len)) (subst (P n) last.1 here)
      | inr there ↦ before k y there
    ]

-- a rank's number among all
pub number_read : (number : ℕ → ℕ) (ranks : ℕ) (numbers : List ℕ) → AreNumbers number ranks numbers → (k rank : ℕ) → k ≡ rank → rank < ranks → get_or numbers k 0 ≡ number rank
number_read number ranks numbers are k rank same within =
    are.each rank (get_or numbers k 0) (slice_get-get_or numbers rank 0 (omega (arith, are.same_ranks)) ∙ ap (λ i. Some (get_or numbers i 0)) (sym same))

-- the ranks' own numbers
pub own_numbers : (values numbers : List ℕ) → numbers ≡ values → AreNumbers (sums_at values 0).number (length values) numbers
own_numbers values numbers same = record {
  same_ranks = ap length same;
  each = λ rank out got. sym (ap (λ xs. slice_index xs rank) (sym same) ∙ get_or_from_slice_get numbers rank out 0 got);
}

-- what the ranks have after a round
pub after_up : (values : List ℕ) (round : ℕ) (outs : List ℕ) → length outs ≡ length values → AreResults (λ w rank out. out ≡ summed w rank) (sums_at values round) outs → AreNumbers (sums_at values (round + 1)).number (length values) outs
after_up values round outs len results = record {
  same_ranks = len;
  each = λ rank out got. results rank out got ∙ sym (next_at values round rank);
}

pub after_down : (values : List ℕ) (round : ℕ) (outs : List ℕ) → length outs ≡ length values → AreResults (λ w rank out. out ≡ informed w rank) (tellings_at values round) outs → AreNumbers (tellings_at values (round + 1)).number (length values) outs
after_down values round outs len results = record {
  same_ranks = len;
  each = λ rank out got. results rank out got ∙ sym (told_next_at values round rank);
}

-- after all rounds each has the sum
pub all_have : (values : List ℕ) (round : ℕ) (numbers : List ℕ) → round ≡ rounds_down values → AreNumbers (tellings_at values round).number (length values) numbers → All (λ total. total ≡ sum values) numbers
all_have values round numbers last are = λ k d within.
    let got = slice_get-get_or numbers k d within in
    are.each k (get_or numbers k d) got ∙ ap (λ i. (tellings_at values i).number k) last ∙ all_after values k (omega (arith, within, are.same_ranks))
