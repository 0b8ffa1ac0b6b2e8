-- Whether a counter was made tells whether it was laid over a buffer with an element for each state.
use Rattle.std.proofs.Common.{◌≡◌, ℕ, ◌<◌, ◌≤◌, true, false, ◌&&◌, ltb, leb, List, [], ◌∷◌, length, Ok, Err, Result, sym, ◌∙◌, inl, inr, arith}
use Rattle.std.proofs.lemmas.Bool.{cases_lt, le-leb, lt-leb}
use Rattle.std.proofs.lemmas.Bool.Decides.{nat_tests}
use Rattle.algebra_scalars.specs.declared.count.Count.{Count}
use Rattle.code.specs.declared.description.Code.{Code}
use Rattle.code.specs.Codes.{states}
use Rattle.code.proofs.Sizes.{states_positive}
use Rattle.refusal.specs.declared.Refusal.{Refusal}
use Rattle.refusal.specs.declared.Refusal.TheVariants.{Memory}
use Rattle.refusal.specs.Questions.{once, asked}
use Rattle.refusal.proofs.Questions.{asked_yes, asked_no}
use Rattle.run_counter.specs.declared.Counter.{Counter}
use Rattle.run_counter.specs.Counter.{Counts, Laid, made, MadeRoom}

-- whether a counter was made
module _ (k : Counter) where
  made_yes : 0 < k.run.size → k.run.size ≤ length k.run.state.now → made k ≡ Ok tt
  made_yes h fits =
      let t : (ltb 0 k.run.size && ltb 0 (length k.run.state.now)) ≡ true = grind (arith, nat_tests) in
      asked_yes (once (ltb 0 k.run.size && ltb 0 (length k.run.state.now)) Memory) [] tt (λ p l. t)

  made_no : k.run.size ≡ 0 → made k ≡ Err Memory
  made_no e =
      let t : (ltb 0 k.run.size && ltb 0 (length k.run.state.now)) ≡ false = grind (arith, nat_tests) in
      asked_no (once (ltb 0 k.run.size && ltb 0 (length k.run.state.now)) Memory) [] tt 0 (omega arith) t (λ q l. absurd (omega arith))

  counts_made : (c : Code) (ys : List ℕ) → Counts c ys k → made k ≡ Ok tt
  counts_made c ys h = made_yes (omega (arith, h.holds.sized, states_positive c)) h.holds.fits

  laid_made : (c : Code) (buffer : List Count) → Laid c buffer k → made k ≡ asked (once (leb (states c) (length buffer)) Memory ∷ []) tt
  laid_made c buffer h =
      elim (cases_lt (length buffer) (states c)) [
        | inl few ↦
            made_no (h.short few).0 ∙ sym (asked_no (once (leb (states c) (length buffer)) Memory) [] tt 0 (omega arith) (lt-leb _ _ few) (λ q l. absurd (omega arith)))
        | inr enough ↦ counts_made c [] (h.begins enough) ∙ sym (asked_yes (once (leb (states c) (length buffer)) Memory) [] tt (λ p l. le-leb _ _ enough))
      ]

  pub made_room : (o : Result Unit Refusal) → o ≡ made k → MadeRoom k o
  made_room o e = record { laid = λ c buffer h. e ∙ laid_made c buffer h; counts = λ c ys h. e ∙ counts_made c ys h }
