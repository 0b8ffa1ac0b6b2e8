-- A decode answers, and writes, what the plain frame does; and equal symbols decode alike.
use Rattle.std.proofs.Common.{◌≡◌, ℕ, ◌<◌, Bool, true, ◌&&◌, eqb, ltb, List, [], ◌∷◌, ◌++◌, length, drop, is_some, Some, None, Ok, Err, Option, Result, unwrap_or, sym, refl, ap, ◌∙◌, subst, arith}
use Rattle.std.proofs.lemmas.Bool.Decides.{nat_tests}
use Rattle.refusal.specs.declared.Refusal.{Refusal}
use Rattle.refusal.specs.declared.Refusal.TheVariants.{Memory, NoPath, Place, Rows}
use Rattle.refusal.specs.Questions.{Question, once, asked}
use Rattle.refusal.proofs.Questions.{asked_yes, asked_no, passed_first, passed_rest, asked_first}
use Rattle.code.specs.declared.description.Code.{Code}
use Rattle.code.specs.Codes.{states}
use Rattle.frame_paths.specs.Rows.{decoded}
use Rattle.frame_paths.proofs.Decodes.{frame_decodes, frame_decodes_none}
use Rattle.frame_rows.specs.Traces.{Decoded, decode_questions, memory_suffices, has_total, rows_in, sound, state_total, total_of}
use Rattle.frame.specs.declared.Frame.{Frame}
use Rattle.frame.specs.Plain.{Plain, allowed, Found, DecodesRight}
use Rattle.frame.specs.Frames.{Traced}
use Rattle.frame.proofs.Follows.{Follows}

-- the first two questions of a decode, and all four, put to a code and to numbers
abbrev first_two : Code → ℕ → ℕ → ℕ → List ℕ → ℕ → List Question
first_two c n steps j store b = once (ltb j (states c)) Place ∷ (once (memory_suffices c n steps store b) Memory ∷ [])

module _ (c : Code) (n steps : ℕ) (totals : List (Option ℕ)) (j : ℕ) (store : List ℕ) (b : ℕ) where
  abbrev last_two : List Question
  last_two = once (has_total totals j) NoPath ∷ (once (sound c (rows_in c store n) steps j) Rows ∷ [])

  past_two : asked {A = Unit {0}} (first_two c n steps j store b) tt ≡ Ok tt → asked {A = ℕ} (decode_questions c n steps totals j store b) (total_of totals j) ≡ asked last_two (total_of totals j)
  past_two e =
      asked_yes (once (ltb j (states c)) Place) (once (memory_suffices c n steps store b) Memory ∷ last_two) (total_of totals j) (passed_first (once (ltb j (states c)) Place) (once (memory_suffices c n steps store b) Memory ∷ []) tt tt e)
      ∙ asked_yes (once (memory_suffices c n steps store b) Memory) last_two (total_of totals j)
      (passed_first (once (memory_suffices c n steps store b) Memory) [] tt tt (passed_rest (once (ltb j (states c)) Place) (once (memory_suffices c n steps store b) Memory ∷ []) tt tt e))

  without_total : state_total totals j ≡ None → asked {A = ℕ} last_two (total_of totals j) ≡ Err NoPath
  without_total e = asked_no (once (has_total totals j) NoPath) (once (sound c (rows_in c store n) steps j) Rows ∷ []) (total_of totals j) 0 (omega arith) (ap is_some e) (λ k h. absurd (omega arith))

  with_total : (t : ℕ) → state_total totals j ≡ Some t → sound c (rows_in c store n) steps j ≡ true → asked {A = ℕ} last_two (total_of totals j) ≡ Ok t
  with_total t e fine =
      asked_yes (once (has_total totals j) NoPath) (once (sound c (rows_in c store n) steps j) Rows ∷ []) (total_of totals j) (λ p h. ap is_some e)
      ∙ asked_yes (once (sound c (rows_in c store n) steps j) Rows) [] (total_of totals j) (λ p h. fine)
      ∙ ap (λ o. Ok (unwrap_or o 0)) e

sound_is : (a : Bool) (x s z : ℕ) → a ≡ true → x ≡ s → z ≡ 0 → (a && (eqb x s && eqb z 0)) ≡ true
sound_is a x s z p q r = grind (arith, nat_tests)

module _ (c : Code) (p : Plain) (f : Frame) (store : List ℕ) (old : Follows c p f store) (j : ℕ) (bits bits' : List ℕ) where
  abbrev ys : List ℕ
  ys = p.symbols

  -- the contract of a decode, at the code and the numbers of the plain frame
  record Told (o : Result ℕ Refusal) : Type 0 where
    answer : o ≡ asked (decode_questions c p.rows (length ys) f.metrics.totals j store (length bits)) (total_of f.metrics.totals j)
    left : Decoded c p.rows (length ys) j store bits o bits'

  told : (o : Result ℕ Refusal) → Traced f j store bits o bits' → Told o
  told o t =
      let same : (e : Code) (n s : ℕ) → f.code ≡ e → f.metrics.rows ≡ n → f.steps ≡ s
      → (o ≡ asked (decode_questions e n s f.metrics.totals j store (length bits)) (total_of f.metrics.totals j)) × Decoded e n s j store bits o bits' =
      λ e n s a b d. subst (λ z. (o ≡ asked (decode_questions e n z f.metrics.totals j store (length bits)) (total_of f.metrics.totals j)) × Decoded e n z j store bits o bits') d
      (subst (λ z. (o ≡ asked (decode_questions e z f.steps f.metrics.totals j store (length bits)) (total_of f.metrics.totals j)) × Decoded e z f.steps j store bits o bits') b
      (subst (λ z. (o ≡ asked (decode_questions z f.metrics.rows f.steps f.metrics.totals j store (length bits)) (total_of f.metrics.totals j)) × Decoded z f.metrics.rows f.steps j store bits o bits') a (t.answer, t.left))) in
      let both = same c p.rows (length ys) old.of old.rowed old.counted in
      record { answer = both.0; left = both.1 }

  found_by : (o : Result ℕ Refusal) → Told o → allowed c p j (length store) (length bits) ≡ Ok tt → (t : Option ℕ) → state_total f.metrics.totals j ≡ t → Found c ys j bits o bits'
  found_by o t pass v e =
      let low : j < states c = let z : ltb j (states c) ≡ true = passed_first (once (ltb j (states c)) Place) (once (memory_suffices c p.rows (length ys) store (length bits)) Memory ∷ []) tt tt pass 0 (omega arith) in grind (arith, nat_tests) in
      go v e low
    where
      says : asked {A = ℕ} (decode_questions c p.rows (length ys) f.metrics.totals j store (length bits)) (total_of f.metrics.totals j) ≡ asked (last_two c p.rows (length ys) f.metrics.totals j store (length bits)) (total_of f.metrics.totals j)
      says = past_two c p.rows (length ys) f.metrics.totals j store (length bits) pass

      go : (v : Option ℕ) → state_total f.metrics.totals j ≡ v → j < states c → Found c ys j bits o bits'
      go None e low =
          let is : o ≡ Err NoPath = t.answer ∙ says ∙ without_total c p.rows (length ys) f.metrics.totals j store (length bits) e in
          subst (λ z. Found c ys j bits z bits') (sym is)
          (refl, frame_decodes_none c ys (state_total f.metrics.totals) (rows_in c store f.metrics.rows) old.holds j low e, subst (λ z. Decoded c p.rows (length ys) j store bits z bits') is t.left)
      go (Some a) e low =
          let rs = rows_in c store f.metrics.rows in
          let best = frame_decodes c ys (state_total f.metrics.totals) rs old.holds j low a e in
          let fine : sound c rs (length ys) j ≡ true = sound_is _ _ _ _ old.holds.ranged old.holds.counted best.2 in
          let fine-p : sound c (rows_in c store p.rows) (length ys) j ≡ true = subst (λ n. sound c (rows_in c store n) (length ys) j ≡ true) old.rowed fine in
          let is : o ≡ Ok a = t.answer ∙ says ∙ with_total c p.rows (length ys) f.metrics.totals j store (length bits) a e fine-p in
          let wrote : bits' ≡ decoded c (rows_in c store p.rows) j ++ drop (length ys) bits = subst (λ z. Decoded c p.rows (length ys) j store bits z bits') is t.left in
          subst (λ z. Found c ys j bits z bits') (sym is)
          (decoded c rs j, best.0, best.1, wrote ∙ ap (λ n. decoded c (rows_in c store n) j ++ drop (length ys) bits) (sym old.rowed))

  refused_by : (o : Result ℕ Refusal) → Told o → (e : Refusal) → allowed c p j (length store) (length bits) ≡ Err e → (o ≡ Err e) × (bits' ≡ bits)
  refused_by o t e refused =
      let is : o ≡ Err e = t.answer ∙ asked_first (last_two c p.rows (length ys) f.metrics.totals j store (length bits)) tt tt (total_of f.metrics.totals j) (first_two c p.rows (length ys) j store (length bits)) e refused in
      (is, subst (λ z. Decoded c p.rows (length ys) j store bits z bits') is t.left)

  pub decodes_right : (o : Result ℕ Refusal) → Traced f j store bits o bits' → DecodesRight c p j (length store) bits o bits'
  decodes_right o t = ((λ pass. found_by o (told o t) pass (state_total f.metrics.totals j) refl), λ e refused. refused_by o (told o t) e refused)
