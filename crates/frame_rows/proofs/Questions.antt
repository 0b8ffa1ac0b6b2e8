-- What a decode answers by the first question that it says no to.
use Rattle.std.proofs.Common.{◌≡◌, Bool, true, false, List, [], ◌∷◌, Ok, Err, sym, ◌∙◌, arith}
use Rattle.refusal.specs.declared.Refusal.{Refusal}
use Rattle.refusal.specs.declared.Refusal.TheVariants.{Memory, NoPath, Place, Rows}
use Rattle.refusal.specs.Questions.{Question, asked, once}
use Rattle.refusal.proofs.Questions.{asked_no, asked_yes}

module _ {A : Type 0} (t : Bool) (r : Refusal) (qs : List Question) (a : A) where
  yes_to : t ≡ true → asked (once t r ∷ qs) a ≡ asked qs a
  yes_to e = asked_yes (once t r) qs a (λ p h. e)

  no_to : t ≡ false → asked (once t r ∷ qs) a ≡ Err r
  no_to e = asked_no (once t r) qs a 0 (omega arith) e (λ k h. absurd (omega arith))

-- the tests: is there such a state, has the memory room, has the state a total, are the rows sound?
module _ {A : Type 0} (p q r s : Bool) (a : A) where
  abbrev last : List Question
  last = once s Rows ∷ []

  abbrev later : List Question
  later = once r NoPath ∷ last

  abbrev next : List Question
  next = once q Memory ∷ later

  abbrev all : List Question
  all = once p Place ∷ next

  pub says_place : p ≡ false → Err Place ≡ asked all a
  says_place e = sym (no_to p Place next a e)

  module _ (state : p ≡ true) where
    pub says_memory : q ≡ false → Err Memory ≡ asked all a
    says_memory e = sym (yes_to p Place next a state ∙ no_to q Memory later a e)

    module _ (memory : q ≡ true) where
      asks_total : asked all a ≡ asked later a
      asks_total = yes_to p Place next a state ∙ yes_to q Memory later a memory

      pub says_no_path : r ≡ false → Err NoPath ≡ asked all a
      says_no_path e = sym (asks_total ∙ no_to r NoPath last a e)

      module _ (total : r ≡ true) where
        pub says_rows : s ≡ false → Err Rows ≡ asked all a
        says_rows e = sym (asks_total ∙ yes_to r NoPath last a total ∙ no_to s Rows [] a e)

        pub says_decoded : s ≡ true → Ok a ≡ asked all a
        says_decoded e = sym (asks_total ∙ yes_to r NoPath last a total ∙ yes_to s Rows [] a e)
