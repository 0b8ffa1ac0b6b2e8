-- Bits of the sequence of nine stages.
--   limit                    the most steps of one call
--   few_steps n              are there at most `limit` steps?
--   nine_elements d          has the state nine elements?
--   sequence_questions n d   these two questions, in this order
--   bit_at state j           the bit at place j of the state
--   stages state k j         place j of the state after k single steps, each of the symbol 0
--   Advanced                 what the steps did: `state` and `bits` became `state'` and `bits'`
--   Ran                      the same by the answer: a refusal leaves both as found
use Rattle.std.specs.Prelude.{◌≡◌, ℕ, ◌+◌, ◌<◌, Bool, List, [], ◌∷◌, length, drop, replicate, Ok, Err, Result, nat_le, slice_index}
use Rattle.refusal.specs.declared.Refusal.{Refusal}
use Rattle.refusal.specs.declared.Refusal.TheVariants.{Limit, Memory}
use Rattle.refusal.specs.Questions.{Question, once}
use Rattle.algebra.specs.Sums.{at}
use Rattle.algebra_scalars.specs.Bits.{bit_ops, number}
use Rattle.algebra_scalars.specs.declared.bit.Bit.{Bit}
use Rattle.recursion.specs.Steps.{steps}
use Rattle.recursion_bits.specs.Sequence.{sequence_entry}

abbrev pub limit : ℕ
limit = 1000000

abbrev pub few_steps : ℕ → Question
few_steps n = once (nat_le n limit) Limit

abbrev pub nine_elements : ℕ → Question
nine_elements d = once (nat_le 9 d) Memory

abbrev pub sequence_questions : ℕ → ℕ → List Question
sequence_questions n d = few_steps n ∷ (nine_elements d ∷ [])

abbrev pub bit_at : List Bit → ℕ → Bool
bit_at = at bit_ops.zero (λ b. b.0)

unfoldable pub stages : List Bit → ℕ → ℕ → Bool
stages state k = steps bit_ops 9 sequence_entry (replicate k 0) (bit_at state)

pub record Advanced (state : List Bit) (bits : List ℕ) (state' : List Bit) (bits' : List ℕ) : Type 0 where
  -- each byte is the newest bit after its step
  pub newest : (k : ℕ) → k < length bits → slice_index bits' k ≡ number (stages state (k + 1) 8)
  -- the state is the one after all steps
  pub after : (j : ℕ) → j < 9 → bit_at state' j ≡ stages state (length bits) j
  -- and nothing past its nine places has changed
  pub rest : drop 9 state' ≡ drop 9 state
  pub length_state : length state' ≡ length state
  pub length_bits : length bits' ≡ length bits

abbrev pub Ran : List Bit → List ℕ → Result Unit Refusal → List Bit → List ℕ → Type 0
Ran state bits (Ok x) state' bits' = Advanced state bits state' bits'
Ran state bits (Err e) state' bits' = (state' ≡ state) × (bits' ≡ bits)
