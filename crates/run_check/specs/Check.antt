-- The check of a bit list.
--   limit                 the most bits that are taken
--   each_bit bits         is each byte 0 or 1?
--   not_too_many bits     are there at most `limit`?
--   bit_questions bits    these two questions, in this order
--   run bits              the places of the check register after single steps from 33 ones, the bits as symbols
--   weigh n places        the first n places as a number, place k weighing 2^k
--   register_value bits   the 32 register places of the run
--   check_value bits      the same, each inverted
use Rattle.std.specs.Prelude.{ℕ, zero, suc, ◌+◌, ◌^◌, Bool, true, cond, not, List, [], ◌∷◌, length, nat_le, slice_index}
use Rattle.refusal.specs.declared.Refusal.TheVariants.{Symbol, Limit}
use Rattle.refusal.specs.Questions.{Question, once}
use Rattle.algebra_scalars.specs.Bits.{bit_ops}
use Rattle.recursion.specs.Steps.{steps}
use Rattle.recursion_bits.specs.Register.{register_entry}

abbrev pub limit : ℕ
limit = 1000000

abbrev pub each_bit : List ℕ → Question
each_bit bits = record { count = length bits; test = λ p. nat_le (slice_index bits p) 1; refuse = λ p. Symbol p }

abbrev pub not_too_many : List ℕ → Question
not_too_many bits = once (nat_le (length bits) limit) Limit

abbrev pub bit_questions : List ℕ → List Question
bit_questions bits = each_bit bits ∷ (not_too_many bits ∷ [])

unfoldable pub run : List ℕ → ℕ → Bool
run bits = steps bit_ops 33 register_entry bits (λ k. true)

unfoldable pub weigh : ℕ → (ℕ → Bool) → ℕ
weigh zero places = 0
weigh (suc n) places = weigh n places + cond (places n) (2 ^ n) 0

unfoldable pub register_value : List ℕ → ℕ
register_value bits = weigh 32 (run bits)

unfoldable pub check_value : List ℕ → ℕ
check_value bits = weigh 32 (λ k. not (run bits k))
