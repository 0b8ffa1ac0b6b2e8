-- Trellis symbols, what a branch costs against one, and which branches one admits. A symbol is base × first + second, where each
-- value is a soft value from 0, surely 0, to sure, surely 1, or erased.
--   most_zero, least_one   the greatest soft value on the side of code bit 0, and the least on the side of 1
--   accepted y             whether both values of the symbol y are soft or erased
--   soft_cost q b          what the value q costs against code bit b: nothing if erased, else its distance from the surest value for b
--   branch_cost c y r      what a branch with register r costs against the symbol y: the sum over its two code bits
--   agrees q b             whether the value q is erased or on the side of code bit b
--   admitted c y r         whether y is accepted and both its values agree with the code bits of a branch with register r
use Rattle.std.specs.Prelude.{ℕ, ◌+◌, ◌-◌, ◌/◌, ◌%◌, Bool, cond, ◌&&◌, ◌||◌, ◌==◌, nat_le}
use Rattle.code.specs.declared.description.Code.{Code}
use Rattle.code.specs.Codes.{code_bit}

abbrev pub base : ℕ
base = 16

abbrev pub sure : ℕ
sure = 7

abbrev pub erased : ℕ
erased = 8

abbrev pub most_zero : ℕ
most_zero = 3

abbrev pub least_one : ℕ
least_one = 4

abbrev pub accepted : ℕ → Bool
accepted y = nat_le (y / base) erased && nat_le (y % base) erased

abbrev pub soft_cost : ℕ → ℕ → ℕ
soft_cost q b = cond (q == erased) 0 (cond (b == 0) q (sure - q))

abbrev pub branch_cost : Code → ℕ → ℕ → ℕ
branch_cost c y r = soft_cost (y / base) (code_bit r c.first) + soft_cost (y % base) (code_bit r c.second)

abbrev pub agrees : ℕ → ℕ → Bool
agrees q b = q == erased || cond (b == 0) (nat_le q most_zero) (nat_le least_one q)

abbrev pub admitted : Code → ℕ → ℕ → Bool
admitted c y r = accepted y && (agrees (y / base) (code_bit r c.first) && agrees (y % base) (code_bit r c.second))
