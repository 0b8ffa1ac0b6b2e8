-- The check register as a recursion over bits. Places 0 to 31 are the register's bits, and place 32 is always 1.
--   polynomial             P, EDB88320 hexadecimal
--   bit n k                whether the bit of n of weight 2^k is 1
--   register_accepts b     the symbols are 0 and 1
--   register_entry b i j   the entry of the symbol b at the places i and j: 1 in the four cases below, 0 in all others
use Rattle.std.specs.Prelude.{ℕ, ◌+◌, ◌/◌, ◌%◌, ◌^◌, Bool, ◌&&◌, ◌||◌, ◌==◌, nat_le, nat_lt}

abbrev pub polynomial : ℕ
polynomial = 0xEDB88320

abbrev pub bit : ℕ → ℕ → Bool
bit n k = n / 2 ^ k % 2 == 1

abbrev pub register_accepts : ℕ → Bool
register_accepts b = nat_le b 1

unfoldable pub register_entry : ℕ → ℕ → ℕ → Bool
register_entry b i j =
    register_accepts b
    -- i is 0, j at most 31: P(j)
    && ((i == 0 && (nat_lt j 32 && bit polynomial j))
    -- i from 1 to 31, j is i - 1: 1
    || ((nat_lt i 32 && i == j + 1)
    -- i is 32, j at most 31: P(j) × b
    || ((i == 32 && (nat_lt j 32 && (bit polynomial j && b == 1)))
    -- i and j are 32: 1
    || (i == 32 && j == 32))))
