-- The codes and their branches. A code has a constraint length K and two generators.
--   k3, k7              the two codes
--   named t             the code whose name is the text t, or the refusal of that name
--   states c            the number S of states, 2^(K-1)
--   half c              half of them, 2^(K-2)
--   register_of c s u   what the shift register holds for input bit u in state s, R = u × S + s
--   code_bit r g        the parity of the ones common to the register r and the generator g
--   next c s u          the state after input bit u in state s: R without its last bit
--   goes c i j          whether a branch goes from state i to state j: its later bits, j mod 2^(K-2), are what i keeps, i / 2
--   input c j           the input bit of each branch to state j
--   branch c i j        the register of the branch from i to j, if one goes there
use Rattle.std.specs.Prelude.{ℕ, ◌+◌, ◌-◌, ◌*◌, ◌/◌, ◌%◌, ◌^◌, Bool, cond, ◌&&◌, List, Some, None, Ok, Err, codes, Option, Result, ◌==◌, bit_and, count_ones, nat_lt, refl}
use Rattle.std.proofs.Common.{lit≤}
use Rattle.std.specs.Str.{bytes_eq}
use Rattle.refusal.specs.declared.Refusal.{Refusal}
use Rattle.refusal.specs.declared.Refusal.TheVariants.{Name}
use Rattle.code.specs.declared.description.Code.{Code}

abbrev pub k3 : Code
k3 = record { constraint = 3; first = 0o7; second = 0o5; least = lit≤ tt; most = lit≤ tt; newest = (refl, refl) }

abbrev pub k7 : Code
k7 = record { constraint = 7; first = 0o171; second = 0o133; least = lit≤ tt; most = lit≤ tt; newest = (refl, refl) }

abbrev pub named : List ℕ → Result Code Refusal
named t = cond (bytes_eq t (codes "k3")) (Ok k3) (cond (bytes_eq t (codes "k7")) (Ok k7) (Err Name))

abbrev pub states : Code → ℕ
states c = 2 ^ (c.constraint - 1)

abbrev pub half : Code → ℕ
half c = 2 ^ (c.constraint - 2)

abbrev pub register_of : Code → ℕ → ℕ → ℕ
register_of c s u = u * states c + s

unfoldable pub code_bit : ℕ → ℕ → ℕ
code_bit r g = count_ones (bit_and r g) % 2

abbrev pub next : Code → ℕ → ℕ → ℕ
next c s u = register_of c s u / 2

abbrev pub goes : Code → ℕ → ℕ → Bool
goes c i j = nat_lt i (states c) && (nat_lt j (states c) && j % half c == i / 2)

abbrev pub input : Code → ℕ → ℕ
input c j = j / half c

abbrev pub branch : Code → ℕ → ℕ → Option ℕ
branch c i j = cond (goes c i j) (Some (register_of c i (input c j))) None
