-- Paths one after another are a path, and a path is cut in two at any place.
use Rattle.std.proofs.Common.{◌≡◌, ℕ, zero, suc, ◌+◌, ◌*◌, ◌%◌, ◌^◌, ◌<◌, List, [], ◌∷◌, ◌++◌, length, replicate, refl, ap, ◌∙◌, mul_assoc, arith, length-append}
use native.Mathlib.Nat.{pow-succ'}
use Rattle.std.proofs.ByRecursion.{All-append}
use Rattle.code.specs.declared.description.Code.{Code}
use Rattle.code.specs.Codes.{states, register_of, next}
use Rattle.code.specs.Symbols.{branch_cost}
use Rattle.code.proofs.Next.{next_parts, next_below}
use Rattle.paths.specs.Paths.{Bits, end}
use Rattle.frame_paths.specs.Paths.{costs, Leads, Reaches}
use Rattle.frame_paths.specs.Survivors.{word}

-- the first n bits of a list, and the other m
pub record Cut (n m : ℕ) (us : List ℕ) : Type 0 where
  pub front : List ℕ
  pub back : List ℕ
  pub whole : us ≡ front ++ back
  pub front_long : length front ≡ n
  pub back_long : length back ≡ m
  pub front_bits : Bits front
  pub back_bits : Bits back

pub cut : (n m : ℕ) (us : List ℕ) → length us ≡ n + m → Bits us → Cut n m us
cut zero m us e b = record { front = []; back = us; whole = refl; front_long = refl; back_long = omega arith; front_bits = tt; back_bits = b }
cut (suc n) m [] e b = absurd (omega arith)
cut (suc n) m (u ∷ us) e b =
    let c = cut n m us (omega arith) b.1 in
    record {
      front = u ∷ c.front;
      back = c.back;
      whole = ap (λ l. u ∷ l) c.whole;
      front_long = ap suc c.front_long;
      back_long = c.back_long;
      front_bits = (b.0, c.front_bits);
      back_bits = c.back_bits;
    }

module _ (c : Code) where
  pub end_below : (s : ℕ) (us : List ℕ) → s < states c → Bits us → end c s us < states c
  end_below s [] p b = p
  end_below s (u ∷ us) p b = end_below (next c s u) us (next_below c s u p b.0) b.1

  pub word_below : (s : ℕ) (us : List ℕ) → word c s us < 2 ^ length us
  word_below s [] = omega arith
  word_below s (u ∷ us) = let low : s % 2 < 2 = omega arith in rw pow-succ' (omega (arith, word_below (next c s u) us, low))

  pub end_append : (s : ℕ) (us vs : List ℕ) → end c s (us ++ vs) ≡ end c (end c s us) vs
  end_append s [] vs = refl
  end_append s (u ∷ us) vs = end_append (next c s u) us vs

  pub costs_append : (s : ℕ) (ys zs us vs : List ℕ) → length us ≡ length ys → costs c s (ys ++ zs) (us ++ vs) ≡ costs c s ys us + costs c (end c s us) zs vs
  costs_append s [] zs [] vs e = omega arith
  costs_append s [] zs (u ∷ us) vs e = absurd (omega arith)
  costs_append s (y ∷ ys) zs [] vs e = absurd (omega arith)
  costs_append s (y ∷ ys) zs (u ∷ us) vs e =
      ap (λ n. branch_cost c y (register_of c s u) + n) (costs_append (next c s u) ys zs us vs (omega arith)) ∙ sum_assoc _ _ _
    where
      sum_assoc : (a b d : ℕ) → a + (b + d) ≡ a + b + d
      sum_assoc a b d = omega arith

  pub word_append : (s : ℕ) (us vs : List ℕ) → word c s (us ++ vs) ≡ word c s us + 2 ^ length us * word c (end c s us) vs
  word_append s [] vs = omega arith
  word_append s (u ∷ us) vs = shifted _ _ _ _ _ _ (pow-succ' 2 (length us)) (word_append (next c s u) us vs)
    where
      shifted : (b x n p q z : ℕ) → q ≡ 2 * p → x ≡ n + p * z → b + 2 * x ≡ b + 2 * n + q * z
      shifted b x n p q z e f = rw (e, mul_assoc 2 p z) (omega arith)

  pub leads_append : (i k j : ℕ) (ys zs us vs : List ℕ) → Leads c i ys k us → Leads c k zs j vs → Leads c i (ys ++ zs) j (us ++ vs)
  leads_append i k j ys zs us vs p q = record {
    bits = All-append _ us vs p.bits q.bits;
    as_long = omega (arith, length-append us vs, length-append ys zs, p.as_long, q.as_long);
    there = end_append i us vs ∙ ap (λ s. end c s vs) p.there ∙ q.there;
  }

  -- no input bit but 0 stays in state 0
  pub zero_path : (ys : List ℕ) → Reaches c ys 0 (replicate (length ys) 0)
  zero_path [] = record { bits = tt; as_long = refl; there = refl }
  zero_path (y ∷ ys) =
      let rest = zero_path ys in
      let stays : next c 0 0 ≡ 0 = omega (arith, next_parts c 0 0) in
      record { bits = (omega arith, rest.bits); as_long = ap suc rest.as_long; there = ap (λ s. end c s (replicate (length ys) 0)) stays ∙ rest.there }
