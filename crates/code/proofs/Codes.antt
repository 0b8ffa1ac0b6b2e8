-- A code is settled by its constraint length and its two generators.
use mathlib.Core.HLevel.{is_prop→PathP}
use Rattle.std.proofs.Common.{◌≡◌, ◌-◌, ◌/◌, ◌^◌, ◌≤◌}
use native.Mathlib.Bridge.{le_prop}
use native.Mathlib.Nat.{ℕ_set}
use Rattle.code.specs.declared.description.Code.{Code}

pub same_code : (c d : Code) → c.constraint ≡ d.constraint → c.first ≡ d.first → c.second ≡ d.second → c ≡ d
same_code c d k f s = λ i. record {
  constraint = k i;
  first = f i;
  second = s i;
  least = is_prop→PathP (λ n. 2 ≤ k n) (λ n. le_prop) c.least d.least i;
  most = is_prop→PathP (λ n. k n ≤ 7) (λ n. le_prop) c.most d.most i;
  newest = is_prop→PathP (λ n. (f n / 2 ^ (k n - 1) ≡ 1) × (s n / 2 ^ (k n - 1) ≡ 1)) (λ n p q m. (ℕ_set _ _ p.0 q.0 m, ℕ_set _ _ p.1 q.1 m)) c.newest d.newest i;
}
