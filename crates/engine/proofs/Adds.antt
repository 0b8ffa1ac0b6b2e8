-- Loops that write a row element by element, and one that sums such rows.
use Rattle.std.proofs.Common.{◌≡◌, ℕ, zero, suc, ◌+◌, ◌<◌, true, ◌≢◌, List, [], ◌∷◌, length, get_or, drop, set, sym, refl, ap, ◌∙◌, arith, drop-set-lt, below_more}
use Rattle.algebra.specs.Laws.{Laws}
use Rattle.algebra.specs.Sums.{at, sum}
use Rattle.algebra.specs.declared.Algebra.{Ghosts as Algebra}
use Rattle.algebra.proofs.Sums.{sum_none, sum_more}
use Rattle.algebra.proofs.Places.{at_set_same, at_set_other, at_same_rest}
use Rattle.engine.specs.Matrices.{Normal, means}
use Rattle.engine.proofs.Places.{drop_more}

pub at_get : {E V : Type 0} (z : V) (f : E → V) (xs : List E) (i : ℕ) (x : E) → i < length xs → f (get_or xs i x) ≡ at z f xs i
unfolding at
at_get z f [] i x l = absurd (omega arith)
at_get z f (y ∷ xs) zero x l = refl
at_get z f (y ∷ xs) (suc i) x l = at_get z f xs i x (omega arith)

-- one more place is set, and what held below holds still
pub set_more : {E V : Type 0} (z : V) (f : E → V) (t : ℕ → V) (p : ℕ) (now : List E) (y : E)
    → p < length now → f y ≡ t p → ((q : ℕ) → q < p → at z f now q ≡ t q) → (q : ℕ) → q < p + 1 → at z f (set now p y) q ≡ t q
set_more z f t p now y h e below =
    below_more _ p
    (λ q l. let ne : q ≢ p = omega arith in at_set_other z f now p q y ne ∙ below q l)
    (at_set_same z f now p y h ∙ e)

module _ {E : Type 0} (a : Algebra E) where
  -- the first p elements mean t(0), t(1), .. and are in normal form, and the rest is as it was
  pub record Written (t : ℕ → a.Value) (was : List E) (p : ℕ) (now : List E) : Type 0 where
    pub values : (q : ℕ) → q < p → means a now q ≡ t q
    pub normal : Normal a.normal now p
    pub rest : drop p now ≡ drop p was

  pub none_written : (t : ℕ → a.Value) (was : List E) → Written t was 0 was
  none_written t was = record { values = λ q h. absurd (omega arith); normal = λ q h. absurd (omega arith); rest = refl }

  -- the element that a turn reads is the one that was there
  pub read_means : (t : ℕ → a.Value) (was : List E) (p : ℕ) (now : List E) (x : E) → p < length now → Written t was p now → a.mean (get_or now p x) ≡ means a was p
  read_means t was p now x h done = at_get a.ops.zero a.mean now p x h ∙ at_same_rest a.ops.zero a.mean p now was p (omega arith) done.rest

  pub read_normal : (t : ℕ → a.Value) (was : List E) (p : ℕ) (now : List E) (x : E) → p < length now → Written t was p now → a.normal (get_or now p x) ≡ at true a.normal was p
  read_normal t was p now x h done = at_get true a.normal now p x h ∙ at_same_rest true a.normal p now was p (omega arith) done.rest

  pub written_more : (t : ℕ → a.Value) (was : List E) (p : ℕ) (now : List E) (y : E) → p < length now → a.mean y ≡ t p → a.normal y ≡ true
      → Written t was p now → Written t was (p + 1) (set now p y)
  written_more t was p now y h made fine done =
      let low : p < p + 1 = omega arith in
      record {
        values = set_more a.ops.zero a.mean t p now y h made done.values;
        normal = set_more true a.normal (λ q. true) p now y h fine done.normal;
        rest = drop-set-lt _ _ _ _ low ∙ drop_more (p + 1) p now was (omega arith) done.rest;
      }

  -- a sum with a product, of what means the same
  pub sum_of : {r x y u u' v v' : a.Value} → r ≡ a.ops.add x (a.ops.mul u v) → x ≡ y → u ≡ u' → v ≡ v' → r ≡ a.ops.add y (a.ops.mul u' v')
  sum_of e f h k = cc

  -- the first d places hold the sums of the terms t(0), .., t(k - 1), place by place
  pub record Summed (d : ℕ) (t : ℕ → ℕ → a.Value) (k : ℕ) (now : List E) : Type 0 where
    pub sums : (q : ℕ) → q < d → means a now q ≡ sum a.ops k (λ l. t l q)
    pub normal : Normal a.normal now d

  pub none_summed : (d : ℕ) (t : ℕ → ℕ → a.Value) (now : List E) → ((q : ℕ) → q < d → means a now q ≡ a.ops.zero) → Normal a.normal now d → Summed d t 0 now
  none_summed d t now zeros fine = record { sums = λ q h. zeros q h ∙ sym (sum_none a.ops _); normal = fine }

  pub summed_more : (d : ℕ) (t : ℕ → ℕ → a.Value) (k : ℕ) (was now : List E)
      → ((q : ℕ) → q < d → means a now q ≡ a.ops.add (means a was q) (t k q)) → Normal a.normal now d → Summed d t k was → Summed d t (k + 1) now
  summed_more d t k was now added fine done = record {
    sums = λ q h. added q h ∙ ap (λ v. a.ops.add v (t k q)) (done.sums q h) ∙ sym (sum_more a.ops k (λ l. t l q));
    normal = fine;
  }

  -- a term that is zero may be passed over
  pub summed_skip : Laws a.ops → (d : ℕ) (t : ℕ → ℕ → a.Value) (k : ℕ) (now : List E) → ((q : ℕ) → q < d → t k q ≡ a.ops.zero) → Summed d t k now → Summed d t (k + 1) now
  summed_skip laws d t k now zeros done =
      summed_more d t k now now
      (λ q h. sym (ap (a.ops.add (means a now q)) (zeros q h) ∙ laws.add_comm (means a now q) a.ops.zero ∙ laws.zero-add (means a now q)))
      done.normal done
