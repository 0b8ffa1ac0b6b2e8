-- What a first line names, and what is then printed for the input.
use Rattle.std.proofs.Common.{◌≡◌, ℕ, Bool, true, false, List, [], ◌∷◌, ◌++◌, Ok, Err, codes, Result, sym, refl, ap, ◌∙◌, subst, arith}
use Rattle.std.specs.Str.{bytes_eq}
use Rattle.refusal.specs.declared.Refusal.{Refusal}
use Rattle.refusal.specs.declared.Refusal.TheVariants.{Name}
use Rattle.code.specs.declared.description.Code.{Code}
use Rattle.code.specs.Codes.{k3}
use Rattle.frame_report.specs.Columns.{closed}
use Rattle.frame_report.specs.Follows.{Shows}
use Rattle.frame_report.specs.Lines.{deliveries, line_of, lines, rest_of}
use Rattle.frame_report.specs.Report.{Read, coded}
use Rattle.frame_report.proofs.FirstLines.{lines_more}

module _ (line : List ℕ) where
  pub coded_ok : (c : Code) → Ok c ≡ coded line → (bytes_eq line (codes "k3") ≡ true) × (c ≡ k3)
  coded_ok c e = by (bytes_eq line (codes "k3")) refl
    where
      by : (t : Bool) → bytes_eq line (codes "k3") ≡ t → (bytes_eq line (codes "k3") ≡ true) × (c ≡ k3)
      by true s = let o : ◌≡◌ {A = Result Code Refusal} (Ok c) (Ok k3) = rw s at e in (s, cc)
      by false s = let o : ◌≡◌ {A = Result Code Refusal} (Ok c) (Err Name) = rw s at e in cc

  pub coded_err : (r : Refusal) → Err r ≡ coded line → (bytes_eq line (codes "k3") ≡ false) × (r ≡ Name)
  coded_err r e = by (bytes_eq line (codes "k3")) refl
    where
      by : (t : Bool) → bytes_eq line (codes "k3") ≡ t → (bytes_eq line (codes "k3") ≡ false) × (r ≡ Name)
      by true s = let o : ◌≡◌ {A = Result Code Refusal} (Err r) (Ok k3) = rw s at e in cc
      by false s = let o : ◌≡◌ {A = Result Code Refusal} (Err r) (Err Name) = rw s at e in (s, cc)

-- the input begins with the line of the code
pub read_decoded : (input rest was out : List ℕ) → bytes_eq (line_of input) (codes "k3") ≡ true → rest ≡ rest_of input → was ≡ [] → Shows (deliveries (lines rest)) was out
    → Read (lines input) out
read_decoded [] rest was out named after fresh shown = let z : ◌≡◌ {A = Bool} false true = named in cc
read_decoded (b ∷ bs) rest was out named after fresh shown =
    let all : Shows (deliveries (lines (rest_of (b ∷ bs)))) [] out =
    subst (λ (l : List ℕ). Shows (deliveries (lines l)) [] out) after (subst (λ (l : List ℕ). Shows (deliveries (lines rest)) l out) fresh shown) in
    subst (λ (ls : List (List ℕ)). Read ls out) (sym (lines_more (b ∷ bs) (omega arith))) (rw named all)

-- the input begins with another line, or has none
pub read_unnamed : (input was out : List ℕ) (r : Refusal) → bytes_eq (line_of input) (codes "k3") ≡ false → r ≡ Name → was ≡ [] → out ≡ was ++ closed (Err r) → Read (lines input) out
read_unnamed input was out r named name fresh shown = by input named (shown ∙ ap (λ (l : List ℕ). l ++ closed (Err r)) fresh ∙ ap (λ (e : Refusal). closed (Err e)) name)
  where
    by : (bytes : List ℕ) → bytes_eq (line_of bytes) (codes "k3") ≡ false → out ≡ closed (Err Name) → Read (lines bytes) out
    by [] n all = all
    by (b ∷ bs) n all = subst (λ (ls : List (List ℕ)). Read ls out) (sym (lines_more (b ∷ bs) (omega arith))) (rw n all)
