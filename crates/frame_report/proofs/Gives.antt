-- A delivery to a frame that follows the plain frame is answered as that one answers it, and the frame follows.
use Rattle.std.proofs.Common.{◌≡◌, ℕ, ◌≤◌, List, ◌∷◌, length, Ok, Err, Result, sym, ap, ◌∙◌, subst}
use Rattle.refusal.specs.declared.Refusal.{Refusal}
use Rattle.refusal.specs.Questions.{asked}
use Rattle.algebra_survivor.specs.declared.Survivor.{Survivor}
use Rattle.code.specs.Codes.{k3}
use Rattle.frame.specs.declared.Frame.{Frame}
use Rattle.frame.specs.Frames.{Took}
use Rattle.frame.specs.Histories.{Take, then_take, held}
use Rattle.frame.specs.Plain.{Plain, taken, took}
use Rattle.frame_report.specs.Fields.{numbers, text_asks}
use Rattle.frame_report.specs.Follows.{Follows, Gave}
use Rattle.frame_report.proofs.Answers.{refused_text, passed_text}

module _ (plan line : List ℕ) (f : Frame) (store : List ℕ) where
  -- a text that is refused leaves everything as it was
  pub gave_refused : (e : Refusal) → asked {A = Unit} (text_asks plan line) tt ≡ Err e → Gave (plan, line) f store (Err e) f store
  gave_refused e text p follows =
      let r = refused_text plan line p e text in
      (sym r.0, subst (λ (q : Plain). Follows q f store) (sym r.1) follows)

  module _ (ys : List ℕ) (work row work' row' : List Survivor) (o : Result (ℕ × ℕ) Refusal) (f' : Frame) (store' : List ℕ) where
    pub gave_taken : length plan ≤ 200 → asked {A = Unit} (text_asks plan line) tt ≡ Ok tt → ys ≡ numbers line
        → length work ≡ 3200 → length row ≡ 4 → length store ≡ 2560
        → Took ys plan f store work row o f' store' work' row' → Gave (plan, line) f store o f' store'
    gave_taken h text same n k s took_it p follows =
        let calls = Take ys plan (length work) (length row) (length store) o ∷ follows.calls in
        let history = then_take ys plan work row work' row' o follows.calls f f' store store' follows.history took_it in
        let agrees = (follows.whole follows.noise store' calls f' history).0 in
        let passed = passed_text plan line p h text in
        let answer : o ≡ took k3 p (numbers line) plan 3200 4 2560 =
        agrees
        ∙ ap (λ (q : Plain). took k3 q ys plan (length work) (length row) (length store)) follows.holds
        ∙ ap (λ (zs : List ℕ). took k3 p zs plan (length work) (length row) (length store)) same
        ∙ ap (λ (m : ℕ). took k3 p (numbers line) plan m (length row) (length store)) n
        ∙ ap (λ (m : ℕ). took k3 p (numbers line) plan 3200 m (length store)) k
        ∙ ap (λ (m : ℕ). took k3 p (numbers line) plan 3200 4 m) s in
        let holds : held k3 calls ≡ taken k3 p (numbers line) plan 3200 4 2560 =
        ap (λ (q : Plain). taken k3 q ys plan (length work) (length row) (length store)) follows.holds
        ∙ ap (λ (zs : List ℕ). taken k3 p zs plan (length work) (length row) (length store)) same
        ∙ ap (λ (m : ℕ). taken k3 p (numbers line) plan m (length row) (length store)) n
        ∙ ap (λ (m : ℕ). taken k3 p (numbers line) plan 3200 m (length store)) k
        ∙ ap (λ (m : ℕ). taken k3 p (numbers line) plan 3200 4 m) s in (
          answer ∙ sym passed.0,
          record { first = follows.first; noise = follows.noise; calls = calls; whole = follows.whole; counts = follows.counts; history = history; holds = holds ∙ sym passed.1 },
        )
