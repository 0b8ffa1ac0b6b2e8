use Rattle.std.proofs.Common.{rules, arith, ◌≡◌, filter, subst, All, [], ◌∷◌, ◌++◌}
use Rattle.std.proofs.lemmas.Grind.{common_steps}
use Rattle.std.proofs.lemmas.List.Elements.{All-push}
use Rattle.vectors.specs.Lines.{IsDigit, no_dash}
use Rattle.vectors.proofs.Digits.{kept, digit}
use Rattle.vectors.proofs.field.bits.Goals as goal

pub loop-character-preserved-in-Continue-1 : goal.loop-character-preserved-in-Continue-1
loop-character-preserved-in-Continue-1 c =
    let e = kept c.loop-character.yielded [] c.in-Some.character (search rules) in
    rw e (record { split = grind (arith, common_steps); digits = All-push IsDigit _ _ (search rules) (search rules); bits = grind (arith, common_steps) })

pub loop-character-preserved-in-Continue-branch-2 :
    goal.loop-character-preserved-in-Continue-branch-2
loop-character-preserved-in-Continue-branch-2 c =
    let e = kept c.loop-character.yielded [] c.in-Some.character (search rules) in
    rw e (record { split = grind (arith, common_steps); digits = All-push IsDigit _ _ (search rules) (search rules); bits = grind (arith, common_steps) })

pub returns-in_default-clause-refused : goal.returns-in_default-clause-refused
returns-in_default-clause-refused c _ all =
    let e : c.args.field.now ≡ c.loop-character.yielded ++ c.in-Some.character ∷ c.next.new.self.rest.now = grind (arith, common_steps) in
    let d : IsDigit c.in-Some.character = digit c.loop-character.yielded c.next.new.self.rest.now c.in-Some.character (search rules) (subst (λ xs. All IsDigit (filter no_dash xs)) e all) in
    search rules
