-- The bits so far are those of the characters so far that are no dashes.
use Rattle.std.proofs.Common.{◌≡◌, All, map, filter, ◌++◌}
use Rattle.vectors.specs.Lines.{IsDigit, bit, no_dash}
use Rattle.vectors.proofs.field.bits.Given as goal

abbrev pub invariant-loop-character : goal.invariant-loop-character
invariant-loop-character l = record {
  split : l.field ≡ l.yielded ++ l.character-iterator.rest.now;
  digits : All IsDigit (filter no_dash l.yielded);
  bits : l.bits.items ≡ map bit (filter no_dash l.yielded);
}
