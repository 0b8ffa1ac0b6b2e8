-- Fields of a line: its characters, four by four.
--   digits_on v bs      the number that the digits bs make after the value v, if each is a digit
--   blanks_on bs        the number after blanks: at least one digit, to the end
--   number_of_field bs  the number in a field: it has four columns, blanks and then at least one digit
--   field line k        the field of a line at place k
--   field_count line    how many fields a line has; a shorter last one counts
--   number_at line k    the number in the field at place k
--   numbers line        the numbers of all fields, first to last
--   short line          whether a line has at most 200 characters
--   fields line         the question of a line's fields: is each a number?
--   text_asks plan line the questions of a delivery's two lines: is each short enough; is each field of the second a number?
use Rattle.std.specs.Prelude.{ℕ, ◌+◌, ◌-◌, ◌*◌, ◌/◌, Bool, cond, ◌&&◌, List, [], ◌∷◌, map, length, take, drop, is_some, Some, None, Option, ◌==◌, nat_le}
use Rattle.std.specs.List.{range_with_len}
use Rattle.std.specs.Option.{unwrap_or}
use Rattle.refusal.specs.declared.Refusal.TheVariants.{Text}
use Rattle.refusal.specs.Questions.{Question, once}

abbrev pub digits_on : ℕ → List ℕ → Option ℕ
digits_on v [] = Some v
digits_on v (b ∷ bs) = cond (nat_le 48 b && nat_le b 57) (digits_on (v * 10 + (b - 48)) bs) None

abbrev pub blanks_on : List ℕ → Option ℕ
blanks_on [] = None
blanks_on (b ∷ bs) = cond (b == 32) (blanks_on bs) (digits_on 0 (b ∷ bs))

abbrev pub number_of_field : List ℕ → Option ℕ
number_of_field bs = cond (length bs == 4) (blanks_on bs) None

abbrev pub field : List ℕ → ℕ → List ℕ
field line k = take 4 (drop (4 * k) line)

abbrev pub field_count : List ℕ → ℕ
field_count line = (length line + 3) / 4

abbrev pub number_at : List ℕ → ℕ → ℕ
number_at line k = unwrap_or (number_of_field (field line k)) 0

unfoldable pub numbers : List ℕ → List ℕ
numbers line = map (number_at line) (range_with_len 0 (field_count line))

abbrev pub short : List ℕ → Bool
short line = nat_le (length line) 200

abbrev pub fields : List ℕ → Question
fields line = record { count = field_count line; test = λ k. is_some (number_of_field (field line k)); refuse = λ k. Text k }

abbrev pub text_asks : List ℕ → List ℕ → List Question
text_asks plan line = once (short plan && short line) (Text 0) ∷ (fields line ∷ [])
