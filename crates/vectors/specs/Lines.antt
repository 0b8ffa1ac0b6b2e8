-- Lines of vectors, and what their fields list.
--   case_line text   the line is neither empty nor a remark, which begins with #, character 35
--   listing text     what a field lists: nothing where it is a dash alone, character 45
--   IsDigit c        the character is 0 or 1, 48 or 49
--   bit c            the bit that such a character is
--   no_dash c        the character is no dash
use Rattle.std.specs.Prelude.{ℕ, ◌-◌, ◌≤◌, Bool, false, cond, List, [], ◌∷◌, not, nat_eq}

abbrev pub case_line : List ℕ → Bool
case_line [] = false
case_line (c ∷ cs) = not (nat_eq c 35)

abbrev pub listing : List ℕ → List ℕ
listing [] = []
listing (c ∷ []) = cond (nat_eq c 45) [] (c ∷ [])
listing (c ∷ (d ∷ cs)) = c ∷ (d ∷ cs)

abbrev pub IsDigit : ℕ → Type 0
IsDigit c = (48 ≤ c) × (c ≤ 49)

abbrev pub bit : ℕ → ℕ
bit c = c - 48

abbrev pub no_dash : ℕ → Bool
no_dash c = not (nat_eq c 45)
