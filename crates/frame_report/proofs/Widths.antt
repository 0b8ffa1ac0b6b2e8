-- What a number writes under a width, with blanks in front.
use Rattle.std.proofs.Common.{[], ◌≡◌, ℕ, ◌∙◌, ap, refl, arith, decimal, pos, false}
use Rattle.std.proofs.Padding.{padded_integral_right, styled_decimal_is, styled_signed_decimal_is}
use Rattle.std.specs.Fmt.{format_spec, padded_integral, styled_decimal, styled_signed_decimal}
use Rattle.frame_report.specs.Columns.{right}

padded_right : (w n : ℕ) → padded_integral (format_spec 32 3 0 w 18446744073709551615) false [] (decimal n) ≡ right w n
padded_right w n =
    padded_integral_right (format_spec 32 3 0 w 18446744073709551615) (decimal n) refl refl (λ e. absurd (omega arith)) (λ e. absurd (omega arith)) (omega arith)

pub number_right : {s : _} (w n : ℕ) → s ≡ format_spec 32 3 0 w 18446744073709551615 → styled_decimal s n ≡ right w n
number_right {s} w n is = styled_decimal_is s n ∙ ap (λ t. padded_integral t false [] (decimal n)) is ∙ padded_right w n

-- the literal 0 is signed
pub zero_right : {s : _} (w : ℕ) → s ≡ format_spec 32 3 0 w 18446744073709551615 → styled_signed_decimal s (pos 0) ≡ right w 0
zero_right {s} w is = styled_signed_decimal_is s (pos 0) ∙ ap (λ t. padded_integral t false [] (decimal 0)) is ∙ padded_right w 0
