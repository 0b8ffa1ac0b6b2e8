use Rattle.std.proofs.Common.{◌≡◌, ◌^◌, ◌<◌, drop}
use Rattle.frame_report.specs.Fields.{digits_on, number_of_field}
use Rattle.frame_report.proofs.fields.field_number.Given as goal

-- the digits so far make the value
abbrev pub invariant-loop-byte : goal.invariant-loop-byte
invariant-loop-byte l = (l.value < 10 ^ l.byte-index) × (digits_on l.value (drop l.byte-index l.byte-items) ≡ number_of_field l.field)
