use Rattle.std.proofs.Common.{◌≡◌, ◌*◌, ◌≤◌, length, take}
use Rattle.std.specs.Iterator.Adapters.{enumerate_count, enumerate_source}
use Rattle.std.specs.Slice.Iter.{chunks_rest, chunks_size}
use Rattle.frame_report.proofs.Chunks.{Reading}
use Rattle.frame_report.proofs.fields.read_numbers.Given as goal

abbrev pub invariant-loop-place : goal.invariant-loop-place
invariant-loop-place l = record {
  can_next : (goal.iterator-loop-place).can_next l.place-iterator;
  is_finite : (goal.iterator-loop-place).is_finite l.place-iterator;
  size : chunks_size (enumerate_source l.place-iterator) ≡ 4;
  room : length l.line ≤ 4 * length l.numbers;
  reading : Reading l.line (chunks_rest (enumerate_source l.place-iterator)) (enumerate_count l.place-iterator) (take (enumerate_count l.place-iterator) l.numbers);
}
