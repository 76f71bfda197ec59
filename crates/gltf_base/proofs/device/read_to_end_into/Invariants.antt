use Rattle.std.proofs.Common.{◌≡◌, ◌+◌, ◌<◌, ◌≤◌, false, length, vec_items}
use Rattle.std.specs.Io.KnownBytes.{Consumes}
use Rattle.gltf_base.specs.Device.{IsFresh}
use Rattle.gltf_base.proofs.device.read_to_end_into.Given as goal

abbrev pub invariant-loop : goal.invariant-loop
invariant-loop g l = record {
  room : 0 < length l.piece;
  short : length (vec_items l.bytes) ≤ l.most_bytes;
  gives : Consumes (g.R.ByteIn.left l.initial.reader) (g.R.ByteIn.left l.reader) (vec_items l.bytes);
  works : IsFresh (g.R.ByteIn.seen l.initial.reader) → (g.R.ByteIn.seen l.reader).has_failed ≡ false;
  given : IsFresh (g.R.ByteIn.seen l.initial.reader) → (g.R.ByteIn.seen l.reader).given ≡ length (vec_items l.bytes);
  calls : IsFresh (g.R.ByteIn.seen l.initial.reader) → (g.R.ByteIn.seen l.reader).calls ≡ l.counter;
  going_on : IsFresh (g.R.ByteIn.seen l.initial.reader) → (g.R.ByteIn.seen l.reader).has_ended ≡ false;
  soon : (g.R.ByteIn.seen l.reader).calls ≤ (g.R.ByteIn.seen l.initial.reader).calls + l.counter;
  uncalled : l.most_calls ≡ 0 → l.reader ≡ l.initial.reader;
}
