use Rattle.std.proofs.Common.{◌≡◌, ℕ, take, reverse, slice_index}
use Rattle.std.specs.List.{sum_by}
use Rattle.dev_model.specs.Story.{bytes_after}
use Rattle.dev_model.specs.Story.{place}
use Rattle.mem_device.specs.Inside.{calls_of, size_of}
use Rattle.mem_device.specs.TornImages.{image_after}
use Rattle.mem_device.proofs.record.replay_calls.Given as goal

abbrev pub invariant-loop-index : goal.invariant-loop-index
invariant-loop-index l = record {
  from : l.from ≡ sum_by size_of (take l.index l.calls);
  bytes : (i : ℕ) → slice_index l.bytes i ≡ bytes_after (place l.initial.bytes) (reverse (calls_of (take l.index l.calls) (take l.from l.written))) i;
  image : (i : ℕ) → slice_index l.image i ≡ image_after l.torn (place l.initial.bytes) (reverse (calls_of (take l.index l.calls) (take l.from l.written))) i;
}
