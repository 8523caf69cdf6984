use Rattle.std.proofs.Common.{◌≡◌, ◌+◌, ◌<◌, ◌∷◌, inl, length, ◌∙◌, ap, arith, length-append, []}
use Rattle.std.specs.List.{sum_by}
use Rattle.std.proofs.lemmas.List.Sums.{sum_by_push}
use Rattle.mem_device.specs.Inside.{size_of}
use Rattle.mem_device.proofs.Records.{count_is, noted_is, room_calls_is, room_bytes_is, room_when, none_missed, seen_pushed}
use Rattle.mem_device.proofs.record.CallRecord.note.Goals as goal

pub push_within-requires : goal.push_within-requires
push_within-requires c =
    let f = c.self.inside in
    omega (arith, c.requires.calls, count_is f c.args.self.now c.self.view_is, room_calls_is f c.args.self.now c.self.view_is, c.self.invariant.calls_taken, f.calls.ok.0)

pub extend_within-requires : goal.extend_within-requires
extend_within-requires c =
    let f = c.self.inside in
    let room = room_when (length c.args.bytes.now) (length f.written.items) f.room_bytes c.self.invariant.bytes_fit
    (λ some. omega (arith, c.requires.room some, noted_is f c.args.self.now c.self.view_is c.self.invariant.bytes_are, room_bytes_is f c.args.self.now c.self.view_is)) in
    omega (arith, room, c.self.invariant.bytes_taken, f.written.ok.0)

pub invariant_of-self : goal.invariant_of-self
invariant_of-self c =
    let f = c.self.inside in
    let sound = c.self.invariant in
    let call = c.args.call in
    let bytes = c.args.bytes.now in
    let calls : length c.push_within.new.calls.items ≡ length f.calls.items + 1 = ap length c.push_within.ensures.items ∙ length-append f.calls.items (call ∷ []) in
    let written : length c.extend_within.new.written.items ≡ length f.written.items + length bytes = ap length c.extend_within.ensures.items ∙ length-append f.written.items bytes in
    let left : length f.calls.items < f.room_calls = omega (arith, c.requires.calls, count_is f c.args.self.now c.self.view_is, room_calls_is f c.args.self.now c.self.view_is) in
    record {
      calls_fit = omega (arith, calls, left);
      bytes_fit =
          let room = room_when (length bytes) (length f.written.items) f.room_bytes sound.bytes_fit
          (λ some. omega (arith, c.requires.room some, noted_is f c.args.self.now c.self.view_is sound.bytes_are, room_bytes_is f c.args.self.now c.self.view_is)) in
          omega (arith, written, room);
      bytes_are = ap (sum_by size_of) c.push_within.ensures.items ∙ sum_by_push size_of f.calls.items call ∙ omega (arith, written, c.requires.size, sound.bytes_are);
      calls_taken = omega (arith, sound.calls_taken, c.push_within.ensures.capacity);
      bytes_taken = omega (arith, sound.bytes_taken, c.extend_within.ensures.capacity);
      counted = omega (arith, calls, left, none_missed f left sound.missed_past_room, c.self.ranges.1);
      missed_past_room = inl (none_missed f left sound.missed_past_room);
    }

pub returns : goal.returns
returns c =
    let f = c.self.inside in
    let left : length f.calls.items < f.room_calls = omega (arith, c.requires.calls, count_is f c.args.self.now c.self.view_is, room_calls_is f c.args.self.now c.self.view_is) in
    seen_pushed f c.args.self.now c.self.view_is c.args.call c.args.bytes.now c.push_within.new.calls.items c.extend_within.new.written.items c.push_within.ensures.items c.extend_within.ensures.items
    c.self.invariant.bytes_are c.requires.size (none_missed f left c.self.invariant.missed_past_room)
