use Rattle.std.proofs.Common.{◌≡◌, ◌+◌, ◌-◌, ◌++◌, ◌∷◌, [], ℕ, List, length, take, drop, map, slice_index_or, sym, ◌∙◌, ap, arith, length-take-le}
use Rattle.std.proofs.lemmas.List.{map-append, drop-drop}
use Rattle.std.proofs.lemmas.Slice.{take-put_mid, drop-put_mid}
use Rattle.mem_device.specs.Memory.{poked_call}
use Rattle.mem_device.specs.Inside.{call_of, calls_of}
use Rattle.mem_device.specs.declared.record.Kept.TheVariants as stored
use Rattle.mem_device.proofs.Records.{size_more, calls_more, end_within, length-bytes_at, taken_more}
use Rattle.mem_device.proofs.record.poke_calls.Goals as goal

pub loop-call-preserved : goal.loop-call-preserved
loop-call-preserved c =
    let calls = c.args.calls.now in
    let i = c.loop-call.call-index in
    let lt = c.loop-call-test.true in
    let d = stored.Read 0 0 in
    let from = c.loop-call.from in
    let from_is = c.loop-call.invariant.from in
    let n = c.size.result in
    let w = c.loop-call.written in
    let old = c.args.written.now in
    let new = c.poke_call.new.bytes in
    let rest = c.loop-call.invariant.rest in
    let poked = poked_call c.args.at c.args.byte in
    let fits = c.requires ∙ sym c.loop-call.auto.written in
    let within = end_within calls i d lt from from_is n c.size.ensures w fits in
    let size : length new ≡ n = c.poke_call.auto.bytes ∙ length-bytes_at calls i d lt from from_is n c.size.ensures w fits in
    record {
      from = size_more calls i d lt from from_is n c.size.ensures;
      done = ap (calls_of (take (i + 1) calls)) (take-put_mid from _ w new (from + n) (omega (arith, size)) (omega (arith, within)))
          ∙ calls_more calls i d lt from from_is n c.size.ensures (take from w) new (length-take-le from w (omega (arith, within))) size
          ∙ (λ j. c.loop-call.invariant.done j ++ (c.poke_call.ensures ∙ ap (λ (l : List ℕ). poked (call_of (take (from + n - from) l) (slice_index_or calls i d))) rest) j ∷ [])
          ∙ sym (map-append poked (calls_of (take i calls) (take from old)) (call_of (take (from + n - from) (drop from old)) (slice_index_or calls i d) ∷ []))
          ∙ ap (map poked) (sym (taken_more calls i d lt from from_is n c.size.ensures old c.requires));
      rest = drop-put_mid from _ w new (from + n) (omega arith) (omega (arith, within)) (omega (arith, size))
          ∙ sym (drop-drop n from w) ∙ ap (drop n) rest ∙ drop-drop n from old;
    }
