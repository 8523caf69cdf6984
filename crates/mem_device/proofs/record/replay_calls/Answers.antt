use Rattle.std.proofs.Common.{◌≡◌, ℕ, ◌+◌, ◌-◌, ◌<◌, ◌≤◌, ◌∷◌, [], length, take, drop, reverse, slice_index_or, sym, ◌∙◌, ap, subst, arith}
use Rattle.std.specs.List.{sum_by}
use Rattle.std.proofs.lemmas.List.{take_all, length-reverse}
use Rattle.dev_model.specs.Story.{Bytes, Past, bytes_after}
use Rattle.dev_model.specs.Story.{place}
use Rattle.mem_device.specs.Inside.{call_of, calls_of, size_of, AreOnDevice}
use Rattle.mem_device.specs.TornImages.{image_with, image_during, image_after, image_at}
use Rattle.mem_device.specs.declared.record.Kept.TheVariants as stored
use Rattle.mem_device.proofs.Allowed.{bytes_after-call}
use Rattle.mem_device.proofs.Images.{image_at-now, image_at-during}
use Rattle.mem_device.proofs.Records.{size_more, past_more, past_around, length-older, length-calls_of, on_device_at}
use Rattle.mem_device.proofs.record.replay_calls.Goals as goal

pub replay_call-requires-clause-on_device : goal.replay_call-requires-clause-on_device
replay_call-requires-clause-on_device c =
    let around = past_around c.args.calls.now c.loop-index.index (stored.Read 0 0) (omega arith) c.loop-index.from c.loop-index.invariant.from c.size.result c.size.ensures c.args.written.now c.requires.written in
    on_device_at _ _ _ _ (subst (AreOnDevice (length c.loop-index.bytes)) around (subst (λ (n : ℕ). AreOnDevice n (reverse (calls_of c.args.calls.now c.args.written.now))) (sym c.loop-index.auto.bytes) c.requires.on_device))

pub loop-index-preserved : goal.loop-index-preserved
loop-index-preserved c =
    let calls = c.args.calls.now in
    let index = c.loop-index.index in
    let written = c.args.written.now in
    let start = place c.args.bytes.now in
    let from = c.loop-index.from in
    let n = c.size.result in
    let within : index < length calls = omega arith in
    let older = reverse (calls_of (take index calls) (take from written)) in
    let call = call_of (take (from + n - from) (drop from written)) (slice_index_or calls index (stored.Read 0 0)) in
    let more = past_more calls index (stored.Read 0 0) within from c.loop-index.invariant.from n c.size.ensures written c.requires.written in
    let bytes_are : place c.loop-index.bytes ≡ bytes_after start older = λ j i. c.loop-index.invariant.bytes i j in
    let image_is : place c.loop-index.image ≡ image_after c.args.torn start older = λ j i. c.loop-index.invariant.image i j in
    record {
      from = size_more calls index (stored.Read 0 0) within from c.loop-index.invariant.from n c.size.ensures;
      bytes = λ i. c.replay_call.ensures.bytes i ∙ ap (λ (b : Bytes). bytes_after b (call ∷ []) i) bytes_are ∙ ap (λ (b : Bytes). b i) (sym (bytes_after-call start call older))
          ∙ ap (λ (l : Past). bytes_after start l i) (sym more);
      image = λ i. c.replay_call.ensures.image i ∙ (λ j. image_with c.args.torn call (bytes_are j) (image_is j) i) ∙ ap (λ (l : Past). image_after c.args.torn start l i) (sym more);
    }

pub tear_call-requires : goal.tear_call-requires
tear_call-requires c =
    let from_is = c.loop-index.invariant.from ∙ (let all : c.loop-index.index ≡ c.args.moment = omega arith in ap (λ (k : ℕ). sum_by size_of (take k c.args.calls.now)) all) in
    let around = past_around c.args.calls.now c.args.moment (stored.Read 0 0) c.if-moment-calls.true c.loop-index.from from_is c.size-then-moment-calls.result c.size-then-moment-calls.ensures c.args.written.now c.requires.written in
    record {
      on_device = on_device_at _ _ _ _ (subst (AreOnDevice (length c.loop-index.image)) around
          (subst (λ (n : ℕ). AreOnDevice n (reverse (calls_of c.args.calls.now c.args.written.now))) (sym (c.loop-index.auto.image ∙ ap length c.requires.same)) c.requires.on_device));
    }

pub returns-then-moment-calls : goal.returns-then-moment-calls
returns-then-moment-calls c i =
    let calls = c.args.calls.now in
    let written = c.args.written.now in
    let torn = c.args.torn in
    let from = c.loop-index.from in
    let n = c.size-then-moment-calls.result in
    let start = place c.args.image.now in
    let d = stored.Read 0 0 in
    let all : c.loop-index.index ≡ c.args.moment = omega arith in
    let from_is = c.loop-index.invariant.from ∙ ap (λ (k : ℕ). sum_by size_of (take k calls)) all in
    let older = reverse (calls_of (take c.args.moment calls) (take from written)) in
    let call = call_of (take (from + n - from) (drop from written)) (slice_index_or calls c.args.moment d) in
    let image_is : place c.loop-index.image ≡ image_after torn start older =
    (λ j k. c.loop-index.invariant.image k j) ∙ (λ j. image_after torn (place (sym c.requires.same j)) (reverse (calls_of (take (all j) calls) (take from written)))) in
    c.tear_call.ensures i ∙ ap (λ (b : Bytes). image_during torn call b i) image_is
    ∙ ap (λ (b : Bytes). b i)
    (sym (ap (λ (l : Past). image_at torn start l c.args.moment) (past_around calls c.args.moment d c.if-moment-calls.true from from_is n c.size-then-moment-calls.ensures written c.requires.written)
    ∙ image_at-during torn start _ older call c.args.moment (sym (length-older calls c.args.moment d c.if-moment-calls.true from from_is n c.size-then-moment-calls.ensures written c.requires.written))))

pub returns-else-moment-calls : goal.returns-else-moment-calls
returns-else-moment-calls c i =
    let calls = c.args.calls.now in
    let written = c.args.written.now in
    let entries = reverse (calls_of calls written) in
    let all : take c.loop-index.index calls ≡ calls = take_all c.loop-index.index calls (omega arith) in
    let end : take c.loop-index.from written ≡ written = take_all c.loop-index.from written (omega (arith, c.loop-index.invariant.from ∙ ap (sum_by size_of) all, c.requires.written)) in
    let last : length entries ≤ c.args.moment = omega (arith, length-reverse (calls_of calls written), length-calls_of calls written) in
    c.loop-index.invariant.image i ∙ (λ j. image_after c.args.torn (place (sym c.requires.same j)) (reverse (calls_of (all j) (end j))) i)
    ∙ ap (λ (b : Bytes). b i) (sym (image_at-now c.args.torn (place c.args.image.now) entries c.args.moment last))
