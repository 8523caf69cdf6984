use Rattle.std.proofs.Common.{◌≡◌, min, length, reverse, sym, ◌∙◌, ap, subst, arith}
use Rattle.std.proofs.lemmas.List.{length-reverse}
use Rattle.dev_model.specs.Story.{Bytes, Calls}
use Rattle.dev_model.specs.Story.{place}
use Rattle.mem_device.specs.Inside.{Noted, calls_of, AreOnDevice}
use Rattle.mem_device.specs.TornImages.{image_at}
use Rattle.mem_device.proofs.Images.{image_at-min, image_at-with_missed}
use Rattle.mem_device.proofs.Records.{length-calls_of, on_device_kept}
use Rattle.mem_device.proofs.record.CallRecord.replay.Goals as goal

pub replay_calls-requires-clause-on_device : goal.replay_calls-requires-clause-on_device
replay_calls-requires-clause-on_device c =
    let size = length c.args.bytes.now in
    let lent : calls_of c.deref.result.now c.deref-2.result.now ≡ calls_of c.self.inside.calls.items c.self.inside.written.items = λ j. calls_of (c.deref.ensures.value j) (c.deref-2.ensures.value j) in
    subst (λ (es : Calls). AreOnDevice size (reverse es)) (sym lent)
    (on_device_kept size c.self.inside.missed _ (subst (λ (n : Noted). AreOnDevice size n.past) (sym c.self.view_is) c.requires.on_device))

pub returns : goal.returns
returns c i =
    let f = c.self.inside in
    let torn = c.args.torn in
    let start = place c.args.image.now in
    let calls = calls_of f.calls.items f.written.items in
    let count : c.min-count.result ≡ min c.args.moment (length (reverse calls)) =
    omega (arith, c.min-count.ensures, c.len.ensures, f.calls.ok.0, length-reverse calls, length-calls_of f.calls.items f.written.items) in
    c.replay_calls.ensures i ∙ (λ j. image_at torn start (reverse (calls_of (c.deref.ensures.value j) (c.deref-2.ensures.value j))) (count j) i)
    ∙ ap (λ (b : Bytes). b i) (image_at-min torn start (reverse calls) c.args.moment ∙ sym (image_at-with_missed torn start f.missed (reverse calls) c.args.moment))
    ∙ ap (λ (n : Noted). image_at torn start n.past c.args.moment i) c.self.view_is
