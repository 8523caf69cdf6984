use Rattle.std.proofs.Common.{◌≡◌, map, reverse, ◌∙◌, ap, sym}
use Rattle.std.proofs.lemmas.List.{with_items_is}
use Rattle.mem_device.specs.Memory.{poked_call}
use Rattle.mem_device.specs.Inside.{Noted, calls_of, with_missed}
use Rattle.mem_device.proofs.Poking.{with_missed-poked, reverse-poked}
use Rattle.mem_device.proofs.record.CallRecord.poke.Goals as goal

pub returns : goal.returns
returns c =
    let f = c.self.inside in
    let is = c.self.view_is in
    let written = with_items_is f.written c.poke_calls.new.written (c.poke_calls.auto.written ∙ c.deref_mut.ensures.len) in
    let calls : calls_of f.calls.items c.poke_calls.new.written ≡ map (poked_call c.args.at c.args.byte) (calls_of f.calls.items f.written.items) =
    (λ j. calls_of (sym c.deref.ensures.value j) c.poke_calls.new.written) ∙ c.poke_calls.ensures ∙ (λ j. map (poked_call c.args.at c.args.byte) (calls_of (c.deref.ensures.value j) (c.deref_mut.ensures.value j))) in
    let past = (λ j. with_missed f.missed (reverse (calls_of f.calls.items (written j)))) ∙ ap (λ es. with_missed f.missed (reverse es)) calls
    ∙ ap (with_missed f.missed) (reverse-poked c.args.at c.args.byte (calls_of f.calls.items f.written.items))
    ∙ with_missed-poked c.args.at c.args.byte f.missed (reverse (calls_of f.calls.items f.written.items))
    ∙ ap (λ (n : Noted). map (poked_call c.args.at c.args.byte) n.past) is in
    λ j. record { past = past j; room_calls = (is j).room_calls; room_bytes = (is j).room_bytes }
