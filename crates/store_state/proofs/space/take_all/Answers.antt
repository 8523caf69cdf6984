use Rattle.std.proofs.Common.{rules, ◌≡◌, ◌<◌, length, get_or, ap, ◌∙◌, sym, subst}
use Rattle.space_map.specs.declared.space.Extent.{Extent}
use Rattle.space_map.specs.Space.{IsFreeRun}
use Rattle.store_state.specs.Lists.{extent_of}
use Rattle.store_state.proofs.Taking.{nothing, free-next, taken-next}
use Rattle.store_state.proofs.space.take_all.Goals as goal

pub take-requires-clause-free : goal.take-requires-clause-free
take-requires-clause-free c =
    let slots = c.args.slots.now in
    let i = c.loop-slot.slot-index in
    let inside : i < length slots = search rules in
    let here : c.extent_of.result ≡ extent_of (get_or slots i nothing).1 = search rules in
    let so_far = c.loop-slot.invariant in
    subst (λ (e : Extent). IsFreeRun c.loop-slot.space e.first e.pages) (sym here)
    (free-next slots i nothing inside c.args.space.now c.loop-slot.space so_far.0 so_far.2 c.requires.slots c.requires.apart c.requires.free)

pub loop-slot-preserved : goal.loop-slot-preserved
loop-slot-preserved c =
    let slots = c.args.slots.now in
    let i = c.loop-slot.slot-index in
    let inside : i < length slots = search rules in
    let here : c.extent_of.result ≡ extent_of (get_or slots i nothing).1 = search rules in
    let so_far = c.loop-slot.invariant in (
      ap (λ space. space.pages) c.in_ok-take.ensures.ok ∙ so_far.0,
      c.in_ok-take.ensures.apart,
      taken-next slots i nothing inside c.args.space.now c.loop-slot.space so_far.0 so_far.2 c.take.new.self c.extent_of.result here c.in_ok-take.ensures.ok,
    )
