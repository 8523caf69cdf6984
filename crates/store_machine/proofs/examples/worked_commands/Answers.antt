use Rattle.std.proofs.Common.{◌≡◌, inl, inr, false, List, [], ◌∷◌, ◌++◌, length, Ok, Some, None, refl, ap, arith, length-append}
use Rattle.store_machine.specs.declared.events.Event.{Event}
use Rattle.store_machine.specs.Examples.{seven, put_seven, unplaced_flush, looked, got, page_read}
use Rattle.store_machine.proofs.examples.worked_commands.Goals as goal

abbrev flush_events : List Event
flush_events = unplaced_flush ++ looked 0 1 33 ∷ []

abbrev get_events : List Event
get_events = got 1 (Some seven) (page_read 33 1085440) 34 ∷ []

pub returns-clause-carried_out : goal.returns-clause-carried_out
returns-clause-carried_out c = (
  put_seven ∷ [],
  flush_events ++ get_events,
  refl,
  inl (record { event = put_seven; only = refl; call = (refl, (Ok (record { seq = 0; old = None; ops = 1; ack = 24 }), refl, refl)) }),
  (
    flush_events,
    get_events,
    refl,
    record { none = refl; first = _; later = _; looks_are = refl; told = record { ops = 0; frozen = false; lanes = 0; placed = 1; lsn = 1 }; is_told = (1, omega arith, refl); placed = omega arith },
    (
      get_events,
      [],
      refl,
      inl (record { event = _; only = refl; call = (refl, (Ok (record { seq = 1; row = Some seven }), refl, refl)) }),
      refl,
    ),
  ),
)

pub returns-clause-put_to_be_made_again : goal.returns-clause-put_to_be_made_again
returns-clause-put_to_be_made_again c outcome (inl one) = let nothing : ◌≡◌ {A = List Event} [] (one.event ∷ []) = one.only in cc
returns-clause-put_to_be_made_again c outcome (inr refusal) =
    let count : 1 ≡ length (refusal.upkeep.before ++ refusal.upkeep.last ∷ []) = ap (λ (es : List Event). length es) refusal.upkeep.are in
    omega (arith, count, length-append refusal.upkeep.before (refusal.upkeep.last ∷ []), refusal.is_before.1)
