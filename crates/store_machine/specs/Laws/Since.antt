-- What a store stands for since it was opened, as its reader sees it. No public contract needs these laws.
use Rattle.std.proofs.Common.{◌≡◌, true, List, Some, refl, ◌∙◌, ap, subst}
use Rattle.dev_model.specs.Story.{Story, after}
use Rattle.table_model.specs.Table.{Table}
use Rattle.primary_ix.specs.declared.rows.PrimRow.{PrimRow}
use Rattle.store_state.specs.Held.{IsHeld}
use Rattle.wal_log.specs.declared.log.Log.{Log}
use Rattle.store_state.specs.Lists.{Lists}
use Rattle.dev_model.specs.Story.{DeviceState}
use Rattle.store_machine.specs.Machine.{Machine, Opening, after_all}
use Rattle.store_machine.specs.Runs.{IsRun}
use Rattle.store_machine.specs.Standing.{StoreState, Stands, StandsSince, Tells}
use Rattle.store_machine.specs.Since.{began_with, IsOnDevice, MadeFrom, MadeSince}
use Rattle.store_machine.specs.declared.events.Event.{Event}

made-from : (table : Table) (disk : List (List PrimRow)) (o : Opening) (store : StoreState) (events : List Event) → Stands true (record o { table = table; disk = disk }) store events → MadeFrom table o store.device events
made-from table disk o store events stands = record {
  opened = tells.opening;
  is = tells.begins.is;
  clock = tells.begins.clock;
  held = tells.begins.kept.held;
  run = subst (λ (lists : List (List PrimRow)). IsRun true (began_with table lists o) events) tells.begins.disk_is stands.run;
  calls = tells.calls;
  told = tells.told ∙ ap (λ (u : Story). Some u) tells.went;
  made = tells.made ∙ ap (λ (lists : List (List PrimRow)). (after_all (began_with table lists o) events).device_calls) tells.begins.disk_is;
  left = subst (λ (x : Machine). IsOnDevice x store.device.pages (after tells.opening tells.calls)) same kept_now;
}
  where
    m : Machine
    m = after_all (began_with table disk o) events

    tells : Tells (record o { table = table; disk = disk }) store m
    tells = stands.tells refl

    same : m ≡ after_all (began_with table tells.begins.kept.held.rests.recovers.lists o) events
    same = ap (λ (lists : List (List PrimRow)). after_all (began_with table lists o) events) tells.begins.disk_is

    kept_now : IsOnDevice m store.device.pages (after tells.opening tells.calls)
    kept_now going =
        subst (λ (u : Story). IsHeld store.device.pages m.log m.table m.lists u) tells.went
        (subst (λ (l : Lists). IsHeld store.device.pages m.log m.table l tells.now) stands.has.lists
        (subst (λ (log : Log). IsHeld store.device.pages log m.table store.lists tells.now) stands.has.log (tells.kept going).held))

pub made-since : (device : DeviceState) (store : StoreState) (events : List Event) → StandsSince device store events → MadeSince device store.device store.acks events
made-since device store events since = record {
  opening = since.opening;
  reads = since.reads;
  later = since.later;
  declares = λ s told calm. (since.opens s told calm).1;
  run = since.untold.run;
  faults = since.untold.has.faults;
  clock = since.untold.has.clock;
  acks_are = since.untold.has.acks;
  damages = since.untold.damages;
  from = λ table s told holds. let at : _ = since.told table s told holds in made-from table at.0 since.opening store events at.1;
}
