-- What there is to see of a store on a device.
use Rattle.store_machine.specs.Standing.{StoreState}
use Rattle.dev_model.specs.Story.{DeviceState}
use Rattle.store_core.specs.declared.store.Store.{Store}

abbrev pub state_of : {D : Type 0} → (D → DeviceState) → Store D → StoreState
state_of seen store = record {
  device = seen store.device;
  declared = store.indexes;
  lists = store.state.0;
  seq = store.seq;
  stopped = store.stopped;
  log = store.log;
  acks = store.acks.items;
  opened_at = store.opened_at;
  opened_faults = store.opened_faults;
}
