use Rattle.std.proofs.Common.{◌≡◌, take}
use Rattle.wal_log.specs.Later.{later}
use Rattle.wal_log.specs.UpTo.{up_to}
use Rattle.store_state.specs.EveryList.{IsLists}
use Rattle.store_opening.specs.Restored.{with_records}
use Rattle.store_opening.proofs.replay.lay_all.Given as goal

abbrev pub invariant-loop-logged : goal.invariant-loop-logged
invariant-loop-logged l = record {
  lists : l.state.0 ≡ with_records (up_to l.last (later l.after (take l.logged-index l.records))) l.fn.state.0;
  sound : IsLists l.fn.state.0 → IsLists l.state.0;
}
