use Rattle.std.proofs.Common.{◌≡◌, inl, ℕ, zero, suc, ◌+◌, Bool, false, true, List, length, [], ◌∷◌, ◌++◌, None, Some, Ok, IsTrue, refl, sym, ◌∙◌, ap, subst, arith}
use Rattle.std.proofs.lemmas.List.Elements.{All-nil, All-cons}
use Rattle.dev_model.specs.DeviceCalls.{made_at}
use Rattle.dev_model.specs.declared.calls.DeviceCall.{DeviceCall}
use Rattle.dev_model.specs.declared.calls.DeviceAct.TheVariants.{WriteAt, SyncAll}
use Rattle.device_pages.specs.Lent.{is_lent}
use Rattle.order_merge.specs.Adding.{with_entry}
use Rattle.order_merge.specs.Entries.{entry_at, newest_at}
use Rattle.tree_shape.specs.Shape.{IsRoot, level_size, level_start}
use Rattle.btree_image.specs.Descent.{descent}
use Rattle.primary_ix.specs.Roots.{AreRoots}
use Rattle.primary_ix.specs.Lookups.{lookup_pages}
use Rattle.primary_ix.specs.declared.component.PrimComp.{PrimComp}
use Rattle.wal_log.specs.State.{header_bytes}
use Rattle.comp_dir.specs.Parts.{HasPages}
use Rattle.comp_dir.specs.Slots.{slot_bytes}
use Rattle.btree_image.specs.Image.{shape_of}
use Rattle.primary_ix.specs.Rows.{prim_layout}
use Rattle.store_state.specs.Lists.{extents_of, frozen_rows, trees_of}
use Rattle.store_machine.specs.declared.events.Action.{Action}
use Rattle.store_machine.specs.declared.events.Action.TheVariants.{Freeze}
use Rattle.store_machine.specs.Machine.{Machine, at_opening, after_event, after_all, row_of}
use Rattle.store_machine.specs.Needs.{Needs}
use Rattle.store_machine.specs.Runs.{Acknowledges, Allows, AreReads, IsAllOf, IsWriteBehindReads, IsOwned, IsRun, MakesCalls, Stops, TakesTime, is_fault, log_calls, way_to}
use Rattle.store_machine.specs.Examples.{start, seven, put_seven, got, del_seven, counted, failed_put, refused_put, page_read, looked, frozen, job, begun, page_written, installed, gated_write, flushed, idle, event, two_components}
use Rattle.store_machine.specs.declared.events.Refusal.TheVariants.{Stopped}
use Rattle.store_machine.proofs.ExampleTables.{nothing_there, no_rows_again, row_beside, row_there, seven_there}
use Rattle.store_machine.proofs.examples.worked_runs.Goals as goal

-- an event in which the device never failed
allows : (m : Machine) (action : Action) (calls : List DeviceCall) (clock : ℕ) → Needs true m action → IsOwned action (Some 1) → MakesCalls m action false calls
    → Acknowledges action clock → is_fault action ≡ false → Stops action false → m.faults ≡ 0 → clock ≡ m.clock + length calls → Allows true m (event action calls clock)
allows m action calls clock needs owned made acks well stops faults ticks = record {
  needs = needs;
  owned = owned;
  calls = λ _. made;
  ticks = λ _. subst (λ (fault : Bool). TakesTime fault m.clock calls clock) (sym well) ticks;
  acks = acks;
  stops = stops;
  later = omega (arith, faults);
  faults = omega arith;
  cause = λ fault. absurd (let e : false ≡ true = sym well ∙ fault in cc);
  time = omega (arith, ticks);
}

abbrev opened : Machine
opened = at_opening start

abbrev after_put : Machine
after_put = after_event opened put_seven

abbrev after_get : Machine
after_get = after_event after_put (got 1 (Some seven) [] 24)

abbrev after_del : Machine
after_del = after_event after_get del_seven

-- where there is no component, or a list in memory has the key, no page is read
none_read : (m : Machine) → ((roots : List ℕ) → [] ≡ way_to 7 m.lists m.disk roots) → AreReads m (way_to 7) IsAllOf []
none_read m none = record {
  pages = [];
  lent = All-nil (λ page. IsTrue (is_lent (extents_of m.lists.components) page));
  are = refl;
  part = λ roots are. none roots;
}

opened_read : AreReads opened (way_to 7) IsAllOf []
unfolding lookup_pages newest_at entry_at
opened_read = none_read opened (λ roots. refl)

put_read : AreReads after_put (way_to 7) IsAllOf []
unfolding with_entry newest_at entry_at
put_read = none_read after_put (λ roots. refl)

get_read : AreReads after_get (way_to 7) IsAllOf []
unfolding with_entry newest_at entry_at
get_read = none_read after_get (λ roots. refl)

-- a write whose row wasn't looked for on the device
logs : (m : Machine) → AreReads m (way_to 7) IsAllOf [] → IsWriteBehindReads m 7 (log_calls m.log m.clock)
logs m none = record { reads = []; are_reads = none; are = ap (log_calls m.log) (let same : m.clock ≡ m.clock + 0 = omega arith in same) }

puts : Allows true opened put_seven
puts = allows opened _ _ _ (record { ready = record { going = refl; numbers = omega arith; room = omega arith }; seq = refl; ops = refl; old = λ _. sym nothing_there })
    tt (logs opened opened_read) refl refl refl refl (omega arith)

gets : Allows true after_put (got 1 (Some seven) [] 24)
gets = allows after_put _ _ _ (record { seq = refl; row = λ _. sym row_there }) tt put_read tt refl refl refl (omega arith)

dels : Allows true after_get del_seven
dels = allows after_get _ _ _ (record { ready = record { going = refl; numbers = omega arith; room = omega arith }; seq = refl; ops = refl; old = λ _. sym seven_there })
    tt (logs after_get get_read) refl refl refl refl (omega arith)

counts : Allows true after_del (counted 3 0 28)
counts = allows after_del _ _ _ (refl, refl, λ _. sym no_rows_again) tt refl tt refl refl refl (omega arith)

pub returns-clause-worked : goal.returns-clause-worked
returns-clause-worked c = (puts, (gets, (dels, (counts, tt))))

fails : Allows true opened failed_put
fails = record {
  needs = record { going = refl; numbers = omega arith; room = omega arith };
  owned = tt;
  calls = λ _. record {
    reads = [];
    are_reads = opened_read;
    logged = failed_put.device_calls;
    front = record { failed = made_at 22 SyncAll; left = made_at 23 (WriteAt 36928 1) ∷ made_at 24 SyncAll ∷ []; front = refl };
    are = refl;
  };
  ticks = λ _. (omega arith, omega arith);
  acks = tt;
  stops = tt;
  later = omega arith;
  faults = omega arith;
  cause = λ _. omega arith;
  time = omega arith;
}

refuses : Allows true (after_event opened failed_put) (refused_put (Stopped 1) 1 22)
refuses = record {
  needs = refl;
  owned = tt;
  calls = λ _. refl;
  ticks = λ _. refl;
  acks = tt;
  stops = refl;
  later = omega arith;
  faults = omega arith;
  cause = λ fault. absurd (let e : false ≡ true = fault in cc);
  time = omega arith;
}

pub returns-clause-stopped : goal.returns-clause-stopped
returns-clause-stopped c = (fails, (refuses, tt))

abbrev after_look : Machine
after_look = after_event after_put (looked 1 0 24)

abbrev after_freeze : Machine
after_freeze = after_event after_look (frozen 24 299008)

abbrev after_begin : Machine
after_begin = after_event after_freeze (begun 28)

abbrev after_page : Machine
after_page = after_event after_begin (page_written 1)

abbrev after_install : Machine
after_install = after_event after_page (installed 1 (gated_write 29 4096 63))

abbrev after_placed : Machine
after_placed = after_event after_install (looked 0 1 33)

looks : Allows true after_put (looked 1 0 24)
looks = allows after_put _ _ _ (record { ops = refl; frozen = refl; lanes = refl; placed = refl; lsn = refl }) tt refl tt refl refl refl (omega arith)

freezes : Allows true after_look (frozen 24 299008)
unfolding header_bytes
freezes = allows after_look _ _ _ (record { going = refl; enough = omega arith; some = omega arith; none_waits = refl }) tt refl tt refl refl refl (omega arith)

one_page : HasPages (shape_of prim_layout (length (frozen_rows after_freeze.lists.frozen))) 1
unfolding with_entry level_size level_start
one_page = record { root = 0; is_root = record { alone = refl; lowest = λ below lt. omega (arith, lt) }; counts = refl }

begins : Allows true after_freeze (begun 28)
unfolding with_entry
begins = allows after_freeze _ _ _ (
  refl,
  record {
    frozen = λ none. (let e : after_freeze.lists.frozen ≡ None = none in cc);
    none = refl;
    few = omega arith;
    index = refl;
    pages = one_page;
    first_fit = record {
      free = record { above = omega arith; within = omega arith; free = λ page from to. refl };
      first = λ before lt run. omega (arith, lt, run.above);
    };
    slot = record { inside = omega arith; closed = refl; lowest = λ n lt. absurd (omega (arith, lt)) };
  },
  refl,
) refl refl tt refl refl refl (omega arith)

writes_page : Allows true after_begin (page_written 1)
unfolding with_entry
writes_page = allows after_begin _ _ _ (refl, record { begun = record { row = row_of (job 0); is = refl; owned = refl; same = refl }; left = omega arith }) refl refl tt refl refl refl (omega arith)

installs : Allows true after_page (installed 1 (gated_write 29 4096 63))
unfolding with_entry slot_bytes
installs = allows after_page _ _ _ (refl, record { begun = record { row = row_of (job 1); is = refl; owned = refl; same = refl }; none_left = refl }) refl refl tt refl refl refl (omega arith)

looks_placed : Allows true after_install (looked 0 1 33)
looks_placed = allows after_install _ _ _ (record { ops = refl; frozen = refl; lanes = refl; placed = refl; lsn = refl }) tt refl tt refl refl refl (omega arith)

-- a component of one row has its root on level 0
root_is : (root : ℕ) → IsRoot (shape_of prim_layout 1) root → root ≡ 0
unfolding level_size
root_is zero is = refl
root_is (suc n) is = absurd (omega (arith, is.lowest 0 (omega arith)))

on_way : 265 ∷ [] ≡ way_to 7 after_placed.lists after_placed.disk (0 ∷ [])
unfolding with_entry lookup_pages descent newest_at entry_at level_size level_start
on_way = refl

root_zero : (roots : List ℕ) → AreRoots (trees_of after_placed.lists.components) roots → roots ≡ 0 ∷ []
unfolding with_entry
root_zero roots are = by_roots roots are
  where
    by_roots : (rs : List ℕ) → AreRoots (trees_of after_placed.lists.components) rs → rs ≡ 0 ∷ []
    by_roots [] is = absurd (omega (arith, is.count))
    by_roots (root ∷ []) is = ap (λ (n : ℕ). n ∷ []) (root_is root (is.each 0 (record { tree = record { first = 0; rows = 0 } }) 0 (omega arith)))
    by_roots (root ∷ other ∷ more) is = absurd (omega (arith, is.count))

reads_page : AreReads after_placed (way_to 7) IsAllOf (page_read 33 1085440)
reads_page = record {
  pages = 265 ∷ [];
  lent = All-cons (λ page. IsTrue (is_lent (extents_of after_placed.lists.components) page)) 265 [] refl (All-nil (λ page. IsTrue (is_lent (extents_of after_placed.lists.components) page)));
  are = refl;
  part = λ roots are. subst (λ (rs : List ℕ). 265 ∷ [] ≡ way_to 7 after_placed.lists after_placed.disk rs) (sym (root_zero roots are)) on_way;
}

reads : Allows true after_placed (got 1 (Some seven) (page_read 33 1085440) 34)
reads = allows after_placed _ _ _ (record { seq = refl; row = λ _. sym row_there }) tt reads_page tt refl refl refl (omega arith)

pub returns-clause-flushed : goal.returns-clause-flushed
returns-clause-flushed c = (puts, (looks, (freezes, (begins, (writes_page, (installs, (looks_placed, (reads, tt))))))))

idles : (m : Machine) → m.stopped ≡ None → m.log.records ≡ 0 → m.lists.frozen ≡ None → m.faults ≡ 0 → m.clock ≡ 34 → IsRun true m (idle 34)
idles m going none_logged none_waits faults time = (
  allows m _ _ _ (going, inl (omega (arith, none_logged))) tt refl tt refl refl faults (omega (arith, time)),
  (allows (after_event m (event (Freeze 1 (Ok false)) [] 34)) _ _ _ (going, none_waits) tt refl tt refl refl refl (omega arith), tt),
)

pub returns-clause-idle : goal.returns-clause-idle
returns-clause-idle c = idles (after_all (at_opening start) flushed) refl refl refl refl (omega arith)

abbrev two : Machine
two = at_opening two_components

root_zeros : (roots : List ℕ) → AreRoots (trees_of two.lists.components) roots → roots ≡ 0 ∷ 0 ∷ []
root_zeros [] is = absurd (omega (arith, is.count))
root_zeros (root ∷ []) is = absurd (omega (arith, is.count))
root_zeros (root ∷ other ∷ []) is =
    let none : PrimComp = record { tree = record { first = 0; rows = 0 } } in
    let one : root ≡ 0 = root_is root (is.each 0 none 0 (omega arith)) in
    let two : other ≡ 0 = root_is other (is.each 1 none 0 (omega arith)) in
    λ i. one i ∷ two i ∷ []
root_zeros (root ∷ other ∷ third ∷ more) is = absurd (omega (arith, is.count))

on_both : 266 ∷ 265 ∷ [] ≡ way_to 7 two.lists two.disk (0 ∷ 0 ∷ [])
unfolding lookup_pages descent newest_at entry_at level_size level_start
on_both = refl

reads_both : AreReads two (way_to 7) IsAllOf (page_read 20 1089536 ++ page_read 21 1085440)
reads_both = record {
  pages = 266 ∷ 265 ∷ [];
  lent = All-cons (λ page. IsTrue (is_lent (extents_of two.lists.components) page)) 266 (265 ∷ []) refl
      (All-cons (λ page. IsTrue (is_lent (extents_of two.lists.components) page)) 265 [] refl (All-nil (λ page. IsTrue (is_lent (extents_of two.lists.components) page))));
  are = refl;
  part = λ roots are. subst (λ (rs : List ℕ). 266 ∷ 265 ∷ [] ≡ way_to 7 two.lists two.disk rs) (sym (root_zeros roots are)) on_both;
}

gets_older : Allows true two (got 0 (Some seven) (page_read 20 1089536 ++ page_read 21 1085440) 22)
gets_older = allows two _ _ _ (record { seq = refl; row = λ _. sym row_beside }) tt reads_both tt refl refl refl (omega arith)

pub returns-clause-both_components : goal.returns-clause-both_components
returns-clause-both_components c = (gets_older, tt)
