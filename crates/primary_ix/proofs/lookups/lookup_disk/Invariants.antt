use Rattle.std.proofs.Common.{◌≡◌, ℕ, List, ◌++◌, None, drop}
use Rattle.order_merge.specs.Entries.{newest_at}
use Rattle.primary_ix.specs.declared.rows.PrimRow.{PrimRow}
use Rattle.primary_ix.specs.Reading.{prim_reading}
use Rattle.primary_ix.specs.Components.{AreShown}
use Rattle.primary_ix.specs.Roots.{AreRoots}
use Rattle.primary_ix.specs.OnPages.{ReadsAmong}
use Rattle.primary_ix.specs.Lookups.{lookup_pages}
use Rattle.primary_ix.proofs.lookups.lookup_disk.Given as goal

abbrev pub invariant-loop-comp : goal.invariant-loop-comp
invariant-loop-comp g l = record {
  seen : List ℕ;
  reads : ReadsAmong l.comps g.P.Pages.lending g.P.Pages.asked l.initial.pages l.pages None seen;
  told : (disk : List (List PrimRow)) → AreShown (g.P.Pages.lending l.initial.pages).contents l.comps disk
      → newest_at prim_reading disk l.key ≡ newest_at prim_reading (drop l.comp-index disk) l.key;
  way : (disk : List (List PrimRow)) (roots : List ℕ) → AreShown (g.P.Pages.lending l.initial.pages).contents l.comps disk → AreRoots l.comps roots
      → seen ++ lookup_pages l.key (drop l.comp-index l.comps) (drop l.comp-index disk) (drop l.comp-index roots) ≡ lookup_pages l.key l.comps disk roots;
}
