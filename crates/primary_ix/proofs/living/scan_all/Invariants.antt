use Rattle.std.proofs.Common.{◌≡◌, ℕ, List, ◌++◌, None, All, map, take, drop}
use Rattle.order_merge.specs.Ascending.{Ascends}
use Rattle.primary_ix.specs.declared.rows.PrimRow.{PrimRow}
use Rattle.primary_ix.specs.Reading.{prim_reading}
use Rattle.primary_ix.specs.Components.{AreShown}
use Rattle.primary_ix.specs.Roots.{AreRoots}
use Rattle.primary_ix.specs.OnPages.{ReadsAmong}
use Rattle.primary_ix.specs.AllPages.{all_pages}
use Rattle.primary_ix.proofs.living.scan_all.Given as goal

abbrev pub invariant-loop-comp : goal.invariant-loop-comp
invariant-loop-comp g l = record {
  ascend : All (λ list. Ascends prim_reading list.items) l.lists.items;
  seen : List ℕ;
  reads : ReadsAmong l.comps g.P.Pages.lending g.P.Pages.asked l.initial.pages l.pages None seen;
  told : (disk : List (List PrimRow)) → AreShown (g.P.Pages.lending l.initial.pages).contents l.comps disk
      → map (λ list. list.items) l.lists.items ≡ map (λ list. list.items) l.initial.lists.items ++ take l.comp-index disk;
  way : (disk : List (List PrimRow)) (roots : List ℕ) → AreShown (g.P.Pages.lending l.initial.pages).contents l.comps disk → AreRoots l.comps roots
      → seen ++ all_pages (drop l.comp-index l.comps) (drop l.comp-index roots) ≡ all_pages l.comps roots;
}
