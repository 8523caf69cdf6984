-- Images that agree beside the log, and what they recover to. No public contract needs these laws.
use Rattle.std.proofs.Common.{◌≡◌, inl, inr, ℕ, ◌+◌, ◌*◌, ◌<◌, ◌≤◌, List, [], ◌∷◌, length, slice_index, sym, ◌∙◌, ap, subst, arith}
use Rattle.dev_model.specs.Story.{Bytes}
use Rattle.dev_model.specs.Laws.Ranges.{part-same}
use Rattle.page_codec.specs.Page.{ShowsRows}
use Rattle.tree_shape.specs.Shape.{level_start, IsPlace}
use Rattle.tree_shape.specs.declared.levels.Shape.{Shape}
use Rattle.tree_shape.specs.Laws.Places.{before_root}
use Rattle.btree_image.specs.Image.{shape_of, level_kind, level_rows}
use Rattle.table_model.specs.Table.{Table}
use Rattle.wal_log.specs.Later.{later}
use Rattle.wal_log.specs.Segments.{Segments, segments_of}
use Rattle.wal_log.specs.Laws.Agreeing.{segments_of-same, segment_at-same}
use Rattle.wal_log.specs.Rules.{Opens as LogOpens, records_of}
use Rattle.format_numbers.specs.declared.TheConstants.{LOG_START}
use Rattle.superblock.specs.Superblock.{declared, IsLookedInSuperblock}
use Rattle.component_image.specs.Replayed.{replayed}
use Rattle.superblock.specs.Laws.Agreeing.{formatted-same}
use Rattle.comp_dir.specs.Directory.{Directory, directory_of}
use Rattle.comp_dir.specs.Choosing.{Opens as DirectoryOpens}
use Rattle.comp_dir.specs.Parts.{HasParts, HasPages, main_tree, tree}
use Rattle.comp_dir.specs.Laws.Agreeing.{directory-same}
use Rattle.comp_dir.specs.declared.places.TheConstants.{MAIN_LEAVES, MAIN_INNERS, PRIMARY}
use Rattle.comp_dir.specs.declared.slots.Slot.{Slot}
use Rattle.primary_ix.specs.Rows.{prim_layout}
use Rattle.primary_ix.specs.declared.rows.PrimRow.{PrimRow}
use Rattle.component_image.specs.Components.{components, end_of, IsInExtent, IsInExtents}
use Rattle.component_image.specs.Content.{page_at, Shows, ShowAll, Count}
use Rattle.component_image.specs.Laid.{table_of}
use Rattle.component_image.specs.Told.{AreTold}
use Rattle.component_image.specs.Recovered.{primary_of, ends_of, IsLookedInLog, IsLookedAt, IsContent, Recovers}
use Rattle.component_image.specs.Laws.Components.{AllOf, components-all}

-- a component of the primary whose parts lie in its extent
abbrev pub IsPrimary : Slot → Type 0
IsPrimary s = (s.index ≡ PRIMARY) × HasParts s

-- the components of a directory that opens
pub primaries : (pages declared : ℕ) (slots : Directory) → DirectoryOpens pages declared slots → AllOf IsPrimary (components PRIMARY slots)
primaries pages declared slots opens = components-all HasParts PRIMARY slots (λ n body is. (opens.sound n body is).sound.parts)

-- a page of a component's tree lies in its extent
page-inside : (s : Slot) (rows level at : ℕ) → IsPrimary s → rows ≡ s.main_rows → IsPlace (shape_of prim_layout rows) level at → level_start (shape_of prim_layout rows) level + at < s.pages
page-inside s rows level at primary count place =
    let shape : main_tree s ≡ shape_of prim_layout rows = λ j. tree (slice_index MAIN_LEAVES (primary.0 j)) (slice_index MAIN_INNERS (primary.0 j)) (sym count j) in
    let pages : HasPages (shape_of prim_layout rows) primary.1.main = subst (λ (x : Shape). HasPages x primary.1.main) shape primary.1.main_pages in
    let last : level_start (shape_of prim_layout rows) level + at ≤ level_start (shape_of prim_layout rows) pages.root = before_root (shape_of prim_layout rows) pages.root level at pages.is_root place in
    omega (arith, last, pages.counts, primary.1.main_inside)

pub Shows-same : (a b : Bytes) (s : Slot) (rows : List PrimRow) → IsPrimary s → ((i : ℕ) → IsInExtent s i → b i ≡ a i) → Shows a s rows → Shows b s rows
Shows-same a b s rows primary same shown = record {
  is = shown.is;
  shows = λ level at place.
      let page : ℕ = s.first + (level_start (shape_of prim_layout (length rows)) level + at) in
      let inside : level_start (shape_of prim_layout (length rows)) level + at < s.pages = page-inside s (length rows) level at primary shown.is.count place in
      let bytes : page_at b page ≡ page_at a page = part-same (page * 4096) 4096 b a (λ i low high. same i (record { from = omega (arith, low); to = omega (arith, high, inside) })) in
      subst (λ (x : List ℕ). ShowsRows (level_kind prim_layout level) level (level_rows prim_layout rows level at) x) (sym bytes) (shown.shows level at place);
}

-- components show the same lists in bytes that agree at all of their pages
pub ShowAll-same : (a b : Bytes) (slots : List Slot) (lists : List (List PrimRow)) → AllOf IsPrimary slots → ((i : ℕ) → IsInExtents slots i → b i ≡ a i) → ShowAll a slots lists → ShowAll b slots lists
ShowAll-same a b [] [] all same shown = tt
ShowAll-same a b (s ∷ slots) [] all same shown = absurd shown
ShowAll-same a b [] (rows ∷ lists) all same shown = absurd shown
ShowAll-same a b (s ∷ slots) (rows ∷ lists) all same shown = (
  Shows-same a b s rows all.0 (λ i here. same i (inl here)) shown.0,
  ShowAll-same a b slots lists all.1 (λ i here. same i (inr here)) shown.1,
)

-- the bytes agree at what an opening looks at in the superblock, have the same directory, and agree at the pages of the components
pub record AgreeBeside (a b : Bytes) : Type 0 where
  pub superblock : (i : ℕ) → IsLookedInSuperblock a i → b i ≡ a i
  pub directory : directory_of b ≡ directory_of a
  pub content : (i : ℕ) → IsContent a i → b i ≡ a i

-- Beside a log that opens, whose later records are told of the lists, the image recovers to the same lists with these writes behind
-- them.
pub recovers-beside : (pages : ℕ) (table : Table) (a b : Bytes) (r : Recovers pages table a) → AgreeBeside a b → LogOpens (ends_of (primary_of a)) (segments_of LOG_START b)
    → AreTold (table_of r.lists) (later (end_of (primary_of a)) (records_of (segments_of LOG_START b)))
    → Recovers pages (replayed (table_of r.lists) (later (end_of (primary_of a)) (records_of (segments_of LOG_START b)))) b
recovers-beside pages table a b r agree log told =
    let slots : primary_of b ≡ primary_of a = ap (components PRIMARY) agree.directory in
    record {
      opens = record {
        formatted = formatted-same pages a b agree.superblock r.opens.formatted;
        directory = subst (DirectoryOpens pages 0) (sym agree.directory) r.opens.directory;
        log = subst (λ (x : List Slot). LogOpens (ends_of x) (segments_of LOG_START b)) (sym slots) log;
      };
      lists = r.lists;
      shown = subst (λ (x : List Slot). ShowAll b x r.lists) (sym slots) (ShowAll-same a b (primary_of a) r.lists (primaries pages 0 (directory_of a) r.opens.directory) agree.content r.shown);
      counted = subst (λ (x : List Slot). Count x r.lists) (sym slots) r.counted;
      table_is = ap (λ (x : List Slot). replayed (table_of r.lists) (later (end_of x) (records_of (segments_of LOG_START b)))) (sym slots);
      told = subst (λ (x : List Slot). AreTold (table_of r.lists) (later (end_of x) (records_of (segments_of LOG_START b)))) (sym slots) told;
    }

-- images that agree where an opening looks in the log have the same log
pub log-same : (a b : Bytes) → ((i : ℕ) → IsLookedInLog a i → b i ≡ a i) → segments_of LOG_START b ≡ segments_of LOG_START a
log-same a b same = segments_of-same LOG_START a b (λ j lt. segment_at-same LOG_START j a b (λ i looked. same i (j, lt, looked)))

-- images that agree at all that an opening looks at and at the pages of the components recover to the same table
pub recovers-same : (pages : ℕ) (table : Table) (a b : Bytes) → ((i : ℕ) → IsLookedAt a i → b i ≡ a i) → ((i : ℕ) → IsContent a i → b i ≡ a i) → Recovers pages table a → Recovers pages table b
recovers-same pages table a b same content r =
    let segments : segments_of LOG_START b ≡ segments_of LOG_START a = log-same a b (λ i looked. same i (inr (inr looked))) in
    let agree : AgreeBeside a b = record { superblock = λ i looked. same i (inl looked); directory = directory-same a b (λ i looked. same i (inr (inl looked))); content = content } in
    subst (λ (t : Table). Recovers pages t b) (ap (λ (x : Segments). replayed (table_of r.lists) (later (end_of (primary_of a)) (records_of x))) segments ∙ sym r.table_is)
    (recovers-beside pages table a b r agree (subst (LogOpens (ends_of (primary_of a))) (sym segments) r.opens.log)
    (subst (λ (x : Segments). AreTold (table_of r.lists) (later (end_of (primary_of a)) (records_of x))) (sym segments) r.told))
