-- What follows for a job from its plan. No public contract needs these laws.
use Rattle.std.proofs.Common.{◌≡◌, ℕ, ◌+◌, ◌*◌, ◌<◌, ◌≤◌, ◌^◌, max, min, true, false, List, [], ◌∷◌, length, Option, Some, None, All, inl, inr, arith, refl, ap, subst}
use Rattle.std.proofs.lemmas.Bool.{cases_lt, cases_Bool, both_ways, and_from, or_parts, le-leb, lt-ltb, ltb-true}
use Rattle.std.proofs.lemmas.List.Elements.{All-nil, All-cons}
use Rattle.tree_shape.specs.declared.levels.Shape.{Shape}
use Rattle.tree_shape.specs.Shape.{level_size, level_start, span}
use Rattle.tree_shape.specs.Laws.Covers.{size_covers, span-zero}
use Rattle.tree_shape.specs.Laws.Places.{start-after}
use Rattle.btree_image.specs.Image.{shape_of}
use Rattle.space_map.specs.Space.{is_in, is_reserved}
use Rattle.comp_dir.specs.Choosing.{shares_page}
use Rattle.comp_dir.specs.Directory.{Numbered}
use Rattle.comp_dir.specs.Parts.{HasPages}
use Rattle.comp_dir.specs.Rules.{IsSound}
use Rattle.comp_dir.specs.declared.places.TheConstants.{LSN_LIMIT}
use Rattle.comp_dir.specs.declared.slots.Slot.{Slot}
use Rattle.primary_ix.specs.Rows.{prim_layout}
use Rattle.primary_ix.specs.declared.rows.PrimRow.{PrimRow}
use Rattle.build_job.specs.Jobs.{described}
use Rattle.build_job.specs.Steps.{IsJob, IsPlaceable}
use Rattle.build_job.specs.Laws.Describing.{described-IsSound}
use Rattle.store_state.specs.declared.jobs.JobRow.{JobRow}
use Rattle.store_state.specs.Lists.{Lists, job_of, extent_of, extents_of, open_of, frozen_rows, placed_up_to}
use Rattle.store_state.specs.EveryList.{IsLists, IsPlanned, IsPlannedIf, IsCut}

leaves : (s : Shape) (root : ℕ) → level_size s root ≡ 1 → level_size s 0 ≤ level_start s root + 1
leaves s root alone = elim (cases_lt 0 root) [
  | inl above ↦ (let after = start-after s 0 root above in omega arith)
  | inr here ↦ (let none : root ≡ 0 = omega arith in let one : level_size s 0 ≡ 1 = subst (λ n. level_size s n ≡ 1) none alone in omega arith)
]

-- few pages have few rows
pub few_rows : (rows count : ℕ) → HasPages (shape_of prim_layout rows) count → rows ≤ count * (shape_of prim_layout rows).per_leaf
few_rows rows count has =
    let counts = has.counts in
    let all = size_covers (shape_of prim_layout rows) (omega arith) (omega arith) 0 in
    let wide = span-zero (shape_of prim_layout rows) in
    let few = leaves (shape_of prim_layout rows) has.root has.is_root.alone in
    let below : level_size (shape_of prim_layout rows) 0 * span (shape_of prim_layout rows) 0 ≡ level_size (shape_of prim_layout rows) 0 * (shape_of prim_layout rows).per_leaf = ap (λ n. level_size (shape_of prim_layout rows) 0 * n) wide in
    omega (arith, few)

-- a slot none of whose pages is one of the other shares none with it
one_apart : (f s : Slot) → ((page : ℕ) → is_in page (extent_of s) ≡ true → is_in page (extent_of f) ≡ false) → shares_page f s ≡ false
one_apart f s free = elim (cases_Bool (shares_page f s)) [
  | inr apart ↦ apart
  | inl shared ↦ absurd (
      let lt : max f.first s.first < min (f.first + f.pages) (s.first + s.pages) = ltb-true _ _ shared in
      let page : ℕ = max f.first s.first in
      let in_s = and_from _ _ (le-leb s.first page (omega arith)) (lt-ltb page (s.first + s.pages) (omega arith)) in
      let in_f = and_from _ _ (le-leb f.first page (omega arith)) (lt-ltb page (f.first + f.pages) (omega arith)) in
      both_ways _ (free page in_s) in_f)
]

apart_from : (s : Slot) (slots : List Numbered) → ((page : ℕ) → is_in page (extent_of s) ≡ true → is_reserved (extents_of slots) page ≡ false)
    → All (λ e. shares_page e.1 s ≡ false) slots
apart_from s [] free = All-nil (λ e. shares_page e.1 s ≡ false)
apart_from s (f ∷ slots) free =
    All-cons (λ e. shares_page e.1 s ≡ false) f slots
    (one_apart f.1 s (λ page h. (or_parts _ _ (free page h)).0))
    (apart_from s slots (λ page h. (or_parts _ _ (free page h)).1))

-- a job that was begun has its plan
pub job-IsPlanned : (l : Lists) (row : JobRow) → IsLists l → l.job ≡ Some row → IsPlanned l row
job-IsPlanned l row lists is = subst (IsPlannedIf l) is lists.planned

module _ (l : Lists) (row : JobRow) (lists : IsLists l) (planned : IsPlanned l row) where
  pub planned-count : length (frozen_rows l.frozen) < 2 ^ 32
  planned-count =
      let few = few_rows (length (frozen_rows l.frozen)) row.plan.extent.pages planned.pages in
      let to = planned.to in
      let most = lists.most in
      omega arith

  -- a job that was begun is one
  pub planned-IsJob : IsJob (job_of l row)
  planned-IsJob = record {
    count = planned-count;
    index = planned.index;
    pages = planned.pages;
    fits = let to = planned.to in let most = lists.most in omega arith;
    written = planned.written;
  }

  pub planned-IsPlaceable : l.cut < LSN_LIMIT → IsPlaceable l.space.pages (job_of l row)
  planned-IsPlaceable below = record {
    from = planned.from;
    to = planned.to;
    some = omega arith;
    ordered = later l.frozen planned.frozen lists.is_cut;
    below = below;
  }
    where
      later : (frozen : Option (List PrimRow)) → (frozen ≡ None → ⊥) → IsCut frozen (placed_up_to l.components) l.cut → placed_up_to l.components + 1 ≤ l.cut
      later None some cut = absurd (some refl)
      later (Some rows) some cut = omega (arith, cut)

  -- its slot is a sound one, and shares no page with the open ones
  pub planned-IsSound : (declared : ℕ) → l.cut < LSN_LIMIT → IsSound l.space.pages declared (described (job_of l row))
  planned-IsSound declared below = described-IsSound l.space.pages declared (job_of l row) planned-IsJob (planned-IsPlaceable below)

  pub planned-apart : All (λ e. shares_page e.1 (described (job_of l row)) ≡ false) (open_of l)
  planned-apart = apart_from (described (job_of l row)) (open_of l) planned.free
