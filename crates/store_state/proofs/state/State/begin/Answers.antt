use Rattle.std.proofs.Common.{rules, ◌≡◌, ◌≢◌, ℕ, ◌<◌, ◌++◌, List, None, length, vec_len, ap, subst, arith}
use Rattle.btree_image.specs.Image.{shape_of}
use Rattle.comp_dir.specs.Directory.{Numbered}
use Rattle.comp_dir.specs.Parts.{HasPages}
use Rattle.comp_dir.specs.declared.places.TheConstants.{MOST_LIVE}
use Rattle.primary_ix.specs.Rows.{prim_layout}
use Rattle.store_state.specs.Beginning.{IsLowestClosed}
use Rattle.store_state.specs.Lists.{frozen_rows}
use Rattle.store_state.proofs.Begun.{extent-count, extent-pages, begun-IsLists}
use Rattle.store_state.proofs.state.State.begin.Goals as goal

pub flush-requires-clause-count : goal.flush-requires-clause-count
flush-requires-clause-count c =
    let fits = c.in-Ok-reserve.ensures.fits in
    let count = extent-count _ c.in-Ok-reserve.extent c.image_pages-pages.result c.self.invariant fits.0 fits.1 c.image_pages-pages.ensures in
    let same = ap (λ rows. length rows) c.in-Ok-copied.ensures in
    let len = c.in-Ok-copied.rows.ok in
    omega (arith, same, len.0, count)

pub flush-requires-clause-pages : goal.flush-requires-clause-pages
flush-requires-clause-pages c =
    let fits = c.in-Ok-reserve.ensures.fits in
    let same = ap (λ rows. length rows) c.in-Ok-copied.ensures in
    let len = c.in-Ok-copied.rows.ok in
    let count : length (frozen_rows c.self.inside.frozen) ≡ vec_len c.in-Ok-copied.rows = omega (arith, same, len.0) in
    subst (λ (n : ℕ). HasPages (shape_of prim_layout n) c.in-Ok-reserve.extent.pages) count
    (extent-pages _ c.in-Ok-reserve.extent c.image_pages-pages.result c.self.invariant fits.0 fits.1 c.image_pages-pages.ensures)

pub invariant_of-self-2 : goal.invariant_of-self-2
invariant_of-self-2 c =
    let fits = c.in-Ok-reserve.ensures.fits in
    let room = c.in-Ok.ensures.room in
    let few : length c.self.inside.components < MOST_LIVE = subst (λ (slots : List Numbered). length slots < MOST_LIVE) c.slots.ensures room.few in
    let closed = subst (λ (slots : List Numbered). IsLowestClosed slots c.in-Ok.slot) (λ i. c.slots.ensures i ++ c.deref.ensures.value i) c.in-Ok.ensures.slot in
    let frozen : c.self.inside.frozen ≢ None = search rules in
    let none : c.self.inside.job ≡ None = search rules in
    begun-IsLists _ c.in-Ok-reserve.extent c.image_pages-pages.result c.self.invariant fits.0 fits.1 c.image_pages-pages.ensures
    c.args.owner c.in-Ok.slot frozen none few closed
    c.reserve.new.self c.in-Ok-reserve.ensures.ok c.in-Ok-reserve.ensures.apart

pub returns-clause-sound : goal.returns-clause-sound
returns-clause-sound c = invariant_of-self-2 c
