use Rattle.std.proofs.Common.{rules, ◌≡◌, ◌≤◌, ◌++◌, None, All, sym, ◌∙◌, subst, length}
use Rattle.comp_dir.specs.declared.places.TheConstants.{MOST_LIVE}
use Rattle.space_map.specs.declared.space.TheConstants.{LEAST_PAGES, MOST_PAGES}
use Rattle.space_map.specs.Space.{is_reserved}
use Rattle.store_state.specs.Lists.{Lists, extents_of}
use Rattle.store_state.specs.EveryList.{IsLists, IsOpenSlot}
use Rattle.store_state.specs.Opened.{opened}
use Rattle.store_state.proofs.Keeping.{opened-IsLists}
use Rattle.store_state.proofs.state.State.of_slots.Goals as goal

pub invariant_of-result : goal.invariant_of-result
invariant_of-result c =
    let lists : Lists = record {
      active = c.new.result.0;
      frozen = None;
      cut = c.placed_up_to-cut.result;
      cut_rows = c.placed_rows-rows.result;
      components = c.in_ok-of_slots.field-0;
      ignored = c.args.ignored.items;
      space = c.in_ok-space.space;
      job = None;
      rows = c.placed_rows-rows.result;
    } in
    let is : lists ≡ opened c.args.components.items c.args.ignored.items c.in_ok-space.space = search rules in
    let few : length c.args.components.items ≤ MOST_LIVE = search rules in
    let pages : c.in_ok-space.space.pages ≡ c.args.pages = search rules in
    let slots : All (IsOpenSlot c.in_ok-space.space.pages) (c.args.components.items ++ c.args.ignored.items) = rw pages c.requires.slots in
    let least : LEAST_PAGES ≤ c.in_ok-space.space.pages = rw pages c.requires.least in
    let most : c.in_ok-space.space.pages ≤ MOST_PAGES = rw pages c.requires.most in
    subst IsLists (sym is) (opened-IsLists c.args.components.items c.args.ignored.items c.in_ok-space.space few slots least most c.in_ok-space.ensures.space
    (λ page. c.in_ok-space.ensures.reserved page ∙ (λ i. is_reserved (extents_of (c.deref.ensures.value i ++ c.deref-2.ensures.value i)) page)))

pub returns-clause-sound : goal.returns-clause-sound
returns-clause-sound c = invariant_of-result c
