use Rattle.std.proofs.Common.{List, sym, ◌∙◌, ap, subst}
use Rattle.space_map.specs.declared.space.Extent.{Extent}
use Rattle.space_map.specs.declared.space.TheConstants.{FIRST_DATA_PAGE}
use Rattle.space_map.specs.Space.{Space, IsFreeRun, reserved_with}
use Rattle.space_map.specs.Calls.{AreApart}
use Rattle.space_map.proofs.Extents.{placed_list, apart-with_extent}
use Rattle.space_map.proofs.space.SpaceMap.take.Goals as goal

pub invariant_of-self-2 : goal.invariant_of-self-2
invariant_of-self-2 c =
    let xs : List Extent = c.self.inside.reserved.items in
    let e : Extent = c.args.e in
    let P : List Extent → Type 0 = λ ys. AreApart FIRST_DATA_PAGE c.self.inside.pages ys in
    let Q : Space → Type 0 = λ space. IsFreeRun space e.first e.pages in
    let placed = placed_list e c.deref.result.now xs c.place_of-at.result c.deref.ensures.value c.place_of-at.ensures.bound c.place_of-at.ensures.before c.place_of-at.ensures.behind in
    subst P (sym (c.in_ok-insert.ensures.items ∙ placed))
    (apart-with_extent FIRST_DATA_PAGE c.self.inside.pages e xs c.self.invariant c.requires.some (subst Q (sym c.self.view_is) c.requires.free))

pub returns-clause-ok : goal.returns-clause-ok
returns-clause-ok c =
    let xs : List Extent = c.self.inside.reserved.items in
    let e : Extent = c.args.e in
    let build : List Extent → Space = λ ys. record { reserved = ys; pages = c.self.inside.pages } in
    let placed = placed_list e c.deref.result.now xs c.place_of-at.result c.deref.ensures.value c.place_of-at.ensures.bound c.place_of-at.ensures.before c.place_of-at.ensures.behind in
    ap build (c.in_ok-insert.ensures.items ∙ placed) ∙ ap (reserved_with e) c.self.view_is

pub returns-clause-apart : goal.returns-clause-apart
returns-clause-apart c = invariant_of-self-2 c
