use Rattle.std.proofs.Common.{◌≡◌, ℕ, ◌-◌, Bool, ◌&&◌, not, List, sym, ◌∙◌, ap, subst}
use Rattle.std.specs.List.{Contains}
use Rattle.space_map.specs.declared.space.Extent.{Extent}
use Rattle.space_map.specs.declared.space.TheConstants.{FIRST_DATA_PAGE}
use Rattle.space_map.specs.Space.{Space, end_of, is_in, is_reserved, IsFreeRun}
use Rattle.space_map.specs.Calls.{AreApart, without_extent, released_from}
use Rattle.space_map.proofs.Extents.{taken_list, apart-without_extent, is_reserved-without_extent, joined}
use Rattle.space_map.proofs.space.SpaceMap.release.Goals as goal

-- the list that is left
left : (c : goal.After-remove) → c.remove.new.self.items ≡ without_extent c.args.e c.self.inside.reserved.items
left c =
    let Q : Space → Type 0 = λ space. Contains space.reserved c.args.e in
    c.remove.ensures.items
    ∙ taken_list FIRST_DATA_PAGE c.self.inside.pages c.args.e c.deref.result.now c.self.inside.reserved.items c.place_of-at.result c.deref.ensures.value
    c.self.invariant (subst Q (sym c.self.view_is) c.requires) c.place_of-at.ensures.before c.place_of-at.ensures.behind

pub invariant_of-self : goal.invariant_of-self
invariant_of-self c =
    let P : List Extent → Type 0 = λ ys. AreApart FIRST_DATA_PAGE c.self.inside.pages ys in
    subst P (sym (left c)) (apart-without_extent FIRST_DATA_PAGE c.self.inside.pages c.args.e c.self.inside.reserved.items c.self.invariant)

pub returns-clause-released : goal.returns-clause-released
returns-clause-released c =
    let build : List Extent → Space = λ ys. record { reserved = ys; pages = c.self.inside.pages } in
    ap build (left c) ∙ ap (released_from c.args.e) c.self.view_is

-- and its pages
pages_left : (c : goal.After-remove) (page : ℕ)
    → is_reserved c.remove.new.self.items page ≡ (is_reserved c.self.inside.reserved.items page && not (is_in page c.args.e))
pages_left c page =
    let Q : Space → Type 0 = λ space. Contains space.reserved c.args.e in
    let here : List Extent → Bool = λ ys. is_reserved ys page in
    ap here (left c)
    ∙ is_reserved-without_extent FIRST_DATA_PAGE c.self.inside.pages c.args.e c.self.inside.reserved.items c.self.invariant (subst Q (sym c.self.view_is) c.requires) page

pub returns-clause-pages : goal.returns-clause-pages
returns-clause-pages c = λ page.
    let there : Space → Bool = λ space. is_reserved space.reserved page && not (is_in page c.args.e) in
    pages_left c page ∙ ap there c.self.view_is

pub returns-clause-joined : goal.returns-clause-joined
returns-clause-joined c = λ from upto before behind first second.
    let e : Extent = c.args.e in
    let L : Space → Type 0 = λ space. IsFreeRun space from (e.first - from) in
    let R : Space → Type 0 = λ space. IsFreeRun space (end_of e) (upto - end_of e) in
    joined FIRST_DATA_PAGE c.self.inside.pages c.self.inside.reserved.items c.remove.new.self.items e (pages_left c) from upto before behind
    (subst L (sym c.self.view_is) first) (subst R (sym c.self.view_is) second)

pub returns-clause-apart : goal.returns-clause-apart
returns-clause-apart c = invariant_of-self c
