use Rattle.std.proofs.Common.{◌∷◌, [], ◌++◌, ap, sym, ◌∙◌, subst}
use Rattle.turn_cell.specs.History.{MayHaveOwner}
use Rattle.turn_cell.specs.Resting.{has_some}
use Rattle.turn_cell.specs.Rows.{own_of, adds, HasMade}
use Rattle.turn_cell.specs.Rule.{tally}
use Rattle.turn_cell.proofs.cell.TurnCell.turn_at.Goals as goal

pub advance-requires-clause-entry : goal.advance-requires-clause-entry
advance-requires-clause-entry g c =
    let ran = c.serve-out.ensures.ran in
    let claimed = c.take_turn.ensures.claimed in
    let kept = ap (λ m. m.0.tally) ran.2 ∙ ap (λ m. m.0.tally) claimed.1.2 in (
      c.take_turn.result,
      ran.0,
      ran.1,
      ap (λ m. m.0.stage) ran.2 ∙ ap (λ m. m.0.stage) claimed.1.2,
      ap (λ m. m.1) ran.2,
      ap (λ t. has_some t.rows) kept ∙ c.requires.rests.2,
      subst (λ k. g.C.Call.tells k c.serve-out.result ran.1) (sym c.of-told.ensures) ran.3,
      subst (λ m. g.V.Turned.stands ran.0 (m.0.seen ++ ran.1 ∷ [])) (sym ran.2) ran.4,
      subst (λ t. MayHaveOwner g.V.Turned.owner g.V.Turned.draws (own_of t.rows) ran.1) (sym kept) (c.requires.owner c.serve-out.result ran.1 ran.3),
    )

pub returns-clause-adds : goal.returns-clause-adds
returns-clause-adds g c =
    let ran = c.serve-out.ensures.ran in
    let claimed = c.take_turn.ensures.claimed in
    let added = c.advance.ensures.added in
    let kept = ap (λ m. m.0.tally) ran.2 ∙ ap (λ m. m.0.tally) claimed.1.2 in
    let longer = claimed.1.3 in (
      added.0,
      subst (λ k. g.C.Call.tells k c.serve-out.result added.0) c.of-told.ensures added.1,
      (
        longer.0,
        ap (λ m. m.0.seen) added.2 ∙ ap (λ l. l ++ added.0 ∷ []) (ap (λ m. m.0.seen) ran.2 ∙ (ap (λ m. m.0.seen) claimed.1.2 ∙ longer.1)),
      ),
      ap (λ m. m.0.tally) added.2 ∙ ap (λ t. tally t.parts t.splits (adds added.0 t.rows)) kept,
    )

pub returns-clause-made : goal.returns-clause-made
returns-clause-made g c =
    let added = c.advance.ensures.added in
    subst (λ m. HasMade g.V.Turned.owner g.V.Turned.draws m.0.tally.rows m.0.seen) (sym added.2) added.4
