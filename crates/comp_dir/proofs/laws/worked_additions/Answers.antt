use Rattle.std.proofs.Common.{◌≡◌, inr, ◌<◌, [], ◌∷◌, false, refl, arith}
use Rattle.std.proofs.lemmas.Bool.{true≢false, both_ways}
use Rattle.std.proofs.lemmas.List.Elements.{All-head, All-cons, All-nil}
use Rattle.comp_dir.specs.Directory.{Numbered}
use Rattle.comp_dir.specs.Choosing.{shares_page, live_slots, continues}
use Rattle.comp_dir.specs.Examples.{component}
use Rattle.comp_dir.specs.Laws.Adding.{addable-continues}
use Rattle.comp_dir.proofs.laws.worked_additions.Goals as goal

pub returns-clause-next : goal.returns-clause-next
returns-clause-next c = record {
  apart = All-cons (λ e. shares_page e.1 (component 266 6 9) ≡ false) (0, component 265 1 5) [] refl (All-nil (λ e. shares_page e.1 (component 266 6 9) ≡ false));
  newer = All-cons (λ (e : Numbered). e.1.index ≡ 2 → e.1.last_lsn < 6) (0, component 265 1 5) [] (λ _. omega arith) (All-nil (λ (e : Numbered). e.1.index ≡ 2 → e.1.last_lsn < 6));
  follows = inr (0, (0, component 265 1 5), omega arith, refl, (refl, refl));
  room = omega arith;
}

pub returns-clause-behind_gap : goal.returns-clause-behind_gap
returns-clause-behind_gap c addable = both_ways (continues (live_slots ((0, component 265 1 5) ∷ [])) (1, component 266 7 9)) refl (addable-continues 1 (component 266 7 9) ((0, component 265 1 5) ∷ []) addable)

pub returns-clause-not_newer : goal.returns-clause-not_newer
returns-clause-not_newer c addable =
    let newer : 5 < 5 = All-head (λ (e : Numbered). e.1.index ≡ 2 → e.1.last_lsn < 5) (0, component 265 1 5) [] addable.newer refl in
    omega arith

pub returns-clause-same_page : goal.returns-clause-same_page
returns-clause-same_page c addable = true≢false (All-head (λ e. shares_page e.1 (component 265 6 9) ≡ false) (0, component 265 1 5) [] addable.apart)
