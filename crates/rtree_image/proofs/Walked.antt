-- The pages that a search asked for, page by page.
use Rattle.std.proofs.Common.{ℕ, ◌+◌, ◌<◌, Bool, List, [], ◌∷◌, ◌++◌, None, take, map, length, get_or, sym, ◌∙◌, ap, subst}
use Rattle.std.specs.Prelude.{Option}
use Rattle.std.proofs.lemmas.List.{take_more, map-append}
use Rattle.dev_model.specs.declared.page_faults.PageFault.{PageFault}
use Rattle.dev_model.specs.Lending.{Lending}
use Rattle.dev_model.specs.Asked.{Reads}
use Rattle.dev_model.specs.Laws.Trail.{reads-on}

-- one page more of a level
pub reads-next : {S : Type 0} {lending : S → Lending} {asked : S → S → List (ℕ × Bool) → Type 0} {IsBad IsTested : (ℕ → List ℕ) → ℕ → Type 0}
    → ((first second third : S) (xs ys : List (ℕ × Bool)) → asked first second xs → asked second third ys → asked first third (xs ++ ys))
    → {first second third : S} (fault : Option PageFault) (number : ℕ → ℕ) (places : List ℕ) (i d : ℕ) → i < length places
    → Reads lending asked IsBad IsTested first second None [] (map number (take i places)) → Reads lending asked IsBad IsTested second third fault [] (number (get_or places i d) ∷ [])
    → Reads lending asked IsBad IsTested first third fault [] (map number (take (i + 1) places))
reads-next {lending = lending} {asked = asked} {IsBad = IsBad} {IsTested = IsTested} onward {first = first} {third = third} fault number places i d inside so_far here =
    subst (Reads lending asked IsBad IsTested first third fault [])
    (sym (ap (map number) (take_more places i d inside) ∙ map-append number (take i places) (get_or places i d ∷ []))) (reads-on onward fault so_far here)
