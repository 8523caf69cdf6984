-- A text that is printed in parts.
use Rattle.std.specs.Prelude.{◌≡◌, ℕ, ◌+◌, ◌<◌, List, [], ◌∷◌, ◌++◌, length, drop, Option, Ok, Err}
use Rattle.std.proofs.Common.{ap, sym, ◌∙◌, get_or, refl, append_assoc}
use Rattle.std.proofs.lemmas.List.{at_drop_more, append-nil}
use Rattle.spatial_run.specs.declared.record.Outcome.{Outcome}
use Rattle.spatial_run.specs.Views.{outcome_of, outcomes_of}
use Rattle.spatial_run.specs.Steps.{answers_text, answered_part, place_after, refused_part}
use Rattle.table_model.specs.Commands as spec
use Rattle.table_model.specs.Record.{refusals_text}
use Rattle.dev_model.specs.declared.streams.Failed.{Failed}
use Rattle.dev_model.specs.Streams.{Says}
use Rattle.dev_model.specs.Laws.Chained.{says_nothing, says_then, says_cut, says_same}

-- a front of the text was said, and the rest is still to be said
pub record Printing (before after : Option (List ℕ)) (text rest : List ℕ) : Type 0 where
  pub done : List ℕ
  pub whole : text ≡ done ++ rest
  pub said : Says {X = Unit {0}} {E = Failed} before after done (Ok tt)

pub printing_begins : (before : Option (List ℕ)) (text : List ℕ) → Printing before before text text
printing_begins before text = record { done = []; whole = refl; said = says_nothing (Unit {0}) Failed tt before }

-- a part of the rest was said
pub printing_more : (before mid after : Option (List ℕ)) (text rest part more : List ℕ) → Printing before mid text rest → rest ≡ part ++ more
    → Says {X = Unit {0}} {E = Failed} mid after part (Ok tt) → Printing before after text more
printing_more before mid after text rest part more p split said = record {
  done = p.done ++ part;
  whole = p.whole ∙ ap (λ r. p.done ++ r) split ∙ sym (append_assoc p.done part more);
  said = says_then (Unit {0}) Failed tt before mid after p.done part (Ok tt) p.said said;
}

-- nothing of the rest was said
pub printing_same : (before after : Option (List ℕ)) (text rest more : List ℕ) → Printing before after text rest → rest ≡ more → Printing before after text more
printing_same before after text rest more p same = record { done = p.done; whole = p.whole ∙ ap (λ r. p.done ++ r) same; said = p.said }

-- a part of the rest was cut off
pub printing_fails : (before mid after : Option (List ℕ)) (text rest part more : List ℕ) (e : Failed) → Printing before mid text rest → rest ≡ part ++ more
    → Says {X = Unit {0}} {E = Failed} mid after part (Err e) → Says {X = Unit {0}} {E = Failed} before after text (Err e)
printing_fails before mid after text rest part more e p split said =
    let whole : (p.done ++ part) ++ more ≡ text = append_assoc p.done part more ∙ ap (λ r. p.done ++ r) (sym split) ∙ sym p.whole in
    says_same (Unit {0}) Failed before after ((p.done ++ part) ++ more) text (Err e) whole
    (says_cut (Unit {0}) Failed Failed e e before after (p.done ++ part) more
    (says_then (Unit {0}) Failed tt before mid after p.done part (Err e) p.said said))

pub printing_ends : (before after : Option (List ℕ)) (text : List ℕ) → Printing before after text [] → Says {X = Unit {0}} {E = Failed} before after text (Ok tt)
printing_ends before after text p = says_same (Unit {0}) Failed before after p.done text (Ok tt) (sym (p.whole ∙ append-nil p.done)) p.said

-- The outcomes.

pub answers_split : (outcomes : List Outcome) (i place : ℕ) (o : Outcome) → i < length outcomes → o ≡ get_or outcomes i o
    → answers_text place (outcomes_of (drop i outcomes)) ≡ answered_part place (outcome_of o) ++ answers_text (place_after place (outcome_of o)) (outcomes_of (drop (i + 1) outcomes))
answers_split outcomes i place o within is =
    at_drop_more (λ os. answers_text place (outcomes_of os)) outcomes i o within
    ∙ ap (λ x. answered_part place (outcome_of x) ++ answers_text (place_after place (outcome_of x)) (outcomes_of (drop (i + 1) outcomes))) (sym is)

refusals_cons : (o : spec.Outcome) (os : List spec.Outcome) → refusals_text 0 (o ∷ os) ≡ refused_part o ++ refusals_text 0 os
refusals_cons (spec.answered seq reply) os = refl
refusals_cons spec.quiet os = refl
refusals_cons (spec.refused why) os = refl

pub refusals_split : (outcomes : List Outcome) (i : ℕ) (o : Outcome) → i < length outcomes → o ≡ get_or outcomes i o
    → refusals_text 0 (outcomes_of (drop i outcomes)) ≡ refused_part (outcome_of o) ++ refusals_text 0 (outcomes_of (drop (i + 1) outcomes))
refusals_split outcomes i o within is =
    at_drop_more (λ os. refusals_text 0 (outcomes_of os)) outcomes i o within
    ∙ refusals_cons (outcome_of (get_or outcomes i o)) (outcomes_of (drop (i + 1) outcomes))
    ∙ ap (λ x. refused_part (outcome_of x) ++ refusals_text 0 (outcomes_of (drop (i + 1) outcomes))) (sym is)
