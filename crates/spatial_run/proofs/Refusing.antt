-- For which causes steps were refused, one command more.
use Rattle.std.specs.Prelude.{◌≡◌, ℕ, Bool, true, false, ◌||◌, List, [], ◌∷◌, ◌++◌, nat_eq}
use Rattle.std.proofs.Common.{refl, sym, ◌∙◌, ap, append_assoc, append-nil}
use Rattle.table_model.specs.Commands.{Outcome}
use Rattle.table_model.specs.declared.Why.{Why}
use Rattle.table_model.specs.Record.{refused_word, refused_words}
use Rattle.spatial_run.specs.Refused.{status_of_why, has_status, refusals_by}
use Rattle.spatial_run.specs.Steps.{with_command, with_upkeep}

or_assoc : (a b c : Bool) → ((a || b) || c) ≡ (a || (b || c))
or_assoc true b c = refl
or_assoc false b c = refl

pub has-append : (n : ℕ) (xs ys : List Why) → has_status n (xs ++ ys) ≡ (has_status n xs || has_status n ys)
has-append n [] ys = refl
has-append n (x ∷ xs) ys = ap (λ (b : Bool). nat_eq (status_of_why x) n || b) (has-append n xs ys) ∙ sym (or_assoc (nat_eq (status_of_why x) n) (has_status n xs) (has_status n ys))

pub refused-more : (os : List Outcome) (o : Outcome) → refused_words (os ++ o ∷ []) ≡ refused_words os ++ refused_word o
refused-more [] o = append-nil (refused_word o)
refused-more (p ∷ os) o = ap (λ (l : List Why). refused_word p ++ l) (refused-more os o) ∙ sym (append_assoc (refused_word p) (refused_words os) (refused_word o))

pub refusals-more : (words steps command upkeep : List Why) → with_upkeep (with_command (refusals_by words steps) command) upkeep ≡ refusals_by (words ++ command) (steps ++ (command ++ upkeep))
refusals-more words steps command upkeep = λ j. record {
  damaged = of_step 6 j;
  device = of_step 5 j;
  full = of_command 7 j;
  no_index = of_command 9 j;
  memory = of_step 8 j;
}
  where
    of_command : (n : ℕ) → (has_status n words || has_status n command) ≡ has_status n (words ++ command)
    of_command n = sym (has-append n words command)

    of_step : (n : ℕ) → ((has_status n steps || has_status n command) || has_status n upkeep) ≡ has_status n (steps ++ (command ++ upkeep))
    of_step n =
        or_assoc (has_status n steps) (has_status n command) (has_status n upkeep)
        ∙ ap (λ (b : Bool). has_status n steps || b) (sym (has-append n command upkeep))
        ∙ sym (has-append n steps (command ++ upkeep))
