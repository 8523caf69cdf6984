-- The order of a record's answers, phase by phase and lane by lane. No public contract of the program needs these words: that each
-- record that fits its script has this order is a law.
use Rattle.std.specs.Prelude.{◌≡◌, ℕ, ◌<◌, List, [], ◌∷◌, ◌++◌, All}
use Rattle.std.specs.List.{flat_map}
use Rattle.table_model.specs.Commands.{Outcome}
use Rattle.table_model.specs.Record.{RunRecord, seqs, Rises}

abbrev pub IsBefore : List ℕ → List ℕ → Type 0
IsBefore earlier later = All (λ a. All (λ b. a < b) later) earlier

-- two lists share no number
abbrev pub AreApart : List ℕ → List ℕ → Type 0
AreApart ns ms = All (λ a. All (λ b. a ≡ b → ⊥) ms) ns

-- no two lanes share a seq
abbrev pub LanesApart : List (List Outcome) → Type 0
LanesApart [] = Unit {0}
LanesApart (os ∷ oss) = AreApart (seqs os) (flat_map seqs oss) × LanesApart oss

-- Setup comes before the lanes, and these before what is after them; each of these is in the script's order; and no two lanes share a seq.
pub record IsInOrder (r : RunRecord) : Type 0 where
  pub setup_rises : Rises (seqs r.setup)
  pub lanes_rise : All (λ os. Rises (seqs os)) r.lanes
  pub lanes_apart : LanesApart r.lanes
  pub after_rises : Rises (seqs r.after)
  pub setup_first : IsBefore (seqs r.setup) (flat_map seqs r.lanes ++ seqs r.after)
  pub after_last : IsBefore (flat_map seqs r.lanes) (seqs r.after)
