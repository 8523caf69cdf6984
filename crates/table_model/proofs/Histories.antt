-- The seqs of a history are those of its record, and they differ.
use Rattle.std.proofs.Common.{◌≡◌, ℕ, ◌+◌, Bool, true, false, List, [], ◌∷◌, ◌++◌, map, All, refl, ap, ap₂, sym, ◌∙◌, subst, nat_lt, if◌then◌else◌}
use Rattle.std.specs.List.{AllZip, flat_map}
use Rattle.std.proofs.lemmas.List.{map-append}
use Rattle.std.proofs.lemmas.List.Elements.{All-nil, All-cons, All-head, All-tail}
use Rattle.table_model.specs.Commands.{Command, on_table, flush, Outcome, answered, quiet, refused}
use Rattle.table_model.specs.Phases.{Phases}
use Rattle.table_model.specs.Record.{RunRecord, HistoryAnswer, lane_answers, lanes_answers, all_answers, inserted, in_order, history, seqs, OneEach, FitsScript}
use Rattle.table_model.proofs.Rising.{Differ, rises-differ}

-- what holds of the seqs where one was inserted holds of it and of the others
of_inserted : (P : ℕ → Type 0) (a : HistoryAnswer) (h : List HistoryAnswer) → All P (map (λ b. b.seq) (inserted a h)) → P a.seq × All P (map (λ b. b.seq) h)
of_inserted P a [] all = (All-head P a.seq [] all, All-nil P)
of_inserted P a (b ∷ bs) all = by_test (nat_lt a.seq b.seq) all (of_inserted P a bs)
  where
    by_test : (t : Bool) → All P (map (λ b. b.seq) (if t then a ∷ b ∷ bs else b ∷ inserted a bs))
        → (All P (map (λ b. b.seq) (inserted a bs)) → P a.seq × All P (map (λ b. b.seq) bs)) → P a.seq × All P (map (λ b. b.seq) (b ∷ bs))
    by_test true all more = (All-head P a.seq (map (λ b. b.seq) (b ∷ bs)) all, All-tail P a.seq (map (λ b. b.seq) (b ∷ bs)) all)
    by_test false all more =
        let others : P a.seq × All P (map (λ b. b.seq) bs) = more (All-tail P b.seq (map (λ b. b.seq) (inserted a bs)) all) in
        (others.0, All-cons P b.seq (map (λ b. b.seq) bs) (All-head P b.seq (map (λ b. b.seq) (inserted a bs)) all) others.1)

of_in_order : (P : ℕ → Type 0) (h : List HistoryAnswer) → All P (map (λ b. b.seq) (in_order h)) → All P (map (λ b. b.seq) h)
of_in_order P [] all = All-nil P
of_in_order P (a ∷ h) all =
    let parts : P a.seq × All P (map (λ b. b.seq) (in_order h)) = of_inserted P a (in_order h) all in
    All-cons P a.seq (map (λ b. b.seq) h) parts.0 (of_in_order P h parts.1)

-- the same of numbers that differ
differ-inserted : (a : HistoryAnswer) (h : List HistoryAnswer) → Differ (map (λ b. b.seq) (inserted a h)) → Differ (a.seq ∷ map (λ b. b.seq) h)
differ-inserted a [] differ = differ
differ-inserted a (b ∷ bs) differ = by_test (nat_lt a.seq b.seq) differ (differ-inserted a bs)
  where
    by_test : (t : Bool) → Differ (map (λ b. b.seq) (if t then a ∷ b ∷ bs else b ∷ inserted a bs))
        → (Differ (map (λ b. b.seq) (inserted a bs)) → Differ (a.seq ∷ map (λ b. b.seq) bs)) → Differ (a.seq ∷ map (λ b. b.seq) (b ∷ bs))
    by_test true differ more = differ
    by_test false differ more =
        let others : Differ (a.seq ∷ map (λ b. b.seq) bs) = more differ.1 in
        let apart : (b.seq ≡ a.seq → ⊥) × All (λ m. b.seq ≡ m → ⊥) (map (λ b. b.seq) bs) = of_inserted (λ m. b.seq ≡ m → ⊥) a bs differ.0 in
        (All-cons (λ m. a.seq ≡ m → ⊥) b.seq (map (λ b. b.seq) bs) (λ is. apart.0 (sym is)) others.0, (apart.1, others.1))

pub differ-in_order : (h : List HistoryAnswer) → Differ (map (λ b. b.seq) (in_order h)) → Differ (map (λ b. b.seq) h)
differ-in_order [] differ = tt
differ-in_order (a ∷ h) differ =
    let first : Differ (a.seq ∷ map (λ b. b.seq) (in_order h)) = differ-inserted a (in_order h) differ in
    (of_in_order (λ m. a.seq ≡ m → ⊥) h first.0, differ-in_order h first.1)

-- the seqs of the answers are those of the outcomes
lane_seqs : (lane : ℕ) (cs : List Command) (os : List Outcome) → OneEach cs os → map (λ a. a.seq) (lane_answers lane cs os) ≡ seqs os
lane_seqs lane [] [] fits = refl
lane_seqs lane [] (o ∷ os) fits = absurd fits
lane_seqs lane (c ∷ cs) [] fits = absurd fits
lane_seqs lane (on_table c ∷ cs) (answered seq reply ∷ os) fits = ap (λ (ns : List ℕ). seq ∷ ns) (lane_seqs lane cs os fits.1)
lane_seqs lane (flush ∷ cs) (answered seq reply ∷ os) fits = absurd fits.0
lane_seqs lane (on_table c ∷ cs) (quiet ∷ os) fits = absurd fits.0
lane_seqs lane (flush ∷ cs) (quiet ∷ os) fits = lane_seqs lane cs os fits.1
lane_seqs lane (on_table c ∷ cs) (refused why ∷ os) fits = lane_seqs lane cs os fits.1
lane_seqs lane (flush ∷ cs) (refused why ∷ os) fits = lane_seqs lane cs os fits.1

lanes_seqs : (lane : ℕ) (css : List (List Command)) (oss : List (List Outcome)) → AllZip OneEach css oss → map (λ a. a.seq) (lanes_answers lane css oss) ≡ flat_map seqs oss
lanes_seqs lane [] [] fits = refl
lanes_seqs lane [] (os ∷ oss) fits = absurd fits
lanes_seqs lane (cs ∷ css) [] fits = absurd fits
lanes_seqs lane (cs ∷ css) (os ∷ oss) fits =
    map-append (λ a. a.seq) (lane_answers lane cs os) (lanes_answers (lane + 1) css oss)
    ∙ ap₂ (λ (ns ms : List ℕ). ns ++ ms) (lane_seqs lane cs os fits.0) (lanes_seqs (lane + 1) css oss fits.1)

pub all_differ : (s : Phases Command) (r : RunRecord) → FitsScript s r → Differ (seqs r.setup ++ flat_map seqs r.lanes ++ seqs r.after)
all_differ s r fits =
    let setup : List HistoryAnswer = lane_answers 0 s.setup r.setup in
    let lanes : List HistoryAnswer = lanes_answers 1 s.lanes r.lanes in
    let after : List HistoryAnswer = lane_answers 0 s.after r.after in
    let are : map (λ a. a.seq) (setup ++ lanes ++ after) ≡ seqs r.setup ++ flat_map seqs r.lanes ++ seqs r.after =
    map-append (λ a. a.seq) (setup ++ lanes) after
    ∙ ap₂ (λ (ns ms : List ℕ). ns ++ ms)
    (map-append (λ a. a.seq) setup lanes ∙ ap₂ (λ (ns ms : List ℕ). ns ++ ms) (lane_seqs 0 s.setup r.setup fits.setup) (lanes_seqs 1 s.lanes r.lanes fits.lanes))
    (lane_seqs 0 s.after r.after fits.after) in
    subst Differ are (differ-in_order (all_answers s r) (rises-differ (map (λ a. a.seq) (history s r)) fits.differ))
