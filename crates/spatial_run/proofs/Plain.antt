-- A run that has a setup alone: its history and its text.
use Rattle.std.specs.Prelude.{◌≡◌, ℕ, ◌+◌, cond, List, [], ◌∷◌, ◌++◌, map, All}
use Rattle.std.specs.List.{AllZip, flat_map}
use Rattle.std.proofs.Common.{ap, sym, ◌∙◌, subst, arith, refl}
use Rattle.std.proofs.lemmas.Bool.{lt-ltb}
use Rattle.std.proofs.lemmas.List.{append-nil}
use Rattle.table_model.specs.Commands.{Command, on_table, flush, Outcome, answered, quiet, refused}
use Rattle.table_model.specs.Phases.{Phases}
use Rattle.table_model.specs.Record.{RunRecord, HistoryAnswer, FitsScript, lane_answers, lanes_answers, all_answers, in_order, inserted, history, seqs, Rises, history_text, refusals_text, lanes_refusals_text, record_text, OneEach, refused_words}
use Rattle.spatial_run.specs.Refused.{record_words}
use Rattle.spatial_run.specs.Steps.{IsSetupAlone, answers_text, answered_part}

abbrev seqs_in : List HistoryAnswer → List ℕ
seqs_in es = map (λ e. e.seq) es

-- a list that rises is in order
pub in_order_rising : (es : List HistoryAnswer) → Rises (seqs_in es) → in_order es ≡ es
in_order_rising [] h = refl
in_order_rising (e ∷ []) h = refl
in_order_rising (e ∷ f ∷ es) h =
    ap (inserted e) (in_order_rising (f ∷ es) h.1) ∙ ap (λ t. cond t (e ∷ f ∷ es) (f ∷ inserted e es)) (lt-ltb e.seq f.seq h.0)

answers_seqs : (cs : List Command) (os : List Outcome) → OneEach cs os → seqs_in (lane_answers 0 cs os) ≡ seqs os
answers_seqs [] [] each = refl
answers_seqs [] (o ∷ os) each = absurd each
answers_seqs (c ∷ cs) [] each = absurd each
answers_seqs (on_table c ∷ cs) (answered seq reply ∷ os) each = ap (λ ns. seq ∷ ns) (answers_seqs cs os each.1)
answers_seqs (flush ∷ cs) (answered seq reply ∷ os) each = absurd each.0
answers_seqs (on_table c ∷ cs) (quiet ∷ os) each = absurd each.0
answers_seqs (flush ∷ cs) (quiet ∷ os) each = answers_seqs cs os each.1
answers_seqs (on_table c ∷ cs) (refused why ∷ os) each = answers_seqs cs os each.1
answers_seqs (flush ∷ cs) (refused why ∷ os) each = answers_seqs cs os each.1

history_text_of : (place : ℕ) (cs : List Command) (os : List Outcome) → OneEach cs os → history_text place (lane_answers 0 cs os) ≡ answers_text place os
history_text_of place [] [] each = refl
history_text_of place [] (o ∷ os) each = absurd each
history_text_of place (c ∷ cs) [] each = absurd each
history_text_of place (on_table c ∷ cs) (answered seq reply ∷ os) each = ap (λ t. answered_part place (answered seq reply) ++ t) (history_text_of (place + 1) cs os each.1)
history_text_of place (flush ∷ cs) (answered seq reply ∷ os) each = absurd each.0
history_text_of place (on_table c ∷ cs) (quiet ∷ os) each = absurd each.0
history_text_of place (flush ∷ cs) (quiet ∷ os) each = history_text_of place cs os each.1
history_text_of place (on_table c ∷ cs) (refused why ∷ os) each = history_text_of place cs os each.1
history_text_of place (flush ∷ cs) (refused why ∷ os) each = history_text_of place cs os each.1

-- with no lanes and nothing after them the answers are those of the setup
answers_alone : (s : Phases Command) (r : RunRecord) → IsSetupAlone s → all_answers s r ≡ lane_answers 0 s.setup r.setup
answers_alone s r alone =
    ap (λ ls. lane_answers 0 s.setup r.setup ++ lanes_answers 1 ls r.lanes ++ lane_answers 0 s.after r.after) alone.0
    ∙ ap (λ cs. lane_answers 0 s.setup r.setup ++ [] ++ lane_answers 0 cs r.after) alone.1
    ∙ append-nil (lane_answers 0 s.setup r.setup ++ [])
    ∙ append-nil (lane_answers 0 s.setup r.setup)

pub history_alone : (s : Phases Command) (r : RunRecord) → IsSetupAlone s → OneEach s.setup r.setup → Rises (seqs r.setup) → history s r ≡ lane_answers 0 s.setup r.setup
history_alone s r alone one_each rises =
    ap in_order (answers_alone s r alone)
    ∙ in_order_rising (lane_answers 0 s.setup r.setup) (subst Rises (sym (answers_seqs s.setup r.setup one_each)) rises)

pub record_text_alone : (s : Phases Command) (r : RunRecord) → IsSetupAlone s → IsSetupAlone r → OneEach s.setup r.setup → Rises (seqs r.setup)
    → record_text s r ≡ answers_text 0 r.setup ++ refusals_text 0 r.setup
record_text_alone s r alone alone' one_each rises =
    (λ i. history_text 0 (history_alone s r alone one_each rises i) ++ refusals_text 0 (r.setup ++ alone'.1 i) ++ lanes_refusals_text 1 (alone'.0 i))
    ∙ append-nil (history_text 0 (lane_answers 0 s.setup r.setup) ++ refusals_text 0 (r.setup ++ []))
    ∙ (λ i. history_text_of 0 s.setup r.setup one_each i ++ refusals_text 0 (append-nil r.setup i))

nothing_all : {X : Type 0} (P : X → Type 0) (xs : List X) → xs ≡ [] → All P xs
nothing_all P xs e = subst (All P) (sym e) (λ i d h. absurd (omega (arith, h)))

pub through_setup : (r : RunRecord) → IsSetupAlone r → seqs (r.setup ++ r.after) ≡ seqs r.setup
through_setup r alone = ap (λ os. seqs (r.setup ++ os)) alone.1 ∙ ap seqs (append-nil r.setup)

pub fits_alone : (s : Phases Command) (r : RunRecord) → IsSetupAlone s → IsSetupAlone r → OneEach s.setup r.setup → Rises (seqs r.setup) → FitsScript s r
fits_alone s r alone alone' one_each rises = record {
  setup = one_each;
  lanes = subst (λ l. AllZip OneEach l r.lanes) (sym alone.0) (subst (λ l. AllZip OneEach [] l) (sym alone'.0) tt);
  after = subst (λ l. OneEach l r.after) (sym alone.1) (subst (λ l. OneEach [] l) (sym alone'.1) tt);
  differ = subst Rises (sym (ap seqs_in (history_alone s r alone one_each rises) ∙ answers_seqs s.setup r.setup one_each)) rises;
  around = nothing_all (λ os. Rises (seqs (r.setup ++ os ++ r.after))) r.lanes alone'.0;
  through = subst Rises (sym (through_setup r alone')) rises;
}

-- the words of the commands that were refused
pub record_words_alone : (r : RunRecord) → IsSetupAlone r → record_words r ≡ refused_words r.setup
record_words_alone r alone =
    let same : record_words r ≡ (refused_words r.setup ++ []) ++ [] = λ i. refused_words r.setup ++ flat_map refused_words (alone.0 i) ++ refused_words (alone.1 i) in
    same ∙ append-nil (refused_words r.setup ++ []) ∙ append-nil (refused_words r.setup)
