use Rattle.std.proofs.Common.{ℕ, ◌<◌, List, [], ◌∷◌, ◌++◌, get_or, All, ap, ◌∙◌, subst}
use Rattle.std.specs.List.{flat_map}
use Rattle.std.proofs.lemmas.Grind.{flat_map-append}
use Rattle.std.proofs.lemmas.List.Elements.{All-nil, All-cons, All-head, All-tail, All-append}
use Rattle.table_model.specs.Commands.{Outcome}
use Rattle.table_model.specs.Order.{IsBefore, LanesApart}
use Rattle.table_model.specs.Record.{seq_of, seqs, Rises}
use Rattle.table_model.proofs.Histories.{all_differ}
use Rattle.table_model.proofs.Rising.{Differ, rises-front, rises-behind, rises-before, differ-front, differ-behind, differ-apart}
use Rattle.table_model.proofs.a_record_that_fits_is_in_order.Goals as goal

-- what rises round a lane
around_lane : (setup os after : List Outcome) → Rises (seqs (setup ++ os ++ after)) → Rises (seqs setup ++ seqs os ++ seqs after)
around_lane setup os after rises =
    subst Rises (flat_map-append seq_of (setup ++ os) after ∙ ap (λ (ns : List ℕ). ns ++ seqs after) (flat_map-append seq_of setup os)) rises

lane_rises : (setup os after : List Outcome) → Rises (seqs (setup ++ os ++ after)) → Rises (seqs os)
lane_rises setup os after rises = rises-behind (seqs setup) (seqs os) (rises-front (seqs setup ++ seqs os) (seqs after) (around_lane setup os after rises))

lane_follows : (setup os after : List Outcome) → Rises (seqs (setup ++ os ++ after)) → IsBefore (seqs setup) (seqs os)
lane_follows setup os after rises = rises-before (seqs setup) (seqs os) (rises-front (seqs setup ++ seqs os) (seqs after) (around_lane setup os after rises))

-- the second of two parts comes before what all comes before
second_before : (ns ms later : List ℕ) → IsBefore (ns ++ ms) later → IsBefore ms later
second_before [] ms later before = before
second_before (n ∷ ns) ms later before = second_before ns ms later (All-tail (λ a. All (λ b. a < b) later) n (ns ++ ms) before)

lane_precedes : (setup os after : List Outcome) → Rises (seqs (setup ++ os ++ after)) → IsBefore (seqs os) (seqs after)
lane_precedes setup os after rises =
    second_before (seqs setup) (seqs os) (seqs after) (rises-before (seqs setup ++ seqs os) (seqs after) (around_lane setup os after rises))

-- a list before each of two is before both
both_follow : (ns ms later : List ℕ) → IsBefore ns ms → IsBefore ns later → IsBefore ns (ms ++ later)
both_follow ns ms later first second = λ i d below. All-append (λ b. get_or ns i d < b) ms later (first i d below) (second i d below)

module _ (setup after : List Outcome) where
  lanes_rise : (oss : List (List Outcome)) → All (λ os. Rises (seqs (setup ++ os ++ after))) oss → All (λ os. Rises (seqs os)) oss
  lanes_rise [] around = All-nil (λ os. Rises (seqs os))
  lanes_rise (os ∷ oss) around =
      All-cons (λ os. Rises (seqs os)) os oss (lane_rises setup os after (All-head (λ os. Rises (seqs (setup ++ os ++ after))) os oss around))
      (lanes_rise oss (All-tail (λ os. Rises (seqs (setup ++ os ++ after))) os oss around))

  lanes_follow : (oss : List (List Outcome)) → All (λ os. Rises (seqs (setup ++ os ++ after))) oss → IsBefore (seqs setup) (flat_map seqs oss)
  lanes_follow [] around = λ i d below. All-nil (λ b. get_or (seqs setup) i d < b)
  lanes_follow (os ∷ oss) around =
      both_follow (seqs setup) (seqs os) (flat_map seqs oss) (lane_follows setup os after (All-head (λ os. Rises (seqs (setup ++ os ++ after))) os oss around))
      (lanes_follow oss (All-tail (λ os. Rises (seqs (setup ++ os ++ after))) os oss around))

  lanes_precede : (oss : List (List Outcome)) → All (λ os. Rises (seqs (setup ++ os ++ after))) oss → IsBefore (flat_map seqs oss) (seqs after)
  lanes_precede [] around = All-nil (λ a. All (λ b. a < b) (seqs after))
  lanes_precede (os ∷ oss) around =
      All-append (λ a. All (λ b. a < b) (seqs after)) (seqs os) (flat_map seqs oss) (lane_precedes setup os after (All-head (λ os. Rises (seqs (setup ++ os ++ after))) os oss around))
      (lanes_precede oss (All-tail (λ os. Rises (seqs (setup ++ os ++ after))) os oss around))

lanes_apart : (oss : List (List Outcome)) → Differ (flat_map seqs oss) → LanesApart oss
lanes_apart [] differ = tt
lanes_apart (os ∷ oss) differ = (differ-apart (seqs os) (flat_map seqs oss) differ, lanes_apart oss (differ-behind (seqs os) (flat_map seqs oss) differ))

pub returns : goal.returns
returns c s r fits =
    let through : Rises (seqs r.setup ++ seqs r.after) = subst Rises (flat_map-append seq_of r.setup r.after) fits.through in
    record {
      setup_rises = rises-front (seqs r.setup) (seqs r.after) through;
      lanes_rise = lanes_rise r.setup r.after r.lanes fits.around;
      lanes_apart = lanes_apart r.lanes (differ-behind (seqs r.setup) (flat_map seqs r.lanes) (differ-front (seqs r.setup ++ flat_map seqs r.lanes) (seqs r.after) (all_differ s r fits)));
      after_rises = rises-behind (seqs r.setup) (seqs r.after) through;
      setup_first = both_follow (seqs r.setup) (flat_map seqs r.lanes) (seqs r.after) (lanes_follow r.setup r.after r.lanes fits.around) (rises-before (seqs r.setup) (seqs r.after) through);
      after_last = lanes_precede r.setup r.after r.lanes fits.around;
    }
