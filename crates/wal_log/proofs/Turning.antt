-- What a crash leaves of the log while a segment is closed and while one is started, and what stands afterwards.
use Rattle.std.proofs.Common.{◌≡◌, ◌≢◌, inl, inr, ⊎_elim, ℕ, zero, suc, ◌+◌, ◌<◌, ◌≤◌, List, [], ◌∷◌, ◌++◌, Some, None, length, get_or, set, refl, sym, ◌∙◌, ap, subst, arith, length-append, Bool, true, false, ◌==◌, ◌%◌}
use Rattle.std.proofs.lemmas.Bool.{cases_eq}
use Rattle.std.proofs.lemmas.List.{get_or_append_left, get_or_at, get_or-set_other}
use Rattle.std.proofs.lemmas.Bool.Decides.{nat_tests}
use Rattle.std.proofs.lemmas.Grind.{get_or-set_at}
use Rattle.dev_model.specs.Story.{Bytes, Write, Calls, Story, after, bytes_of, IsInside, IsOutside, IsSettled, IsImageDuring}
use Rattle.dev_model.specs.Writes.{AreSpared}
use Rattle.dev_model.specs.Laws.Ranges.{part-list}
use Rattle.dev_model.specs.Laws.Images.{IsReadable-settled}
use Rattle.gate.specs.Calls.{close_calls, gated_calls}
use Rattle.gate.specs.Gates.{Holds, IsGated, HasPut}
use Rattle.gate.specs.Laws.Plans.{Leaves, leaves-more, leaves-weaker}
use Rattle.gate.specs.Laws.Gates.{holds-first, put-synced, put-gated, gated-leaves}
use Rattle.wal_log.proofs.Beside.{others, others-still, here_or_behind, sides}
use Rattle.wal_log.proofs.Growing.{rests-at}
use Rattle.wal_log.proofs.Spelled.{length-header_bytes}
use Rattle.wal_log.specs.Places.{segment_start}
use Rattle.wal_log.specs.State.{header_bytes, IsStill, IsAtRest, newest, following, close_calls_if, start_calls, turn_calls}
use Rattle.wal_log.specs.Segments.{Segments, segment_records, segment_at, segments_of, IsLooked}
use Rattle.wal_log.specs.Growing.{started_segment}
use Rattle.wal_log.specs.Changes.{IsOneOf, IsTurning, first_header, segments_in}
use Rattle.wal_log.specs.declared.log.Log.{Log}
use Rattle.wal_log.specs.Laws.Agreeing.{segment_at-shut, segment_at-same, segments_of-at_one, segments_of-set, segment_at-started}

-- a segment was closed, and the others are as they were
pub record HasClosed (log_start k : ℕ) (s t : Story) : Type 0 where
  pub segments : segments_of log_start (bytes_of t) ≡ set (segments_of log_start (bytes_of s)) k None
  pub closed : bytes_of t (segment_start log_start k) ≢ 165
  pub others : (i : ℕ) → IsOutside (segment_start log_start k) 262144 i → bytes_of t i ≡ bytes_of s i
  pub still : IsStill log_start t

-- a segment was started, and the others are as they were
pub record HasStarted (log_start k : ℕ) (header : List ℕ) (s t : Story) : Type 0 where
  pub segments : segments_of log_start (bytes_of t) ≡ set (segments_of log_start (bytes_of s)) k (Some (started_segment header))
  pub started : bytes_of t (segment_start log_start k) ≡ 165
  pub empty : length (segment_records log_start k (bytes_of t)) ≡ 0
  pub others : (i : ℕ) → IsOutside (segment_start log_start k) 262144 i → bytes_of t i ≡ bytes_of s i
  pub still : IsStill log_start t

-- within a part of a segment
narrow : (start count i : ℕ) → count ≤ 262144 → IsOutside start 262144 i → IsOutside start count i
narrow start count i few (inl low) = inl low
narrow start count i few (inr high) = inr (omega (arith, high, few))

module _ (log_start : ℕ) (s : Story) (k : ℕ) (below : k < 4) (still : IsStill log_start s) where
  abbrev start : ℕ
  start = segment_start log_start k

  abbrev old : Segments
  old = segments_of log_start (bytes_of s)

  rest : (width : ℕ) → width ≤ 262144 → (image : Bytes) → ((i : ℕ) → IsOutside start width i → IsSettled s.past i → image i ≡ bytes_of s i) → (j : ℕ) → j < 4 → j ≢ k → segment_at log_start j image ≡ segment_at log_start j (bytes_of s)
  rest width few image same = others log_start k start width s still (omega arith) (omega (arith, few)) image same

  -- the segment that was written is on the disk, and so are the others
  all-still : (t : Story) (xs : List ℕ) → length xs ≤ 262144 → HasPut start xs s t → ((i : ℕ) → IsLooked log_start k (bytes_of t) i → IsInside start (length xs) i) → IsStill log_start t
  all-still t xs few put inside j lt i looked = elim (cases_eq j k) [
    | inl is ↦ put.settled i (inl (inside i (subst (λ (n : ℕ). IsLooked log_start n (bytes_of t) i) is looked)))
    | inr unlike ↦ others-still log_start k start (length xs) s still (omega arith) (omega (arith, few)) t put.elsewhere (λ n readable. put.settled n (inr readable)) j lt unlike i looked
  ]

  -- while the gate is closed
  pub closing : bytes_of s start ≡ 165 → (image : Bytes) → IsImageDuring s (Write start (0 ∷ [])) image → IsOneOf old (set old k None) (segments_of log_start image)
  closing open_before image is = elim (cases_eq (image start) 165) [
    | inl is_open ↦
        let gate : (i : ℕ) → i ≡ start → image i ≡ bytes_of s i = λ i here. ap image here ∙ is_open ∙ sym open_before ∙ ap (bytes_of s) (sym here) in
        inl (segments_of-at_one log_start k (bytes_of s) image
        (segment_at-same log_start k (bytes_of s) image (λ i looked. ⊎_elim (gate i)
        (λ in_it. ⊎_elim (gate i) (λ behind. is i (inr (omega arith)) (still k below i looked)) (here_or_behind start i in_it.1)) looked))
        (rest 1 (omega arith) image is))
    | inr shut ↦ inr (segments_of-set log_start k (bytes_of s) image None below (segment_at-shut log_start k image shut) (rest 1 (omega arith) image is))
  ]

  abbrev pub closed_story : Story
  closed_story = after s (close_calls start)

  pub closed : HasClosed log_start k s closed_story
  closed = record {
    segments = segments_of-set log_start k (bytes_of s) (bytes_of closed_story) None below (segment_at-shut log_start k (bytes_of closed_story) shut) (rest 1 (omega arith) (bytes_of closed_story) (λ i out on_disk. put.elsewhere i out));
    closed = shut;
    others = λ i away. put.elsewhere i (narrow start 1 i (omega arith) away);
    still = all-still closed_story (0 ∷ []) (omega arith) put (λ i looked. ⊎_elim (λ here. record { from = omega (arith, here); to = omega (arith, here) }) (λ in_it. absurd (shut in_it.0)) looked);
  }
    where
      put : HasPut start (0 ∷ []) s closed_story
      put = put-synced start (0 ∷ []) s

      shut : bytes_of closed_story start ≢ 165
      shut is = omega (arith, is, holds-first start 0 [] (bytes_of closed_story) put.stands)

  module _ (shut_before : bytes_of s start ≢ 165) (header : List ℕ) (width : length header ≡ 63) where
    abbrev new : List ℕ
    new = header ++ 0 ∷ []

    length_new : length (165 ∷ new) ≡ 65
    length_new = omega (arith, length-append header (0 ∷ []), width)

    abbrev started_one : Segments
    started_one = set old k (Some (started_segment header))

    -- bytes where the gate is open and the header stands behind it
    there : (image : Bytes) → Holds start (165 ∷ new) image → (segment_at log_start k image ≡ Some (started_segment header)) × (segment_records log_start k image ≡ [])
    there image stands = segment_at-started log_start k image header (holds-first start 165 new image stands)
        (part-list (start + 1) 63 image header width (λ n lt.
        let place : start + 1 + n ≡ start + suc n = omega arith in
        ap image place ∙ stands (suc n) (omega (arith, length_new, lt)) ∙ get_or_append_left header (0 ∷ []) 0 n (omega (arith, width, lt))))
        (λ is_open. omega (arith, is_open, stands 64 (omega (arith, length_new)), get_or_at header 0 [] 0 63 width))

    either : (image : Bytes) → IsGated start new s image → IsOneOf old started_one (segments_of log_start image)
    either image (inl left) = inl (segments_of-at_one log_start k (bytes_of s) image (segment_at-shut log_start k image left.closed ∙ sym (segment_at-shut log_start k (bytes_of s) shut_before))
        (rest (length (165 ∷ new)) (omega (arith, length_new)) image left.elsewhere))
    either image (inr opened) = inr (segments_of-set log_start k (bytes_of s) image (Some (started_segment header)) below (there image opened.stands).0
        (rest (length (165 ∷ new)) (omega (arith, length_new)) image (λ i out on_disk. opened.elsewhere i out (IsReadable-settled s.past i on_disk))))

    pub starting : Leaves s (gated_calls start new) (λ image. IsOneOf old started_one (segments_of log_start image))
    starting = leaves-weaker s (gated_calls start new) (IsGated start new s) (λ image. IsOneOf old started_one (segments_of log_start image)) either (gated-leaves start new s shut_before (still k below start (inl refl)))

    abbrev end : Story
    end = after s (gated_calls start new)

    pub started : HasStarted log_start k header s end
    started = record {
      segments = segments_of-set log_start k (bytes_of s) (bytes_of end) (Some (started_segment header)) below it.0 (rest (length (165 ∷ new)) (omega (arith, length_new)) (bytes_of end) (λ i out on_disk. put.elsewhere i out));
      started = holds-first start 165 new (bytes_of end) put.stands;
      empty = ap length it.1;
      others = λ i away. put.elsewhere i (narrow start (length (165 ∷ new)) i (omega (arith, length_new)) away);
      still = all-still end (165 ∷ new) (omega (arith, length_new)) put (λ i looked. ⊎_elim
          (λ here. record { from = omega (arith, here); to = omega (arith, here, length_new) })
          (λ in_it. record { from = in_it.1; to = omega (arith, in_it.2, ap length it.1, length_new) }) looked);
    }
      where
        put : HasPut start (165 ∷ new) s end
        put = put-gated start new s

        it : (segment_at log_start k (bytes_of end) ≡ Some (started_segment header)) × (segment_records log_start k (bytes_of end) ≡ [])
        it = there (bytes_of end) put.stands

-- closing and then starting
set-again : {X : Type 0} (xs : List X) (k : ℕ) (x y : X) → set (set xs k x) k y ≡ set xs k y
set-again [] zero x y = refl
set-again [] (suc k) x y = refl
set-again (z ∷ zs) zero x y = refl
set-again (z ∷ zs) (suc k) x y = ap (λ l. z ∷ l) (set-again zs k x y)

turning-first : (k : ℕ) (header : List ℕ) (old image : Segments) → IsOneOf old (set old k None) image → IsTurning k header old image
turning-first k header old image (inl same) = inl same
turning-first k header old image (inr closed_one) = inr (inl closed_one)

turning-second : (k : ℕ) (header : List ℕ) (old mid image : Segments) → mid ≡ set old k None → IsOneOf mid (set mid k (Some (started_segment header))) image → IsTurning k header old image
turning-second k header old mid image is (inl same) = inr (inl (same ∙ is))
turning-second k header old mid image is (inr new) = inr (inr (new ∙ ap (λ (l : Segments). set l k (Some (started_segment header))) is ∙ set-again old k None (Some (started_segment header))))

turning-third : (k : ℕ) (header : List ℕ) (old image : Segments) → IsOneOf old (set old k (Some (started_segment header))) image → IsTurning k header old image
turning-third k header old image (inl same) = inl same
turning-third k header old image (inr new) = inr (inr new)

-- what a flag says of its gate
gate-open : (gate : ℕ) → true ≡ (gate == 165) → gate ≡ 165
gate-open gate is = grind (arith, nat_tests)

gate-shut : (gate : ℕ) → false ≡ (gate == 165) → gate ≢ 165
gate-shut gate is = grind (arith, nat_tests)

-- a change of segments, by whether the next header is open
module _ (log_start : ℕ) (s : Story) (k generation first_lsn : ℕ) (below : k < 4) (still : IsStill log_start s) where
  abbrev header : List ℕ
  header = header_bytes generation first_lsn

  abbrev Turning : Bytes → Type 0
  Turning image = IsTurning k header (segments_of log_start (bytes_of s)) (segments_of log_start image)

  abbrev calls : Bool → Calls
  calls is_open = close_calls_if log_start is_open k ++ start_calls log_start k generation first_lsn

  pub turn-leaves : (is_open : Bool) → is_open ≡ (bytes_of s (segment_start log_start k) == 165) → Leaves s (calls is_open) Turning
  turn-leaves true is =
      let mid : Story = closed_story log_start s k below still in
      let first : HasClosed log_start k s mid = closed log_start s k below still in
      leaves-more s (segment_start log_start k) (0 ∷ []) (start_calls log_start k generation first_lsn) Turning
      (λ image during. turning-first k header (segments_of log_start (bytes_of s)) (segments_of log_start image) (closing log_start s k below still (gate-open (bytes_of s (segment_start log_start k)) is) image during))
      (leaves-weaker mid (start_calls log_start k generation first_lsn) (λ image. IsOneOf (segments_of log_start (bytes_of mid)) (set (segments_of log_start (bytes_of mid)) k (Some (started_segment header))) (segments_of log_start image)) Turning
      (λ image one. turning-second k header (segments_of log_start (bytes_of s)) (segments_of log_start (bytes_of mid)) (segments_of log_start image) first.segments one)
      (starting log_start mid k below first.still first.closed header (length-header_bytes generation first_lsn)))
  turn-leaves false is =
      leaves-weaker s (start_calls log_start k generation first_lsn) (λ image. IsOneOf (segments_of log_start (bytes_of s)) (set (segments_of log_start (bytes_of s)) k (Some (started_segment header))) (segments_of log_start image)) Turning
      (λ image one. turning-third k header (segments_of log_start (bytes_of s)) (segments_of log_start image) one)
      (starting log_start s k below still (gate-shut (bytes_of s (segment_start log_start k)) is) header (length-header_bytes generation first_lsn))

  -- what the change has done at its end
  pub turn-ends : (is_open : Bool) → is_open ≡ (bytes_of s (segment_start log_start k) == 165) → HasStarted log_start k header s (after s (calls is_open))
  turn-ends true is =
      let mid : Story = closed_story log_start s k below still in
      let first : HasClosed log_start k s mid = closed log_start s k below still in
      let second : HasStarted log_start k header mid (after mid (start_calls log_start k generation first_lsn)) = started log_start mid k below first.still first.closed header (length-header_bytes generation first_lsn) in
      record {
        segments = second.segments ∙ ap (λ (l : Segments). set l k (Some (started_segment header))) first.segments ∙ set-again (segments_of log_start (bytes_of s)) k None (Some (started_segment header));
        started = second.started;
        empty = second.empty;
        others = λ i away. second.others i away ∙ first.others i away;
        still = second.still;
      }
  turn-ends false is = started log_start s k below still (gate-shut (bytes_of s (segment_start log_start k)) is) header (length-header_bytes generation first_lsn)

-- a change of segments writes in the next segment alone
pub turn-spared : (log_start k generation first_lsn : ℕ) (is_open : Bool) (i : ℕ) → IsOutside (segment_start log_start k) 262144 i → AreSpared (close_calls_if log_start is_open k ++ start_calls log_start k generation first_lsn) i
turn-spared log_start k generation first_lsn is_open i out = by_flag is_open
  where
    long : length (header_bytes generation first_lsn ++ 0 ∷ []) ≡ 64
    long = omega (arith, length-append (header_bytes generation first_lsn) (0 ∷ []), length-header_bytes generation first_lsn)

    one : IsOutside (segment_start log_start k) 1 i
    one = narrow (segment_start log_start k) 1 i (omega arith) out

    two : IsOutside (segment_start log_start k + 1) (length (header_bytes generation first_lsn ++ 0 ∷ [])) i
    two = ⊎_elim (λ low. inl (omega (arith, low))) (λ high. inr (omega (arith, high, long))) out

    by_flag : (is_open : Bool) → AreSpared (close_calls_if log_start is_open k ++ start_calls log_start k generation first_lsn) i
    by_flag true = (one, (tt, (two, (tt, (one, (tt, tt))))))
    by_flag false = (two, (tt, (one, (tt, tt))))

-- a change of segments of a log at rest
module _ (s : Story) (log : Log) (rest : IsAtRest log s) (below : following log < 4) where
  abbrev flag : Bool
  flag = get_or log.open_headers (following log) false

  abbrev turned_story : Story
  turned_story = after s (turn_calls log)

  at_end : HasStarted log.start (following log) (first_header log) s turned_story
  at_end = turn-ends log.start s (following log) (log.generation + 1) log.next_lsn below rest.still flag (rest.heads (following log) below)

  pub turned-leaves : Leaves s (turn_calls log) (λ image. IsTurning (following log) (first_header log) (segments_in log s) (segments_of log.start image))
  turned-leaves = turn-leaves log.start s (following log) (log.generation + 1) log.next_lsn below rest.still flag (rest.heads (following log) below)

  pub turned-segments : segments_in log turned_story ≡ set (segments_in log s) (following log) (Some (started_segment (first_header log)))
  turned-segments = at_end.segments

  -- the log after the turn
  pub turned-rests : (next : Log) → length log.open_headers ≡ 4 → next.start ≡ log.start
      → next.generation ≡ log.generation + 1 → next.records ≡ 0 → next.open_headers ≡ set log.open_headers (following log) true → IsAtRest next turned_story
  turned-rests next four start generation records heads =
      let same : newest next ≡ following log = ap (λ (n : ℕ). n % 4) generation in
      rests-at log.start next turned_story start
      (ap (λ (k : ℕ). bytes_of turned_story (segment_start log.start k)) same ∙ at_end.started)
      (ap (λ (k : ℕ). length (segment_records log.start k (bytes_of turned_story))) same ∙ at_end.empty ∙ sym records)
      (λ j lt. ap (λ (l : List Bool). get_or l j false) heads ∙ elim (cases_eq j (following log)) [
        | inl here ↦ get_or-set_at log.open_headers (following log) j true false here (omega (arith, four, below)) ∙ sym (opened (bytes_of turned_story (segment_start log.start j)) (ap (λ (n : ℕ). bytes_of turned_story (segment_start log.start n)) here ∙ at_end.started))
        | inr unlike ↦ get_or-set_other log.open_headers (following log) j true false unlike ∙ rest.heads j lt
            ∙ ap (λ (n : ℕ). n == 165) (sym (at_end.others (segment_start log.start j) (apart j (following log) unlike)))
      ])
      at_end.still
    where
      opened : (n : ℕ) → n ≡ 165 → (n == 165) ≡ true
      opened n is = grind (arith, nat_tests)

      apart : (j k : ℕ) → j ≢ k → IsOutside (segment_start log.start k) 262144 (segment_start log.start j)
      apart j k unlike = ⊎_elim (λ before. inl (omega arith)) (λ behind. inr (omega arith)) (sides j k unlike)
