-- What records that are put behind the last one make of the log, at each moment and at the end.
use Rattle.std.proofs.Common.{◌*◌, map, ◌≡◌, ◌≢◌, ◌⊎◌, inl, inr, ⊎_elim, ℕ, ◌+◌, ◌<◌, ◌≤◌, List, ◌∷◌, length, get_or, set, sym, ◌∙◌, ap, subst, arith, length-append, Bool, None, false, ◌==◌, ◌%◌}
use Rattle.std.proofs.lemmas.Bool.{cases_eq}
use Rattle.std.proofs.lemmas.List.{length-map}
use Rattle.dev_model.specs.Story.{Bytes, Story, after, bytes_of, IsOutside, IsSettled}
use Rattle.dev_model.specs.Laws.Images.{IsReadable-settled}
use Rattle.gate.specs.Calls.{gated_calls}
use Rattle.gate.specs.Gates.{Holds, IsGated, HasPut}
use Rattle.gate.specs.Laws.Plans.{Leaves, leaves-weaker}
use Rattle.gate.specs.Laws.Gates.{put-gated, gated-leaves}
use Rattle.wal_log.proofs.Beside.{others, others-still}
use Rattle.wal_log.specs.Records.{record_bytes}
use Rattle.wal_log.specs.declared.records.Record.{Record}
use Rattle.wal_log.specs.Places.{segment_start, record_start}
use Rattle.wal_log.specs.Segments.{Segments, segment_records, segment_at, segments_of, IsLooked}
use Rattle.wal_log.specs.Growing.{with_records, gated, behind_gate, AreWide}
use Rattle.wal_log.specs.State.{IsStill, IsAtRest, newest}
use Rattle.wal_log.specs.Changes.{IsBeforeOrAfterAll, append_all_calls, segments_in}
use Rattle.wal_log.specs.declared.log.Log.{Log}
use Rattle.wal_log.specs.Laws.Agreeing.{segment_records-end, segment_at-kept, segment_at-grown, segments_of-at_one, segments_of-at, segments_of-set, segment_records-grown, length-gated, gated-behind}

-- what is at rest at the place of a log
pub rests-at : (log_start : ℕ) (log : Log) (s : Story) → log.start ≡ log_start → bytes_of s (segment_start log_start (newest log)) ≡ 165 → length (segment_records log_start (newest log) (bytes_of s)) ≡ log.records
    → ((k : ℕ) → k < 4 → get_or log.open_headers k false ≡ (bytes_of s (segment_start log_start k) == 165)) → IsStill log_start s → IsAtRest log s
rests-at log_start log s is started counts heads still = record {
  started = subst (λ (at : ℕ). bytes_of s (segment_start at (newest log)) ≡ 165) (sym is) started;
  counts = subst (λ (at : ℕ). length (segment_records at (newest log) (bytes_of s)) ≡ log.records) (sym is) counts;
  heads = subst (λ (at : ℕ). (k : ℕ) → k < 4 → get_or log.open_headers k false ≡ (bytes_of s (segment_start at k) == 165)) (sym is) heads;
  still = subst (λ (at : ℕ). IsStill at s) (sym is) still;
}

module _ (log_start : ℕ) (s : Story) (k count : ℕ) (below : k < 4) (still : IsStill log_start s) (started : bytes_of s (segment_start log_start k) ≡ 165) (counts : length (segment_records log_start k (bytes_of s)) ≡ count)
    (bodies : List (List ℕ)) (room : count + length bodies ≤ 2048) (wide : AreWide bodies) (new : List ℕ) (new_is : 165 ∷ new ≡ gated bodies) where
  abbrev gate : ℕ
  gate = record_start log_start k count

  abbrev old : Segments
  old = segments_of log_start (bytes_of s)

  abbrev grown : Segments
  grown = set old k (with_records bodies (get_or old k None))

  length_new : length (165 ∷ new) ≡ 96 * length bodies + 1
  length_new = ap length new_is ∙ length-gated bodies wide

  -- the gate behind the last record is closed, and it is on the disk with what stands before it
  shut : bytes_of s gate ≢ 165
  shut = segment_records-end log_start k count (bytes_of s) counts (omega (arith, room))

  settled : (i : ℕ) → segment_start log_start k ≤ i → i ≤ gate → IsSettled s.past i
  settled i low high = still k below i (inr (started, low, omega (arith, high, counts)))

  low_new : segment_start log_start k ≤ gate
  low_new = omega arith

  high_new : gate + length (165 ∷ new) ≤ segment_start log_start k + 262144
  high_new = omega (arith, length_new, room)

  -- bytes that have what was on the disk outside of what is written
  module _ (image : Bytes) (same : (i : ℕ) → IsOutside gate (length (165 ∷ new)) i → IsSettled s.past i → image i ≡ bytes_of s i) where
    front : (i : ℕ) → segment_start log_start k ≤ i → i < gate → image i ≡ bytes_of s i
    front i low high = same i (inl high) (settled i low (omega (arith, high)))

    rest : (j : ℕ) → j < 4 → j ≢ k → segment_at log_start j image ≡ segment_at log_start j (bytes_of s)
    rest = others log_start k gate (length (165 ∷ new)) s still low_new high_new image same

    old_stand : image gate ≢ 165 → segments_of log_start image ≡ old
    old_stand closed = segments_of-at_one log_start k (bytes_of s) image (segment_at-kept log_start k (bytes_of s) image count counts started front (omega (arith, room)) closed) rest

    module _ (stands : Holds gate (165 ∷ new) image) where
      gated_there : Holds gate (gated bodies) image
      gated_there = subst (λ (l : List ℕ). Holds gate l image) new_is stands

      new_stand : segments_of log_start image ≡ grown
      new_stand =
          segments_of-set log_start k (bytes_of s) image (with_records bodies (get_or old k None)) below
          (segment_at-grown log_start k (bytes_of s) image count counts started front bodies room wide gated_there ∙ ap (with_records bodies) (sym (segments_of-at log_start k (bytes_of s) below)))
          rest

      new_counts : length (segment_records log_start k image) ≡ count + length bodies
      new_counts =
          ap length (segment_records-grown log_start k (bytes_of s) image count counts started front bodies room wide gated_there)
          ∙ length-append (segment_records log_start k (bytes_of s)) bodies ∙ ap (λ (n : ℕ). n + length bodies) counts

  either : (image : Bytes) → IsGated gate new s image → IsBeforeOrAfterAll k bodies old (segments_of log_start image)
  either image (inl left) = inl (old_stand image left.elsewhere left.closed)
  either image (inr opened) = inr (new_stand image (λ i out on_disk. opened.elsewhere i out (IsReadable-settled s.past i on_disk)) opened.stands)

  -- at each moment of the append
  pub grows : Leaves s (gated_calls gate new) (λ image. IsBeforeOrAfterAll k bodies old (segments_of log_start image))
  grows =
      leaves-weaker s (gated_calls gate new) (IsGated gate new s) (λ image. IsBeforeOrAfterAll k bodies old (segments_of log_start image)) either
      (gated-leaves gate new s shut (settled gate low_new (omega arith)))

  -- at its end
  module _ (t : Story) (put : HasPut gate (165 ∷ new) s t) where
    end_same : (i : ℕ) → IsOutside gate (length (165 ∷ new)) i → IsSettled s.past i → bytes_of t i ≡ bytes_of s i
    end_same i out on_disk = put.elsewhere i out

    pub grown-end : segments_of log_start (bytes_of t) ≡ grown
    grown-end = new_stand (bytes_of t) end_same put.stands

    end_started : bytes_of t (segment_start log_start k) ≡ 165
    end_started = put.elsewhere (segment_start log_start k) (inl (omega arith)) ∙ started

    end_counts : length (segment_records log_start k (bytes_of t)) ≡ count + length bodies
    end_counts = new_counts (bytes_of t) end_same put.stands

    end_heads : (j : ℕ) → bytes_of t (segment_start log_start j) ≡ bytes_of s (segment_start log_start j)
    end_heads j = put.elsewhere (segment_start log_start j) (⊎_elim (λ low. inl (omega (arith, low))) (λ high. inr (omega (arith, high, high_new))) (by_side j k))
      where
        by_side : (j k : ℕ) → (j ≤ k) ⊎ (k < j)
        by_side j k = grind arith

    end_still : IsStill log_start t
    end_still j lt i looked = elim (cases_eq j k) [
      | inl is ↦
          let here : IsLooked log_start k (bytes_of t) i = subst (λ (n : ℕ). IsLooked log_start n (bytes_of t) i) is looked in
          let low : segment_start log_start k ≤ i = ⊎_elim (λ at. omega (arith, at)) (λ in_it. in_it.1) here in
          let high : i < gate + length (165 ∷ new) = ⊎_elim (λ at. omega (arith, at)) (λ in_it. omega (arith, in_it.2, end_counts, length_new)) here in
          put.settled i (⊎_elim (λ front. inr (IsReadable-settled s.past i (settled i low (omega (arith, front))))) (λ behind. inl (record { from = behind; to = high })) (by_side i gate))
      | inr unlike ↦ others-still log_start k gate (length (165 ∷ new)) s still low_new high_new t put.elsewhere (λ n readable. put.settled n (inr readable)) j lt unlike i looked
    ]
      where
        by_side : (i at : ℕ) → (i < at) ⊎ (at ≤ i)
        by_side i at = grind arith

    pub grown-rests : (next : Log) → next.start ≡ log_start → newest next ≡ k → next.records ≡ count + length bodies → ((j : ℕ) → j < 4 → get_or next.open_headers j false ≡ (bytes_of s (segment_start log_start j) == 165)) → IsAtRest next t
    grown-rests next start at records heads = rests-at log_start next t start
        (ap (λ (n : ℕ). bytes_of t (segment_start log_start n)) at ∙ end_started)
        (ap (λ (n : ℕ). length (segment_records log_start n (bytes_of t))) at ∙ end_counts ∙ sym records)
        (λ j lt. heads j lt ∙ ap (λ (n : ℕ). n == 165) (sym (end_heads j)))
        end_still

-- an append to a log at rest
module _ (s : Story) (log : Log) (rest : IsAtRest log s) (below : newest log < 4) (rs : List Record) (room : log.records + length rs ≤ 2048) (wide : AreWide (map record_bytes rs)) (some : 0 < length rs) where
  abbrev bodies_of : List (List ℕ)
  bodies_of = map record_bytes rs

  many : length bodies_of ≡ length rs
  many = length-map rs record_bytes

  fits : log.records + length bodies_of ≤ 2048
  fits = omega (arith, room, many)

  all_gated : 165 ∷ behind_gate bodies_of ≡ gated bodies_of
  all_gated = gated-behind bodies_of (omega (arith, some, many))

  abbrev end : Story
  end = after s (append_all_calls log rs)

  at_end : HasPut (record_start log.start (newest log) log.records) (165 ∷ behind_gate bodies_of) s end
  at_end = put-gated (record_start log.start (newest log) log.records) (behind_gate bodies_of) s

  pub append-all : Leaves s (append_all_calls log rs) (λ image. IsBeforeOrAfterAll (newest log) bodies_of (segments_in log s) (segments_of log.start image))
  append-all = grows log.start s (newest log) log.records below rest.still rest.started rest.counts bodies_of fits wide (behind_gate bodies_of) all_gated

  pub append-grown : segments_in log end ≡ set (segments_in log s) (newest log) (with_records bodies_of (get_or (segments_in log s) (newest log) None))
  append-grown = grown-end log.start s (newest log) log.records below rest.still rest.started rest.counts bodies_of fits wide (behind_gate bodies_of) all_gated end at_end

  pub append-rests : (next : Log) → next.start ≡ log.start → next.generation ≡ log.generation → next.records ≡ log.records + length rs → next.open_headers ≡ log.open_headers → IsAtRest next end
  append-rests next start generation records heads =
      grown-rests log.start s (newest log) log.records below rest.still rest.started rest.counts bodies_of fits wide (behind_gate bodies_of) all_gated end at_end next start
      (ap (λ (n : ℕ). n % 4) generation) (omega (arith, many, records)) (λ j lt. ap (λ (l : List Bool). get_or l j false) heads ∙ rest.heads j lt)

-- how many bytes an append writes
pub length-appended : (rs : List Record) → AreWide (map record_bytes rs) → 0 < length rs → length (165 ∷ behind_gate (map record_bytes rs)) ≡ 96 * length rs + 1
length-appended rs wide some =
    let many : length (map record_bytes rs) ≡ length rs = length-map rs record_bytes in
    omega (arith, many, ap length (gated-behind (map record_bytes rs) (omega (arith, some, many))), length-gated (map record_bytes rs) wide)
