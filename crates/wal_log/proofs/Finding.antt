-- What is found at the place of a record, and what a walk over these places has read.
use Rattle.std.proofs.Common.{◌≡◌, ◌≢◌, inl, inr, ⊎_elim, ℕ, suc, ◌+◌, ◌-◌, ◌*◌, ◌<◌, ◌≤◌, ◌^◌, ◌%◌, List, [], ◌∷◌, ◌++◌, length, get_or, take, drop, map, refl, sym, ◌∙◌, ap, subst, arith, Option, Some, ◌⊎◌, length-append, append_assoc}
use Rattle.std.proofs.lemmas.List.{append-nil, get_or_append_left, get_or_at, length_push, map-append, length-drop, length-take-le}
use Rattle.std.proofs.Math.Seq.{get_or-take, get_or-drop}
use Rattle.std.proofs.lemmas.Option.{same_Some}
use Rattle.dev_model.specs.Story.{Bytes, Story, after, bytes_of, part, IsSettled, WhereTold}
use Rattle.dev_model.specs.Answers.{IsReadFrom}
use Rattle.wal_log.specs.Reads.{ReadsLog}
use Rattle.dev_model.specs.Laws.Ranges.{part-list}
use Rattle.dev_model.specs.Laws.Images.{IsReadable-settled}
use Rattle.dev_model.specs.Laws.Reads.{IsSettled-reads, bytes_of-reads}
use Rattle.wal_log.specs.State.{IsSegmentStill, IsStill}
use Rattle.wal_log.specs.Places.{IsInLog, segment_start, record_start}
use Rattle.wal_log.specs.Records.{record_of, IsRecord}
use Rattle.wal_log.specs.Segments.{segment_records, open_records, IsLooked}
use Rattle.wal_log.specs.Rules.{AreRecords, HasRecords}
use Rattle.wal_log.specs.Found.{HasReadSome, HasReadAll, IsFound, IsPlaceStill, IsOpenStill, HasNumber, IsFoundIn, HoldsPlaces, window_start}
use Rattle.wal_log.specs.declared.records.Record.{Record}
use Rattle.wal_log.specs.declared.reading.Found.{Found}
use Rattle.wal_log.specs.declared.reading.Found.TheVariants.{Closed, Bad, Sound}
use Rattle.wal_log.specs.Laws.Agreeing.{open_records-shut, open_records-open}

-- what was on the disk is there after reads, and the bytes are the same
module _ (log_start : ℕ) (s t : Story) (now : Option Story) (reads : ReadsLog log_start s now) (told : now ≡ Some t) where
  same_story : after s reads.calls ≡ t
  same_story = same_Some (after s reads.calls) t (sym reads.told ∙ told)

  pub bytes_of-after : bytes_of t ≡ bytes_of s
  bytes_of-after = ap bytes_of (sym same_story) ∙ bytes_of-reads (IsInLog log_start) s reads.calls reads.reads

  settled-after : (i : ℕ) → IsSettled s.past i → IsSettled t.past i
  settled-after i settled = subst (λ (u : Story). IsSettled u.past i) same_story (IsSettled-reads (IsInLog log_start) s reads.calls i reads.reads settled)

  pub IsSegmentStill-after : (k : ℕ) → IsSegmentStill log_start k s → IsSegmentStill log_start k t
  IsSegmentStill-after k still i looked = settled-after i (still i (subst (λ (b : Bytes). IsLooked log_start k b i) bytes_of-after looked))

  pub IsStill-after : IsStill log_start s → IsStill log_start t
  IsStill-after still k lt = IsSegmentStill-after k (still k lt)

  pub IsOpenStill-after : (k : ℕ) → IsOpenStill log_start k s → IsOpenStill log_start k t
  IsOpenStill-after k still = record { started = ap (λ (b : Bytes). b (segment_start log_start k)) bytes_of-after ∙ still.started; still = IsSegmentStill-after k still.still }

  pub IsPlaceStill-after : (at : ℕ) → IsPlaceStill at s → IsPlaceStill at t
  IsPlaceStill-after at still = record {
    gate = settled-after at still.gate;
    body = λ is i low high. settled-after i (still.body (ap (λ (b : Bytes). b at) (sym bytes_of-after) ∙ is) i low high);
  }

-- what was found after reads alone stands there
pub found-at : (log_start : ℕ) (s : Story) (mid : Option Story) (at lsn : ℕ) (f : Found) → ReadsLog log_start s mid → WhereTold mid (λ t. IsPlaceStill at t → IsFound at lsn (bytes_of t) f) → IsPlaceStill at s → IsFound at lsn (bytes_of s) f
found-at log_start s mid at lsn f reads found still =
    let t : Story = after s reads.calls in
    subst (λ (b : Bytes). IsFound at lsn b f) (bytes_of-after log_start s t mid reads reads.told) (found t reads.told (IsPlaceStill-after log_start s t mid reads reads.told at still))

-- what a window has of a place
module _ (s : Story) (start at place : ℕ) (window : List ℕ) (is : start + at ≡ place) (width : length window ≡ 4096) (within : at + 96 ≤ 4096) (still : IsPlaceStill place s) (read : IsReadFrom start window s) where
  place-gate : get_or window at 0 ≡ bytes_of s place
  place-gate =
      read at (omega (arith, width, within)) (IsReadable-settled s.past (start + at) (subst (λ (n : ℕ). IsSettled s.past n) (sym is) still.gate)) ∙ ap (bytes_of s) is

  place-body : get_or window at 0 ≡ 165 → take 95 (drop (at + 1) window) ≡ part (place + 1) 95 (bytes_of s)
  place-body is_open = sym (part-list (place + 1) 95 (bytes_of s) (take 95 (drop (at + 1) window)) long each)
    where
      long : length (take 95 (drop (at + 1) window)) ≡ 95
      long = length-take-le 95 (drop (at + 1) window) (omega (arith, length-drop (at + 1) window, width, within))

      each : (n : ℕ) → n < 95 → bytes_of s (place + 1 + n) ≡ get_or (take 95 (drop (at + 1) window)) n 0
      each n lt =
          let there : start + (at + 1 + n) ≡ place + 1 + n = omega (arith, is) in
          sym (get_or-take 95 (drop (at + 1) window) n 0 lt ∙ get_or-drop (at + 1) window n 0
          ∙ read (at + 1 + n) (omega (arith, width, within, lt)) (IsReadable-settled s.past (start + (at + 1 + n)) (subst (λ (m : ℕ). IsSettled s.past m) (sym there) (still.body (sym place-gate ∙ is_open) (place + 1 + n) (omega arith) (omega (arith, lt)))))
          ∙ ap (bytes_of s) there)

  pub found-in : (lsn : ℕ) (f : Found) → IsFoundIn at lsn window f → IsFound place lsn (bytes_of s) f
  found-in lsn Closed shut = λ is_open. shut (place-gate ∙ is_open)
  found-in lsn Bad bad = (sym place-gate ∙ bad.0, λ lawful. bad.1 (subst (IsRecord lsn) (sym (place-body bad.0)) lawful))
  found-in lsn (Sound r) sound = (sym place-gate ∙ sound.0, subst (IsRecord lsn) (place-body sound.0) sound.1, sound.2 ∙ ap record_of (place-body sound.0))

-- the next place in the window
pub holds-next : (log_start k place : ℕ) (window : List ℕ) (s : Story) → IsReadFrom (window_start log_start k place) window s → HoldsPlaces log_start k (place + 1) window s
holds-next log_start k place window s read inside = subst (λ (at : ℕ). IsReadFrom at window s) (same_window k place inside) read
  where
    same_window : (k place : ℕ) → (place + 1) % 42 ≢ 0 → window_start log_start k place ≡ window_start log_start k (place + 1)
    same_window k place inside = ap (record_start log_start k) (same_start place inside)
      where
        same_start : (place : ℕ) → (place + 1) % 42 ≢ 0 → place - place % 42 ≡ place + 1 - (place + 1) % 42
        same_start place inside = grind (arith, inside)

-- the bytes behind a gate, as the code takes them
pub slice-is : (at : ℕ) (window : List ℕ) → take (at + 96 - (at + 1)) (drop (at + 1) window) ≡ take 95 (drop (at + 1) window)
slice-is at window = let e : at + 96 - (at + 1) ≡ 95 = omega arith in ap (λ (n : ℕ). take n (drop (at + 1) window)) e

-- where a place stands in its window
pub place-in : (log_start k place : ℕ) → window_start log_start k place + 96 * (place % 42) ≡ record_start log_start k place
place-in log_start k place = omega arith

module _ (log_start first place k : ℕ) (bytes : Bytes) (before now : List Record) (few : place ≤ 2048) (read : HasReadSome log_start first place k bytes before now) where
  abbrev here : List ℕ
  here = part (record_start log_start k place + 1) 95 bytes

  goes_on : bytes (record_start log_start k place) ≡ 165 → segment_records log_start k bytes ≡ read.front ++ here ∷ open_records (2049 - (place + 1)) (record_start log_start k (place + 1)) bytes
  goes_on is =
      let places : 2049 - place ≡ suc (2049 - (place + 1)) = omega arith in
      let next : record_start log_start k place + 96 ≡ record_start log_start k (place + 1) = omega arith in
      read.rest ∙ ap (λ (l : List (List ℕ)). read.front ++ l)
      (ap (λ (n : ℕ). open_records n (record_start log_start k place) bytes) places ∙ open_records-open (2049 - (place + 1)) (record_start log_start k place) bytes is
      ∙ ap (λ (n : ℕ). here ∷ open_records (2049 - (place + 1)) n bytes) next)

  -- a closed gate ends the walk
  pub read-all : bytes (record_start log_start k place) ≢ 165 → HasReadAll first place (segment_records log_start k bytes) before now
  read-all shut =
      let all : segment_records log_start k bytes ≡ read.front = read.rest ∙ ap (λ (l : List (List ℕ)). read.front ++ l) (open_records-shut (2049 - place) (record_start log_start k place) bytes shut) ∙ append-nil read.front in
      record {
        counts = ap length all ∙ read.counts;
        sound = record { few = omega (arith, ap length all, read.counts); lawful = subst (AreRecords first) (sym all) read.lawful };
        added = read.added ∙ ap (λ (l : List (List ℕ)). before ++ map record_of l) (sym all);
      }

  -- bytes that are no record end it too
  pub read-bad : bytes (record_start log_start k place) ≡ 165 → (IsRecord (first + place) here → ⊥) → HasRecords first (segment_records log_start k bytes) → ⊥
  read-bad is bad sound =
      let all : segment_records log_start k bytes ≡ read.front ++ here ∷ open_records (2049 - (place + 1)) (record_start log_start k (place + 1)) bytes = goes_on is in
      let within : place < length (segment_records log_start k bytes) = omega (arith, ap length all, length-append read.front (here ∷ open_records (2049 - (place + 1)) (record_start log_start k (place + 1)) bytes), read.counts) in
      bad (subst (IsRecord (first + place)) (ap (λ (l : List (List ℕ)). get_or l place []) all ∙ get_or_at read.front here (open_records (2049 - (place + 1)) (record_start log_start k (place + 1)) bytes) [] place read.counts) (sound.lawful place within))

  -- one record more
  pub read-more : (r : Record) (later : List Record) → bytes (record_start log_start k place) ≡ 165 → IsRecord (first + place) here → r ≡ record_of here → later ≡ now ++ r ∷ [] → HasReadSome log_start first (place + 1) k bytes before later
  read-more r later is lawful same pushed = record {
    front = read.front ++ here ∷ [];
    counts = length_push read.front here ∙ ap (λ (n : ℕ). n + 1) read.counts;
    rest = goes_on is ∙ sym (append_assoc read.front (here ∷ []) (open_records (2049 - (place + 1)) (record_start log_start k (place + 1)) bytes));
    lawful = λ i lt. ⊎_elim
        (λ old. subst (IsRecord (first + i)) (sym (get_or_append_left read.front (here ∷ []) [] i old)) (read.lawful i old))
        (λ new. subst (λ (n : ℕ). IsRecord (first + n) (get_or (read.front ++ here ∷ []) n [])) (sym new)
        (subst (IsRecord (first + place)) (sym (get_or_at read.front here [] [] place read.counts)) lawful))
        (sides i (omega (arith, lt, length_push read.front here)));
    added = pushed ∙ ap (λ (l : List Record). l ++ r ∷ []) read.added ∙ append_assoc before (map record_of read.front) (r ∷ [])
        ∙ ap (λ (x : Record). before ++ (map record_of read.front ++ x ∷ [])) same ∙ ap (λ (l : List Record). before ++ l) (sym (map-append record_of read.front (here ∷ [])));
  }
    where
      sides : (i : ℕ) → i < length read.front + 1 → (i < length read.front) ⊎ (i ≡ place)
      sides i lt = ⊎_elim (λ below. inl below) (λ at. inr (at ∙ read.counts)) (halves i (length read.front) lt)
        where
          halves : (i n : ℕ) → i < n + 1 → (i < n) ⊎ (i ≡ n)
          halves i n lt = grind arith

-- what is looked at of the next place is on the disk
pub place-still : (log_start first place k : ℕ) (s : Story) (before now : List Record) → place ≤ 2048 → HasReadSome log_start first place k (bytes_of s) before now → IsOpenStill log_start k s → IsPlaceStill (record_start log_start k place) s
place-still log_start first place k s before now few read still =
    let some : place ≤ length (segment_records log_start k (bytes_of s)) = omega (arith, ap length read.rest, length-append read.front (open_records (2049 - place) (record_start log_start k place) (bytes_of s)), read.counts) in
    record {
      gate = still.still (record_start log_start k place) (inr (still.started, omega arith, omega (arith, some)));
      body = λ is i low high.
          let all : segment_records log_start k (bytes_of s) ≡ read.front ++ here log_start first place k (bytes_of s) before now few read ∷ open_records (2049 - (place + 1)) (record_start log_start k (place + 1)) (bytes_of s) = goes_on log_start first place k (bytes_of s) before now few read is in
          let more : place + 1 ≤ length (segment_records log_start k (bytes_of s)) =
          omega (arith, ap length all, length-append read.front (here log_start first place k (bytes_of s) before now few read ∷ open_records (2049 - (place + 1)) (record_start log_start k (place + 1)) (bytes_of s)), read.counts) in
          still.still i (inr (still.started, omega (arith, low), omega (arith, high, more)));
    }

-- nothing is read yet
pub read-none : (log_start first k : ℕ) (bytes : Bytes) (before : List Record) → HasReadSome log_start first 0 k bytes before before
unfolding segment_records
read-none log_start first k bytes before =
    let start : segment_start log_start k + 64 ≡ record_start log_start k 0 = omega arith in
    record {
      front = [];
      counts = refl;
      rest = ap (λ (n : ℕ). open_records 2049 n bytes) start;
      lawful = λ i lt. absurd (omega (arith, lt));
      added = sym (append-nil before);
    }

-- all places are open: too many records
pub read-too_many : (log_start first place k : ℕ) (bytes : Bytes) (before now : List Record) → place ≡ 2049 → HasReadSome log_start first place k bytes before now → HasRecords first (segment_records log_start k bytes) → ⊥
read-too_many log_start first place k bytes before now all read sound =
    omega (arith, ap length read.rest, length-append read.front (open_records (2049 - place) (record_start log_start k place) bytes), read.counts, sound.few)

-- the number after that of a record
pub below-more : (first place : ℕ) (r : Record) → HasNumber (first + place) (Sound r) → first + (place + 1) ≤ 2 ^ 62
below-more first place r below = omega (arith, below)
