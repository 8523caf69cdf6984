-- The log of a store that has no record, and how it comes to the disk.
use Rattle.std.proofs.Common.{◌≡◌, ◌≢◌, ◌⊎◌, inl, inr, ⊎_elim, ℕ, zero, suc, ◌+◌, ◌-◌, ◌<◌, ◌≤◌, List, [], ◌∷◌, ◌++◌, length, get_or, Some, None, refl, ◌∙◌, ap, subst, sym, arith, length-append}
use Rattle.std.proofs.lemmas.List.{get_or_append_left, get_or_at}
use Rattle.std.proofs.lemmas.List.Elements.{All-cons, All-nil}
use Rattle.dev_model.specs.Story.{Bytes, Story, after, bytes_of, patched, IsSettled}
use Rattle.dev_model.specs.Laws.Images.{IsReadable-settled}
use Rattle.dev_model.specs.Laws.Ranges.{patched-outside, patched-inside, part-list}
use Rattle.format_numbers.specs.declared.TheConstants.{LOG_START}
use Rattle.wal_log.specs.Places.{segment_start}
use Rattle.wal_log.specs.Headers.{generation_in, first_lsn_in}
use Rattle.wal_log.specs.State.{header_bytes}
use Rattle.wal_log.specs.Segments.{Segments, segment_at, segment_records, segments_of}
use Rattle.wal_log.specs.Growing.{started_segment}
use Rattle.wal_log.specs.Rules.{Numbered, Opens, IsEnd}
use Rattle.wal_log.specs.Laws.Agreeing.{segment_at-started, segment_at-shut}
use Rattle.component_image.specs.Recovered.{IsLookedInLog}
use Rattle.device_format.specs.Planning.{start_log}
use Rattle.device_format.proofs.Zeros.{AreClosed, first_there}

abbrev first_header : List ℕ
first_header = header_bytes 0 1

-- segment 0 alone is open
abbrev pub empty_log : Segments
empty_log = Some (started_segment first_header) ∷ None ∷ None ∷ None ∷ []

abbrev first_segment : Numbered
first_segment = record { number = 0; segment = started_segment first_header }

generation_is : generation_in first_header ≡ 0
unfolding header_bytes
generation_is = refl

first_lsn_is : first_lsn_in first_header ≡ 1
unfolding header_bytes
first_lsn_is = refl

ends_there : IsEnd None first_segment 0
ends_there = omega (arith, first_lsn_is)

pub empty_log-opens : Opens (0 ∷ []) empty_log
unfolding header_bytes
empty_log-opens = (
  record {
    segment = record {
      start = record {
        place = refl;
        reserved = refl;
        follows = ((λ _. first_lsn_is), omega (arith, first_lsn_is));
        generation = omega (arith, generation_is);
      };
      records = record { few = omega arith; lawful = λ i lt. absurd (omega (arith, lt)) };
    };
    ends_there = All-cons (IsEnd None first_segment) 0 [] ends_there (All-nil (IsEnd None first_segment));
  },
  tt,
)

-- the header behind its gate, and the closed gate of the first record
abbrev head : List ℕ
head = first_header ++ 0 ∷ []

length-header : length first_header ≡ 63
unfolding header_bytes
length-header = refl

length-head : length head ≡ 64
length-head = omega (arith, length-append first_header (0 ∷ []), length-header)

module _ (s : Story) (closed : AreClosed s) where
  abbrev start : ℕ
  start = segment_start LOG_START 0

  abbrev headed : Bytes
  headed = patched (start + 1) head (bytes_of s)

  abbrev started : Story
  started = after s start_log

  head_there : (n : ℕ) → n < 64 → bytes_of started (start + 1 + n) ≡ get_or head n 0
  head_there n lt =
      let place : start + 1 + n - (start + 1) ≡ n = omega arith in
      patched-outside start (165 ∷ []) headed (start + 1 + n) (inr (omega arith))
      ∙ patched-inside (start + 1) head (bytes_of s) (start + 1 + n) (record { from = omega arith; to = omega (arith, lt, length-head) })
      ∙ ap (λ (m : ℕ). get_or head m 0) place

  no_record : bytes_of started (start + 64) ≢ 165
  no_record is_open = let byte : bytes_of started (start + 64) ≡ 0 = head_there 63 (omega arith) ∙ get_or_at first_header 0 [] 0 63 length-header in omega (arith, byte, is_open)

  first_one : (segment_at LOG_START 0 (bytes_of started) ≡ Some (started_segment first_header)) × (segment_records LOG_START 0 (bytes_of started) ≡ [])
  first_one =
      segment_at-started LOG_START 0 (bytes_of started) first_header (first_there start 165 headed)
      (part-list (start + 1) 63 (bytes_of started) first_header length-header (λ n lt. head_there n (omega (arith, lt)) ∙ get_or_append_left first_header (0 ∷ []) 0 n (omega (arith, length-header, lt)))) no_record

  shut : (k : ℕ) → 0 < k → k < 4 → bytes_of started (segment_start LOG_START k) ≢ 165
  shut k some lt is_open =
      let byte : bytes_of started (segment_start LOG_START k) ≡ 0 =
      patched-outside start (165 ∷ []) headed (segment_start LOG_START k) (inr (omega (arith, some)))
      ∙ patched-outside (start + 1) head (bytes_of s) (segment_start LOG_START k) (inr (omega (arith, some, length-head))) ∙ (closed.headers k lt).0 in
      omega (arith, byte, is_open)

  pub log_is : segments_of LOG_START (bytes_of started) ≡ empty_log
  log_is i =
      first_one.0 i ∷ segment_at-shut LOG_START 1 (bytes_of started) (shut 1 (omega arith) (omega arith)) i ∷ segment_at-shut LOG_START 2 (bytes_of started) (shut 2 (omega arith) (omega arith)) i
      ∷ segment_at-shut LOG_START 3 (bytes_of started) (shut 3 (omega arith) (omega arith)) i ∷ []

  first_or_behind : (i : ℕ) → (i ≤ start) ⊎ (start < i)
  first_or_behind i = grind arith

  head_settled : (i : ℕ) → start ≤ i → i ≤ start + 64 → IsSettled started.past i
  head_settled i low high =
      ⊎_elim
      (λ gate. inl (record { from = low; to = omega (arith, gate) }))
      (λ behind. inr (inl (record { from = omega (arith, behind); to = omega (arith, high, length-head) })))
      (first_or_behind i)

  pub log_settled : (i : ℕ) → IsLookedInLog (bytes_of started) i → IsSettled started.past i
  log_settled i (k, lt, inl gate) = subst (IsSettled started.past) (sym gate) (inr (inr (IsReadable-settled s.past (segment_start LOG_START k) (closed.headers k lt).1)))
  log_settled i (zero, lt, inr in_it) = head_settled i in_it.1 (omega (arith, in_it.2, ap length first_one.1))
  log_settled i (suc k, lt, inr in_it) = absurd (shut (suc k) (omega arith) lt in_it.0)
