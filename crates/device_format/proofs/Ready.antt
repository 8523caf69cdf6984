-- What has to stand behind the superblock's gate for an empty store.
use Rattle.std.proofs.Common.{◌≡◌, ◌⊎◌, inl, inr, ⊎_elim, ℕ, ◌<◌, ◌≤◌, List, [], ◌∷◌, ◌++◌, length, get_or, refl, sym, ◌∙◌, ap, subst, arith}
use Rattle.dev_model.specs.Story.{Bytes, Calls, Story, Write, Sync, after, bytes_of, part, IsOutside, IsSettled}
use Rattle.dev_model.specs.Writes.{AreSpared}
use Rattle.dev_model.specs.Laws.Frame.{Stays, frame}
use Rattle.dev_model.specs.Laws.Ranges.{part-same, get_or-part, part-patched}
use Rattle.format_numbers.specs.declared.TheConstants.{LOG_START}
use Rattle.wal_log.specs.Segments.{Segments, segments_of}
use Rattle.wal_log.specs.Rules.{Opens as LogOpens, records_of}
use Rattle.wal_log.specs.Laws.Agreeing.{looked-back as log_back}
use Rattle.superblock.specs.Superblock.{superblock_bytes, declared}
use Rattle.comp_dir.specs.Directory.{directory_of, open_slots, IsLooked}
use Rattle.comp_dir.specs.Laws.Agreeing.{directory-same, looked-back as slot_back}
use Rattle.component_image.specs.Recovered.{IsLookedInLog, IsLookedAt}
use Rattle.component_image.specs.Laws.Agreeing.{log-same}
use Rattle.component_image.specs.Laws.Without.{recovers-empty}
use Rattle.device_format.specs.Formatting.{IsEmptyStore}
use Rattle.device_format.specs.Planning.{start_log}
use Rattle.device_format.proofs.Starting.{empty_log, empty_log-opens, log_is, log_settled}
use Rattle.device_format.proofs.Zeros.{AreClosed}

-- what an opening reads behind the superblock's gate
pub record IsReady (pages indexes : ℕ) (bytes : Bytes) : Type 0 where
  pub fields : part 1 15 bytes ≡ superblock_bytes indexes pages
  pub no_slots : open_slots (directory_of bytes) ≡ []
  pub log : segments_of LOG_START bytes ≡ empty_log

-- the places that it looks at for that
abbrev pub IsBehindGate : Bytes → ℕ → Type 0
IsBehindGate bytes i = ((0 < i) × (i < 16)) ⊎ (IsLooked bytes i ⊎ IsLookedInLog bytes i)

pub behind_gate : (bytes : Bytes) (i : ℕ) → IsBehindGate bytes i → 0 < i
behind_gate bytes i (inl field) = field.0
behind_gate bytes i (inr (inl (n, lt, inl gate))) = omega (arith, gate)
behind_gate bytes i (inr (inl (n, lt, inr body))) = omega (arith, body.1)
behind_gate bytes i (inr (inr (k, lt, inl gate))) = omega (arith, gate)
behind_gate bytes i (inr (inr (k, lt, inr in_it))) = omega (arith, in_it.1)

module _ (a b : Bytes) (same : (i : ℕ) → IsBehindGate a i → b i ≡ a i) where
  pub ready-same : {pages indexes : ℕ} → IsReady pages indexes a → IsReady pages indexes b
  ready-same is = record {
    fields = part-same 1 15 b a (λ i low high. same i (inl (omega arith, omega arith))) ∙ is.fields;
    no_slots = ap open_slots (directory-same a b (λ i looked. same i (inr (inl looked)))) ∙ is.no_slots;
    log = log-same a b (λ i looked. same i (inr (inr looked))) ∙ is.log;
  }

  -- no other places are looked at
  pub behind_back : (i : ℕ) → IsBehindGate b i → IsBehindGate a i
  behind_back i (inl field) = inl field
  behind_back i (inr (inl (n, lt, looked))) = inr (inl (n, lt, slot_back n a b (λ j there. same j (inr (inl (n, lt, there)))) i looked))
  behind_back i (inr (inr (k, lt, looked))) = inr (inr (k, lt, log_back LOG_START k a b (λ j there. same j (inr (inr (k, lt, there)))) i looked))

module _ (pages indexes : ℕ) (bytes : Bytes) (is : IsReady pages indexes bytes) where
  second_field : get_or (superblock_bytes indexes pages) 1 0 ≡ indexes
  unfolding superblock_bytes
  second_field = refl

  declared_is : declared bytes ≡ indexes
  declared_is = sym (get_or-part 1 15 bytes 1 (omega arith)) ∙ ap (λ (l : List ℕ). get_or l 1 0) is.fields ∙ second_field

  -- with the gate open it is an empty store
  pub ready-store : indexes ≤ 31 → bytes 0 ≡ 165 → IsEmptyStore pages indexes bytes
  ready-store few gate = record {
    recovers =
        recovers-empty bytes is.no_slots pages
        (record { gate = gate; fields = is.fields ∙ ap (λ (d : ℕ). superblock_bytes d pages) (sym declared_is); indexes = omega (arith, few, declared_is) })
        (subst (λ (l : Segments). LogOpens (0 ∷ []) l) (sym is.log) empty_log-opens) (ap records_of is.log);
    declares = declared_is;
    no_slots = is.no_slots;
    no_records = ap records_of is.log;
  }

first_or_behind : (i : ℕ) → (i ≡ 0) ⊎ (0 < i)
first_or_behind i = grind arith

-- an opening looks at no other place
pub ready-looked : (bytes : Bytes) (i : ℕ) → IsLookedAt bytes i → (i ≡ 0) ⊎ IsBehindGate bytes i
ready-looked bytes i (inl (inl gate)) = inl gate
ready-looked bytes i (inl (inr in_it)) = ⊎_elim (λ gate. inl gate) (λ behind. inr (inl (behind, in_it.1))) (first_or_behind i)
ready-looked bytes i (inr looked) = inr (inr looked)

-- all is ready for the superblock's gate to be opened, and on the disk
pub record IsPrepared (pages indexes : ℕ) (s : Story) : Type 0 where
  pub ready : IsReady pages indexes (bytes_of s)
  pub settled : (i : ℕ) → IsBehindGate (bytes_of s) i → IsSettled s.past i

-- the superblock behind its gate, on the disk
abbrev pub write_fields : (indexes pages : ℕ) → Calls
write_fields indexes pages = Write 1 (superblock_bytes indexes pages) ∷ Sync ∷ []

length-superblock_bytes : (indexes pages : ℕ) → length (superblock_bytes indexes pages) ≡ 15
unfolding superblock_bytes
length-superblock_bytes indexes pages = refl

-- once all gates are closed
module _ (pages indexes : ℕ) (s : Story) (closed : AreClosed s) where
  abbrev started : Story
  started = after s start_log

  abbrev end : Story
  end = after started (write_fields indexes pages)

  fifteen : length (superblock_bytes indexes pages) ≡ 15
  fifteen = length-superblock_bytes indexes pages

  log_behind : (i : ℕ) → IsLookedInLog (bytes_of started) i → IsOutside 1 (length (superblock_bytes indexes pages)) i
  log_behind i (k, lt, inl gate) = inr (omega (arith, gate, fifteen))
  log_behind i (k, lt, inr in_it) = inr (omega (arith, in_it.1, fifteen))

  log_stays : Stays (IsLookedInLog (bytes_of started)) (segments_of LOG_START) started end
  log_stays =
      frame (IsLookedInLog (bytes_of started)) (segments_of LOG_START) started (write_fields indexes pages) (λ other same. log-same (bytes_of started) other same) (log_settled s closed)
      (λ i looked. (log_behind i looked, (tt, tt)))

  spared_slot : (i : ℕ) → IsLooked (bytes_of s) i → AreSpared (start_log ++ write_fields indexes pages) i
  spared_slot i looked = let range = slot_range i looked in (inl (omega (arith, range.1)), (tt, (inl (omega (arith, range.1)), (tt, (inr (omega (arith, range.0, fifteen)), (tt, tt))))))
    where
      slot_range : (i : ℕ) → IsLooked (bytes_of s) i → (4096 ≤ i) × (i < 36864)
      slot_range i (n, lt, inl gate) = (omega (arith, gate), omega (arith, gate, lt))
      slot_range i (n, lt, inr body) = (omega (arith, body.1), omega (arith, body.2, lt))

  slots_stay : Stays (IsLooked (bytes_of s)) directory_of s end
  slots_stay = frame (IsLooked (bytes_of s)) directory_of s (start_log ++ write_fields indexes pages) (λ other same. directory-same (bytes_of s) other same) closed.directory_rest spared_slot

  settled_now : (i : ℕ) → IsBehindGate (bytes_of end) i → IsSettled end.past i
  settled_now i (inl field) = inl (record { from = omega (arith, field.0); to = omega (arith, field.1, fifteen) })
  settled_now i (inr (inl (n, lt, looked))) = slots_stay.settled i (n, lt, slot_back n (bytes_of s) (bytes_of end) (λ j there. slots_stay.bytes j (n, lt, there)) i looked)
  settled_now i (inr (inr (k, lt, looked))) = log_stays.settled i (k, lt, log_back LOG_START k (bytes_of started) (bytes_of end) (λ j there. log_stays.bytes j (k, lt, there)) i looked)

  pub prepared : IsPrepared pages indexes (after (after s start_log) (write_fields indexes pages))
  prepared = record {
    ready = record {
      fields = subst (λ (n : ℕ). part 1 n (bytes_of end) ≡ superblock_bytes indexes pages) fifteen (part-patched 1 (superblock_bytes indexes pages) (bytes_of started));
      no_slots = ap open_slots slots_stay.reads ∙ closed.no_slots;
      log = log_stays.reads ∙ log_is s closed;
    };
    settled = settled_now;
  }
