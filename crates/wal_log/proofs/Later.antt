-- The records behind a number, before and after the segment that is used again is closed.
use Rattle.std.proofs.Common.{◌≡◌, ◌⊎◌, inl, inr, ℕ, ◌+◌, ◌<◌, ◌≤◌, List, [], ◌∷◌, ◌++◌, length, set, map, None, Some, sym, ◌∙◌, ap, subst, arith, nat_lt}
use Rattle.std.proofs.lemmas.List.Elements.{filter-append}
use Rattle.wal_log.specs.Records.{record_of}
use Rattle.wal_log.specs.Headers.{generation_in}
use Rattle.wal_log.specs.Segments.{Segment, Segments}
use Rattle.wal_log.specs.Rules.{Numbered, next_lsn_of, first_lsn_of, AreSound, in_order, records_in, records_of}
use Rattle.wal_log.specs.State.{HasLast, IsLogOf, following}
use Rattle.wal_log.specs.Counted.{IsCounted}
use Rattle.wal_log.specs.Later.{later}
use Rattle.wal_log.specs.Laws.Later.{numbered-bodies, length-bodies, later-none}
use Rattle.wal_log.specs.declared.log.Log.{Log}
use Rattle.wal_log.specs.declared.records.Record.{Record}
use Rattle.wal_log.proofs.Renewing.{closed-order, closed-left}

-- a segment before the newest ends before it
ends-before : (ends : List ℕ) (before : Numbered) (ns : List Numbered) (last generation next records : ℕ) → AreSound ends (Some before) ns → HasLast generation next records ns → last + 1 + records ≡ next → next_lsn_of before ≤ last + 1
ends-before ends before [] last generation next records sound is there = absurd is
ends-before ends before (n ∷ []) last generation next records sound is there = omega (arith, sound.0.segment.start.follows.1, is.1, is.2, there)
ends-before ends before (n ∷ m ∷ ms) last generation next records sound is there =
    let rest : next_lsn_of n ≤ last + 1 = ends-before ends n (m ∷ ms) last generation next records sound.1 is there in
    omega (arith, sound.0.segment.start.follows.1, rest)

module _ (log : Log) (segments : Segments) (four : length segments ≡ 4) (below : following log < 4) (counted : IsCounted log) (some : 1 ≤ log.records) (of : IsLogOf log segments) where
  -- the records behind the end of the indexes all stand in the newest segment, so the one that is used again has none of them
  pub later-left : (last : ℕ) → last + 1 + log.records ≡ log.next_lsn → later last (records_of (set segments (following log) None)) ≡ later last (records_of segments)
  later-left last there = by_order (closed-order log segments four below counted some of)
    where
      left : List Numbered
      left = in_order (set segments (following log) None)

      by_order : (in_order segments ≡ in_order (set segments (following log) None)) ⊎ ((x : Segment) × (generation_in x.header + 3 ≡ log.generation) × (in_order segments ≡ record { number = following log; segment = x } ∷ in_order (set segments (following log) None)))
          → later last (records_of (set segments (following log) None)) ≡ later last (records_of segments)
      by_order (inl same) = ap (λ (ns : List Numbered). later last (records_in ns)) (sym same)
      by_order (inr oldest) =
          let first : Numbered = record { number = following log; segment = oldest.0 } in
          let rest : List Numbered = in_order (set segments (following log) None) in
          let sound : AreSound [] None (first ∷ rest) = subst (AreSound [] None) oldest.2 of.sound in
          let closed : AreSound [] None rest × HasLast log.generation log.next_lsn log.records rest = closed-left log segments four below counted some of [] of.sound in
          let ended : next_lsn_of first ≤ last + 1 = ends-before [] first rest last log.generation log.next_lsn log.records sound.1 closed.1 there in
          let none : later last (map record_of first.segment.records) ≡ [] = later-none last (first_lsn_of first) (map record_of first.segment.records) (numbered-bodies (first_lsn_of first) first.segment.records sound.0.segment.records.lawful) (omega (arith, ended, length-bodies first.segment.records)) in
          sym (ap (λ (ns : List Numbered). later last (records_in ns)) oldest.2
          ∙ filter-append (λ (r : Record). nat_lt last r.lsn) (map record_of first.segment.records) (records_in rest)
          ∙ ap (λ (rs : List Record). rs ++ later last (records_in rest)) none)
