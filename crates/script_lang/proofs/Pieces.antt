-- A reader over the pieces of a script.
use Rattle.std.specs.Prelude.{◌≡◌, ℕ, ◌+◌, ◌<◌, ◌≤◌, List, [], ◌∷◌, ◌++◌, length, take, drop, Result, Ok, Err}
use Rattle.std.proofs.Common.{ap, sym, ◌∙◌, subst, arith, refl, inl, inr, append_assoc}
use Rattle.std.proofs.lemmas.Bool.{cases_lt, lt-ltb, le-ltb, le-leb, lt-leb}
use Rattle.std.proofs.lemmas.List.{length-append, append-nil}
use Rattle.line_fold.specs.Folding.{continued, folded}
use Rattle.line_fold.specs.Laws.Cuts.{HasNoFeed}
use Rattle.line_fold.specs.Laws.Streaming.{Progress, behind_nothing, behind_part, behind_line, folded-refused, folded-too_long, folded-open, folded-closed}
use Rattle.script_lang.specs.declared.commands.ScriptFault.{ScriptFault}
use Rattle.script_lang.specs.declared.commands.ScriptFault.TheVariants.{Source, OutOfMemory, BadLine, TooLong}
use Rattle.script_lang.specs.declared.limits.TheConstants.{MOST_LINE}
use Rattle.script_lang.specs.Scripts.{Wrong, bad_line, too_long, Reading, after_line, first_reading}
use Rattle.script_lang.specs.Reader.{Breaks, Leaves, Behind, TakesPiece, IsFeedAt, next_line, after_part, after_end, after_input}
use Rattle.script_lang.proofs.Fronts.{step_of_front}

-- what is refused by one reading is refused by another that is refused for the same
pub Breaks-from : {X Y : Type 0} (e : ScriptFault) (r : Result X Wrong) (s : Result Y Wrong) → ((w : Wrong) → r ≡ Err w → s ≡ Err w) → Breaks e r → Breaks e s
Breaks-from Source r s also h = absurd h
Breaks-from OutOfMemory r s also h = tt
Breaks-from (BadLine n) r s also h = also (bad_line n) h
Breaks-from TooLong r s also h = also too_long h

refused_before : (bytes : ℕ) (r : Result Reading Wrong) (w : Wrong) → continued (next_line bytes) r ≡ Err w → r ≡ Err w
refused_before bytes (Ok x) w h = cc
refused_before bytes (Err e) w h = cc

taken_before : (bytes : ℕ) (r : Result Reading Wrong) (q : Progress Reading) → continued (next_line bytes) r ≡ Ok q
    → (r ≡ Ok q.state) × (q.line ≡ []) × (q.bytes ≡ bytes)
taken_before bytes (Ok x) q h =
    let same : record { state = x; line = []; bytes = bytes } ≡ q = cc in
    (ap (λ p. Ok p.state) same, sym (ap (λ p. p.line) same), sym (ap (λ p. p.bytes) same))
taken_before bytes (Err e) q h = cc

-- a front of a piece was taken
pub record IsPartway (kept most : ℕ) (old now : Progress Reading) (piece rest : List ℕ) : Type 0 where
  pub front : List ℕ
  pub whole : piece ≡ front ++ rest
  pub behind : (read : List ℕ) → Behind kept most read old → Behind kept most (read ++ front) now

pub nothing_taken : (kept most : ℕ) (p : Progress Reading) (piece : List ℕ) → IsPartway kept most p p piece piece
nothing_taken kept most p piece = record {
  front = [];
  whole = refl;
  behind = λ read b. subst (λ bytes. Behind kept most bytes p) (sym (append-nil read)) b;
}

-- the bytes read, a part, a line feed and what follows, as one text
regrouped : (read front part more rest : List ℕ) → (read ++ (front ++ (part ++ 10 ∷ more))) ++ rest ≡ ((read ++ front) ++ part) ++ 10 ∷ (more ++ rest)
regrouped read front part more rest = simp append_assoc

same_wrong : (v w : Wrong) → ◌≡◌ {A = Result (Progress Reading) Wrong} (Err v) (Err w) → ◌≡◌ {A = Result Reading Wrong} (Err v) (Err w)
same_wrong v w h = cc

module _ (kept most_bytes most : ℕ) (enough : MOST_LINE + 2 ≤ kept) where
  same : (line : List ℕ) (r : Reading) → after_line most (take kept line) r ≡ after_line most line r
  same = step_of_front kept most enough

  pub begins : Behind kept most [] (record { state = first_reading; line = []; bytes = 0 })
  begins = behind_nothing Reading Wrong kept most_bytes too_long (after_line most) first_reading (omega (arith, enough)) same

  end_within : (p : Progress Reading) (part : List ℕ) → p.bytes + length part < most_bytes
      → after_end most_bytes most p part ≡ continued (next_line (p.bytes + length part + 1)) (after_line most (p.line ++ part) p.state)
  unfolding after_end
  end_within p part h = rw (lt-ltb (p.bytes + length part) most_bytes h)

  end_past : (p : Progress Reading) (part : List ℕ) → most_bytes ≤ p.bytes + length part → after_end most_bytes most p part ≡ Err too_long
  unfolding after_end
  end_past p part h = rw (le-ltb (p.bytes + length part) most_bytes h)

  part_within : (p : Progress Reading) (part : List ℕ) → p.bytes + length part ≤ most_bytes
      → after_part kept most_bytes p part ≡ Ok (record { state = p.state; line = take kept (p.line ++ part); bytes = p.bytes + length part })
  unfolding after_part
  part_within p part h = rw (le-leb (p.bytes + length part) most_bytes h)

  part_past : (p : Progress Reading) (part : List ℕ) → most_bytes < p.bytes + length part → after_part kept most_bytes p part ≡ Err too_long
  unfolding after_part
  part_past p part h = rw (lt-leb (p.bytes + length part) most_bytes h)

  -- a line ended
  pub line_taken : (read part : List ℕ) (p q : Progress Reading) → HasNoFeed part → Behind kept most read p
      → after_end most_bytes most p part ≡ Ok q → Behind kept most (read ++ part ++ 10 ∷ []) q
  line_taken read part p q plain b is = elim (cases_lt (p.bytes + length part) most_bytes) [
    | inl within ↦
        let t = taken_before (p.bytes + length part + 1) (after_line most (p.line ++ part) p.state) q (sym (end_within p part within) ∙ is) in
        behind_line Reading Wrong kept most_bytes too_long (after_line most) first_reading (omega (arith, enough)) same read part p q plain b t.0 t.1 t.2
    | inr past ↦ let no : Err too_long ≡ Ok q = sym (end_past p part past) ∙ is in cc
  ]

  pub line_refused : (read part rest : List ℕ) (p : Progress Reading) (w : Wrong) → HasNoFeed part → Behind kept most read p → p.bytes ≤ most_bytes
      → after_end most_bytes most p part ≡ Err w → folded most_bytes too_long (after_line most) ((read ++ part) ++ 10 ∷ rest) first_reading ≡ Err w
  line_refused read part rest p w plain b bound is = elim (cases_lt (p.bytes + length part) most_bytes) [
    | inl within ↦
        folded-refused Reading Wrong kept most_bytes too_long (after_line most) first_reading (omega (arith, enough)) same read part rest p w plain b within
        (refused_before (p.bytes + length part + 1) (after_line most (p.line ++ part) p.state) w (sym (end_within p part within) ∙ is))
    | inr past ↦
        let beyond : most_bytes < length ((read ++ part) ++ 10 ∷ rest) = omega (arith, past, b.bytes, length-append (read ++ part) (10 ∷ rest), length-append read part) in
        folded-too_long Reading Wrong kept most_bytes too_long (after_line most) first_reading (omega (arith, enough)) same read part (10 ∷ rest) p plain b bound past beyond
        ∙ same_wrong too_long w (sym (end_past p part past) ∙ is)
  ]

  -- a part of a line was read
  pub part_taken : (read part : List ℕ) (p q : Progress Reading) → HasNoFeed part → Behind kept most read p
      → after_part kept most_bytes p part ≡ Ok q → Behind kept most (read ++ part) q
  part_taken read part p q plain b is = elim (cases_lt most_bytes (p.bytes + length part)) [
    | inl past ↦ let no : Err too_long ≡ Ok q = sym (part_past p part past) ∙ is in cc
    | inr within ↦
        let there : record { state = p.state; line = take kept (p.line ++ part); bytes = p.bytes + length part } ≡ q = let both : ◌≡◌ {A = Result (Progress Reading) Wrong} (Ok (record { state = p.state; line = take kept (p.line ++ part); bytes = p.bytes + length part })) (Ok q) = sym (part_within p part within) ∙ is in cc in
        behind_part Reading Wrong kept most_bytes too_long (after_line most) first_reading (omega (arith, enough)) same read part p q plain b
        (sym (ap (λ x. x.state) there)) (sym (ap (λ x. x.line) there)) (sym (ap (λ x. x.bytes) there))
  ]

  pub part_refused : (read part rest : List ℕ) (p : Progress Reading) (w : Wrong) → HasNoFeed part → Behind kept most read p → p.bytes ≤ most_bytes
      → after_part kept most_bytes p part ≡ Err w → folded most_bytes too_long (after_line most) ((read ++ part) ++ rest) first_reading ≡ Err w
  part_refused read part rest p w plain b bound is = elim (cases_lt most_bytes (p.bytes + length part)) [
    | inl past ↦
        let beyond : most_bytes < length ((read ++ part) ++ rest) = omega (arith, past, b.bytes, length-append (read ++ part) rest, length-append read part) in
        folded-too_long Reading Wrong kept most_bytes too_long (after_line most) first_reading (omega (arith, enough)) same read part rest p plain b bound (omega (arith, past)) beyond
        ∙ same_wrong too_long w (sym (part_past p part past) ∙ is)
    | inr within ↦ let no : ◌≡◌ {A = Result (Progress Reading) Wrong} (Ok (record { state = p.state; line = take kept (p.line ++ part); bytes = p.bytes + length part })) (Err w) = sym (part_within p part within) ∙ is in cc
  ]

  input_open : (p : Progress Reading) → 0 < length p.line → after_input most p ≡ after_line most p.line p.state
  unfolding after_input
  input_open p h = rw (lt-ltb 0 (length p.line) h)

  input_closed : (p : Progress Reading) → length p.line ≡ 0 → after_input most p ≡ Ok p.state
  unfolding after_input
  input_closed p h = rw (le-ltb 0 (length p.line) (omega arith))

  -- the input ended
  pub input_folded : (read : List ℕ) (p : Progress Reading) → Behind kept most read p → p.bytes ≤ most_bytes
      → folded most_bytes too_long (after_line most) read first_reading ≡ after_input most p
  input_folded read p b bound = elim (cases_lt 0 (length p.line)) [
    | inl more ↦ folded-open Reading Wrong kept most_bytes too_long (after_line most) first_reading (omega (arith, enough)) same read p b bound more ∙ sym (input_open p more)
    | inr none ↦
        let empty : length p.line ≡ 0 = omega (arith, none) in
        folded-closed Reading Wrong kept most_bytes too_long (after_line most) first_reading (omega (arith, enough)) same read p b bound empty ∙ sym (input_closed p empty)
  ]

  -- one line more of the piece
  pub partway_line : (old p q : Progress Reading) (piece rest : List ℕ) (at : ℕ) → IsPartway kept most old p piece rest → IsFeedAt rest at
      → after_end most_bytes most p (take at rest) ≡ Ok q → IsPartway kept most old q piece (drop (at + 1) rest)
  partway_line old p q piece rest at partway feed is = record {
    front = partway.front ++ (take at rest ++ 10 ∷ []);
    whole = partway.whole ∙ ap (λ r. partway.front ++ r) feed.cut
        ∙ sym (append_assoc partway.front (take at rest ++ 10 ∷ []) (drop (at + 1) rest) ∙ ap (λ r. partway.front ++ r) (append_assoc (take at rest) (10 ∷ []) (drop (at + 1) rest)));
    behind = λ read b. subst (λ bytes. Behind kept most bytes q)
        (append_assoc (read ++ partway.front) (take at rest) (10 ∷ []) ∙ append_assoc read partway.front (take at rest ++ 10 ∷ []))
        (line_taken (read ++ partway.front) (take at rest) p q feed.front (partway.behind read b) is);
  }

  -- a line of the piece is refused
  pub partway_refused : (X : Type 0) (old p new : Progress Reading) (piece rest : List ℕ) (at : ℕ) (e : ScriptFault) → IsPartway kept most old p piece rest → IsFeedAt rest at
      → p.bytes ≤ most_bytes → Breaks e (after_end most_bytes most p (take at rest))
      → (read : List ℕ) → Behind kept most read old → TakesPiece {X = X} kept most_bytes most read piece new (Err e)
  partway_refused X old p new piece rest at e partway feed bound broken read b more =
      let text : (read ++ piece) ++ more ≡ ((read ++ partway.front) ++ take at rest) ++ 10 ∷ (drop (at + 1) rest ++ more) =
      ap (λ r. (read ++ r) ++ more) (partway.whole ∙ ap (λ r. partway.front ++ r) feed.cut) ∙ regrouped read partway.front (take at rest) (drop (at + 1) rest) more in
      Breaks-from e (after_end most_bytes most p (take at rest)) (folded most_bytes too_long (after_line most) ((read ++ piece) ++ more) first_reading)
      (λ w is. ap (λ bytes. folded most_bytes too_long (after_line most) bytes first_reading) text
      ∙ line_refused (read ++ partway.front) (take at rest) (drop (at + 1) rest ++ more) p w feed.front (partway.behind read b) bound is)
      broken

  -- the rest of the piece, which ends no line
  pub partway_ends : (X : Type 0) (old p new : Progress Reading) (piece rest : List ℕ) (result : Result X ScriptFault) → IsPartway kept most old p piece rest
      → HasNoFeed rest → p.bytes ≤ most_bytes → Leaves new result (after_part kept most_bytes p rest)
      → (read : List ℕ) → Behind kept most read old → TakesPiece kept most_bytes most read piece new result
  partway_ends X old p new piece rest (Ok x) partway plain bound is read b =
      subst (λ bytes. Behind kept most bytes new) (append_assoc read partway.front rest ∙ ap (λ r. read ++ r) (sym partway.whole))
      (part_taken (read ++ partway.front) rest p new plain (partway.behind read b) is)
  partway_ends X old p new piece rest (Err e) partway plain bound broken read b = λ more.
      let text : (read ++ piece) ++ more ≡ ((read ++ partway.front) ++ rest) ++ more =
      ap (λ r. (read ++ r) ++ more) partway.whole ∙ ap (λ r. r ++ more) (sym (append_assoc read partway.front rest)) in
      Breaks-from e (after_part kept most_bytes p rest) (folded most_bytes too_long (after_line most) ((read ++ piece) ++ more) first_reading)
      (λ w is. ap (λ bytes. folded most_bytes too_long (after_line most) bytes first_reading) text
      ∙ part_refused (read ++ partway.front) rest more p w plain (partway.behind read b) bound is)
      broken
