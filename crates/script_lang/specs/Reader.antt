-- The private steps of a reader: a part of a line, the end of a line, and the end of the input. No public contract
-- needs this file.
use Rattle.std.specs.Prelude.{◌≡◌, ℕ, ◌+◌, ◌<◌, nat_le, nat_lt, if◌then◌else◌, List, [], ◌∷◌, ◌++◌, length, take, drop, Result, Ok, Err}
use Rattle.line_fold.specs.Folding.{continued, folded}
use Rattle.line_fold.specs.Laws.Cuts.{HasNoFeed}
use Rattle.line_fold.specs.Laws.Streaming.{Progress, IsBehind}
use Rattle.script_lang.specs.declared.commands.ScriptFault.{ScriptFault}
use Rattle.script_lang.specs.declared.commands.ScriptFault.TheVariants.{Source, BadLine, TooLong, OutOfMemory}
use Rattle.script_lang.specs.Grammar.{Meaning}
use Rattle.script_lang.specs.Scripts.{Wrong, bad_line, too_long, Reading, after_meaning, after_line, first_reading}

-- the limits are variables here, since no proof is to count up to them
unfoldable pub after_part : ℕ → ℕ → Progress Reading → List ℕ → Result (Progress Reading) Wrong
after_part kept most_bytes p part =
    if nat_le (p.bytes + length part) most_bytes
    then Ok (record { state = p.state; line = take kept (p.line ++ part); bytes = p.bytes + length part })
    else Err too_long

abbrev pub next_line : ℕ → Reading → Result (Progress Reading) Wrong
next_line bytes r = Ok (record { state = r; line = []; bytes = bytes })

-- the line ends with these bytes and a line feed
unfoldable pub after_end : ℕ → ℕ → Progress Reading → List ℕ → Result (Progress Reading) Wrong
after_end most_bytes most_commands p part =
    if nat_lt (p.bytes + length part) most_bytes
    then continued (next_line (p.bytes + length part + 1)) (after_line most_commands (p.line ++ part) p.state)
    else Err too_long

-- a meaning is added to what the lines gave
abbrev pub added : ℕ → Progress Reading → Meaning → Result (Progress Reading) Wrong
added most_commands p meaning = continued (λ r. Ok (record p { state = r })) (after_meaning most_commands meaning p.state)

-- at the end of the input a line that has a byte is the last one
unfoldable pub after_input : ℕ → Progress Reading → Result Reading Wrong
after_input most_commands p = if nat_lt 0 (length p.line) then after_line most_commands p.line p.state else Ok p.state

-- A reader's own faults: the source isn't its business.
abbrev pub Breaks : {X : Type 0} → ScriptFault → Result X Wrong → Type 0
Breaks Source read = ⊥
Breaks OutOfMemory read = Unit {0}
Breaks (BadLine n) read = read ≡ Err (bad_line n)
Breaks TooLong read = read ≡ Err too_long

-- A call answered and left what reading gives, unless memory ran out.
abbrev pub Leaves : {X Y : Type 0} → Y → Result X ScriptFault → Result Y Wrong → Type 0
Leaves new (Ok x) read = read ≡ Ok new
Leaves new (Err e) read = Breaks e read

-- the first line feed of some bytes
pub record IsFeedAt (bytes : List ℕ) (at : ℕ) : Type 0 where
  pub within : at < length bytes
  pub front : HasNoFeed (take at bytes)
  pub cut : bytes ≡ take at bytes ++ 10 ∷ drop (at + 1) bytes

-- a reader stands behind these bytes of a script
abbrev pub Behind : ℕ → ℕ → List ℕ → Progress Reading → Type 0
Behind kept most_commands read p = IsBehind Reading Wrong kept (after_line most_commands) first_reading read p

-- Whatever was read before a piece, the reader then stands behind it and the piece, or what is wrong with each text
-- that begins so is known.
abbrev pub TakesPiece : {X : Type 0} → ℕ → ℕ → ℕ → List ℕ → List ℕ → Progress Reading → Result X ScriptFault → Type 0
TakesPiece kept most_bytes most_commands read piece new (Ok x) = Behind kept most_commands (read ++ piece) new
TakesPiece kept most_bytes most_commands read piece new (Err e) =
    (rest : List ℕ) → Breaks e (folded most_bytes too_long (after_line most_commands) ((read ++ piece) ++ rest) first_reading)
