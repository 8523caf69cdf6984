-- What a line of a script says. A field is read from the front of a list of words, and the words behind it are
-- left.
use Rattle.std.specs.Prelude.{ℕ, Bool, false, ◌&&◌, nat_le, nat_lt, ◌==◌, if◌then◌else◌, List, [], ◌∷◌, length, Option, Some, None, codes}
use Rattle.std.specs.Str.{bytes_eq}
use Rattle.geo_base.specs.Corners.{Corners}
use Rattle.geo_base.specs.Notes.{note_fault, is_dash}
use Rattle.geo_base.specs.declared.limits.TheConstants.{MOST_KEY, MOST_COORDINATE}
use Rattle.geo_base.specs.declared.points.IndexKind.{IndexKind}
use Rattle.geo_base.specs.declared.points.IndexKind.TheVariants.{Dhvb}
use Rattle.geo_base.specs.declared.points.Row.{Row}
use Rattle.table_model.specs.Commands.{put, del, Command, on_table, flush, write, get, count, region}
use Rattle.line_fold.specs.Lines.{is_nothing}
use Rattle.script_lang.specs.declared.limits.TheConstants.{MOST_LINE}
use Rattle.script_lang.specs.Words.{words_of, without_return}
use Rattle.script_lang.specs.Numbers.{number_of}

infixl 10 ◌>>=◌
abbrev pub ◌>>=◌ : {A B : Type 0} → Option A → (A → Option B) → Option B
(Some x) >>= f = f x
None >>= f = None

abbrev pub Words : Type 0
Words = List (List ℕ)

abbrev pub word_at : Words → Option (List ℕ × Words)
word_at [] = None
word_at (word ∷ words) = Some (word, words)

-- a number up to `most`
unfoldable pub number_at : ℕ → Words → Option (ℕ × Words)
number_at most words = do
  word ← word_at words
  number ← number_of most word.0
  Some (number, word.1)

abbrev pub note_without_fault : Option ℕ → List ℕ → Option (List ℕ)
note_without_fault None word = Some word
note_without_fault (Some at) word = None

-- `-` is the empty note; every other word has to be a note
unfoldable pub note_of : List ℕ → Option (List ℕ)
note_of word = if is_dash word then Some [] else note_without_fault (note_fault word) word

unfoldable pub note_at : Words → Option (List ℕ × Words)
note_at words = do
  word ← word_at words
  note ← note_of word.0
  Some (note, word.1)

unfoldable pub kind_of : List ℕ → Option IndexKind
kind_of word = if bytes_eq word (codes "dhvb") then Some Dhvb else None

unfoldable pub kind_at : Words → Option (IndexKind × Words)
kind_at words = do
  word ← word_at words
  kind ← kind_of word.0
  Some (kind, word.1)

-- X1 Y1 X2 Y2, where X1 is at most X2, and Y1 at most Y2
unfoldable pub rect_at : Words → Option (Corners × Words)
rect_at words = do
  x1 ← number_at MOST_COORDINATE words
  y1 ← number_at MOST_COORDINATE x1.1
  x2 ← number_at MOST_COORDINATE y1.1
  y2 ← number_at MOST_COORDINATE x2.1
  if nat_le x1.0 x2.0 && nat_le y1.0 y2.0 then Some (record { x1 = x1.0; y1 = y1.0; x2 = x2.0; y2 = y2.0 }, y2.1) else None

-- KEY X Y NOTE
unfoldable pub row_at : Words → Option (Row × Words)
row_at words = do
  key ← number_at MOST_KEY words
  x ← number_at MOST_COORDINATE key.1
  y ← number_at MOST_COORDINATE x.1
  note ← note_at y.1
  Some (record { key = key.0; point = record { x = x.0; y = y.0 }; note = note.0 }, note.1)

-- the field was the last
abbrev pub at_end : {A : Type 0} → A → Words → Option A
at_end x words = if is_nothing words then Some x else None

-- what a line says: nothing, or a command, or it isn't in the grammar
pub data Meaning : Type 0 where
  nothing : Meaning
  step : Command → Meaning
  bad : Meaning

-- the forms of a line, each behind its first word
unfoldable pub put_line : Words → Option Meaning
put_line words = do
  row ← row_at words
  at_end (step (on_table (write (put row.0)))) row.1

-- KEY alone
unfoldable pub del_line : Words → Option Meaning
del_line words = do
  key ← number_at MOST_KEY words
  at_end (step (on_table (write (del key.0)))) key.1

unfoldable pub get_line : Words → Option Meaning
get_line words = do
  key ← number_at MOST_KEY words
  at_end (step (on_table (get key.0))) key.1

-- no field
unfoldable pub count_line : Words → Option Meaning
count_line words = at_end (step (on_table count)) words

unfoldable pub region_line : Words → Option Meaning
region_line words = do
  kind ← kind_at words
  rect ← rect_at kind.1
  at_end (step (on_table (region kind.0 rect.0))) rect.1

-- no field
unfoldable pub flush_line : Words → Option Meaning
flush_line words = at_end (step flush) words

-- a first word with the form that it begins
pub record Form : Type 0 where
  pub verb : List ℕ
  pub reads : Words → Option Meaning

abbrev pub forms : List Form
forms =
    record { verb = codes "put"; reads = put_line }
    ∷ record { verb = codes "del"; reads = del_line }
    ∷ record { verb = codes "get"; reads = get_line }
    ∷ record { verb = codes "count"; reads = count_line }
    ∷ record { verb = codes "region"; reads = region_line }
    ∷ record { verb = codes "flush"; reads = flush_line }
    ∷ []

unfoldable pub read_by : List Form → List ℕ → Words → Option Meaning
read_by [] verb words = None
read_by (f ∷ fs) verb words = if bytes_eq verb f.verb then f.reads words else read_by fs verb words

abbrev pub or_bad : Option Meaning → Meaning
or_bad None = bad
or_bad (Some m) = m

abbrev pub begins_with : ℕ → List ℕ → Bool
begins_with b [] = false
begins_with b (c ∷ cs) = c == b

-- a line without words, or whose first word begins with `#`, is passed over
unfoldable pub meaning_of_words : Words → Meaning
meaning_of_words [] = nothing
meaning_of_words (word ∷ words) = if begins_with 35 word then nothing else or_bad (read_by forms word words)

-- a line of more than 200 bytes is bad, one that would be passed over too
unfoldable pub meaning_of : List ℕ → Meaning
meaning_of line = if nat_lt MOST_LINE (length (without_return line)) then bad else meaning_of_words (words_of (without_return line))
