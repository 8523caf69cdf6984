-- A number: 1 to 20 decimal digits. Leading zeros are read.
use Rattle.std.specs.Prelude.{ℕ, ◌+◌, ◌*◌, ◌-◌, Bool, ◌&&◌, nat_le, if◌then◌else◌, List, [], ◌∷◌, length, Option, Some, None}
use Rattle.std.specs.Char.{is_ascii_digit}
use Rattle.std.specs.List.{list_all}
use Rattle.script_lang.specs.declared.limits.TheConstants.{MOST_DIGITS}

-- the value of digits that stand behind others with the value `front`
abbrev pub value_after : ℕ → List ℕ → ℕ
value_after front [] = front
value_after front (d ∷ ds) = value_after (front * 10 + (d - 48)) ds

abbrev pub is_number : List ℕ → Bool
is_number word = nat_le 1 (length word) && nat_le (length word) MOST_DIGITS && list_all is_ascii_digit word

-- the number that a word is, where it is at most `most`
unfoldable pub number_of : ℕ → List ℕ → Option ℕ
number_of most word = if is_number word && nat_le (value_after 0 word) most then Some (value_after 0 word) else None
