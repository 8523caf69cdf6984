-- Where the words of a line are looked for. No public contract needs this file.
use Rattle.std.specs.Prelude.{◌≡◌, ℕ, false, List, [], ◌∷◌}
use Rattle.script_lang.specs.Words.{is_blank}

-- the line is empty, or its first byte is no blank
abbrev pub StartsPlain : List ℕ → Type 0
StartsPlain [] = Unit {0}
StartsPlain (b ∷ bs) = is_blank b ≡ false
