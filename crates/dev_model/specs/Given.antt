-- Pages that were asked for and given.
use Rattle.std.specs.Prelude.{ℕ, Bool, true, List, map}

-- these pages, each given
abbrev pub given : List ℕ → List (ℕ × Bool)
given pages = map (λ page. (page, true)) pages
