-- The one range of keys with which a component is scanned whole. No public contract of the program needs this file.
use Rattle.std.specs.Prelude.{ℕ, List, [], ◌∷◌}
use Rattle.geo_base.specs.declared.limits.TheConstants.{MOST_KEY}

abbrev pub all_keys : List (ℕ × ℕ)
all_keys = (0, MOST_KEY) ∷ []
