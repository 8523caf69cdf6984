-- The choice of the prefix rule.
use Rattle.std.specs.Prelude.{ℕ, nat_le, nat_lt, List, position, unwrap_or, length, Option, Some, None, if◌then◌else◌}

-- how many components, from the newest on, have at most that many rows: those
-- before the first with more, or all
abbrev pub small_prefix : List ℕ → ℕ → ℕ
small_prefix rows most = unwrap_or (position (λ n. nat_lt most n) rows) (length rows)

-- the range of components that the prefix rule merges
abbrev pub prefix_range : List ℕ → ℕ → ℕ → Option (ℕ × ℕ)
prefix_range rows most count =
    if nat_le count (small_prefix rows most) then Some (0, small_prefix rows most) else None
