-- The Hilbert curve.
use Rattle.std.specs.Prelude.{ℕ, zero, suc, ◌+◌, ◌-◌, ◌*◌, ◌^◌, nat_lt, if◌then◌else◌}

-- How many points the Hilbert curve of order k goes through before (x, y), in the square of side 2 ^ k.
-- It goes through the four quadrants one after the other: lower left, upper left, upper right, lower
-- right. The two upper ones it fills as the square of half the side. The lower left one is mirrored at
-- the diagonal, and the lower right one at the other diagonal, so that each quadrant begins beside the
-- end of the one before.
unfoldable pub curve_value : (order x y : ℕ) → ℕ
curve_value zero x y = 0
curve_value (suc k) x y =
    let half = 2 ^ k in
    if nat_lt x half
    then (if nat_lt y half
    then curve_value k y x
    else half * half + curve_value k x (y - half))
    else (if nat_lt y half
    then 3 * half * half + curve_value k (half - 1 - y) (2 * half - 1 - x)
    else 2 * half * half + curve_value k (x - half) (y - half))
