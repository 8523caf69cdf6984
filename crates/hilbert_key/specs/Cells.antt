-- Cells: the aligned squares of side 2 ^ CELL_ORDER, numbered along the curve.
use Rattle.std.specs.Prelude.{ℕ, ◌*◌, ◌/◌, ◌^◌}
use Rattle.hilbert_key.specs.Curve.{curve_value}
use Rattle.hilbert_key.specs.declared.TheConstants.{ORDER, CELL_ORDER}

-- the number of the cell that a point lies in
abbrev pub cell_number : ℕ → ℕ → ℕ
cell_number x y = curve_value ORDER x y / (2 ^ CELL_ORDER * 2 ^ CELL_ORDER)
