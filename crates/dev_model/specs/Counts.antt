-- Counts of calls and of faults, in 64 bits. They never fall.
use Rattle.std.specs.Prelude.{◌≡◌, ℕ, ◌+◌, ◌-◌, ◌^◌, ◌≤◌, nat_lt, if◌then◌else◌, Result, Ok, Err, OnErr}

-- the count after this one: one more, and the greatest u64 stands
abbrev pub next_count : ℕ → ℕ
next_count count = if nat_lt count (2 ^ 64 - 1) then count + 1 else count

-- a count rose, or stands at the greatest u64
abbrev pub Rose : ℕ → ℕ → Type 0
Rose old new = next_count old ≤ new

-- the count of faults of a source or a sink: a call that succeeds leaves it, and one that fails raises it
abbrev pub Counts : {X E : Type 0} → ℕ → ℕ → Result X E → Type 0
Counts old new (Ok x) = new ≡ old
Counts old new (Err e) = Rose old new

-- the count of faults of a device or of pages: it doesn't fall, and a call that fails raises it
pub record HasCause {X E : Type 0} (old new : ℕ) (result : Result X E) : Type 0 where
  pub later : old ≤ new
  pub failed : OnErr result (Rose old new)
