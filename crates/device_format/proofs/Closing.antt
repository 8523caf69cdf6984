-- Gates that are closed one by one.
use Rattle.std.proofs.Common.{[], ◌≡◌, ℕ, zero, suc, ◌+◌, ◌-◌, ◌*◌, ◌<◌, ◌≤◌, ◌∷◌, ◌++◌, Result, Ok, Err, refl, ◌∙◌, ap, subst, arith}
use Rattle.std.specs.Prelude.{IsErr}
use Rattle.dev_model.specs.Answers.{MadeCall}
use Rattle.dev_model.specs.Doing.{Made}
use Rattle.dev_model.specs.Story.{Write, Calls, DeviceState}
use Rattle.dev_model.specs.declared.streams.Failed.{Failed}
use Rattle.gate.specs.declared.gates.TheConstants.{CLOSED}
use Rattle.device_format.specs.Planning.{close_from}
use Rattle.device_format.proofs.Joining.{made_call, made_first, made_then}

-- the first gates and those behind them
close_split : (gate : ℕ → ℕ) (m n k count total : ℕ) → k ≡ m + n → total ≡ n + count → close_from gate m n ++ close_from gate k count ≡ close_from gate m total
unfolding close_from
close_split gate m zero k count total at all =
    let here : k ≡ m = omega (arith, at) in
    let rest : count ≡ total = omega (arith, all) in
    ap (λ (j : ℕ). close_from gate j count) here ∙ ap (close_from gate m) rest
close_split gate m (suc n) k count zero at all = absurd (omega (arith, all))
close_split gate m (suc n) k count (suc total) at all = ap (λ (calls : Calls). Write (gate m) (CLOSED ∷ []) ∷ calls) (close_split gate (m + 1) n k count total (omega (arith, at)) (omega (arith, all)))

-- so many gates were closed
abbrev pub HasClosed : (gate : ℕ → ℕ) (n : ℕ) (old now : DeviceState) → Type 0
HasClosed gate n old now = Made {X = Unit {0}} {E = Failed} (close_from gate 0 n) old now (Ok tt)

pub close_none : (gate : ℕ → ℕ) (now : DeviceState) → HasClosed gate 0 now now
unfolding close_from
close_none gate now = record { did = refl; ticks = omega arith; same_pages = refl; cause = record { later = omega arith; failed = tt } }

module _ (gate : ℕ → ℕ) (n : ℕ) (old mid new : DeviceState) (closed : HasClosed gate n old mid) where
  pub close_more : MadeCall {X = Unit {0}} {E = Failed} (Write (gate n) (CLOSED ∷ [])) mid new (Ok tt) → HasClosed gate (n + 1) old new
  unfolding close_from
  close_more call =
      subst (λ (calls : Calls). Made {X = Unit {0}} {E = Failed} calls old new (Ok tt)) (close_split gate 0 n n 1 (n + 1) (omega arith) (omega arith)) (made_then closed (made_call call))

  pub close_stopped : {failed : Failed} (count : ℕ) (result : Result (Unit {0}) Failed) → n < count → IsErr result → MadeCall {X = Unit {0}} (Write (gate n) (CLOSED ∷ [])) mid new (Err failed) → Made (close_from gate 0 count) old new result
  unfolding close_from
  close_stopped count result lt is call =
      subst (λ (calls : Calls). Made calls old new result) (close_split gate 0 n n (suc (count - (n + 1))) count (omega arith) (omega (arith, lt)))
      (made_then closed (made_first (close_from gate (n + 1) (count - (n + 1))) result is (made_call call)))

-- the place of each gate is before the end
pub before_end : (step n count : ℕ) → n < count → step * n + step ≤ step * count
before_end step n count lt = grind arith
