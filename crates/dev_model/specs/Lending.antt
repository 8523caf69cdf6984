-- What is lent of some pages.
use Rattle.std.specs.Prelude.{◌≡◌, ℕ, Bool, List, Option, Result}
use Rattle.dev_model.specs.Counts.{HasCause}

-- which pages are lent, the bytes of each of them where these are told, and how often a read has failed, or more
pub record Lending : Type 0 where
  pub lent : ℕ → Bool
  pub contents : Option (ℕ → List ℕ)
  pub faults : ℕ

-- A read leaves what is lent, and fails only where the count of faults rises in it, or stands at the greatest u64.
pub record StaysLent {X E : Type 0} (old new : Lending) (result : Result X E) : Type 0 where
  pub same_lent : new.lent ≡ old.lent
  pub same_contents : new.contents ≡ old.contents
  pub cause : HasCause old.faults new.faults result
