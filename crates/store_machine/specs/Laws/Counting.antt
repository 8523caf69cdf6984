-- How many were acknowledged, and the table after one group more. No public contract needs these laws.
use Rattle.std.proofs.Common.{◌≡◌, ℕ, ◌<◌, ◌≤◌, List, [], ◌∷◌, ◌++◌, length, refl, arith}
use Rattle.std.proofs.lemmas.Bool.Decides.{nat_tests}
use Rattle.table_model.specs.Table.{Table}
use Rattle.table_model.specs.Answers.{after_writes}
use Rattle.store_machine.specs.Outcomes.{Group, after_groups}
use Rattle.store_machine.specs.Crash.{acked_by}
use Rattle.store_machine.specs.Standing.{AreUpTo}

pub acked_by-le : (m : ℕ) (acks : List ℕ) → acked_by m acks ≤ length acks
acked_by-le m [] = omega arith
acked_by-le m (a ∷ acks) = let rest : acked_by m acks ≤ length acks = acked_by-le m acks in grind (arith, nat_tests)

pub acked_by-all : (m most : ℕ) (acks : List ℕ) → AreUpTo most acks → most ≤ m → acked_by m acks ≡ length acks
acked_by-all m most [] up le = refl
acked_by-all m most (a ∷ acks) up le = let rest : acked_by m acks ≡ length acks = acked_by-all m most acks up.1 le in let first : a ≤ most = up.0 in grind (arith, nat_tests)

pub acked_by-later : (m ack : ℕ) (acks : List ℕ) → m < ack → acked_by m (acks ++ ack ∷ []) ≡ acked_by m acks
acked_by-later m ack [] later = grind (arith, nat_tests)
acked_by-later m ack (a ∷ acks) later = let rest : acked_by m (acks ++ ack ∷ []) ≡ acked_by m acks = acked_by-later m ack acks later in grind (arith, nat_tests)

pub AreUpTo-later : (most more : ℕ) (xs : List ℕ) → most ≤ more → AreUpTo most xs → AreUpTo more xs
AreUpTo-later most more [] le up = tt
AreUpTo-later most more (x ∷ xs) le up = (omega (arith, up.0), AreUpTo-later most more xs le up.1)

pub AreUpTo-push : (most x : ℕ) (xs : List ℕ) → AreUpTo most xs → x ≤ most → AreUpTo most (xs ++ x ∷ [])
AreUpTo-push most x [] up le = (le, tt)
AreUpTo-push most x (y ∷ xs) up le = (up.0, AreUpTo-push most x xs up.1 le)

pub after_groups-push : (t : Table) (groups : List Group) (group : Group) → after_groups t (groups ++ group ∷ []) ≡ after_writes (after_groups t groups) group
after_groups-push t [] group = refl
after_groups-push t (g ∷ groups) group = after_groups-push (after_writes t g) groups group
