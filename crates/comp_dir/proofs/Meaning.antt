-- What the tests of two slots mean.
use Rattle.std.proofs.Common.{◌≡◌, ◌↔◌, ℕ, ◌+◌, ◌<◌, ◌≤◌, max, min, true, nat_lt, nat_le, IsTrue, arith}
use Rattle.std.proofs.lemmas.Bool.Decides.{nat_tests}
use Rattle.comp_dir.specs.Choosing.{shares_page, shares_lsn}
use Rattle.comp_dir.specs.Words.{IsPageOf, IsLsnOf}
use Rattle.comp_dir.specs.declared.slots.Slot.{Slot}

below : (a b : ℕ) → nat_lt a b ≡ true → a < b
below a b is = grind (arith, nat_tests)

is-below : (a b : ℕ) → a < b → nat_lt a b ≡ true
is-below a b lt = grind (arith, nat_tests)

up-to : (a b : ℕ) → nat_le a b ≡ true → a ≤ b
up-to a b is = grind (arith, nat_tests)

is-up-to : (a b : ℕ) → a ≤ b → nat_le a b ≡ true
is-up-to a b le = grind (arith, nat_tests)

pub pages-shared : (s t : Slot) → IsTrue (shares_page s t) ↔ ((p : ℕ) × IsPageOf s p × IsPageOf t p)
pages-shared s t = (
  λ is.
      let lt : max s.first t.first < min (s.first + s.pages) (t.first + t.pages) = below _ _ is in
      (max s.first t.first, record { from = omega arith; to = omega arith }, record { from = omega arith; to = omega arith }),
  λ page. is-below _ _ (omega (arith, page.1.from, page.1.to, page.2.from, page.2.to)),
)

pub lsns-shared : (s t : Slot) → IsTrue (shares_lsn s t) ↔ ((n : ℕ) × IsLsnOf s n × IsLsnOf t n)
lsns-shared s t = (
  λ is.
      let le : max s.first_lsn t.first_lsn ≤ min s.last_lsn t.last_lsn = up-to _ _ is in
      (max s.first_lsn t.first_lsn, record { from = omega arith; to = omega arith }, record { from = omega arith; to = omega arith }),
  λ n. is-up-to _ _ (omega (arith, n.1.from, n.1.to, n.2.from, n.2.to)),
)
