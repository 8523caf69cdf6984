-- The pages of the tests, of which each that has a number is lent.
use Rattle.std.specs.Prelude.{ℕ, ◌<◌, ◌^◌, IsTrue, nat_lt}
use Rattle.std.proofs.lemmas.Bool.{ltb-true}

pub page_fits : (page : ℕ) → IsTrue (nat_lt page (2 ^ 32)) → page < 2 ^ 32
page_fits page h = ltb-true page (2 ^ 32) h
