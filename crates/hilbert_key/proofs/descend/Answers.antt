use Rattle.std.proofs.Common.{◌≡◌, ℕ, ◌+◌, ◌-◌, ◌*◌, ◌^◌, ◌<◌, ◌≤◌, nat_le, true, false, arith, ◌∙◌, inl, inr}
use Rattle.std.proofs.lemmas.Bool.{cases_lt}
use Rattle.std.proofs.lemmas.Bool.Decides.{nat_tests}
use Rattle.hilbert_key.specs.Curve.{curve_value}
use Rattle.hilbert_key.specs.laws.Quadrants.{lower_left, upper_left, upper_right, lower_right}
use Rattle.hilbert_key.proofs.descend.Goals as goal

is_from : (a b : ℕ) → a ≤ b → nat_le a b ≡ true
is_from a b h = grind (arith, nat_tests)

is_below : (a b : ℕ) → b < a → nat_le a b ≡ false
is_below a b h = grind (arith, nat_tests)

-- a quadrant's equation, with equal numbers in its place
placed : (k half v q u w d a b : ℕ) → half ≡ 2 ^ k → q ≡ d → u ≡ a → w ≡ b → v ≡ d * half * half + curve_value k a b
    → v ≡ q * 2 ^ k * 2 ^ k + curve_value k u w
placed k half v q u w d a b e f g h is = rw (f, g, h, ← e) is

pub returns-clause-value : goal.returns-clause-value
returns-clause-value c =
    let half = c.side-half.ensures in
    elim (cases_lt c.args.x c.side-half.result) [
      | inl q ↦
          let left = is_below c.side-half.result c.args.x q in
          let across : c.within_half-across.result ≡ c.args.x = rw left at c.within_half-across.ensures in
          let quadrant : c.choice-3.result ≡ c.choice-2.result = rw left at c.choice-3.ensures in
          let x_there : c.turned.result ≡ c.choice-4.result = rw left at c.turned.ensures in
          let y_there : c.turned-2.result ≡ c.choice-5.result = rw left at c.turned-2.ensures in
          elim (cases_lt c.args.y c.side-half.result) [
            | inl p ↦
                let lower = is_below c.side-half.result c.args.y p in
                let up : c.within_half-up.result ≡ c.args.y = rw lower at c.within_half-up.ensures in
                let none : c.choice-2.result ≡ 0 = rw lower at c.choice-2.ensures in
                let x : c.choice-4.result ≡ c.within_half-up.result = rw lower at c.choice-4.ensures in
                let y : c.choice-5.result ≡ c.within_half-across.result = rw lower at c.choice-5.ensures in
                placed c.args.level c.side-half.result _ _ _ _ 0 c.args.y c.args.x half
                (quadrant ∙ none) (x_there ∙ x ∙ up) (y_there ∙ y ∙ across) (lower_left c.args.level c.side-half.result c.args.x c.args.y half q p)
            | inr p ↦
                let upper = is_from c.side-half.result c.args.y p in
                let up : c.within_half-up.result ≡ c.args.y - c.side-half.result = rw upper at c.within_half-up.ensures in
                let one : c.choice-2.result ≡ 1 = rw upper at c.choice-2.ensures in
                let x : c.choice-4.result ≡ c.within_half-across.result = rw upper at c.choice-4.ensures in
                let y : c.choice-5.result ≡ c.within_half-up.result = rw upper at c.choice-5.ensures in
                placed c.args.level c.side-half.result _ _ _ _ 1 c.args.x (c.args.y - c.side-half.result) half
                (quadrant ∙ one) (x_there ∙ x ∙ across) (y_there ∙ y ∙ up) (upper_left c.args.level c.side-half.result c.args.x c.args.y half q p)
          ]
      | inr q ↦
          let right = is_from c.side-half.result c.args.x q in
          let across : c.within_half-across.result ≡ c.args.x - c.side-half.result = rw right at c.within_half-across.ensures in
          let quadrant : c.choice-3.result ≡ c.choice.result = rw right at c.choice-3.ensures in
          elim (cases_lt c.args.y c.side-half.result) [
            | inl p ↦
                let lower = is_below c.side-half.result c.args.y p in
                let up : c.within_half-up.result ≡ c.args.y = rw lower at c.within_half-up.ensures in
                let three : c.choice.result ≡ 3 = rw lower at c.choice.ensures in
                let x : c.choice-4.result ≡ c.within_half-up.result = rw lower at c.choice-4.ensures in
                let y : c.choice-5.result ≡ c.within_half-across.result = rw lower at c.choice-5.ensures in
                let x_there : c.turned.result ≡ c.side-half.result - 1 - c.choice-4.result = rw (right, lower) at c.turned.ensures in
                let y_there : c.turned-2.result ≡ c.side-half.result - 1 - c.choice-5.result = rw (right, lower) at c.turned-2.ensures in
                placed c.args.level c.side-half.result _ _ _ _ 3 (c.side-half.result - 1 - c.args.y) (2 * c.side-half.result - 1 - c.args.x) half
                (quadrant ∙ three) (omega arith) (omega arith) (lower_right c.args.level c.side-half.result c.args.x c.args.y half q p)
            | inr p ↦
                let upper = is_from c.side-half.result c.args.y p in
                let up : c.within_half-up.result ≡ c.args.y - c.side-half.result = rw upper at c.within_half-up.ensures in
                let two : c.choice.result ≡ 2 = rw upper at c.choice.ensures in
                let x : c.choice-4.result ≡ c.within_half-across.result = rw upper at c.choice-4.ensures in
                let y : c.choice-5.result ≡ c.within_half-up.result = rw upper at c.choice-5.ensures in
                let x_there : c.turned.result ≡ c.choice-4.result = rw (right, upper) at c.turned.ensures in
                let y_there : c.turned-2.result ≡ c.choice-5.result = rw (right, upper) at c.turned-2.ensures in
                placed c.args.level c.side-half.result _ _ _ _ 2 (c.args.x - c.side-half.result) (c.args.y - c.side-half.result) half
                (quadrant ∙ two) (x_there ∙ x ∙ across) (y_there ∙ y ∙ up) (upper_right c.args.level c.side-half.result c.args.x c.args.y half q p)
          ]
    ]
