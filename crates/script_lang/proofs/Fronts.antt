-- A line that is too long, and the front of it that is kept.
use Rattle.std.specs.Prelude.{◌≡◌, ℕ, ◌+◌, ◌-◌, ◌<◌, ◌≤◌, Bool, true, false, cond, List, ◌++◌, length, take, min}
use Rattle.std.proofs.Common.{eqb, ap, sym, ◌∙◌, get_or, arith, inl, inr}
use Rattle.std.proofs.lemmas.Bool.{cases_lt, lt-ltb}
use Rattle.std.proofs.lemmas.List.{take_all, length-take, take_min}
use Rattle.line_fold.specs.Laws.Streaming.{take_past}
use Rattle.script_lang.specs.declared.limits.TheConstants.{MOST_LINE}
use Rattle.script_lang.specs.Words.{without_return}
use Rattle.script_lang.specs.Grammar.{meaning_of, bad}
use Rattle.script_lang.specs.Scripts.{Reading, after_line, after_meaning}

-- as much of the bytes behind as there is room for
pub filled_front : (k : ℕ) (xs ys : List ℕ) (n : ℕ) → length xs ≤ k → n ≡ min (length ys) (k - length xs) → xs ++ take n ys ≡ take k (xs ++ ys)
filled_front k xs ys n within is =
    let fewer : n ≡ min (k - length xs) (length ys) = omega arith in
    ap (λ m. xs ++ take m ys) fewer ∙ ap (λ l. xs ++ l) (take_min (k - length xs) ys) ∙ sym (take_past xs ys k within)

either_long : (t : Bool) (line : List ℕ) → length line ≤ length (cond t (take (length line - 1) line) line) + 1
either_long true line = simp length-take (omega arith)
either_long false line = omega arith

long_without_return : (line : List ℕ) → length line ≤ length (without_return line) + 1
long_without_return line = either_long (eqb (get_or line (length line - 1) 0) 13) line

too_long_is_bad : (line : List ℕ) → MOST_LINE + 1 < length line → meaning_of line ≡ bad
unfolding meaning_of
too_long_is_bad line h = rw (lt-ltb MOST_LINE (length (without_return line)) (omega (arith, h, long_without_return line)))

pub meaning_of_front : (k : ℕ) (line : List ℕ) → MOST_LINE + 2 ≤ k → meaning_of (take k line) ≡ meaning_of line
meaning_of_front k line h = elim (cases_lt k (length line)) [
  | inl past ↦ too_long_is_bad (take k line) (simp length-take (omega arith)) ∙ sym (too_long_is_bad line (omega arith))
  | inr within ↦ ap meaning_of (take_all k line within)
]

-- a step looks at the kept front alone
pub step_of_front : (k most : ℕ) → MOST_LINE + 2 ≤ k → (line : List ℕ) (r : Reading) → after_line most (take k line) r ≡ after_line most line r
unfolding after_line
step_of_front k most h line r = ap (λ m. after_meaning most m r) (meaning_of_front k line h)
