-- The words of a line, from its front.
use Rattle.std.specs.Prelude.{◌≡◌, ℕ, ◌<◌, ◌≤◌, Bool, true, false, not, List, [], ◌∷◌, length, take, drop, filter, All}
use Rattle.std.specs.List.{slice_split, position_or_len, after_first}
use Rattle.std.proofs.Common.{ap, sym, ◌∙◌, get_or, arith, refl, inl, inr, add-zero}
use Rattle.std.proofs.lemmas.Bool.{cases_lt}
use Rattle.std.proofs.lemmas.Grind.{common_steps}
use Rattle.std.proofs.lemmas.List.{take_all, length-take, get_or-drop, drop-drop}
use Rattle.std.proofs.Math.ListN.{drop_of_length-le}
use Rattle.std.proofs.lemmas.List.Splits.{slice_split-cons_yes, slice_split_none, slice_split_first}
use Rattle.std.proofs.lemmas.List.Elements.{All-from_get_or}
use Rattle.std.proofs.lemmas.List.Sums.{prefix_len_passes, prefix_len_stops}
use Rattle.line_fold.specs.Lines.{is_nothing}
use Rattle.script_lang.specs.Words.{is_blank, words_of}
use Rattle.script_lang.specs.Blanks.{StartsPlain}

not_true : (b : Bool) → not b ≡ true → b ≡ false
not_true true h = cc
not_true false h = refl

not_false : (b : Bool) → not b ≡ false → b ≡ true
not_false true h = refl
not_false false h = cc

-- the words among the parts
abbrev kept_parts : List (List ℕ) → List (List ℕ)
kept_parts parts = filter (λ word. not (is_nothing word)) parts

-- a blank at the front adds no word
pub words_of-blank : (s : List ℕ) → 0 < length s → is_blank (get_or s 0 0) ≡ true → words_of (drop 1 s) ≡ words_of s
words_of-blank [] within blank = absurd (omega arith)
words_of-blank (b ∷ bs) within blank = sym (ap kept_parts (slice_split-cons_yes is_blank b bs blank))

pub StartsPlain-from_read : (s : List ℕ) → is_blank (get_or s 0 0) ≡ false → StartsPlain s
StartsPlain-from_read [] plain = tt
StartsPlain-from_read (b ∷ bs) plain = plain

pub StartsPlain-from_nothing : (s : List ℕ) → length s ≡ 0 → StartsPlain s
StartsPlain-from_nothing [] e = tt
StartsPlain-from_nothing (b ∷ bs) e = absurd (omega arith)

kept_part : (part : List ℕ) (parts : List (List ℕ)) → is_nothing part ≡ false → kept_parts (part ∷ parts) ≡ part ∷ kept_parts parts
kept_part [] parts h = cc
kept_part (b ∷ bs) parts h = refl

something : (s : List ℕ) → 0 < length s → is_nothing s ≡ false
something [] h = absurd (omega arith)
something (b ∷ bs) h = refl

pub no_words : (s : List ℕ) → length s ≡ 0 → words_of s ≡ []
no_words [] e = refl
no_words (b ∷ bs) e = absurd (omega arith)

-- a line that begins with no blank has a first word of at least one byte
first_len : (s : List ℕ) → 0 < length s → StartsPlain s → 0 < position_or_len is_blank s
first_len [] within plain = absurd (omega arith)
first_len (b ∷ bs) within plain = rw plain (omega arith)

module _ (s : List ℕ) (within : 0 < length s) (plain : StartsPlain s) where
  ends : position_or_len is_blank s < length s → words_of s ≡ take (position_or_len is_blank s) s ∷ words_of (drop (position_or_len is_blank s) s)
  ends inside =
      let n : ℕ = position_or_len is_blank s in
      let front : 0 < length (take n s) = simp length-take (omega (arith, inside, first_len s within plain)) in
      let left : 0 < length (drop n s) = grind (arith, common_steps) in
      let stop : is_blank (get_or s n 0) ≡ true = not_false _ (prefix_len_stops (λ x. not (is_blank x)) s 0 inside) in
      let blank : is_blank (get_or (drop n s) 0 0) ≡ true = rw (get_or-drop, add-zero) stop in
      let behind : words_of (after_first is_blank s) ≡ words_of (drop n s) = ap words_of (sym (drop-drop 1 n s)) ∙ words_of-blank (drop n s) left blank in
      ap kept_parts (slice_split_first is_blank s 0 inside)
      ∙ kept_part (take n s) (slice_split is_blank (after_first is_blank s)) (something (take n s) front)
      ∙ ap (λ ws. take n s ∷ ws) behind

  all : length s ≤ position_or_len is_blank s → words_of s ≡ take (position_or_len is_blank s) s ∷ words_of (drop (position_or_len is_blank s) s)
  all past =
      let plain_all : All (λ x. is_blank x ≡ false) s = All-from_get_or (λ x. is_blank x ≡ false) s 0 (λ i h. not_true _ (prefix_len_passes (λ x. not (is_blank x)) s i 0 (omega (arith, past, h)))) in
      ap kept_parts (slice_split_none is_blank s plain_all)
      ∙ kept_part s [] (something s within)
      ∙ rw (take_all, drop_of_length-le)

  pub words_of_first : words_of s ≡ take (position_or_len is_blank s) s ∷ words_of (drop (position_or_len is_blank s) s)
  words_of_first = elim (cases_lt (position_or_len is_blank s) (length s)) [ inl inside ↦ ends inside | inr past ↦ all past ]
