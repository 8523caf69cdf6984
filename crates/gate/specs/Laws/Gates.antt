-- What gated writes leave at each moment and at their end. No public contract needs these laws.
use Rattle.std.proofs.Common.{◌≡◌, ◌≢◌, ◌⊎◌, inl, inr, ⊎_elim, ℕ, zero, suc, ◌+◌, ◌-◌, ◌<◌, List, [], ◌∷◌, Option, Some, Result, length, get_or, sym, ◌∙◌, ap, arith}
use Rattle.std.proofs.lemmas.Bool.{cases_eq}
use Rattle.dev_model.specs.Story.{Bytes, Write, Sync, Story, after, bytes_of, patched, IsInside, IsOutside, IsSettled, IsImageDuring}
use Rattle.dev_model.specs.Doing.{Did}
use Rattle.dev_model.specs.Writes.{WritesWithin}
use Rattle.dev_model.specs.Laws.Frame.{WritesWithin-did}
use Rattle.dev_model.specs.Laws.Ranges.{patched-outside, patched-inside}
use Rattle.dev_model.specs.Laws.Images.{IsReadable-settled}
use Rattle.gate.specs.Calls.{gated_calls}
use Rattle.gate.specs.Gates.{Holds, IsGated, HasPut}
use Rattle.gate.specs.Laws.Plans.{Leaves, leaves-one, leaves-more}

-- the first of bytes that stand
pub holds-first : (at x : ℕ) (xs : List ℕ) (bytes : Bytes) → Holds at (x ∷ xs) bytes → bytes at ≡ x
holds-first at x xs bytes stands = let here : at ≡ at + 0 = omega arith in ap bytes here ∙ stands 0 (omega arith)

-- what was written stands
holds-patched : (at : ℕ) (new : List ℕ) (old : Bytes) → Holds at new (patched at new old)
holds-patched at new old i lt =
    let e : at + i - at ≡ i = omega arith in
    patched-inside at new old (at + i) (record { from = omega arith; to = omega arith }) ∙ ap (λ (n : ℕ). get_or new n 0) e

-- a write and its sync
pub put-synced : (at : ℕ) (new : List ℕ) (s : Story) → HasPut at new s (after s (Write at new ∷ Sync ∷ []))
put-synced at new s = record {
  stands = holds-patched at new (bytes_of s);
  elsewhere = λ i out. patched-outside at new (bytes_of s) i out;
  settled = λ i there. there;
}

module _ (at : ℕ) (body : List ℕ) (s : Story) where
  behind : (i : ℕ) → IsOutside at (length (165 ∷ body)) i → IsOutside (at + 1) (length body) i
  behind i (inl low) = inl (omega (arith, low))
  behind i (inr high) = inr (omega (arith, high))

  beside : (i : ℕ) → IsOutside at (length (165 ∷ body)) i → IsOutside at 1 i
  beside i (inl low) = inl low
  beside i (inr high) = inr (omega (arith, high))

  abbrev staged : Story
  staged = after s (Write (at + 1) body ∷ Sync ∷ [])

  -- bytes with an open gate and with what was written behind it
  stands-open : (bytes : Bytes) → bytes at ≡ 165 → ((i : ℕ) → IsInside (at + 1) (length body) i → bytes i ≡ patched (at + 1) body (bytes_of s) i) → Holds at (165 ∷ body) bytes
  stands-open bytes gate same zero lt = let here : at + 0 ≡ at = omega arith in ap bytes here ∙ gate
  stands-open bytes gate same (suc k) lt =
      let here : at + suc k ≡ at + 1 + k = omega arith in
      ap bytes here ∙ same (at + 1 + k) (record { from = omega arith; to = omega (arith, lt) }) ∙ holds-patched (at + 1) body (bytes_of s) k (omega (arith, lt))

  -- all of it
  pub put-gated : HasPut at (165 ∷ body) s (after s (gated_calls at body))
  put-gated = record {
    stands = stands-open (bytes_of (after s (gated_calls at body))) (holds-first at 165 [] (patched at (165 ∷ []) (bytes_of staged)) (holds-patched at (165 ∷ []) (bytes_of staged)))
        (λ i inside. patched-outside at (165 ∷ []) (bytes_of staged) i (inr (omega (arith, inside.from))));
    elsewhere = λ i out. patched-outside at (165 ∷ []) (bytes_of staged) i (beside i out) ∙ patched-outside (at + 1) body (bytes_of s) i (behind i out);
    settled = λ i there. ⊎_elim (λ inside. by_side i inside (sides i)) (λ readable. inr (inr readable)) there;
  }
    where
      sides : (i : ℕ) → (i < at + 1) ⊎ (at < i)
      sides i = grind arith

      by_side : (i : ℕ) → IsInside at (length (165 ∷ body)) i → (i < at + 1) ⊎ (at < i) → IsSettled (after s (gated_calls at body)).past i
      by_side i inside (inl low) = inl (record { from = inside.from; to = low })
      by_side i inside (inr high) = inr (inl (record { from = omega (arith, high); to = omega (arith, inside.to) }))

  -- it writes at the gate and behind it
  pub gated-within : {X E : Type 0} (old now : Option Story) (result : Result X E) → old ≡ Some s → Did (gated_calls at body) old now result → WritesWithin at (length (165 ∷ body)) s now
  gated-within old now result is did = WritesWithin-did at (length (165 ∷ body)) s (gated_calls at body) old now result is did (λ i out. (behind i out, (tt, (beside i out, (tt, tt)))))

  module _ (closed : bytes_of s at ≢ 165) (settled : IsSettled s.past at) where
    -- while the bytes are written behind the gate
    staging : (image : Bytes) → IsImageDuring s (Write (at + 1) body) image → IsGated at body s image
    staging image is = inl (record {
      closed = λ open_gate. closed (sym (is at (inl (omega arith)) settled) ∙ open_gate);
      elsewhere = λ i out still. is i (behind i out) still;
    })

    -- while the gate is opened
    opening : (image : Bytes) → IsImageDuring staged (Write at (165 ∷ [])) image → IsGated at body s image
    opening image is = elim (cases_eq (image at) 165) [
      | inl gate ↦ inr (record {
        stands = stands-open image gate (λ i inside. is i (inr (omega (arith, inside.from))) (inl inside));
        elsewhere = λ i out readable. is i (beside i out) (inr readable) ∙ patched-outside (at + 1) body (bytes_of s) i (behind i out);
      })
      | inr shut ↦ inl (record {
        closed = shut;
        elsewhere = λ i out still. is i (beside i out) (inr (IsReadable-settled s.past i still)) ∙ patched-outside (at + 1) body (bytes_of s) i (behind i out);
      })
    ]

    pub gated-leaves : Leaves s (gated_calls at body) (IsGated at body s)
    gated-leaves = leaves-more s (at + 1) body (Write at (165 ∷ []) ∷ Sync ∷ []) (IsGated at body s) staging (leaves-one staged at (165 ∷ []) (IsGated at body s) opening)
