-- What the sixteen bytes that were read say of those that stand there.
use Rattle.std.proofs.Common.{◌≡◌, Bool, true, false, nat_eq, inl, inr, ℕ, ◌+◌, ◌<◌, List, length, drop, slice_index, Option, Some, None, refl, sym, ◌∙◌, ap, subst, arith}
use Rattle.std.proofs.lemmas.List.{length-drop}
use Rattle.std.proofs.lemmas.Grind.{get_or_after_one}
use Rattle.std.specs.Bool.{OnTrue}
use Rattle.std.specs.Cmp.Lexicographic.{same_text, pointwise}
use Rattle.dev_model.specs.Story.{Story, bytes_of, part, IsCalmAt, IsReadable}
use Rattle.dev_model.specs.Answers.{IsReadFrom}
use Rattle.dev_model.specs.Laws.Ranges.{part-list}
use Rattle.dev_model.specs.Laws.Images.{IsReadable-settled}
use Rattle.superblock.specs.Superblock.{superblock_bytes, IsLookedInSuperblock}
use Rattle.superblock.specs.Saying.{Says, SaysOf}

module _ (s : Story) (buf : List ℕ) (sixteen : length buf ≡ 16) (read : IsReadFrom 0 buf s) (calm : IsCalmAt (IsLookedInSuperblock (bytes_of s)) s) where
  gate : slice_index buf 0 ≡ bytes_of s 0
  gate = read 0 (omega (arith, sixteen)) (IsReadable-settled s.past 0 (calm 0 (inl refl)))

  -- where the gate is open, all bytes were read as they are
  all : bytes_of s 0 ≡ 165 → (k : ℕ) → k < 16 → slice_index buf k ≡ bytes_of s k
  all is k lt =
      let place : 0 + k ≡ k = omega arith in
      subst (λ (i : ℕ). slice_index buf k ≡ bytes_of s i) place
      (read k (omega (arith, sixteen, lt)) (subst (λ (i : ℕ). IsReadable s.past i) (sym place) (IsReadable-settled s.past k (calm k (inr (is, lt))))))

  fields : bytes_of s 0 ≡ 165 → part 1 15 (bytes_of s) ≡ drop 1 buf
  fields is = part-list 1 15 (bytes_of s) (drop 1 buf) (omega (arith, sixteen, length-drop 1 buf)) (λ k lt. sym (all is (1 + k) (omega (arith, lt))) ∙ sym (get_or_after_one buf k 0))

  pub says-read : (pages : ℕ) (found : Option ℕ) → SaysOf pages buf found → Says pages (bytes_of s) found
  says-read pages (Some set) (is, set_is) =
      let open_gate : bytes_of s 0 ≡ 165 = sym gate ∙ is.gate in
      let indexes : slice_index buf 2 ≡ bytes_of s 2 = all open_gate 2 (omega arith) in (
        record {
          gate = open_gate;
          fields = fields open_gate ∙ is.fields ∙ ap (λ (d : ℕ). superblock_bytes d pages) indexes;
          indexes = omega (arith, indexes, is.indexes);
        },
        sym indexes ∙ set_is,
      )
  says-read pages None none = λ is.
      let indexes : slice_index buf 2 ≡ bytes_of s 2 = all is.gate 2 (omega arith) in
      none (record {
        gate = gate ∙ is.gate;
        fields = sym (fields is.gate) ∙ is.fields ∙ ap (λ (d : ℕ). superblock_bytes d pages) (sym indexes);
        indexes = omega (arith, indexes, is.indexes);
      })

-- a fact beside a test of two lists of bytes
pub both-yes : (answer : Bool) (P : Type 0) → P → (xs ys zs : List ℕ) → answer ≡ pointwise nat_eq xs ys → xs ≡ zs → OnTrue answer (P × (zs ≡ ys))
both-yes true P p xs ys zs is there = (p, sym there ∙ same_text xs ys is)
both-yes false P p xs ys zs is there = tt
