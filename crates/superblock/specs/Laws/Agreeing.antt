-- Bytes that agree where an opening looks have the same superblock. No public contract needs this law.
use Rattle.std.proofs.Common.{◌≡◌, inl, inr, ℕ, refl, sym, ◌∙◌, ap, arith}
use Rattle.dev_model.specs.Story.{Bytes}
use Rattle.dev_model.specs.Laws.Ranges.{part-same}
use Rattle.superblock.specs.Superblock.{IsFormatted, superblock_bytes, IsLookedInSuperblock}

pub formatted-same : (pages : ℕ) (a b : Bytes) → ((i : ℕ) → IsLookedInSuperblock a i → b i ≡ a i) → IsFormatted pages a → IsFormatted pages b
formatted-same pages a b same is =
    let indexes : b 2 ≡ a 2 = same 2 (inr (is.gate, omega arith)) in
    record {
      gate = same 0 (inl refl) ∙ is.gate;
      fields = part-same 1 15 b a (λ i low high. same i (inr (is.gate, omega arith))) ∙ is.fields ∙ ap (λ (d : ℕ). superblock_bytes d pages) (sym indexes);
      indexes = omega (arith, indexes, is.indexes);
    }
