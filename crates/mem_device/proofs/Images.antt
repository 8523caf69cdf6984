-- The image of a moment.
use Rattle.std.proofs.Common.{◌≡◌, ◌⊎◌, ⊎_elim, ℕ, zero, suc, ◌<◌, ◌≤◌, min, [], ◌∷◌, ◌++◌, length, refl, sym, ◌∙◌, ap, arith, length-append}
use Rattle.std.specs.Ordering.{nat_cmp}
use Rattle.std.specs.Cmp.{nat_cmp_is}
use Rattle.std.specs.declared.cmp.Ordering.{Ordering}
use Rattle.std.specs.declared.cmp.Ordering.TheVariants.{Less, Equal, Greater}
use Rattle.dev_model.specs.Story.{Past, Bytes, Call, FailedCall}
use Rattle.mem_device.specs.Inside.{with_missed}
use Rattle.mem_device.specs.TornImages.{image_at, image_after, image_during, before_at_or_after}
use Rattle.mem_device.specs.declared.torn.Torn.{Torn}

module _ (torn : Torn) (start : Bytes) where
  choose : (call : Call) (past : Past) (m : ℕ) (o : Ordering) → o ≡ nat_cmp m (length past)
      → image_at torn start (call ∷ past) m ≡ before_at_or_after o (image_at torn start past m) (image_during torn call (image_after torn start past)) (image_after torn start (call ∷ past))
  choose call past m o is =
      ap (λ (p : Ordering). before_at_or_after p (image_at torn start past m) (image_during torn call (image_after torn start past)) (image_after torn start (call ∷ past))) (sym is)

  pub image_at-now : (past : Past) (m : ℕ) → length past ≤ m → image_at torn start past m ≡ image_after torn start past
  image_at-now [] m le = refl
  image_at-now (call ∷ past) m le = choose call past m Greater (nat_cmp_is m (length past) Greater (omega arith))

  pub image_at-during : (newer older : Past) (call : Call) (m : ℕ) → m ≡ length older → image_at torn start (newer ++ call ∷ older) m ≡ image_during torn call (image_after torn start older)
  image_at-during [] older call m is = choose call older m Equal (nat_cmp_is m (length older) Equal is)
  image_at-during (n ∷ newer) older call m is =
      choose n (newer ++ call ∷ older) m Less (nat_cmp_is m (length (newer ++ call ∷ older)) Less (omega (arith, length-append newer (call ∷ older)))) ∙ image_at-during newer older call m is

  order : (m n : ℕ) → (m < n) ⊎ ((m ≡ n) ⊎ (n < m))
  order m n = grind arith

  -- calls that were missed leave each image as it was
  pub image_at-with_missed : (n : ℕ) (past : Past) (m : ℕ) → image_at torn start (with_missed n past) m ≡ image_at torn start past m
  image_at-with_missed zero past m = refl
  image_at-with_missed (suc n) past m =
      let missed = with_missed n past in
      ⊎_elim (λ lt. choose FailedCall missed m Less (nat_cmp_is m (length missed) Less lt))
      (λ late. ⊎_elim (λ is. choose FailedCall missed m Equal (nat_cmp_is m (length missed) Equal is) ∙ sym (image_at-now missed m (omega (arith, is))))
      (λ gt. choose FailedCall missed m Greater (nat_cmp_is m (length missed) Greater gt) ∙ sym (image_at-now missed m (omega arith))) late)
      (order m (length missed))
      ∙ image_at-with_missed n past m

  -- a moment past the last call is that after it
  pub image_at-min : (past : Past) (m : ℕ) → image_at torn start past (min m (length past)) ≡ image_at torn start past m
  image_at-min past m =
      ⊎_elim (λ lt. let is : min m (length past) ≡ m = omega arith in ap (image_at torn start past) is)
      (λ late. let le : length past ≤ m = ⊎_elim (λ is. omega (arith, is)) (λ gt. omega arith) late in
      image_at-now past (min m (length past)) (omega arith) ∙ sym (image_at-now past m le))
      (order m (length past))
