-- A write of a key keeps the fit of an index by place.
-- No public contract needs this file.
use Rattle.std.proofs.Common.{◌≡◌, ℕ, Bool, true, false, ◌&&◌, List, [], ◌∷◌, Option, Some, None, refl, ap, sym, ◌∙◌, subst, if◌then◌else◌, ◌==◌}
use Rattle.std.specs.Ordering.{eq_by_cmp, is_eq}
use Rattle.std.specs.Cmp.{tied_itself}
use Rattle.std.proofs.lemmas.Bool.Decides.{Decides-eqb}
use Rattle.std.specs.declared.cmp.Ordering.TheVariants.{Equal}
use Rattle.order_merge.specs.Fitting.{Fits}
use Rattle.order_merge.specs.Ascending.{IsKeyOrder}
use Rattle.order_merge.specs.Adding.{with_entry}
use Rattle.order_merge.specs.Added.{with_entries, wanted_with}
use Rattle.order_merge.specs.Places.{PlaceReading, IsPlaceReading, matter_at, wanted_places, moved, place_changes}
use Rattle.order_merge.specs.laws.Living.{Fits-with_entry, is_eq-Equal}

-- two tests that imply each other give the same
same_from_both : (a b : Bool) → (a ≡ true → b ≡ true) → (b ≡ true → a ≡ true) → a ≡ b
same_from_both true b f g = sym (f refl)
same_from_both false true f g = g refl
same_from_both false false f g = refl

both_true : (a b : Bool) → a ≡ true → b ≡ true → (a && b) ≡ true
both_true a b p q = rw (p, q) refl

left_true : (a b : Bool) → (a && b) ≡ true → a ≡ true
left_true true b h = refl
left_true false b h = h

right_true : (a b : Bool) → (a && b) ≡ true → b ≡ true
right_true true b h = h
right_true false b h = cc

module _ {E P : Type 0} (i : PlaceReading E P) (laws : IsPlaceReading i) (o : IsKeyOrder i.reading.order) where
  -- an entry has a key exactly where both its parts agree
  test_is : (p q : P) (k j : ℕ) (a : Bool) → eq_by_cmp i.reading.order (i.reading.key_of (i.entry p k a)) (q, j) ≡ (i.is_same p q && (j == k))
  test_is p q k j a = rw (laws.key p k a) (same_from_both _ _ forth back)
    where
      forth : eq_by_cmp i.reading.order (p, k) (q, j) ≡ true → (i.is_same p q && (j == k)) ≡ true
      forth h =
          let e : ◌≡◌ {A = P × ℕ} (p, k) (q, j) = o.same (p, k) (q, j) (is_eq-Equal (i.reading.order (p, k) (q, j)) h) in
          let at : p ≡ q = ap (λ x. x.0) e in
          let key : k ≡ j = ap (λ x. x.1) e in
          both_true (i.is_same p q) (j == k) (subst (λ x. i.is_same p x ≡ true) at (laws.itself p)) ((Decides-eqb j k).1 (sym key))

      back : (i.is_same p q && (j == k)) ≡ true → eq_by_cmp i.reading.order (p, k) (q, j) ≡ true
      back h =
          let at : p ≡ q = laws.same p q (left_true (i.is_same p q) (j == k) h) in
          let key : j ≡ k = (Decides-eqb j k).0 (right_true (i.is_same p q) (j == k) h) in
          let e : ◌≡◌ {A = P × ℕ} (p, k) (q, j) = pair_eq at (sym key) in
          ap is_eq (subst (λ x. i.reading.order (p, k) x ≡ Equal) e (tied_itself o.total (p, k)))
        where
          pair_eq : {x y : P} {m n : ℕ} → x ≡ y → m ≡ n → ◌≡◌ {A = P × ℕ} (x, m) (y, n)
          pair_eq e f = cc

  -- what an added entry makes wanted
  change_at : (p q : P) (k j : ℕ) (a : Bool) (wanted : P × ℕ → Option E)
      → wanted_with i.reading (i.entry p k a) wanted (q, j) ≡ (if i.is_same p q && (j == k) then (if a then None else Some (i.entry p k a)) else wanted (q, j))
  change_at p q k j a wanted = rw (test_is p q k j a, laws.anti p k a) refl

  Fits-same : (lists : List (List E)) (before after : P × ℕ → Option E) → ((q : P) (j : ℕ) → before (q, j) ≡ after (q, j))
      → Fits i.reading lists before → Fits i.reading lists after
  Fits-same lists before after e fits at = fits at ∙ e at.0 at.1

  module _ (places : ℕ → Option P) (k : ℕ) where
    -- nothing changes where the key stays
    moved-same : (now : Option P) → places k ≡ now → (j : ℕ) → places j ≡ moved places k now j
    moved-same now e j = go (j == k) refl
      where
        go : (b : Bool) → (j == k) ≡ b → places j ≡ (if b then now else places j)
        go true h = ap places ((Decides-eqb j k).0 h) ∙ e
        go false h = refl

    stay : (now : Option P) → places k ≡ now → (q : P) (j : ℕ) → wanted_places i places (q, j) ≡ wanted_places i (moved places k now) (q, j)
    stay now e q j = ap (λ p. matter_at i p q j) (moved-same now e j)

    -- the anti entry takes away what was at the old place
    leave : (p : P) → places k ≡ Some p → (q : P) (j : ℕ)
        → wanted_with i.reading (i.entry p k true) (wanted_places i places) (q, j) ≡ wanted_places i (moved places k None) (q, j)
    leave p e q j = change_at p q k j true (wanted_places i places) ∙ go (j == k) refl (i.is_same p q) refl
      where
        go : (b : Bool) → (j == k) ≡ b → (s : Bool) → i.is_same p q ≡ s
            → (if s && b then None else matter_at i (places j) q j) ≡ matter_at i (if b then None else places j) q j
        go true h true f = refl
        go true h false f = rw (ap places ((Decides-eqb j k).0 h) ∙ e, f) refl
        go false h true f = refl
        go false h false f = refl

    -- the matter entry adds the new place
    arrive : (n q : P) (j : ℕ)
        → (if i.is_same n q && (j == k) then Some (i.entry n k false) else wanted_places i (moved places k None) (q, j)) ≡ wanted_places i (moved places k (Some n)) (q, j)
    arrive n q j = go (j == k) refl (i.is_same n q) refl
      where
        go : (b : Bool) → (j == k) ≡ b → (s : Bool) → i.is_same n q ≡ s
            → (if s && b then Some (i.entry n k false) else matter_at i (if b then None else places j) q j) ≡ matter_at i (if b then Some n else places j) q j
        go true h true f = rw (f, (Decides-eqb j k).0 h, laws.same n q f) refl
        go true h false f = rw f refl
        go false h true f = refl
        go false h false f = refl

    module _ (active : List E) (older : List (List E)) (fits : Fits i.reading (active ∷ older) (wanted_places i places)) where
      Fits-leave : (p : P) → places k ≡ Some p
          → Fits i.reading (with_entry i.reading (i.entry p k true) active ∷ older) (wanted_places i (moved places k None))
      Fits-leave p e = Fits-same _ _ _ (leave p e) (Fits-with_entry i.reading o (i.entry p k true) active older _ fits)

      Fits-stay : (now : Option P) → places k ≡ now → Fits i.reading (active ∷ older) (wanted_places i (moved places k now))
      Fits-stay now e = Fits-same _ _ _ (stay now e) fits

    Fits-arrive : (active : List E) (older : List (List E)) → Fits i.reading (active ∷ older) (wanted_places i (moved places k None)) → (n : P)
        → Fits i.reading (with_entry i.reading (i.entry n k false) active ∷ older) (wanted_places i (moved places k (Some n)))
    Fits-arrive active older fits n =
        Fits-same _ _ _ (λ q j. change_at n q k j false (wanted_places i (moved places k None)) ∙ arrive n q j) (Fits-with_entry i.reading o (i.entry n k false) active older _ fits)

  -- the entries that are wanted after a write are those before it, with its changes
  pub Fits-places : (active : List E) (older : List (List E)) (places : ℕ → Option P) (k : ℕ) (new : Option P)
      → Fits i.reading (active ∷ older) (wanted_places i places)
      → Fits i.reading (with_entries i.reading (place_changes i (places k) new k) active ∷ older) (wanted_places i (moved places k new))
  unfolding with_entries
  Fits-places active older places k new fits = go (places k) refl new
    where
      both : (p : P) → places k ≡ Some p → (n : P) (s : Bool) → i.is_same p n ≡ s
          → Fits i.reading (with_entries i.reading (if s then [] else i.entry p k true ∷ i.entry n k false ∷ []) active ∷ older) (wanted_places i (moved places k (Some n)))
      both p e n true s = Fits-stay places k active older fits (Some n) (e ∙ ap Some (laws.same p n s))
      both p e n false s = Fits-arrive places k (with_entry i.reading (i.entry p k true) active) older (Fits-leave places k active older fits p e) n

      go : (old : Option P) → places k ≡ old → (new : Option P)
          → Fits i.reading (with_entries i.reading (place_changes i old new k) active ∷ older) (wanted_places i (moved places k new))
      go None e None = Fits-stay places k active older fits None e
      go (Some p) e None = Fits-leave places k active older fits p e
      go None e (Some n) = Fits-arrive places k active older (Fits-stay places k active older fits None e) n
      go (Some p) e (Some n) = both p e n (i.is_same p n) refl
