-- Lists that name deleted keys go on fitting: when a key is written, and when adjacent ones are merged.
-- No public contract needs this file.
use Rattle.std.specs.Prelude.{◌≡◌, ◌≢◌, ℕ, zero, suc, ◌<◌, ◌≤◌, Bool, true, false, ◌⊎◌, List, [], ◌∷◌, ◌++◌, Option, Some, is_some, length, AllPairs, Contains, ◌↔◌, IsTrue, ◌==◌, if◌then◌else◌}
use Rattle.std.proofs.Common.{refl, sym, ap, ◌∙◌, subst, inl, inr, arith, eqb-true, get_or}
use Rattle.std.proofs.lemmas.Bool.{cases_lt, eqb-false}
use Rattle.std.proofs.Math.Nat.{eq-or-lt_of_le}
use Rattle.std.proofs.lemmas.List.{get_or_default}
use Rattle.std.proofs.lemmas.List.Elements.{Contains-get_or}
use Rattle.std.specs.declared.cmp.Ordering.{Ordering}
use Rattle.std.specs.declared.cmp.Ordering.TheVariants.{Less}
use Rattle.order_merge.specs.DeletedKeys.{KeyedList, Lives, HasDistinctKeys, FitsDeleted, IsRewritten, wanted_at, Names, IsMergeOfKeyed}

-- a list of numbers has a number or hasn't
in_or_out : (xs : List ℕ) (k : ℕ) → Contains xs k ⊎ (Contains xs k → ⊥)
in_or_out [] k = inr (λ c. omega (arith, c.1))
in_or_out (x ∷ xs) k = go (x == k) refl (in_or_out xs k)
  where
    go : (b : Bool) → (x == k) ≡ b → Contains xs k ⊎ (Contains xs k → ⊥) → Contains (x ∷ xs) k ⊎ (Contains (x ∷ xs) k → ⊥)
    go true b rest = inl (0, omega arith, eqb-true x k b)
    go false b (inl c) = inl (suc c.0, omega (arith, c.1), c.2)
    go false b (inr none) = inr away
      where
        away : Contains (x ∷ xs) k → ⊥
        away (zero, h, is) = eqb-false x k b is
        away (suc i, h, is) = none (i, omega (arith, h), is)

module _ {E : Type 0} (key : E → ℕ) where
  named_or_not : (lists : List (KeyedList E)) (k : ℕ) → Names lists k ⊎ (Names lists k → ⊥)
  named_or_not [] k = inr (λ x. x)
  named_or_not (l ∷ older) k = go (in_or_out l.deleted k) (named_or_not older k)
    where
      go : Contains l.deleted k ⊎ (Contains l.deleted k → ⊥) → Names older k ⊎ (Names older k → ⊥) → Names (l ∷ older) k ⊎ (Names (l ∷ older) k → ⊥)
      go (inl c) rest = inl (inl c)
      go (inr none) (inl n) = inl (inr n)
      go (inr none) (inr never) = inr away
        where
          away : Names (l ∷ older) k → ⊥
          away (inl c) = none c
          away (inr n) = never n

  -- entries of one list that have one key are the same
  same_entry : (es : List E) → AllPairs (λ d e. key d ≢ key e) es → (d e : E) → Contains es d → Contains es e → key d ≡ key e → d ≡ e
  same_entry es apart d e (i, in_i, at_i) (j, in_j, at_j) same = go (cases_lt i j)
    where
      at_j_too : get_or es j d ≡ e
      at_j_too = get_or_default es j d e in_j ∙ at_j

      back : (j ≡ i) ⊎ (j < i) → d ≡ e
      back (inl one) = sym at_i ∙ ap (λ n. get_or es n d) (sym one) ∙ at_j_too
      back (inr lt) = absurd (apart j i d lt in_i (ap key at_j_too ∙ sym same ∙ sym (ap key at_i)))

      go : (i < j) ⊎ (j ≤ i) → d ≡ e
      go (inl lt) = absurd (apart i j d lt in_j (ap key at_i ∙ same ∙ sym (ap key at_j_too)))
      go (inr le) = back (eq-or-lt_of_le le)

  -- a write of a key
  module _ (l new_list : KeyedList E) (older : List (KeyedList E)) (wanted : ℕ → Option E) (k : ℕ) (new : Option E)
      (fits : FitsDeleted key (l ∷ older) wanted) (w : IsRewritten key k (is_some (wanted k)) new l new_list) (of_key : (e : E) → new ≡ Some e → key e ≡ k) where
    -- where an entry of the key lived, the key had one
    had : (e : E) → key e ≡ k → Lives key (l ∷ older) e → is_some (wanted k) ≡ true
    had e same lives = ap is_some (sym (ap wanted same) ∙ (fits.living e).0 lives)

    only_new : (e : E) → key e ≡ k → Lives key (new_list ∷ older) e → new ≡ Some e
    only_new e same (inl c) = go ((w.entries e).0 c)
      where
        go : (new ≡ Some e) ⊎ (Contains l.entries e × (IsTrue (is_some (wanted k)) → key e ≢ k)) → new ≡ Some e
        go (inl is) = is
        go (inr (old, away)) = absurd (away (had e same (inl old)) same)
    only_new e same (inr (unnamed, lives)) =
        absurd (unnamed ((w.deleted (key e)).1 (inl (had e same (inr ((λ c. unnamed ((w.deleted (key e)).1 (inr c))), lives)), same))))

    others_forth : (e : E) → key e ≢ k → Lives key (new_list ∷ older) e → Lives key (l ∷ older) e
    others_forth e other (inl c) = go ((w.entries e).0 c)
      where
        go : (new ≡ Some e) ⊎ (Contains l.entries e × (IsTrue (is_some (wanted k)) → key e ≢ k)) → Lives key (l ∷ older) e
        go (inl is) = absurd (other (of_key e is))
        go (inr (old, away)) = inl old
    others_forth e other (inr (unnamed, lives)) = inr ((λ c. unnamed ((w.deleted (key e)).1 (inr c))), lives)

    others_back : (e : E) → key e ≢ k → Lives key (l ∷ older) e → Lives key (new_list ∷ older) e
    others_back e other (inl c) = inl ((w.entries e).1 (inr (c, λ _. other)))
    others_back e other (inr (unnamed, lives)) = inr (away, lives)
      where
        away : Contains new_list.deleted (key e) → ⊥
        away c = go ((w.deleted (key e)).0 c)
          where
            go : (IsTrue (is_some (wanted k)) × (key e ≡ k)) ⊎ Contains l.deleted (key e) → ⊥
            go (inl (_, same)) = other same
            go (inr d) = unnamed d

    living : (e : E) → Lives key (new_list ∷ older) e ↔ (wanted_at wanted k new (key e) ≡ Some e)
    living e = go (key e == k) refl
      where
        go : (b : Bool) → (key e == k) ≡ b → Lives key (new_list ∷ older) e ↔ ((if b then new else wanted (key e)) ≡ Some e)
        go true b = ((λ lives. only_new e (eqb-true (key e) k b) lives), (λ is. inl ((w.entries e).1 (inl is))))
        go false b = ((λ lives. (fits.living e).0 (others_forth e (eqb-false (key e) k b) lives)), (λ is. others_back e (eqb-false (key e) k b) ((fits.living e).1 is)))

    names_older : (d e : E) → Contains new_list.entries d → Lives key older e → key d ≡ key e → Contains new_list.deleted (key e)
    names_older d e c lives same = go ((w.entries d).0 c)
      where
        named : key e ≡ k → Contains l.deleted (key e) ⊎ (Contains l.deleted (key e) → ⊥) → Contains new_list.deleted (key e)
        named of (inl is) = (w.deleted (key e)).1 (inr is)
        named of (inr none) = (w.deleted (key e)).1 (inl (had e of (inr (none, lives)), of))

        go : (new ≡ Some d) ⊎ (Contains l.entries d × (IsTrue (is_some (wanted k)) → key d ≢ k)) → Contains new_list.deleted (key e)
        go (inl is) = named (sym same ∙ of_key d is) (in_or_out l.deleted (key e))
        go (inr (old, away)) = (w.deleted (key e)).1 (inr (fits.distinct.1 d e old lives same))

    pub FitsDeleted-rewritten : FitsDeleted key (new_list ∷ older) (wanted_at wanted k new)
    FitsDeleted-rewritten = record { living = living; distinct = (w.once, names_older, fits.distinct.2) }

  -- what lives among joined lists
  Lives-append : (xs ys : List (KeyedList E)) (e : E) → Lives key (xs ++ ys) e ↔ (Lives key xs e ⊎ ((Names xs (key e) → ⊥) × Lives key ys e))
  Lives-append [] ys e = ((λ lives. inr ((λ n. n), lives)), back)
    where
      back : ⊥ ⊎ ((⊥ → ⊥) × Lives key ys e) → Lives key ys e
      back (inl never) = absurd never
      back (inr (_, lives)) = lives
  Lives-append (l ∷ xs) ys e = (forth (Lives-append xs ys e), back (Lives-append xs ys e))
    where
      forth : (Lives key (xs ++ ys) e ↔ (Lives key xs e ⊎ ((Names xs (key e) → ⊥) × Lives key ys e)))
          → Lives key (l ∷ (xs ++ ys)) e → Lives key (l ∷ xs) e ⊎ ((Names (l ∷ xs) (key e) → ⊥) × Lives key ys e)
      forth rest (inl c) = inl (inl c)
      forth rest (inr (unnamed, lives)) = go (rest.0 lives)
        where
          go : Lives key xs e ⊎ ((Names xs (key e) → ⊥) × Lives key ys e) → Lives key (l ∷ xs) e ⊎ ((Names (l ∷ xs) (key e) → ⊥) × Lives key ys e)
          go (inl x) = inl (inr (unnamed, x))
          go (inr (never, y)) = inr (away, y)
            where
              away : Names (l ∷ xs) (key e) → ⊥
              away (inl c) = unnamed c
              away (inr n) = never n

      back : (Lives key (xs ++ ys) e ↔ (Lives key xs e ⊎ ((Names xs (key e) → ⊥) × Lives key ys e)))
          → Lives key (l ∷ xs) e ⊎ ((Names (l ∷ xs) (key e) → ⊥) × Lives key ys e) → Lives key (l ∷ (xs ++ ys)) e
      back rest (inl (inl c)) = inl c
      back rest (inl (inr (unnamed, x))) = inr (unnamed, rest.1 (inl x))
      back rest (inr (never, y)) = inr ((λ c. never (inl c)), rest.1 (inr ((λ n. never (inr n)), y)))

  -- older lists in which the same entries live may stand behind newer ones
  Lives-behind : (before xs ys : List (KeyedList E)) → ((e : E) → Lives key xs e ↔ Lives key ys e) → (e : E) → Lives key (before ++ xs) e ↔ Lives key (before ++ ys) e
  Lives-behind [] xs ys same e = same e
  Lives-behind (l ∷ before) xs ys same e = (go (λ x. (Lives-behind before xs ys same e).0 x), go' (λ x. (Lives-behind before xs ys same e).1 x))
    where
      go : (Lives key (before ++ xs) e → Lives key (before ++ ys) e) → Lives key (l ∷ (before ++ xs)) e → Lives key (l ∷ (before ++ ys)) e
      go f (inl c) = inl c
      go f (inr (unnamed, lives)) = inr (unnamed, f lives)

      go' : (Lives key (before ++ ys) e → Lives key (before ++ xs) e) → Lives key (l ∷ (before ++ ys)) e → Lives key (l ∷ (before ++ xs)) e
      go' f (inl c) = inl c
      go' f (inr (unnamed, lives)) = inr (unnamed, f lives)

  distinct-behind : (before xs ys : List (KeyedList E)) → ((e : E) → Lives key xs e ↔ Lives key ys e) → HasDistinctKeys key (before ++ xs) → HasDistinctKeys key ys → HasDistinctKeys key (before ++ ys)
  distinct-behind [] xs ys same old new = new
  distinct-behind (l ∷ before) xs ys same old new =
      (old.0, (λ d e c lives k. old.1 d e c ((Lives-behind before xs ys same e).1 lives) k), distinct-behind before xs ys same old.2 new)

  distinct-rest : (before xs : List (KeyedList E)) → HasDistinctKeys key (before ++ xs) → HasDistinctKeys key xs
  distinct-rest [] xs h = h
  distinct-rest (l ∷ before) xs h = distinct-rest before xs h.2

  -- among lists with distinct keys, entries that live and have one key are the same
  same_living : (lists : List (KeyedList E)) → HasDistinctKeys key lists → (d e : E) → Lives key lists d → Lives key lists e → key d ≡ key e → d ≡ e
  same_living [] h d e never lives same = absurd never
  same_living (l ∷ older) h d e (inl c) (inl x) same = same_entry l.entries h.0 d e c x same
  same_living (l ∷ older) h d e (inl c) (inr (unnamed, x)) same = absurd (unnamed (h.1 d e c x same))
  same_living (l ∷ older) h d e (inr (unnamed, y)) (inl x) same = absurd (unnamed (subst (Contains l.deleted) refl (h.1 e d x y (sym same))))
  same_living (l ∷ older) h d e (inr (_, y)) (inr (_, x)) same = same_living older h.2 d e y x same

  -- the key of an entry that lives among newer lists and of one that lives behind them is named
  named_among : (among after : List (KeyedList E)) → HasDistinctKeys key (among ++ after) → (d e : E) → Lives key among d → Lives key after e → key d ≡ key e → Names among (key e)
  named_among [] after h d e never lives same = absurd never
  named_among (l ∷ among) after h d e (inl c) lives same = go (named_or_not among (key e))
    where
      go : Names among (key e) ⊎ (Names among (key e) → ⊥) → Names (l ∷ among) (key e)
      go (inl n) = inr n
      go (inr never) = inl (h.1 d e c ((Lives-append among after e).1 (inr (never, lives))) same)
  named_among (l ∷ among) after h d e (inr (_, y)) lives same = inr (named_among among after h.2 d e y lives same)

  module _ (order : E → E → Ordering) (apart : (e : E) → order e e ≢ Less) where
    merged_once : (among : List (KeyedList E)) (oldest : Bool) (merged : KeyedList E) → IsMergeOfKeyed key order among oldest merged → HasDistinctKeys key among → AllPairs (λ d e. key d ≢ key e) merged.entries
    merged_once among oldest merged m h i j d lt in_j same =
        let one : get_or merged.entries i d ≡ get_or merged.entries j d =
        same_living among h (get_or merged.entries i d) (get_or merged.entries j d)
        ((m.living (get_or merged.entries i d)).0 (Contains-get_or merged.entries i d (omega (arith, lt, in_j))))
        ((m.living (get_or merged.entries j d)).0 (Contains-get_or merged.entries j d in_j)) same in
        apart (get_or merged.entries j d) (subst (λ x. order x (get_or merged.entries j d) ≡ Less) one (m.sorted i j d lt in_j))

    distinct-front : (among after : List (KeyedList E)) → HasDistinctKeys key (among ++ after) → HasDistinctKeys key among
    distinct-front [] after h = tt
    distinct-front (l ∷ among) after h =
        (h.0, (λ d e c lives same. h.1 d e c ((Lives-append among after e).1 (inl lives)) same), distinct-front among after h.2)

    -- the merge in the place of the lists
    module _ (before among after : List (KeyedList E)) (merged : KeyedList E) (wanted : ℕ → Option E) (m : IsMergeOfKeyed key order among false merged)
        (fits : FitsDeleted key (before ++ (among ++ after)) wanted) where
      inner : HasDistinctKeys key (among ++ after)
      inner = distinct-rest before (among ++ after) fits.distinct

      same_lives : (e : E) → Lives key (among ++ after) e ↔ Lives key (merged ∷ after) e
      same_lives e = ((λ lives. forth ((Lives-append among after e).0 lives)), back)
        where
          forth : Lives key among e ⊎ ((Names among (key e) → ⊥) × Lives key after e) → Lives key (merged ∷ after) e
          forth (inl x) = inl ((m.living e).1 x)
          forth (inr (never, y)) = inr ((λ c. never ((m.deleted (key e)).0 c).1), y)

          back : Lives key (merged ∷ after) e → Lives key (among ++ after) e
          back (inl c) = (Lives-append among after e).1 (inl ((m.living e).0 c))
          back (inr (unnamed, y)) = (Lives-append among after e).1 (inr ((λ n. unnamed ((m.deleted (key e)).1 (refl, n))), y))

      merged_distinct : HasDistinctKeys key (merged ∷ after)
      merged_distinct = (
        merged_once among false merged m (distinct-front among after inner),
        (λ d e c lives same. (m.deleted (key e)).1 (refl, named_among among after inner d e ((m.living d).0 c) lives same)),
        distinct-rest among after inner,
      )

      pub FitsDeleted-merge : FitsDeleted key (before ++ (merged ∷ after)) wanted
      FitsDeleted-merge = record {
        living = λ e. (
          (λ lives. (fits.living e).0 ((Lives-behind before (among ++ after) (merged ∷ after) same_lives e).1 lives)),
          (λ is. (Lives-behind before (among ++ after) (merged ∷ after) same_lives e).0 ((fits.living e).1 is)),
        );
        distinct = distinct-behind before (among ++ after) (merged ∷ after) same_lives fits.distinct merged_distinct;
      }

    -- with the oldest list among them
    module _ (before among : List (KeyedList E)) (merged : KeyedList E) (wanted : ℕ → Option E) (m : IsMergeOfKeyed key order among true merged)
        (fits : FitsDeleted key (before ++ among) wanted) where
      oldest_lives : (e : E) → Lives key among e ↔ Lives key (merged ∷ []) e
      oldest_lives e = ((λ lives. inl ((m.living e).1 lives)), back)
        where
          back : Lives key (merged ∷ []) e → Lives key among e
          back (inl c) = (m.living e).0 c
          back (inr (_, never)) = absurd never

      pub FitsDeleted-merge_oldest : FitsDeleted key (before ++ (merged ∷ [])) wanted
      FitsDeleted-merge_oldest = record {
        living = λ e. (
          (λ lives. (fits.living e).0 ((Lives-behind before among (merged ∷ []) oldest_lives e).1 lives)),
          (λ is. (Lives-behind before among (merged ∷ []) oldest_lives e).0 ((fits.living e).1 is)),
        );
        distinct = distinct-behind before among (merged ∷ []) oldest_lives fits.distinct
            (merged_once among true merged m (distinct-rest before among fits.distinct), (λ d e c never same. absurd never), tt);
      }

  -- a key that stays as it is
  pub FitsDeleted-stays : (lists : List (KeyedList E)) (wanted : ℕ → Option E) (k : ℕ) → FitsDeleted key lists wanted → FitsDeleted key lists (wanted_at wanted k (wanted k))
  FitsDeleted-stays lists wanted k fits = record { living = λ e. go e (key e == k) refl; distinct = fits.distinct }
    where
      go : (e : E) (b : Bool) → (key e == k) ≡ b → Lives key lists e ↔ ((if b then wanted k else wanted (key e)) ≡ Some e)
      go e true b =
          let same : wanted (key e) ≡ wanted k = ap wanted (eqb-true (key e) k b) in
          ((λ lives. sym same ∙ (fits.living e).0 lives), (λ is. (fits.living e).1 (same ∙ is)))
      go e false b = fits.living e

  -- behind an empty active list the frozen one says what it said
  pub FitsDeleted-frozen : (active empty : KeyedList E) (disk : List (KeyedList E)) (wanted : ℕ → Option E) → empty.entries ≡ [] → empty.deleted ≡ []
      → FitsDeleted key (active ∷ disk) wanted → FitsDeleted key (empty ∷ active ∷ disk) wanted
  FitsDeleted-frozen active empty disk wanted no_entry no_key fits = record {
    living = λ e. ((λ lives. (fits.living e).0 (forth e lives)), (λ is. inr (unnamed e, (fits.living e).1 is)));
    distinct = ((λ i j d lt h. absurd (omega (arith, h, ap length no_entry))), (λ d e c. absurd (none d c)), fits.distinct);
  }
    where
      none : (e : E) → Contains empty.entries e → ⊥
      none e c = omega (arith, c.1, ap length no_entry)

      unnamed : (e : E) → Contains empty.deleted (key e) → ⊥
      unnamed e c = omega (arith, c.1, ap length no_key)

      forth : (e : E) → Lives key (empty ∷ active ∷ disk) e → Lives key (active ∷ disk) e
      forth e (inl c) = absurd (none e c)
      forth e (inr (_, lives)) = lives
