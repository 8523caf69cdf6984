-- The gaps between extents, walked from the left, are the free runs.
use Rattle.std.proofs.Common.{◌≡◌, ℕ, ◌+◌, length, get_or, drop, ◌-◌, ◌<◌, ◌≤◌, Bool, true, false, leb, cond, max, List, [], ◌∷◌, Option, Some, None, refl, sym, ◌∙◌, ap, subst, arith, ⊎_elim}
use Rattle.std.specs.Prelude.{MatchOption}
use Rattle.std.proofs.lemmas.List.{drop_more, drop_all}
use Rattle.std.proofs.lemmas.Bool.{cases_lt, lt-leb, le-ltb, lt-ltb, le-leb, and_left, and_right, and_from, or_from, or_parts, true≢false}
use Rattle.space_map.specs.declared.space.Extent.{Extent}
use Rattle.space_map.specs.declared.space.TheConstants.{FIRST_DATA_PAGE}
use Rattle.space_map.specs.Space.{Space, end_of, is_in, is_reserved, IsFreeIn, IsFreeRun, IsFirstFit}
use Rattle.space_map.specs.Calls.{AreApart}

pub is_in-below : (page : ℕ) (e : Extent) → page < e.first → is_in page e ≡ false
is_in-below page e h = and_left _ _ (lt-leb e.first page h)

pub is_in-above : (page : ℕ) (e : Extent) → end_of e ≤ page → is_in page e ≡ false
is_in-above page e h = and_right _ _ (le-ltb page (end_of e) h)

pub is_in-inside : (page : ℕ) (e : Extent) → e.first ≤ page → page < end_of e → is_in page e ≡ true
is_in-inside page e low high = and_from _ _ (le-leb e.first page low) (lt-ltb page (end_of e) high)

-- nothing is reserved before the first extent
pub is_reserved-below : (low end : ℕ) (es : List Extent) → AreApart low end es → (page : ℕ) → page < low → is_reserved es page ≡ false
is_reserved-below low end [] apart page h = refl
is_reserved-below low end (e ∷ es) apart page h =
    or_from _ _ (is_in-below page e (omega arith)) (is_reserved-below (end_of e) end es apart.2 page (omega arith))

pub apart-end : (low end : ℕ) (es : List Extent) → AreApart low end es → low ≤ end
apart-end low end [] apart = apart
apart-end low end (e ∷ es) apart = let rest = apart-end (end_of e) end es apart.2 in omega arith

pub apart-lower : (lower low end : ℕ) (es : List Extent) → lower ≤ low → AreApart low end es → AreApart lower end es
apart-lower lower low end [] h apart = omega arith
apart-lower lower low end (e ∷ es) h apart = (omega arith, apart.1, apart.2)

-- a free page is in no extent
pub free-outside : (page : ℕ) (e : Extent) (es : List Extent) → is_reserved (e ∷ es) page ≡ false → e.first ≤ page → page < end_of e → ⊥
free-outside page e es free low high = true≢false (sym (is_in-inside page e low high) ∙ (or_parts (is_in page e) (is_reserved es page) free).0)

-- the run before the first extent
pub free-before : (low end : ℕ) (e : Extent) (es : List Extent) (count : ℕ) → AreApart low end (e ∷ es) → low + count ≤ e.first
    → IsFreeIn low end (e ∷ es) low count
free-before low end e es count apart fits =
    let rest = apart-end (end_of e) end es apart.2 in
    record {
      above = omega arith;
      within = omega arith;
      free = λ page a b. or_from _ _ (is_in-below page e (omega arith)) (is_reserved-below (end_of e) end es apart.2 page (omega arith));
    }

-- a run behind the first extent
pub free-behind : (low end : ℕ) (e : Extent) (es : List Extent) (from count : ℕ) → AreApart low end (e ∷ es)
    → IsFreeIn (end_of e) end es from count → IsFreeIn low end (e ∷ es) from count
free-behind low end e es from count apart run = record {
  above = let a = run.above in omega arith;
  within = run.within;
  free = λ page a b. or_from _ _ (is_in-above page e (let c = run.above in omega arith)) (run.free page a b);
}

-- and a run that doesn't fit before the first extent is one of those
pub behind-free : (low end : ℕ) (e : Extent) (es : List Extent) (from count : ℕ) → AreApart low end (e ∷ es) → 1 ≤ count
    → e.first < low + count → IsFreeIn low end (e ∷ es) from count → IsFreeIn (end_of e) end es from count
behind-free low end e es from count apart some long run = record {
  above =
      ⊎_elim
      (λ before. ⊎_elim
      (λ left. absurd (free-outside e.first e es (run.free e.first (let a = run.above in omega arith) (let a = run.above in omega arith)) (omega arith) (omega arith)))
      (λ right. absurd (free-outside from e es (run.free from (omega arith) (omega arith)) right before))
      (cases_lt from e.first))
      (λ behind. behind)
      (cases_lt from (end_of e));
  within = run.within;
  free = λ page a b. (or_parts (is_in page e) (is_reserved es page) (run.free page a b)).1;
}

-- where the first gap of so many pages begins
abbrev pub gap_from : (low end count : ℕ) → List Extent → Option ℕ
gap_from low end count [] = cond (leb count (end - low)) (Some low) None
gap_from low end count (e ∷ es) = cond (leb count (e.first - low)) (Some low) (gap_from (end_of e) end count es)

abbrev pub IsGap : (low end count : ℕ) → List Extent → Option ℕ → Type 0
IsGap low end count es found =
    MatchOption found ((from : ℕ) → IsFreeIn low end es from count → ⊥)
    (λ from. IsFreeIn low end es from count × ((before : ℕ) → before < from → IsFreeIn low end es before count → ⊥))

gap-behind : (low end : ℕ) (e : Extent) (es : List Extent) (count : ℕ) → AreApart low end (e ∷ es) → 1 ≤ count → e.first < low + count
    → (found : Option ℕ) → IsGap (end_of e) end count es found → IsGap low end count (e ∷ es) found
gap-behind low end e es count apart some long None h = λ from run. h from (behind-free low end e es from count apart some long run)
gap-behind low end e es count apart some long (Some at) h =
    (free-behind low end e es at count apart h.0, λ before less run. h.1 before less (behind-free low end e es before count apart some long run))

pub gap_from-first : (low end count : ℕ) (es : List Extent) → AreApart low end es → 1 ≤ count → IsGap low end count es (gap_from low end count es)
gap_from-first low end count [] apart some =
    let P : Option ℕ → Type 0 = λ found. IsGap low end count [] found in
    ⊎_elim
    (λ short. subst P (sym (ap (λ (b : Bool). cond b (Some low) None) (lt-leb count (end - low) short)))
    (λ from run. let a = run.above in let b = run.within in absurd (omega arith)))
    (λ fits. subst P (sym (ap (λ (b : Bool). cond b (Some low) None) (le-leb count (end - low) fits)))
    (record { above = omega arith; within = omega arith; free = λ page a b. refl }, λ before less run. let a = run.above in absurd (omega arith)))
    (cases_lt (end - low) count)
gap_from-first low end count (e ∷ es) apart some =
    let P : Option ℕ → Type 0 = λ found. IsGap low end count (e ∷ es) found in
    let rest : Option ℕ = gap_from (end_of e) end count es in
    ⊎_elim
    (λ short. subst P (sym (ap (λ (b : Bool). cond b (Some low) rest) (lt-leb count (e.first - low) short)))
    (gap-behind low end e es count apart some (omega arith) rest (gap_from-first (end_of e) end count es apart.2 some)))
    (λ fits. subst P (sym (ap (λ (b : Bool). cond b (Some low) rest) (le-leb count (e.first - low) fits)))
    (free-before low end e es count apart (omega arith), λ before less run. let a = run.above in absurd (omega arith)))
    (cases_lt (e.first - low) count)

-- the pages of the longest gap
abbrev pub longest_from : (low end : ℕ) → List Extent → ℕ
longest_from low end [] = end - low
longest_from low end (e ∷ es) = max (e.first - low) (longest_from (end_of e) end es)

pub longest_from-found : (low end : ℕ) (es : List Extent) → AreApart low end es → (from : ℕ) × IsFreeIn low end es from (longest_from low end es)
longest_from-found low end [] apart = (low, record { above = omega arith; within = omega arith; free = λ page a b. refl })
longest_from-found low end (e ∷ es) apart =
    let P : ℕ → Type 0 = λ n. (from : ℕ) × IsFreeIn low end (e ∷ es) from n in
    let rest : ℕ = longest_from (end_of e) end es in
    let tail = longest_from-found (end_of e) end es apart.2 in
    ⊎_elim
    (λ less. let is : rest ≡ max (e.first - low) rest = omega arith in
    subst P is (tail.0, free-behind low end e es tail.0 rest apart tail.1))
    (λ more. let is : e.first - low ≡ max (e.first - low) rest = omega arith in
    subst P is (low, free-before low end e es (e.first - low) apart (omega arith)))
    (cases_lt (e.first - low) rest)

pub longest_from-longest : (low end : ℕ) (es : List Extent) → AreApart low end es → (from count : ℕ) → IsFreeIn low end es from count
    → count ≤ longest_from low end es
longest_from-longest low end [] apart from count run = let a = run.above in let b = run.within in omega arith
longest_from-longest low end (e ∷ es) apart from count run =
    ⊎_elim
    (λ long. let rest = longest_from-longest (end_of e) end es apart.2 from count (behind-free low end e es from count apart (omega arith) (omega arith) run) in omega arith)
    (λ short. omega arith)
    (cases_lt (e.first - low) count)

-- the walk at an extent of the list
pub walk-apart : (low end : ℕ) (xs : List Extent) (i : ℕ) (d : Extent) → i < length xs → AreApart low end (drop i xs)
    → AreApart low end (get_or xs i d ∷ drop (i + 1) xs)
walk-apart low end xs i d h apart = let P : List Extent → Type 0 = λ ys. AreApart low end ys in subst P (drop_more xs i d h) apart

pub walk-gap : (whole : Option ℕ) (low end count : ℕ) (xs : List Extent) (i : ℕ) (d : Extent) → i < length xs
    → gap_from low end count (drop i xs) ≡ whole → gap_from low end count (get_or xs i d ∷ drop (i + 1) xs) ≡ whole
walk-gap whole low end count xs i d h is =
    let P : List Extent → Type 0 = λ ys. gap_from low end count ys ≡ whole in subst P (drop_more xs i d h) is

-- and behind the last one
pub end-gap : (whole : Option ℕ) (low end count : ℕ) (xs : List Extent) (i : ℕ) → length xs ≤ i → gap_from low end count (drop i xs) ≡ whole
    → gap_from low end count [] ≡ whole
end-gap whole low end count xs i h is = let P : List Extent → Type 0 = λ ys. gap_from low end count ys ≡ whole in subst P (drop_all i xs h) is

pub end-longest : (whole longest low end : ℕ) (xs : List Extent) (i : ℕ) → length xs ≤ i → max longest (longest_from low end (drop i xs)) ≡ whole
    → max longest (end - low) ≡ whole
end-longest whole longest low end xs i h is =
    let P : List Extent → Type 0 = λ ys. max longest (longest_from low end ys) ≡ whole in subst P (drop_all i xs h) is

-- the walk finds the gap before an extent, or goes on behind it
pub gap-found : (whole : Option ℕ) (from end count : ℕ) (x : Extent) (es : List Extent) → gap_from from end count (x ∷ es) ≡ whole
    → count ≤ x.first - from → Some from ≡ whole
gap-found whole from end count x es is fits =
    sym (ap (λ (b : Bool). cond b (Some from) (gap_from (end_of x) end count es)) (le-leb count (x.first - from) fits)) ∙ is

pub gap-goes_on : (whole : Option ℕ) (from end count : ℕ) (x : Extent) (es : List Extent) → gap_from from end count (x ∷ es) ≡ whole
    → x.first - from < count → gap_from (end_of x) end count es ≡ whole
gap-goes_on whole from end count x es is short =
    sym (ap (λ (b : Bool). cond b (Some from) (gap_from (end_of x) end count es)) (lt-leb count (x.first - from) short)) ∙ is

-- or ends behind the last one
pub gap-last : (whole : Option ℕ) (from end count : ℕ) → gap_from from end count [] ≡ whole → count ≤ end - from → Some from ≡ whole
gap-last whole from end count is fits = sym (ap (λ (b : Bool). cond b (Some from) None) (le-leb count (end - from) fits)) ∙ is

pub gap-none : (whole : Option ℕ) (from end count : ℕ) → gap_from from end count [] ≡ whole → end - from < count → None ≡ whole
gap-none whole from end count is short = sym (ap (λ (b : Bool). cond b (Some from) None) (lt-leb count (end - from) short)) ∙ is

-- a part of a free run
pub shorter : (low end : ℕ) (es : List Extent) (from long short : ℕ) → short ≤ long → IsFreeIn low end es from long → IsFreeIn low end es from short
shorter low end es from long short h run = record {
  above = run.above;
  within = let w = run.within in omega arith;
  free = λ page a b. run.free page a (omega arith);
}

-- of a whole map
pub IsFirstFit-from_gap : (space : Space) (count : ℕ) (found : Option ℕ) → IsGap FIRST_DATA_PAGE space.pages count space.reserved found
    → MatchOption found ((from : ℕ) → ¬ (IsFreeRun space from count)) (IsFirstFit space count)
IsFirstFit-from_gap space count None gap = gap
IsFirstFit-from_gap space count (Some at) gap = record { free = gap.0; first = gap.1 }
