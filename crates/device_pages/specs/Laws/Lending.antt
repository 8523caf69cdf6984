-- Laws of lent pages and of what is on them. No public contract needs them.
use Rattle.std.proofs.Common.{◌≡◌, ◌⊎◌, inl, inr, ⊎_elim, ℕ, zero, suc, ◌+◌, ◌*◌, ◌/◌, ◌<◌, ◌≤◌, ◌^◌, Bool, true, false, List, [], ◌∷◌, length, Some, None, refl, ◌∙◌, ap, arith}
use Rattle.std.proofs.lemmas.Bool.Decides.{nat_tests}
use Rattle.std.proofs.lemmas.Option.{same_Some}
use Rattle.std.specs.Prelude.{IsTrue, All, ◌||◌, ◌&&◌, not, if◌then◌else◌}
use Rattle.space_map.specs.declared.space.Extent.{Extent}
use Rattle.space_map.specs.Space.{end_of, is_in}
use Rattle.dev_model.specs.Story.{Call, Read, Write, Sync, FailedWrite, FailedCall, Past, Calls, Story, with_call, after, bytes_of, IsInside, IsOutside, IsReadable, IsCalmAt, IsSpared}
use Rattle.dev_model.specs.Writes.{AreSpared}
use Rattle.dev_model.specs.Laws.Images.{IsReadable-settled}
use Rattle.dev_model.specs.Laws.Frame.{bytes_of-spared}
use Rattle.dev_model.specs.Laws.Ranges.{part-same}
use Rattle.device_pages.specs.declared.lending.TheConstants.{PAGE_BYTES}
use Rattle.device_pages.specs.Lending.{is_inside, is_readable, each_place, are_readable, page_bytes, contents_of}
use Rattle.device_pages.specs.Lent.{is_lent}
use Rattle.device_pages.specs.LentPlaces.{IsLentPlace}

-- a lent page lies below where all extents end
pub lent_below : (end : ℕ) (extents : List Extent) (page : ℕ) → All (λ e. end_of e ≤ end) extents → IsTrue (is_lent extents page) → page < end
lent_below end [] page by lent = cc
lent_below end (e ∷ extents) page by lent =
    let first : end_of e ≤ end = by 0 e (omega arith) in
    by_test (is_in page e) refl first (λ more. lent_below end extents page (λ k d h. by (suc k) d (omega (arith, h))) more) lent
  where
    by_test : (test : Bool) → is_in page e ≡ test → end_of e ≤ end → (IsTrue (is_lent extents page) → page < end) → IsTrue (test || is_lent extents page) → page < end
    by_test true inside first rest lent = grind (arith, nat_tests)
    by_test false inside first rest lent = rest lent

-- numbers of lent pages fit their type
pub lent_fits : (pages : ℕ) (extents : List Extent) (page : ℕ) → All (λ e. end_of e ≤ pages) extents → pages < 2 ^ 32 → IsTrue (is_lent extents page) → page < 2 ^ 32
lent_fits pages extents page on_device fits lent = let below : page < pages = lent_below pages extents page on_device lent in omega arith

-- a lent page is on the device
pub lent_within : (pages : ℕ) (extents : List Extent) (page at count : ℕ) → All (λ e. end_of e ≤ pages) extents → IsTrue (is_lent extents page) → at ≡ page * PAGE_BYTES → count ≡ PAGE_BYTES → at + count ≤ pages * PAGE_BYTES
lent_within pages extents page at count on_device lent place size = let below : page < pages = lent_below pages extents page on_device lent in omega (arith, place, size)

inside_is : (at count i : ℕ) → is_inside at count i ≡ true → IsInside at count i
inside_is at count i is = record { from = grind (arith, nat_tests); to = grind (arith, nat_tests) }

is_inside-is : (at count i : ℕ) → IsInside at count i → is_inside at count i ≡ true
is_inside-is at count i inside = let from : at ≤ i = inside.from in let to : i < at + count = inside.to in grind (arith, nat_tests)

outside_is : (at count i : ℕ) → is_inside at count i ≡ false → IsOutside at count i
outside_is at count i is = grind (arith, nat_tests)

is_inside-outside : (at count i : ℕ) → IsOutside at count i → is_inside at count i ≡ false
is_inside-outside at count i (inl below) = grind (arith, nat_tests)
is_inside-outside at count i (inr above) = grind (arith, nat_tests)

-- the test of a place decides whether it can be read
pub readable_is : (past : Past) (i : ℕ) → is_readable past i ≡ true → IsReadable past i
readable_is [] i is = tt
readable_is (Write at new ∷ past) i is = by_test (is_inside at (length new) i) refl (readable_is past i) is
  where
    by_test : (test : Bool) → is_inside at (length new) i ≡ test → (is_readable past i ≡ true → IsReadable past i) → (test || is_readable past i) ≡ true
        → IsInside at (length new) i ⊎ IsReadable past i
    by_test true inside rest is = inl (inside_is at (length new) i inside)
    by_test false inside rest is = inr (rest is)
readable_is (FailedWrite at new ∷ past) i is = by_test (is_inside at (length new) i) refl (readable_is past i) is
  where
    by_test : (test : Bool) → is_inside at (length new) i ≡ test → (is_readable past i ≡ true → IsReadable past i) → (not test && is_readable past i) ≡ true
        → IsOutside at (length new) i × IsReadable past i
    by_test true inside rest is = cc
    by_test false inside rest is = (outside_is at (length new) i inside, rest is)
readable_is (Read at count ∷ past) i is = readable_is past i is
readable_is (Sync ∷ past) i is = readable_is past i is
readable_is (FailedCall ∷ past) i is = readable_is past i is

pub is_readable-is : (past : Past) (i : ℕ) → IsReadable past i → is_readable past i ≡ true
is_readable-is [] i is = refl
is_readable-is (Write at new ∷ past) i (inl inside) = ap (λ test. test || is_readable past i) (is_inside-is at (length new) i inside)
is_readable-is (Write at new ∷ past) i (inr earlier) = by_test (is_inside at (length new) i) (is_readable-is past i earlier)
  where
    by_test : (test : Bool) → is_readable past i ≡ true → (test || is_readable past i) ≡ true
    by_test true is = refl
    by_test false is = is
is_readable-is (FailedWrite at new ∷ past) i (outside, earlier) =
    ap (λ test. not test && is_readable past i) (is_inside-outside at (length new) i outside) ∙ is_readable-is past i earlier
is_readable-is (Read at count ∷ past) i is = is_readable-is past i is
is_readable-is (Sync ∷ past) i is = is_readable-is past i is
is_readable-is (FailedCall ∷ past) i is = is_readable-is past i is

both-true : (a b : Bool) → (a && b) ≡ true → (a ≡ true) × (b ≡ true)
both-true true b is = (refl, is)
both-true false b is = cc

or-true : (a b : Bool) → b ≡ true → (a || b) ≡ true
or-true true b is = refl
or-true false b is = is

each_place-at : (at count : ℕ) (test : ℕ → Bool) → each_place at count test ≡ true → (i : ℕ) → at ≤ i → i < at + count → test i ≡ true
unfolding each_place
each_place-at at zero test each i from to = absurd (omega arith)
each_place-at at (suc count) test each i from to =
    let parts : (test at ≡ true) × (each_place (at + 1) count test ≡ true) = both-true (test at) (each_place (at + 1) count test) each in
    first_or_later (at_or_later at i from) parts.0 (λ later. each_place-at (at + 1) count test parts.1 i later (omega arith))
  where
    at_or_later : (at i : ℕ) → at ≤ i → (i ≡ at) ⊎ (at + 1 ≤ i)
    at_or_later zero zero from = inl refl
    at_or_later zero (suc i) from = inr (omega arith)
    at_or_later (suc at) zero from = absurd (omega arith)
    at_or_later (suc at) (suc i) from = ⊎_elim (λ e. inl (ap suc e)) (λ le. inr (omega arith)) (at_or_later at i (omega arith))

    first_or_later : (i ≡ at) ⊎ (at + 1 ≤ i) → test at ≡ true → (at + 1 ≤ i → test i ≡ true) → test i ≡ true
    first_or_later (inl same) first rest = ap test same ∙ first
    first_or_later (inr later) first rest = rest later

each_place-from : (at count : ℕ) (test : ℕ → Bool) → ((i : ℕ) → at ≤ i → i < at + count → test i ≡ true) → each_place at count test ≡ true
unfolding each_place
each_place-from at zero test each = refl
each_place-from at (suc count) test each =
    ap (λ b. b && each_place (at + 1) count test) (each at (omega arith) (omega arith))
    ∙ each_place-from (at + 1) count test (λ i from to. each i (omega arith) (omega arith))

-- where all lent pages are readable, each of their places can be read
pub readable_place : (past : Past) (extents : List Extent) → are_readable past extents ≡ true → (i : ℕ) → IsLentPlace extents i → IsReadable past i
readable_place past [] readable i place = absurd_place place.lent
  where
    absurd_place : IsTrue (is_lent [] place.page) → IsReadable past i
    absurd_place lent = cc
readable_place past (e ∷ extents) readable i place =
    let parts : (each_place (e.first * PAGE_BYTES) (e.pages * PAGE_BYTES) (is_readable past) ≡ true) × (are_readable past extents ≡ true) = both-true _ _ readable in
    by_test (is_in place.page e) refl parts.0 (λ lent. readable_place past extents parts.1 i (record { page = place.page; lent = lent; from = place.from; to = place.to })) place.lent
  where
    by_test : (test : Bool) → is_in place.page e ≡ test → each_place (e.first * PAGE_BYTES) (e.pages * PAGE_BYTES) (is_readable past) ≡ true
        → (IsTrue (is_lent extents place.page) → IsReadable past i) → IsTrue (test || is_lent extents place.page) → IsReadable past i
    by_test true inside each rest lent =
        let low : e.first ≤ place.page = grind (arith, nat_tests) in
        let high : place.page < e.first + e.pages = grind (arith, nat_tests) in
        let from : place.page * PAGE_BYTES ≤ i = place.from in
        let to : i < place.page * PAGE_BYTES + PAGE_BYTES = place.to in
        readable_is past i (each_place-at (e.first * PAGE_BYTES) (e.pages * PAGE_BYTES) (is_readable past) each i (omega (arith, low, from)) (omega (arith, high, to)))
    by_test false inside each rest lent = rest lent

-- where each place of the lent pages can be read, they are readable
pub are_readable-from : (past : Past) (extents : List Extent) → ((i : ℕ) → IsLentPlace extents i → IsReadable past i) → are_readable past extents ≡ true
are_readable-from past [] each = refl
are_readable-from past (e ∷ extents) each =
    let first : each_place (e.first * PAGE_BYTES) (e.pages * PAGE_BYTES) (is_readable past) ≡ true =
    each_place-from (e.first * PAGE_BYTES) (e.pages * PAGE_BYTES) (is_readable past) (λ i from to. is_readable-is past i (each i (in_first i from to))) in
    ap (λ b. b && are_readable past extents) first ∙ are_readable-from past extents (λ i place. each i (in_later i place))
  where
    in_first : (i : ℕ) → e.first * PAGE_BYTES ≤ i → i < e.first * PAGE_BYTES + e.pages * PAGE_BYTES → IsLentPlace (e ∷ extents) i
    in_first i from to =
        let low : e.first ≤ i / PAGE_BYTES = omega (arith, from) in
        let high : i / PAGE_BYTES < e.first + e.pages = omega (arith, to) in
        let here : is_in (i / PAGE_BYTES) e ≡ true = grind (arith, nat_tests) in
        record { page = i / PAGE_BYTES; lent = ap (λ b. b || is_lent extents (i / PAGE_BYTES)) here; from = omega arith; to = omega arith }

    in_later : (i : ℕ) → IsLentPlace extents i → IsLentPlace (e ∷ extents) i
    in_later i place = record { page = place.page; lent = or-true (is_in place.page e) (is_lent extents place.page) place.lent; from = place.from; to = place.to }

-- where each place of the lent pages can be read, what they hold is told
pub contents-readable : (extents : List Extent) (s : Story) → ((i : ℕ) → IsLentPlace extents i → IsReadable s.past i) → contents_of extents (Some s) ≡ Some (page_bytes s)
contents-readable extents s each = ap (λ test. if test then Some (page_bytes s) else None) (are_readable-from s.past extents each)

-- where a crash leaves them as they are read, too
pub contents-settled : (extents : List Extent) (s : Story) → IsCalmAt (IsLentPlace extents) s → contents_of extents (Some s) ≡ Some (page_bytes s)
contents-settled extents s calm = contents-readable extents s (λ i place. IsReadable-settled s.past i (calm i place))

-- what is told can be read, and is what is read
pub contents-told : (extents : List Extent) (s : Story) (contents : ℕ → List ℕ) → contents_of extents (Some s) ≡ Some contents
    → ((i : ℕ) → IsLentPlace extents i → IsReadable s.past i) × (page_bytes s ≡ contents)
contents-told extents s contents told = by_test (are_readable s.past extents) refl told
  where
    by_test : (test : Bool) → are_readable s.past extents ≡ test → (if test then Some (page_bytes s) else None) ≡ Some contents
        → ((i : ℕ) → IsLentPlace extents i → IsReadable s.past i) × (page_bytes s ≡ contents)
    by_test true is told = (readable_place s.past extents is, same_Some _ _ told)
    by_test false is told = cc

-- what can't be read isn't told
pub contents-open : (extents : List Extent) (s : Story) (i : ℕ) → IsLentPlace extents i → (IsReadable s.past i → ⊥) → contents_of extents (Some s) ≡ None
contents-open extents s i place unreadable = by_test (are_readable s.past extents) refl
  where
    by_test : (test : Bool) → are_readable s.past extents ≡ test → (if test then Some (page_bytes s) else None) ≡ None
    by_test true is = absurd (unreadable (readable_place s.past extents is i place))
    by_test false is = refl

-- a write that failed at a place leaves it open
pub open_place : (past : Past) (at : ℕ) (new : List ℕ) (i : ℕ) → IsInside at (length new) i → IsReadable (FailedWrite at new ∷ past) i → ⊥
open_place past at new i inside (inl below, readable) = let from : at ≤ i = inside.from in omega (arith, below, from)
open_place past at new i inside (inr above, readable) = let to : i < at + length new = inside.to in omega (arith, above, to)

readable_with : (past : Past) (call : Call) (i : ℕ) → IsSpared call i → IsReadable past i → IsReadable (call ∷ past) i
readable_with past (Read at count) i spared readable = readable
readable_with past (Write at new) i spared readable = inr readable
readable_with past Sync i spared readable = readable
readable_with past (FailedWrite at new) i spared readable = (spared, readable)
readable_with past FailedCall i spared readable = readable

IsReadable-spared : (s : Story) (calls : Calls) (i : ℕ) → AreSpared calls i → IsReadable s.past i → IsReadable (after s calls).past i
IsReadable-spared s [] i spared readable = readable
IsReadable-spared s (call ∷ calls) i spared readable = IsReadable-spared (with_call s call) calls i spared.1 (readable_with s.past call i spared.0 readable)

-- a page that later calls spare holds what it held
pub page_bytes-spared : (extents : List Extent) (s : Story) (calls : Calls) (page : ℕ) → IsTrue (is_lent extents page) → ((i : ℕ) → IsLentPlace extents i → AreSpared calls i)
    → page_bytes (after s calls) page ≡ page_bytes s page
page_bytes-spared extents s calls page lent spared =
    part-same (page * PAGE_BYTES) PAGE_BYTES (bytes_of (after s calls)) (bytes_of s)
    (λ i from to. bytes_of-spared s calls i (spared i (record { page = page; lent = lent; from = from; to = to })))

-- lent pages that later calls spare are told still
pub contents-spared : (extents : List Extent) (s : Story) (calls : Calls) (contents : ℕ → List ℕ) → contents_of extents (Some s) ≡ Some contents
    → ((i : ℕ) → IsLentPlace extents i → AreSpared calls i) → contents_of extents (Some (after s calls)) ≡ Some (page_bytes (after s calls))
contents-spared extents s calls contents told spared =
    contents-readable extents (after s calls) (λ i place. IsReadable-spared s calls i (spared i place) ((contents-told extents s contents told).0 i place))
