-- One extent more, and one less.
use Rattle.std.proofs.Common.{◌≡◌, ℕ, zero, suc, ◌-◌, ◌<◌, ◌≤◌, Bool, true, false, ◌&&◌, ◌||◌, not, cond, eqb, ltb, leb, List, [], ◌∷◌, length, get_or, refl, sym, ◌∙◌, ap, subst, arith, ⊎_elim}
use Rattle.std.specs.List.{insert, remove, Contains}
use Rattle.std.specs.List.Sorted.{IsPartitionedBy}
use Rattle.std.proofs.lemmas.Bool.{cases_lt, cases_eq, le-ltb, lt-ltb, ltb-true, eq-eqb, ne_eqb, or_parts, and_parts, and_left, and_right, cases_Bool}
use Rattle.std.proofs.lemmas.List.{get_or_default}
use Rattle.space_map.specs.declared.space.Extent.{Extent}
use Rattle.space_map.specs.Space.{end_of, is_in, is_reserved, IsFreeIn, with_extent}
use Rattle.space_map.specs.Calls.{AreApart, without_extent}
use Rattle.space_map.proofs.Gaps.{free-outside, apart-lower, is_in-inside, is_in-below, is_reserved-below}

-- the list with an extent where it belongs: behind those that begin before it
pub insert-is : (e : Extent) (xs : List Extent) (at : ℕ) → at ≤ length xs → ((k : ℕ) (d : Extent) → k < at → (get_or xs k d).first < e.first)
    → ((k : ℕ) (d : Extent) → at ≤ k → k < length xs → e.first ≤ (get_or xs k d).first) → insert xs at e ≡ with_extent e xs
insert-is e [] zero h before behind = refl
insert-is e [] (suc at) h before behind = absurd (omega arith)
insert-is e (x ∷ xs) zero h before behind =
    ap (λ (b : Bool). cond b (x ∷ with_extent e xs) (e ∷ x ∷ xs)) (sym (le-ltb x.first e.first (behind zero e (omega arith) (omega arith))))
insert-is e (x ∷ xs) (suc at) h before behind =
    ap (λ (ys : List Extent). x ∷ ys) (insert-is e xs at (omega arith) (λ k d l. before (suc k) d (omega arith)) (λ k d l m. behind (suc k) d (omega arith) (omega arith)))
    ∙ ap (λ (b : Bool). cond b (x ∷ with_extent e xs) (e ∷ x ∷ xs)) (sym (lt-ltb x.first e.first (before zero e (omega arith))))

-- the list without the extent that begins at that page
pub remove-is : (e : Extent) (xs : List Extent) (at : ℕ) → at < length xs → ((k : ℕ) (d : Extent) → k < at → (get_or xs k d).first < e.first)
    → ((d : Extent) → (get_or xs at d).first ≡ e.first) → remove xs at ≡ without_extent e xs
remove-is e [] at h before here = absurd (omega arith)
remove-is e (x ∷ xs) zero h before here =
    ap (λ (b : Bool). cond b xs (x ∷ without_extent e xs)) (sym (eq-eqb x.first e.first (here e)))
remove-is e (x ∷ xs) (suc at) h before here =
    let less : x.first < e.first = before zero e (omega arith) in
    ap (λ (ys : List Extent). x ∷ ys) (remove-is e xs at (omega arith) (λ k d l. before (suc k) d (omega arith)) here)
    ∙ ap (λ (b : Bool). cond b xs (x ∷ without_extent e xs)) (sym (ne_eqb x.first e.first (λ (same : x.first ≡ e.first). omega arith)))

-- extents stay apart where one is put into a free run
pub apart-with_extent : (low end : ℕ) (e : Extent) (xs : List Extent) → AreApart low end xs → 1 ≤ e.pages → IsFreeIn low end xs e.first e.pages
    → AreApart low end (with_extent e xs)
apart-with_extent low end e [] apart some run = (run.above, some, run.within)
apart-with_extent low end e (x ∷ xs) apart some run =
    let P : Bool → Type 0 = λ b. AreApart low end (cond b (x ∷ with_extent e xs) (e ∷ x ∷ xs)) in
    ⊎_elim
    (λ less.
    let past : end_of x ≤ e.first =
    ⊎_elim (λ inside. absurd (free-outside e.first x xs (run.free e.first (omega arith) (omega arith)) (omega arith) inside)) (λ out. out)
    (cases_lt e.first (end_of x)) in
    let rest : IsFreeIn (end_of x) end xs e.first e.pages = record {
      above = past;
      within = run.within;
      free = λ page a b. (or_parts (is_in page x) (is_reserved xs page) (run.free page a b)).1;
    } in
    subst P (sym (lt-ltb x.first e.first less)) (apart.0, apart.1, apart-with_extent (end_of x) end e xs apart.2 some rest))
    (λ more.
    let before : end_of e ≤ x.first =
    ⊎_elim (λ inside. absurd (free-outside x.first x xs (run.free x.first more inside) (omega arith) (let p = apart.1 in omega arith))) (λ out. out)
    (cases_lt x.first (end_of e)) in
    subst P (sym (le-ltb x.first e.first more)) (run.above, some, (before, apart.1, apart.2)))
    (cases_lt x.first e.first)

-- and where one is taken out
pub apart-without_extent : (low end : ℕ) (e : Extent) (xs : List Extent) → AreApart low end xs → AreApart low end (without_extent e xs)
apart-without_extent low end e [] apart = apart
apart-without_extent low end e (x ∷ xs) apart =
    let P : Bool → Type 0 = λ b. AreApart low end (cond b xs (x ∷ without_extent e xs)) in
    ⊎_elim
    (λ is. subst P (sym is) (apart-lower low (end_of x) end xs (let a = apart.0 in omega arith) apart.2))
    (λ is. subst P (sym is) (apart.0, apart.1, apart-without_extent (end_of x) end e xs apart.2))
    (cases_Bool (eqb x.first e.first))

-- each extent begins at or behind the lower end
pub first-at_least : (low end : ℕ) (xs : List Extent) → AreApart low end xs → (k : ℕ) (d : Extent) → k < length xs → low ≤ (get_or xs k d).first
first-at_least low end [] apart k d h = absurd (omega arith)
first-at_least low end (x ∷ xs) apart zero d h = apart.0
first-at_least low end (x ∷ xs) apart (suc k) d h =
    let a = apart.0 in let rest = first-at_least (end_of x) end xs apart.2 k d (omega arith) in omega arith

-- they ascend
pub first-ascends : (low end : ℕ) (xs : List Extent) → AreApart low end xs → (i j : ℕ) (d : Extent) → i < j → j < length xs
    → (get_or xs i d).first < (get_or xs j d).first
first-ascends low end [] apart i j d h l = absurd (omega arith)
first-ascends low end (x ∷ xs) apart i zero d h l = absurd (omega arith)
first-ascends low end (x ∷ xs) apart zero (suc j) d h l =
    let a = apart.1 in let rest = first-at_least (end_of x) end xs apart.2 j d (omega arith) in omega arith
first-ascends low end (x ∷ xs) apart (suc i) (suc j) d h l = first-ascends (end_of x) end xs apart.2 i j d (omega arith) (omega arith)

-- those that begin before a page stand before the others
pub parted : (low end first : ℕ) (xs : List Extent) → AreApart low end xs → IsPartitionedBy (λ (x : Extent). ltb x.first first) xs
parted low end first xs apart i j d h l before =
    let less = ltb-true (get_or xs j d).first first before in
    ⊎_elim
    (λ lower. let up = first-ascends low end xs apart i j d lower l in lt-ltb (get_or xs i d).first first (omega arith))
    (λ over. let same : i ≡ j = omega arith in ap (λ (k : ℕ). ltb (get_or xs k d).first first) same ∙ before)
    (cases_lt i j)

-- an extent of the list is reserved in each of its pages, and the others lie apart from it
tail-contains : (x e : Extent) (xs : List Extent) → Contains (x ∷ xs) e → (x.first ≡ e.first → ⊥) → Contains xs e
tail-contains x e xs has apart = contained x e xs has.0 has.1 has.2 apart
  where
    contained : (x e : Extent) (xs : List Extent) (k : ℕ) → k < length (x ∷ xs) → get_or (x ∷ xs) k e ≡ e → (x.first ≡ e.first → ⊥) → Contains xs e
    contained x e xs zero h is apart = absurd (apart (ap (λ (y : Extent). y.first) is))
    contained x e xs (suc k) h is apart = (k, omega arith, is)

-- the place of an extent of the list
pub release-list : (low end : ℕ) (e : Extent) (xs : List Extent) (at : ℕ) → AreApart low end xs → Contains xs e
    → ((k : ℕ) (d : Extent) → k < at → (get_or xs k d).first < e.first)
    → ((k : ℕ) (d : Extent) → at ≤ k → k < length xs → e.first ≤ (get_or xs k d).first) → remove xs at ≡ without_extent e xs
release-list low end e xs at apart has before behind =
    let k : ℕ = has.0 in
    let within : k < length xs = has.1 in
    let first : (get_or xs k e).first ≡ e.first = ap (λ (y : Extent). y.first) has.2 in
    let not_before : k < at → ⊥ = λ h. let less = before k e h in omega arith in
    let not_behind : at < k → ⊥ = λ h. let less = first-ascends low end xs apart at k e h within in let more = behind at e (omega arith) (omega arith) in omega arith in
    let same : at ≡ k = ⊎_elim (λ h. absurd (not_behind h)) (λ h. ⊎_elim (λ l. absurd (not_before l)) (λ l. omega arith) (cases_lt k at)) (cases_lt at k) in
    remove-is e xs at (omega arith) before
    (λ d. ap (λ (i : ℕ). (get_or xs i d).first) same ∙ ap (λ (y : Extent). y.first) (get_or_default xs k d e within ∙ has.2))

in-end : (page : ℕ) (e : Extent) → is_in page e ≡ true → page < end_of e
in-end page e h = ltb-true page (end_of e) (and_parts (leb e.first page) (ltb page (end_of e)) h).1

-- the pages that are left where the first of two is taken out
left-first : (i r : Bool) → (i ≡ true → r ≡ false) → r ≡ ((i || r) && not i)
left-first true r h = h refl
left-first false true h = refl
left-first false false h = refl

-- and where one of the others is
left-other : (x r i : Bool) → (x ≡ true → i ≡ false) → (x || (r && not i)) ≡ ((x || r) && not i)
left-other true r i h = sym (ap not (h refl))
left-other false r i h = refl

-- without an extent exactly its pages are free
pub is_reserved-without_extent : (low end : ℕ) (e : Extent) (xs : List Extent) → AreApart low end xs → Contains xs e → (page : ℕ)
    → is_reserved (without_extent e xs) page ≡ (is_reserved xs page && not (is_in page e))
is_reserved-without_extent low end e [] apart has page = absurd (let h = has.1 in omega arith)
is_reserved-without_extent low end e (x ∷ xs) apart has page =
    let rest : List Extent = x ∷ without_extent e xs in
    let left : Bool → Bool = λ b. is_reserved (cond b xs rest) page in
    ⊎_elim
    (λ same.
    let is : x ≡ e = head-is low end e x xs apart has same in
    let in' : Extent → Bool = λ y. (is_in page y || is_reserved xs page) && not (is_in page e) in
    ap left (eq-eqb x.first e.first same)
    ∙ left-first (is_in page e) (is_reserved xs page)
    (λ h. is_reserved-below (end_of x) end xs apart.2 page (let b = in-end page e h in let same_end = ap (λ (y : Extent). end_of y) is in omega arith))
    ∙ ap in' (sym is))
    (λ other.
    let inner : Contains xs e = tail-contains x e xs has other in
    let more : Bool → Bool = λ b. is_in page x || b in
    ap left (ne_eqb x.first e.first other)
    ∙ ap more (is_reserved-without_extent (end_of x) end e xs apart.2 inner page)
    ∙ left-other (is_in page x) (is_reserved xs page) (is_in page e)
    (λ h. is_in-below page e (let b = in-end page x h in let l = first-at_least (end_of x) end xs apart.2 inner.0 e inner.1 in
    let f = ap (λ (y : Extent). y.first) inner.2 in omega arith)))
    (cases_eq x.first e.first)
  where
    head-is : (low end : ℕ) (e x : Extent) (xs : List Extent) → AreApart low end (x ∷ xs) → Contains (x ∷ xs) e → x.first ≡ e.first → x ≡ e
    head-is low end e x xs apart has same = head-at low end e x xs apart has.0 has.1 has.2 same
      where
        head-at : (low end : ℕ) (e x : Extent) (xs : List Extent) → AreApart low end (x ∷ xs) → (k : ℕ) → k < length (x ∷ xs) → get_or (x ∷ xs) k e ≡ e
            → x.first ≡ e.first → x ≡ e
        head-at low end e x xs apart zero h is same = is
        head-at low end e x xs apart (suc k) h is same =
            absurd (let l = first-at_least (end_of x) end xs apart.2 k e (omega arith) in let f = ap (λ (y : Extent). y.first) is in let p = apart.1 in omega arith)

-- runs that were free on both sides are one run
pub joined : (low end : ℕ) (old new : List Extent) (e : Extent)
    → ((page : ℕ) → is_reserved new page ≡ (is_reserved old page && not (is_in page e))) → (from upto : ℕ) → from ≤ e.first → end_of e ≤ upto
    → IsFreeIn low end old from (e.first - from) → IsFreeIn low end old (end_of e) (upto - end_of e) → IsFreeIn low end new from (upto - from)
joined low end old new e pages from upto before behind left right = record {
  above = left.above;
  within = let w = right.within in omega arith;
  free = λ page a b. pages page ∙
      ⊎_elim
      (λ in_left. and_left _ _ (left.free page a (omega arith)))
      (λ past. ⊎_elim
      (λ inside. and_right _ _ (ap not (is_in-inside page e past inside)))
      (λ in_right. and_left _ _ (right.free page in_right (omega arith)))
      (cases_lt page (end_of e)))
      (cases_lt page e.first);
}

-- the same where the list was lent
pub placed_list : (e : Extent) (lent xs : List Extent) (at : ℕ) → lent ≡ xs → at ≤ length lent
    → ((k : ℕ) (d : Extent) → k < at → (get_or lent k d).first < e.first)
    → ((k : ℕ) (d : Extent) → at ≤ k → k < length lent → e.first ≤ (get_or lent k d).first) → insert xs at e ≡ with_extent e xs
placed_list e lent xs at is bound before behind =
    let P : List Extent → Type 0 = λ ys. insert ys at e ≡ with_extent e ys in
    subst P is (insert-is e lent at bound before behind)

pub taken_list : (low end : ℕ) (e : Extent) (lent xs : List Extent) (at : ℕ) → lent ≡ xs → AreApart low end xs → Contains xs e
    → ((k : ℕ) (d : Extent) → k < at → (get_or lent k d).first < e.first)
    → ((k : ℕ) (d : Extent) → at ≤ k → k < length lent → e.first ≤ (get_or lent k d).first) → remove xs at ≡ without_extent e xs
taken_list low end e lent xs at is apart has before behind =
    let P : List Extent → Type 0 = λ ys. remove ys at ≡ without_extent e ys in
    let A : List Extent → Type 0 = λ ys. AreApart low end ys in
    let H : List Extent → Type 0 = λ ys. Contains ys e in
    subst P is (release-list low end e lent at (subst A (sym is) apart) (subst H (sym is) has) before behind)
