-- Lists of ranges that grow or change at their end.
use Rattle.std.proofs.Common.{◌≡◌, ℕ, suc, ◌+◌, ◌-◌, ◌<◌, ◌≤◌, ◌≢◌, ◌↔◌, ◌⊎◌, inl, inr, List, [], ◌∷◌, ◌++◌, length, get_or, set, take, arith, refl, sym, ◌∙◌, ap, subst, length-append}
use Rattle.std.specs.List.{All}
use Rattle.std.proofs.lemmas.Bool.{cases_lt}
use Rattle.std.proofs.lemmas.List.{get_or_append_left, length-take, set-append_right, take_all, get_or_default}
use Rattle.std.proofs.Math.Seq.{take-suc, get_or-append_seam}
use Rattle.std.proofs.lemmas.List.Elements.{All-push}
use Rattle.std.proofs.lemmas.List.Quantifiers.{Any-push, all_pairs_push}
use Rattle.region_cover.specs.Cover.{IsAmong, AreRuns}
use Rattle.region_cover.specs.Steps.{AreRunsBelow, Adds}
use Rattle.region_cover.specs.declared.ranges.Range.{Range}

-- all but the last range, and the last
pub record IsSplit (xs front : List Range) (y : Range) : Type 0 where
  pub whole : xs ≡ front ++ y ∷ []

length-snoc : (xs : List Range) (y : Range) → length (xs ++ y ∷ []) ≡ length xs + 1
length-snoc xs y = length-append xs (y ∷ [])

-- a value lies in the last range or in one before
pub among-snoc : (xs : List Range) (y : Range) (v : ℕ) → IsAmong (xs ++ y ∷ []) v ↔ (IsAmong xs v ⊎ ((y.lo ≤ v) × (v ≤ y.hi)))
among-snoc xs y v = (to, from)
  where
    to : IsAmong (xs ++ y ∷ []) v → IsAmong xs v ⊎ ((y.lo ≤ v) × (v ≤ y.hi))
    to h = elim (cases_lt h.0 (length xs)) [
      | inl p ↦ inl (h.0, h.1, p, sym (get_or_append_left xs (y ∷ []) h.1 h.0 p) ∙ h.3, h.4)
      | inr p ↦
          let len = length-snoc xs y in
          let at : h.0 ≡ length xs = omega (arith, h.2) in
          let is : h.1 ≡ y = sym h.3 ∙ ap (λ k. get_or (xs ++ y ∷ []) k h.1) at ∙ get_or-append_seam xs y [] h.1 in
          inr (subst (λ (r : Range). (r.lo ≤ v) × (v ≤ r.hi)) is h.4)
    ]

    from : IsAmong xs v ⊎ ((y.lo ≤ v) × (v ≤ y.hi)) → IsAmong (xs ++ y ∷ []) v
    from h = elim h [
      | inl a ↦
          let len = length-snoc xs y in
          (a.0, a.1, omega (arith, a.2), get_or_append_left xs (y ∷ []) a.1 a.0 a.2 ∙ a.3, a.4)
      | inr b ↦ Any-push (λ (r : Range). (r.lo ≤ v) × (v ≤ r.hi)) xs y b
    ]

-- what runs with a last one say of those before it
pub record EndsIn (n : ℕ) (xs : List Range) (y : Range) : Type 0 where
  pub runs : AreRuns xs
  pub apart : All (λ r. r.hi + 1 < y.lo) xs
  pub filled : y.lo ≤ y.hi
  pub below : y.hi < n

pub ends_in : (n : ℕ) (xs : List Range) (y : Range) → AreRunsBelow n (xs ++ y ∷ []) → EndsIn n xs y
ends_in n xs y h =
    let len = length-snoc xs y in
    let at_end : length xs < length (xs ++ y ∷ []) = omega arith in
    let seam : (d : Range) → get_or (xs ++ y ∷ []) (length xs) d ≡ y = get_or-append_seam xs y [] in
    record {
      runs = record {
        filled = λ k d p. subst (λ (r : Range). r.lo ≤ r.hi) (left k d p) (h.runs.filled k d (omega arith));
        apart = λ i j d p q. subst2 (left i d (omega arith)) (left j d q) (h.runs.apart i j d p (omega arith));
      };
      apart = λ k d p. subst2 (left k d p) (seam d) (h.runs.apart k (length xs) d p at_end);
      filled = subst (λ (r : Range). r.lo ≤ r.hi) (seam y) (h.runs.filled (length xs) y at_end);
      below = subst (λ (r : Range). r.hi < n) (seam y) (h.below (length xs) y at_end);
    }
  where
    left : (k : ℕ) (d : Range) → k < length xs → get_or (xs ++ y ∷ []) k d ≡ get_or xs k d
    left k d p = get_or_append_left xs (y ∷ []) d k p

    subst2 : {a b c d : Range} → a ≡ c → b ≡ d → a.hi + 1 < b.lo → c.hi + 1 < d.lo
    subst2 e f h = let e' = ap (λ (r : Range). r.hi) e in let f' = ap (λ (r : Range). r.lo) f in omega arith

-- and back
pub runs-snoc : (n : ℕ) (xs : List Range) (y : Range) → EndsIn n xs y → AreRunsBelow n (xs ++ y ∷ [])
runs-snoc n xs y h = record {
  runs = record {
    filled = All-push (λ (r : Range). r.lo ≤ r.hi) xs y h.runs.filled h.filled;
    apart = all_pairs_push (λ (a b : Range). a.hi + 1 < b.lo) xs y h.runs.apart h.apart;
  };
  below = All-push (λ (r : Range). r.hi < n) xs y
      (λ k d p. let a = h.apart k d p in omega (arith, h.filled, h.below)) h.below;
}

-- a list's last place, changed
last_changed : (xs : List Range) (n : ℕ) (last : Range) → n + 1 ≡ length xs → last ≡ get_or xs n last
    → (xs ≡ take n xs ++ last ∷ []) × ((y : Range) → set xs n y ≡ take n xs ++ y ∷ [])
last_changed xs n last len is = (whole, changed)
  where
    whole : xs ≡ take n xs ++ last ∷ []
    whole = sym (take_all (suc n) xs (omega arith)) ∙ take-suc xs n last (omega arith) ∙ ap (λ (r : Range). take n xs ++ r ∷ []) (sym is)

    front : length (take n xs) ≡ n
    front = simp length-take (omega arith)

    none : (k : ℕ) → k ≡ 0 → (y : Range) → take n xs ++ set (last ∷ []) k y ≡ take n xs ++ y ∷ []
    none k e y = rw e refl

    changed : (y : Range) → set xs n y ≡ take n xs ++ y ∷ []
    changed y = ap (λ (l : List Range). set l n y) whole ∙ set-append_right (take n xs) (last ∷ []) n n y front (omega arith) ∙ none (n - n) (omega arith) y

-- the last range reaches further
pub prolonged : (xs : List Range) (n lo hi : ℕ) (last : Range) → n + 1 ≡ length xs → last ≡ get_or xs n last → AreRunsBelow lo xs
    → last.hi + 1 ≡ lo → lo ≤ hi → Adds (λ v. (lo ≤ v) × (v ≤ hi)) xs (set xs n (record { lo = last.lo; hi = hi }))
prolonged xs n lo hi last len is runs next up v =
    let both = last_changed xs n last len is in
    let more = both.1 (record { lo = last.lo; hi = hi }) in
    rw more (among-prolonged (take n xs) xs both.0 runs)
  where
    among-prolonged : (front whole : List Range) → whole ≡ front ++ last ∷ [] → AreRunsBelow lo whole
        → IsAmong (front ++ record { lo = last.lo; hi = hi } ∷ []) v ↔ (IsAmong whole v ⊎ ((lo ≤ v) × (v ≤ hi)))
    among-prolonged front whole e below =
        let ends = ends_in lo front last (rw e at below) in
        let old = among-snoc front last v in
        let new = among-snoc front (record { lo = last.lo; hi = hi }) v in
        rw e (
          (λ h. elim (new.0 h) [
            | inl a ↦ inl (old.1 (inl a))
            | inr b ↦ elim (cases_lt v lo) [ inl p ↦ inl (old.1 (inr (b.0, omega arith))) | inr p ↦ inr (p, b.1) ]
          ]),
          (λ h. elim h [
            | inl a ↦ elim (old.0 a) [ inl b ↦ new.1 (inl b) | inr b ↦ new.1 (inr (b.0, omega arith)) ]
            | inr b ↦ new.1 (inr (omega (arith, ends.filled), b.1))
          ]),
        )

-- the last place of a list has one range, whatever stands for a place past the end
pub last_is : (xs : List Range) (n : ℕ) (a b : Range) → n < length xs → a ≡ get_or xs n a → b ≡ get_or xs n b → a ≡ b
last_is xs n a b p e f = e ∙ get_or_default xs n a b p ∙ sym f

-- a new range behind a gap
pub after_gap : (xs : List Range) (lo hi : ℕ) → AreRunsBelow lo xs → lo ≤ hi
    → ((n : ℕ) (last : Range) → n + 1 ≡ length xs → last ≡ get_or xs n last → last.hi + 1 ≢ lo)
    → AreRunsBelow (hi + 1) (xs ++ record { lo = lo; hi = hi } ∷ [])
after_gap xs lo hi h up gap = runs-snoc (hi + 1) xs (record { lo = lo; hi = hi }) (record {
  runs = h.runs;
  apart = λ k d p. elim (cases_lt (k + 1) (length xs)) [
    | inl q ↦
        let a = h.runs.apart k (length xs - 1) d (omega arith) (omega arith) in
        let f = h.runs.filled (length xs - 1) d (omega arith) in
        let b = h.below (length xs - 1) d (omega arith) in
        omega (arith, a, f, b)
    | inr q ↦
        let ne : (get_or xs k d).hi + 1 ≢ lo = gap k (get_or xs k d) (omega arith) (get_or_default xs k d (get_or xs k d) p) in
        let b = h.below k d p in
        omega (arith, ne, b)
  ];
  filled = up;
  below = omega arith;
})

-- no range lies higher than below a greater number
pub AreRunsBelow-up : (n m : ℕ) (xs : List Range) → n ≤ m → AreRunsBelow n xs → AreRunsBelow m xs
AreRunsBelow-up n m xs p h = record { runs = h.runs; below = λ k d q. let b = h.below k d q in omega arith }

pub Adds-none : (more : ℕ → Type 0) (xs : List Range) → ((v : ℕ) → more v → ⊥) → Adds more xs xs
Adds-none more xs none v = ((λ h. inl h), (λ h. elim h [ inl a ↦ a | inr b ↦ absurd (none v b) ]))

pub Adds-same : (more other : ℕ → Type 0) (old new : List Range) → ((v : ℕ) → more v ↔ other v) → Adds more old new → Adds other old new
Adds-same more other old new same adds v = (
  (λ h. elim ((adds v).0 h) [ inl a ↦ inl a | inr b ↦ inr ((same v).0 b) ]),
  (λ h. (adds v).1 (elim h [ inl a ↦ inl a | inr b ↦ inr ((same v).1 b) ])),
)

pub Adds-both : (one two both : ℕ → Type 0) (old middle new : List Range) → ((v : ℕ) → both v ↔ (one v ⊎ two v))
    → Adds one old middle → Adds two middle new → Adds both old new
Adds-both one two both old middle new is first second v = (
  (λ h. elim ((second v).0 h) [
    | inl a ↦ elim ((first v).0 a) [ inl b ↦ inl b | inr b ↦ inr ((is v).1 (inl b)) ]
    | inr a ↦ inr ((is v).1 (inr a))
  ]),
  (λ h. elim h [
    | inl a ↦ (second v).1 (inl ((first v).1 (inl a)))
    | inr a ↦ elim ((is v).0 a) [ inl b ↦ (second v).1 (inl ((first v).1 (inr b))) | inr b ↦ (second v).1 (inr b) ]
  ]),
)
