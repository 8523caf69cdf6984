-- The pages that a reader asked for, step by step.
use Rattle.std.proofs.Common.{◌≡◌, ℕ, ◌+◌, ◌-◌, ◌^◌, ◌≤◌, Bool, true, false, List, [], ◌∷◌, ◌++◌, All, Option, Some, None, arith, refl, sym, ◌∙◌, ap, subst, append_assoc, inl, inr, nat_lt, if◌then◌else◌}
use Rattle.std.specs.Prelude.{Ok, Err, IsTrue}
use Rattle.std.proofs.lemmas.Bool.{cases_Bool, ltb-true, ltb-false}
use Rattle.std.proofs.lemmas.List.Elements.{All-append, All-cons}
use Rattle.std.proofs.lemmas.List.{append-nil}
use Rattle.dev_model.specs.Counts.{Rose}
use Rattle.dev_model.specs.Story.{WhereTold}
use Rattle.dev_model.specs.declared.page_faults.PageFault.{PageFault}
use Rattle.dev_model.specs.declared.page_faults.PageFault.TheVariants.{Failed, Damaged, OutOfMemory}
use Rattle.dev_model.specs.Lending.{Lending, StaysLent}
use Rattle.dev_model.specs.Asked.{given_but_last, reads_by, EndsWith, StopsOn, GoesAlong, OnDamaged, OnFailed, OnGiven, Reads}
use Rattle.dev_model.specs.Given.{given}

pub given-append : (seen more : List ℕ) → given (seen ++ more) ≡ given seen ++ given more
given-append [] more = refl
given-append (page ∷ seen) more = ap (λ reads. (page, true) ∷ reads) (given-append seen more)

but_last-append : (seen : List ℕ) (page : ℕ) (more : List ℕ) → given_but_last (seen ++ (page ∷ more)) ≡ given seen ++ given_but_last (page ∷ more)
but_last-append [] page more = refl
but_last-append (first ∷ []) page more = refl
but_last-append (first ∷ second ∷ seen) page more = ap (λ reads. (first, true) ∷ reads) (but_last-append (second ∷ seen) page more)

but_last-ends : (seen more : List ℕ) (page : ℕ) → EndsWith more page → given_but_last (seen ++ more) ≡ given seen ++ given_but_last more
but_last-ends seen [] page ([], e) = absurd cc
but_last-ends seen [] page ((x ∷ xs), e) = absurd cc
but_last-ends seen (first ∷ more) page ends = but_last-append seen first more

-- all pages given, and then those of a reader
by-append : (fault : Option PageFault) (hand seen more : List ℕ) → StopsOn fault hand more → reads_by fault (seen ++ more) ≡ given seen ++ reads_by fault more
by-append None hand seen more stops = given-append seen more
by-append (Some Failed) hand seen more stops = but_last-ends seen more stops.0 stops.1
by-append (Some (Damaged page)) hand seen more stops = given-append seen more
by-append (Some OutOfMemory) hand seen more stops = given-append seen more

ends-append : (seen more : List ℕ) (page : ℕ) → EndsWith more page → EndsWith (seen ++ more) page
ends-append seen more page ends = (seen ++ ends.0, ap (λ rest. seen ++ rest) ends.1 ∙ sym (append_assoc seen ends.0 (page ∷ [])))

stops-append : (fault : Option PageFault) (hand seen before next more : List ℕ) → hand ++ seen ≡ before ++ next → StopsOn fault next more → StopsOn fault hand (seen ++ more)
stops-append None hand seen before next more e stops = tt
stops-append (Some Failed) hand seen before next more e stops = (stops.0, ends-append seen more stops.0 stops.1)
stops-append (Some (Damaged page)) hand seen before next more e stops =
    let whole : hand ++ (seen ++ more) ≡ before ++ (next ++ more) = sym (append_assoc hand seen more) ∙ (ap (λ xs. xs ++ more) e ∙ append_assoc before next more) in
    let ends = ends-append before (next ++ more) page stops in
    (ends.0, whole ∙ ends.1)
stops-append (Some OutOfMemory) hand seen before next more e stops = tt

-- a count that rose later rose
next-below : (a b most : ℕ) → a ≤ b → (if nat_lt a most then a + 1 else a) ≤ (if nat_lt b most then b + 1 else b)
next-below a b most h = elim (cases_Bool (nat_lt a most)) [
  | inl a_low ↦ elim (cases_Bool (nat_lt b most)) [
    | inl b_low ↦ rw (a_low, b_low) (omega arith)
    | inr b_high ↦ rw (a_low, b_high) (let low = ltb-true a most a_low in let high = ltb-false b most b_high in omega arith)
  ]
  | inr a_high ↦ elim (cases_Bool (nat_lt b most)) [
    | inl b_low ↦ rw (a_high, b_low) (omega arith)
    | inr b_high ↦ rw (a_high, b_high) h
  ]
]

rose-earlier : (a b c : ℕ) → a ≤ b → Rose b c → Rose a c
rose-earlier a b c h rose = let more = next-below a b (2 ^ 64 - 1) h in omega (arith, more, rose)

on_failed : (fault : Option PageFault) (P Q : Type 0) → (P → Q) → OnFailed fault P → OnFailed fault Q
on_failed None P Q f p = tt
on_failed (Some Failed) P Q f p = f p
on_failed (Some (Damaged page)) P Q f p = tt
on_failed (Some OutOfMemory) P Q f p = tt

on_damaged : (fault : Option PageFault) (P Q : ℕ → Type 0) → ((page : ℕ) → P page → Q page) → OnDamaged fault P → OnDamaged fault Q
on_damaged None P Q f p = tt
on_damaged (Some Failed) P Q f p = tt
on_damaged (Some (Damaged page)) P Q f p = f page p
on_damaged (Some OutOfMemory) P Q f p = tt

on_given : (fault : Option PageFault) (P Q : Type 0) → (P → Q) → OnGiven fault P → OnGiven fault Q
on_given None P Q f p = f p
on_given (Some fault) P Q f p = tt

one : (P : ℕ → Type 0) (page : ℕ) → P page → All P (page ∷ [])
one P page p = All-cons P page [] p (λ k d h. absurd (omega arith))

module _ {S : Type 0} {lending : S → Lending} {asked : S → S → List (ℕ × Bool) → Type 0} {IsBad IsTested : (ℕ → List ℕ) → ℕ → Type 0} where
  -- pages that were given, and then more
  pub reads-then : ((first second third : S) (xs ys : List (ℕ × Bool)) → asked first second xs → asked second third ys → asked first third (xs ++ ys))
      → {first second third : S} (fault : Option PageFault) {hand seen : List ℕ} (before next : List ℕ) {more : List ℕ}
      → Reads lending asked IsBad IsTested first second None hand seen → hand ++ seen ≡ before ++ next → Reads lending asked IsBad IsTested second third fault next more
      → Reads lending asked IsBad IsTested first third fault hand (seen ++ more)
  reads-then onward {first = first} {second = second} {third = third} fault {hand = hand} {seen = seen} before next {more = more} a e b = record {
    same_lent = b.same_lent ∙ a.same_lent;
    same_contents = b.same_contents ∙ a.same_contents;
    later = let one = a.later in let two = b.later in omega arith;
    failed = on_failed fault _ _ (rose-earlier (lending first).faults (lending second).faults (lending third).faults a.later) b.failed;
    damaged = subst (λ told. OnDamaged fault (λ page. WhereTold told (λ contents. IsBad contents page))) a.same_contents b.damaged;
    asked_for = subst (asked first third) (sym (by-append fault next seen more b.stops)) (onward first second third _ _ a.asked_for b.asked_for);
    are_lent = All-append (λ page. IsTrue ((lending first).lent page)) seen more a.are_lent (subst (λ lent. All (λ page. IsTrue (lent page)) more) a.same_lent b.are_lent);
    stops = stops-append fault hand seen before next more e b.stops;
    tested = on_given fault (WhereTold (lending second).contents (λ contents. All (IsTested contents) more))
        (WhereTold (lending first).contents (λ contents. All (IsTested contents) (seen ++ more)))
        (λ later contents told. All-append (IsTested contents) seen more (a.tested contents told) (later contents (a.same_contents ∙ told)))
        b.tested;
  }

  -- the same with no page in hand
  pub reads-on : ((first second third : S) (xs ys : List (ℕ × Bool)) → asked first second xs → asked second third ys → asked first third (xs ++ ys))
      → {first second third : S} (fault : Option PageFault) {seen more : List ℕ}
      → Reads lending asked IsBad IsTested first second None [] seen → Reads lending asked IsBad IsTested second third fault [] more
      → Reads lending asked IsBad IsTested first third fault [] (seen ++ more)
  reads-on onward fault {seen = seen} a b = reads-then onward fault seen [] a (sym (append-nil seen)) b

  -- no page was asked for
  pub reads-none : {first : S} (hand : List ℕ) → asked first first [] → Reads lending asked IsBad IsTested first first None hand []
  reads-none hand none = record {
    same_lent = refl;
    same_contents = refl;
    later = omega arith;
    failed = tt;
    damaged = tt;
    asked_for = none;
    are_lent = λ i d h. absurd (omega arith);
    stops = tt;
    tested = λ contents told i d h. absurd (omega arith);
  }

  -- a page in hand does no harm
  pub reads-holding : {first second : S} (fault : Option PageFault) (hand : List ℕ) {pages : List ℕ}
      → Reads lending asked IsBad IsTested first second fault [] pages → Reads lending asked IsBad IsTested first second fault hand pages
  reads-holding fault hand {pages = pages} a = record {
    same_lent = a.same_lent;
    same_contents = a.same_contents;
    later = a.later;
    failed = a.failed;
    damaged = a.damaged;
    asked_for = a.asked_for;
    are_lent = a.are_lent;
    stops = holding fault a.stops;
    tested = a.tested;
  }
    where
      holding : (fault : Option PageFault) → StopsOn fault [] pages → StopsOn fault hand pages
      holding None stops = tt
      holding (Some Failed) stops = stops
      holding (Some (Damaged page)) stops = ends-append hand pages page stops
      holding (Some OutOfMemory) stops = tt

  -- a reader that gives up after its pages were read: for want of memory, or since one of them is bad
  pub reads-full : {first second : S} {hand pages : List ℕ} → Reads lending asked IsBad IsTested first second None hand pages
      → Reads lending asked IsBad IsTested first second (Some OutOfMemory) hand pages
  reads-full a = record {
    same_lent = a.same_lent;
    same_contents = a.same_contents;
    later = a.later;
    failed = tt;
    damaged = tt;
    asked_for = a.asked_for;
    are_lent = a.are_lent;
    stops = tt;
    tested = tt;
  }

  pub reads-damaged : {first second : S} {hand pages : List ℕ} (page : ℕ) → Reads lending asked IsBad IsTested first second None hand pages → EndsWith (hand ++ pages) page
      → WhereTold (lending first).contents (λ contents. IsBad contents page) → Reads lending asked IsBad IsTested first second (Some (Damaged page)) hand pages
  reads-damaged page a ends bad = record {
    same_lent = a.same_lent;
    same_contents = a.same_contents;
    later = a.later;
    failed = tt;
    damaged = bad;
    asked_for = a.asked_for;
    are_lent = a.are_lent;
    stops = ends;
    tested = tt;
  }

  -- one page: it was not given, it was given and tested, or it is bad
  pub reads-refused : {X E : Type 0} {first second : S} (page : ℕ) (e : E) → StaysLent {X = X} (lending first) (lending second) (Err e) → asked first second ((page, false) ∷ [])
      → IsTrue ((lending first).lent page) → Reads lending asked IsBad IsTested first second (Some Failed) [] (page ∷ [])
  reads-refused {first = first} page e stays so_far is_lent = record {
    same_lent = stays.same_lent;
    same_contents = stays.same_contents;
    later = stays.cause.later;
    failed = stays.cause.failed;
    damaged = tt;
    asked_for = so_far;
    are_lent = one (λ page. IsTrue ((lending first).lent page)) page is_lent;
    stops = (page, ([], refl));
    tested = tt;
  }

  pub reads-given : {X E : Type 0} {first second : S} (page : ℕ) (x : X) → StaysLent {E = E} (lending first) (lending second) (Ok x) → asked first second ((page, true) ∷ [])
      → IsTrue ((lending first).lent page) → WhereTold (lending first).contents (λ contents. IsTested contents page)
      → Reads lending asked IsBad IsTested first second None [] (page ∷ [])
  reads-given {first = first} page x stays so_far is_lent tested = record {
    same_lent = stays.same_lent;
    same_contents = stays.same_contents;
    later = stays.cause.later;
    failed = tt;
    damaged = tt;
    asked_for = so_far;
    are_lent = one (λ page. IsTrue ((lending first).lent page)) page is_lent;
    stops = tt;
    tested = λ contents told. one (IsTested contents) page (tested contents told);
  }

  pub reads-bad : {X E : Type 0} {first second : S} (page number : ℕ) (x : X) → page ≡ number → StaysLent {E = E} (lending first) (lending second) (Ok x)
      → asked first second ((number, true) ∷ []) → IsTrue ((lending first).lent number) → WhereTold (lending first).contents (λ contents. IsBad contents page)
      → Reads lending asked IsBad IsTested first second (Some (Damaged page)) [] (number ∷ [])
  reads-bad {first = first} page number x same stays so_far is_lent bad = record {
    same_lent = stays.same_lent;
    same_contents = stays.same_contents;
    later = stays.cause.later;
    failed = tt;
    damaged = bad;
    asked_for = so_far;
    are_lent = one (λ page. IsTrue ((lending first).lent page)) number is_lent;
    stops = ([], ap (λ n. n ∷ []) (sym same));
    tested = tt;
  }

  -- what is bad or tested by another word
  pub reads-as : {IsWorse IsKnown : (ℕ → List ℕ) → ℕ → Type 0} {first second : S} (fault : Option PageFault) {hand pages : List ℕ}
      → ((contents : ℕ → List ℕ) (page : ℕ) → IsBad contents page → IsWorse contents page) → ((contents : ℕ → List ℕ) (page : ℕ) → IsTested contents page → IsKnown contents page)
      → Reads lending asked IsBad IsTested first second fault hand pages → Reads lending asked IsWorse IsKnown first second fault hand pages
  reads-as fault worse known a = record {
    same_lent = a.same_lent;
    same_contents = a.same_contents;
    later = a.later;
    failed = a.failed;
    damaged = on_damaged fault _ _ (λ page bad contents told. worse contents page (bad contents told)) a.damaged;
    asked_for = a.asked_for;
    are_lent = a.are_lent;
    stops = a.stops;
    tested = on_given fault _ _ (λ tested contents told k d h. known contents _ (tested contents told k d h)) a.tested;
  }

-- a way, and then another one
pub along-then : (fault : Option PageFault) (seen way more rest : List ℕ) → seen ≡ way → GoesAlong fault more rest → GoesAlong fault (seen ++ more) (way ++ rest)
along-then None seen way more rest e along = ap (λ xs. xs ++ more) e ∙ ap (λ xs. way ++ xs) along
along-then (Some fault) seen way more rest e along =
    (along.0, append_assoc seen more along.0 ∙ (ap (λ xs. xs ++ (more ++ along.0)) e ∙ ap (λ xs. way ++ xs) along.1))

-- a whole way is gone along
pub along-whole : (fault : Option PageFault) (pages way : List ℕ) → pages ≡ way → GoesAlong fault pages way
along-whole None pages way e = e
along-whole (Some fault) pages way e = ([], append-nil pages ∙ e)

-- the first few of a way are the first few of a longer one
pub along-short : (fault : PageFault) (pages way more whole : List ℕ) → way ++ more ≡ whole → GoesAlong (Some fault) pages way → GoesAlong (Some fault) pages whole
along-short fault pages way more whole e along = (along.0 ++ more, sym (append_assoc pages along.0 more) ∙ (ap (λ xs. xs ++ more) along.1 ∙ e))

-- the first few of the first few
pub along-along : (fault : Option PageFault) (pages way whole : List ℕ) → GoesAlong fault pages way → GoesAlong fault way whole → GoesAlong fault pages whole
along-along None pages way whole a b = a ∙ b
along-along (Some fault) pages way whole a b = along-short fault pages way b.0 whole b.1 a
