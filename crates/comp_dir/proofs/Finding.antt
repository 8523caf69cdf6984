-- What the pages of the directory give.
use Rattle.std.proofs.Common.{◌≡◌, ◌⊎◌, inl, inr, ⊎_elim, ℕ, zero, suc, ◌+◌, ◌-◌, ◌*◌, ◌<◌, ◌≤◌, List, [], ◌∷◌, ◌++◌, length, take, drop, get_or, Option, Some, None, Result, Ok, Err, OnOk, if◌then◌else◌, ◌==◌, IfErr, All, AllPairs, refl, sym, ◌∙◌, ap, subst, arith, length-append, length-drop}
use Rattle.std.proofs.lemmas.Bool.{cases_eq, cases_lt}
use Rattle.std.proofs.lemmas.Bool.Decides.{nat_tests}
use Rattle.std.proofs.lemmas.List.{get_or_append_left, get_or-append_right, get_or-drop, get_or-take, length-take}
use Rattle.std.proofs.lemmas.Option.{same_Some}
use Rattle.std.proofs.lemmas.List.Elements.{All-append}
use Rattle.dev_model.specs.Story.{Bytes, Story, after, bytes_of, part, WhereTold, IsReadable, Read}
use Rattle.dev_model.specs.Answers.{IsReadFrom, Tells}
use Rattle.dev_model.specs.Laws.Images.{IsReadable-settled}
use Rattle.dev_model.specs.Laws.Ranges.{part-list}
use Rattle.dev_model.specs.Laws.Reads.{bytes_of-reads, IsSettled-reads, ReadsWithin-read}
use Rattle.comp_dir.specs.Places.{slot_start}
use Rattle.comp_dir.specs.Reads.{IsInDirectory, ReadsDirectory}
use Rattle.comp_dir.specs.Slots.{slot_of}
use Rattle.comp_dir.specs.Directory.{Directory, Numbered, slot_body, slot_at, slots_from, open_from, open_slots, directory_of, IsLooked}
use Rattle.comp_dir.specs.Rules.{IsSound, IsSlot, Obeys, AllObey}
use Rattle.comp_dir.specs.Bad.{IsFirstUnsound}
use Rattle.comp_dir.specs.Faults.{WhereBad}
use Rattle.comp_dir.specs.Resting.{IsAtRest}
use Rattle.comp_dir.specs.Found.{AreLawful, slot_in, Shows, IsFine, with_open, HasFound, IsUnsoundAt}
use Rattle.comp_dir.specs.Laws.Agreeing.{slot_at-open, slot_at-shut, get_or-slots_from, get_or-slots_behind}
use Rattle.comp_dir.specs.declared.faults.DirFault.{DirFault}
use Rattle.comp_dir.specs.declared.faults.DirFault.TheVariants.{Failed, BadSlot, OutOfMemory}
use Rattle.comp_dir.specs.declared.slots.Slot.{Slot}

-- answers of calls
pub on-ok : {X E : Type 0} (r : Result X E) (P Q : Type 0) → (P → Q) → OnOk r P → OnOk r Q
on-ok (Ok x) P Q weaker p = weaker p
on-ok (Err e) P Q weaker p = tt

pub where-bad : (fault : DirFault) (P Q : ℕ → Type 0) → ((n : ℕ) → P n → Q n) → WhereBad fault P → WhereBad fault Q
where-bad Failed P Q weaker p = tt
where-bad (BadSlot n) P Q weaker p = weaker n p
where-bad OutOfMemory P Q weaker p = tt

pub if-bad : {X : Type 0} (r : Result X DirFault) (P Q : ℕ → Type 0) → ((n : ℕ) → P n → Q n) → IfErr r (λ fault. WhereBad fault P) → IfErr r (λ fault. WhereBad fault Q)
if-bad (Ok x) P Q weaker p = tt
if-bad (Err e) P Q weaker p = where-bad e P Q weaker p

-- a list of found slots grows
all-one : (P : Numbered → Type 0) (x : Numbered) → P x → All P (x ∷ [])
all-one P x p zero d lt = p
all-one P x p (suc k) d lt = absurd (omega arith)

lower : (a b c d : Numbered) → c ≡ a → d ≡ b → a.0 < b.0 → c.0 < d.0
lower a b c d p q lt = omega (arith, lt, ap (λ (e : Numbered). e.0) p, ap (λ (e : Numbered). e.0) q)

pub lawful-more : (pages declared n : ℕ) (found : List Numbered) (slot : Slot) → AreLawful pages declared n found → IsSound pages declared slot → AreLawful pages declared (n + 1) (found ++ (n, slot) ∷ [])
lawful-more pages declared n found slot lawful sound = record {
  each = All-append (λ e. (e.0 < n + 1) × IsSound pages declared e.1) found ((n, slot) ∷ [])
      (λ k d lt. (omega (arith, (lawful.each k d lt).0), (lawful.each k d lt).1))
      (all-one (λ e. (e.0 < n + 1) × IsSound pages declared e.1) (n, slot) (omega arith, sound));
  ascend = ascends;
}
  where
    ascends : AllPairs (λ e f. e.0 < f.0) (found ++ (n, slot) ∷ [])
    ascends i j d lt len = elim (cases_lt j (length found)) [
      | inl early ↦
          let before : i < length found = omega arith in
          lower (get_or found i d) (get_or found j d) _ _ (get_or_append_left found ((n, slot) ∷ []) d i before) (get_or_append_left found ((n, slot) ∷ []) d j early) (lawful.ascend i j d lt early)
      | inr late ↦
          let before : i < length found = omega (arith, len, length-append found ((n, slot) ∷ [])) in
          let last : j - length found ≡ 0 = omega (arith, len, length-append found ((n, slot) ∷ [])) in
          lower (get_or found i d) (n, slot) _ _ (get_or_append_left found ((n, slot) ∷ []) d i before)
          (get_or-append_right found ((n, slot) ∷ []) (length found) j d refl late ∙ ap (λ (k : ℕ). get_or ((n, slot) ∷ []) k d) last) (lawful.each i d before).0
    ]

pub lawful-same : (pages declared n m : ℕ) (found : List Numbered) → n ≤ m → AreLawful pages declared n found → AreLawful pages declared m found
lawful-same pages declared n m found le lawful = record { each = λ k d lt. (omega (arith, (lawful.each k d lt).0), (lawful.each k d lt).1); ascend = lawful.ascend }

pub lawful-add : (pages declared n : ℕ) (found now : List Numbered) (slot : Slot) (body : List ℕ) → slot ≡ slot_of body → IsSlot pages declared body → now ≡ found ++ (n, slot) ∷ [] → AreLawful pages declared n found
    → AreLawful pages declared (n + 1) now
lawful-add pages declared n found now slot body is sound added lawful =
    subst (AreLawful pages declared (n + 1)) (sym added) (lawful-more pages declared n found slot lawful (subst (IsSound pages declared) (sym is) sound.sound))

-- one slot more
slots_from-more : (count n : ℕ) (bytes : Bytes) → slots_from (count + 1) n bytes ≡ slots_from count n bytes ++ slot_at (n + count) bytes ∷ []
unfolding slots_from
slots_from-more zero n bytes = let e : n ≡ n + zero = omega arith in ap (λ (m : ℕ). slot_at m bytes ∷ []) e
slots_from-more (suc count) n bytes =
    let e : suc count + 1 ≡ suc (count + 1) = omega arith in
    let f : n + 1 + count ≡ n + suc count = omega arith in
    ap (λ (k : ℕ). slots_from k n bytes) e ∙ ap (λ (d : Directory). slot_at n bytes ∷ d) (slots_from-more count (n + 1) bytes ∙ ap (λ (m : ℕ). slots_from count (n + 1) bytes ++ slot_at m bytes ∷ []) f)

open_from-append : (n : ℕ) (xs ys : Directory) → open_from n (xs ++ ys) ≡ open_from n xs ++ open_from (n + length xs) ys
open_from-append n [] ys = let e : n ≡ n + 0 = omega arith in ap (λ (m : ℕ). open_from m ys) e
open_from-append n (None ∷ xs) ys = let e : n + 1 + length xs ≡ n + suc (length xs) = omega arith in open_from-append (n + 1) xs ys ∙ ap (λ (m : ℕ). open_from (n + 1) xs ++ open_from m ys) e
open_from-append n (Some body ∷ xs) ys =
    let e : n + 1 + length xs ≡ n + suc (length xs) = omega arith in
    ap (λ (l : List Numbered). (n, slot_of body) ∷ l) (open_from-append (n + 1) xs ys ∙ ap (λ (m : ℕ). open_from (n + 1) xs ++ open_from m ys) e)

length-slots : (count n : ℕ) (bytes : Bytes) → length (slots_from count n bytes) ≡ count
unfolding slots_from
length-slots zero n bytes = refl
length-slots (suc count) n bytes = ap suc (length-slots count (n + 1) bytes)

pub found-more : (pages declared n : ℕ) (bytes : Bytes) (found : List Numbered) → HasFound pages declared n bytes found → IsFine pages declared (slot_at n bytes)
    → HasFound pages declared (n + 1) bytes (with_open n (slot_at n bytes) found)
found-more pages declared n bytes found has fine =
    let count : 0 + length (slots_from n 0 bytes) ≡ n = omega (arith, length-slots n 0 bytes) in
    let last : 0 + n ≡ n = omega arith in
    record {
      items =
          ap (λ (l : List Numbered). l ++ open_from n (slot_at n bytes ∷ [])) has.items
          ∙ ap (λ (m : ℕ). open_from 0 (slots_from n 0 bytes) ++ open_from m (slot_at n bytes ∷ [])) (sym count)
          ∙ sym (open_from-append 0 (slots_from n 0 bytes) (slot_at n bytes ∷ []))
          ∙ ap (λ (m : ℕ). open_from 0 (slots_from n 0 bytes ++ slot_at m bytes ∷ [])) (sym last)
          ∙ ap (open_from 0) (sym (slots_from-more n 0 bytes));
      sound = λ m lt. ⊎_elim (λ before. has.sound m before) (λ is. subst (λ (k : ℕ). IsFine pages declared (slot_at k bytes)) (sym is) fine) (sides m n lt);
    }
  where
    sides : (m n : ℕ) → m < n + 1 → (m < n) ⊎ (m ≡ n)
    sides m n lt = grind arith

-- a slot of a page
pub page-more : (pages declared first place : ℕ) (page : List ℕ) (bytes : Bytes) (found now : List Numbered) → place < 64 → Shows first page bytes → IsFine pages declared (slot_in place page)
    → now ≡ with_open (first + place) (slot_in place page) found → HasFound pages declared (first + place) bytes found → HasFound pages declared (first + (place + 1)) bytes now
page-more pages declared first place page bytes found now lt shows fine added has =
    let there : slot_in place page ≡ slot_at (first + place) bytes = shows place lt in
    let count : first + place + 1 ≡ first + (place + 1) = omega arith in
    let grown : HasFound pages declared (first + place + 1) bytes (with_open (first + place) (slot_at (first + place) bytes) found) =
    found-more pages declared (first + place) bytes found has (subst (IsFine pages declared) there fine) in
    let same : with_open (first + place) (slot_at (first + place) bytes) found ≡ now = ap (λ (o : Option (List ℕ)). with_open (first + place) o found) (sym there) ∙ sym added in
    subst (λ (k : ℕ). HasFound pages declared k bytes now) count (subst (HasFound pages declared (first + place + 1) bytes) same grown)

pub page-bad : (pages declared first place n : ℕ) (page : List ℕ) (bytes : Bytes) (found : List Numbered) → place < 64 → first + 64 ≤ 512 → Shows first page bytes → n ≡ first + place → (IsFine pages declared (slot_in place page) → ⊥)
    → HasFound pages declared (first + place) bytes found → IsUnsoundAt pages declared bytes n
page-bad pages declared first place n page bytes found lt room shows is bad has = record {
  below = omega arith;
  breaks = λ fine. bad (subst (IsFine pages declared) (ap (λ (m : ℕ). slot_at m bytes) is ∙ sym (shows place lt)) fine);
  before = λ m before. has.sound m (omega (arith, before, is));
}

-- what a page that was read shows
pub page-shows : (first at : ℕ) (page : List ℕ) (s : Story) → length page ≡ 4096 → at ≡ slot_start first → first + 64 ≤ 512 → IsReadFrom at page s → IsAtRest s → Shows first page (bytes_of s)
unfolding slot_body
page-shows first at page s long start room read rest place lt = elim (cases_eq (get_or page (place * 64) 0) 165) [
  | inl is ↦ opened is ∙ sym (slot_at-open (first + place) (bytes_of s) (sym gate ∙ is))
  | inr shut ↦ closed shut ∙ sym (slot_at-shut (first + place) (bytes_of s) (λ is. shut (gate ∙ is)))
]
  where
    here : at + place * 64 ≡ slot_start (first + place)
    here = omega arith

    gate-readable : IsReadable s.past (at + place * 64)
    gate-readable = IsReadable-settled s.past (at + place * 64) (rest (at + place * 64) (first + place, omega arith, inl here))

    gate : get_or page (place * 64) 0 ≡ bytes_of s (slot_start (first + place))
    gate = read (place * 64) (omega arith) gate-readable ∙ ap (bytes_of s) here

    closed : (get_or page (place * 64) 0 ≡ 165 → ⊥) → slot_in place page ≡ None
    closed shut = grind (arith, nat_tests)

    opened : get_or page (place * 64) 0 ≡ 165 → slot_in place page ≡ Some (slot_body (first + place) (bytes_of s))
    opened is =
        let wide : length (take 63 (drop (place * 64 + 1) page)) ≡ 63 = omega (arith, length-take {A = ℕ} 63 (drop (place * 64 + 1) page), length-drop {A = ℕ} (place * 64 + 1) page, long) in
        let each : (k : ℕ) → k < 63 → bytes_of s (slot_start (first + place) + 1 + k) ≡ get_or (take 63 (drop (place * 64 + 1) page)) k 0 = λ k below.
        let spot : at + (place * 64 + 1 + k) ≡ slot_start (first + place) + 1 + k = omega arith in
        let readable : IsReadable s.past (at + (place * 64 + 1 + k)) =
        IsReadable-settled s.past (at + (place * 64 + 1 + k)) (rest (at + (place * 64 + 1 + k)) (first + place, omega arith, inr (sym gate ∙ is, omega arith, omega arith))) in
        ap (bytes_of s) (sym spot) ∙ sym (read (place * 64 + 1 + k) (omega arith) readable) ∙ sym (get_or-drop (place * 64 + 1) page k 0) ∙ sym (get_or-take 63 (drop (place * 64 + 1) page) k 0 below) in
        let body : part (slot_start (first + place) + 1) 63 (bytes_of s) ≡ take 63 (drop (place * 64 + 1) page) = part-list (slot_start (first + place) + 1) 63 (bytes_of s) _ wide each in
        some-of (get_or page (place * 64) 0) is ∙ ap Some (sym body)
      where
        some-of : (byte : ℕ) → byte ≡ 165 → (if byte == 165 then Some (take 63 (drop (place * 64 + 1) page)) else None) ≡ Some (take 63 (drop (place * 64 + 1) page))
        some-of byte is = grind (arith, nat_tests)

-- a read of a page, whether it failed or not
pub page-reads : {X E : Type 0} (s : Story) (at number count : ℕ) (result : Result X E) (old new : Option Story) → old ≡ Some s → Tells (Read at count) old new result → at ≡ 4096 + number * 4096 → count ≡ 4096 → number < 8 → ReadsDirectory s new
page-reads s at number count result old new is told place long lt = ReadsWithin-read IsInDirectory s at count result old new is told (record { from = omega arith; to = omega arith })

pub shows-read : {X E : Type 0} (number at : ℕ) (page : List ℕ) (old : Option Story) (result : Result X E) → length page ≡ 4096 → at ≡ 4096 + number * 4096 → number < 8 → OnOk result (WhereTold old (IsReadFrom at page))
    → OnOk result (WhereTold old (λ s. IsAtRest s → Shows (64 * number) page (bytes_of s)))
shows-read number at page old (Ok x) long place lt read = λ s is rest. page-shows (64 * number) at page s long (omega arith) (omega arith) (read s is) rest
shows-read number at page old (Err e) long place lt read = tt

-- reads leave the directory at rest, and its bytes
pub rest-reads : (s : Story) (now : Option Story) → ReadsDirectory s now → IsAtRest s → (t : Story) → now ≡ Some t → IsAtRest t × (bytes_of t ≡ bytes_of s)
rest-reads s now reads rest t is =
    let same : after s reads.calls ≡ t = same_Some _ _ (sym reads.told ∙ is) in
    let bytes : bytes_of (after s reads.calls) ≡ bytes_of s = bytes_of-reads IsInDirectory s reads.calls reads.reads in
    let rests : IsAtRest (after s reads.calls) = λ i looked. IsSettled-reads IsInDirectory s reads.calls i reads.reads (rest i (subst (λ (b : Bytes). IsLooked b i) bytes looked)) in
    subst (λ (u : Story). IsAtRest u × (bytes_of u ≡ bytes_of s)) same (rests, bytes)

-- the slots of the whole directory
pub found-all : (pages declared : ℕ) (bytes : Bytes) (found : List Numbered) → HasFound pages declared 512 bytes found → found ≡ open_slots (directory_of bytes)
unfolding directory_of
found-all pages declared bytes found has = has.items

obeys : (pages declared : ℕ) (slot : Option (List ℕ)) → IsFine pages declared slot → (body : List ℕ) → slot ≡ Some body → IsSlot pages declared body
obeys pages declared None fine body is = cc
obeys pages declared (Some there) fine body is = subst (IsSlot pages declared) (same_Some _ _ is) fine

fine-of : (pages declared : ℕ) (slot : Option (List ℕ)) → ((body : List ℕ) → slot ≡ Some body → IsSlot pages declared body) → IsFine pages declared slot
fine-of pages declared None each = tt
fine-of pages declared (Some body) each = each body refl

at_number : (n : ℕ) (bytes : Bytes) → n < 512 → get_or (directory_of bytes) n None ≡ slot_at n bytes
unfolding directory_of
at_number n bytes lt = get_or-slots_from 512 0 n bytes lt ∙ (let e : 0 + n ≡ n = omega arith in ap (λ (m : ℕ). slot_at m bytes) e)

behind_all : (n : ℕ) (bytes : Bytes) → 512 ≤ n → get_or (directory_of bytes) n None ≡ None
unfolding directory_of
behind_all n bytes le = get_or-slots_behind 512 0 n bytes le

fine-obeys : (pages declared n : ℕ) (bytes : Bytes) → n < 512 → IsFine pages declared (slot_at n bytes) → Obeys pages declared (directory_of bytes) n
fine-obeys pages declared n bytes lt fine = obeys pages declared (get_or (directory_of bytes) n None) (subst (IsFine pages declared) (sym (at_number n bytes lt)) fine)

pub all-obey : (pages declared : ℕ) (bytes : Bytes) (found : List Numbered) → HasFound pages declared 512 bytes found → AllObey pages declared (directory_of bytes)
all-obey pages declared bytes found has n = elim (cases_lt n 512) [
  | inl lt ↦ fine-obeys pages declared n bytes lt (has.sound n lt)
  | inr le ↦ λ body is. absurd (let none : ◌≡◌ {A = Option (List ℕ)} None (Some body) = sym (behind_all n bytes le) ∙ is in cc)
]

pub first-unsound : (pages declared n : ℕ) (bytes : Bytes) → IsUnsoundAt pages declared bytes n → IsFirstUnsound pages declared (directory_of bytes) n
first-unsound pages declared n bytes unsound = record {
  breaks = λ each. unsound.breaks (subst (IsFine pages declared) (at_number n bytes unsound.below) (fine-of pages declared (get_or (directory_of bytes) n None) each));
  before = λ m lt. fine-obeys pages declared m bytes (omega (arith, unsound.below)) (unsound.before m lt);
}

-- nothing yet
pub found-none : (pages declared : ℕ) (bytes : Bytes) (found : List Numbered) → found ≡ [] → HasFound pages declared 0 bytes found
unfolding slots_from
found-none pages declared bytes found is = record { items = is; sound = λ m lt. absurd (omega arith) }

-- the next page, read after reads
module _ (pages asked declared number : ℕ) (s : Story) (mid : Option Story) (found : List Numbered) (is : asked ≡ pages) (reads : ReadsDirectory s mid) (rest : IsAtRest s) where
  abbrev there : Story
  there = after s reads.calls

  rests : IsAtRest there × (bytes_of there ≡ bytes_of s)
  rests = rest-reads s mid reads rest there reads.told

  before-it : HasFound pages declared (64 * number) (bytes_of s) found → HasFound asked declared (64 * number) (bytes_of there) found
  before-it has = subst (λ (b : Bytes). HasFound asked declared (64 * number) b found) (sym rests.1) (subst (λ (p : ℕ). HasFound p declared (64 * number) (bytes_of s) found) (sym is) has)

  pub dir-next : (now : List Numbered) → WhereTold mid (λ t. IsAtRest t → HasFound asked declared (64 * number) (bytes_of t) found → HasFound asked declared (64 * number + 64) (bytes_of t) now)
      → HasFound pages declared (64 * number) (bytes_of s) found → HasFound pages declared (64 * (number + 1)) (bytes_of s) now
  dir-next now more has =
      let count : 64 * number + 64 ≡ 64 * (number + 1) = omega arith in
      subst (λ (k : ℕ). HasFound pages declared k (bytes_of s) now) count
      (subst (λ (p : ℕ). HasFound p declared (64 * number + 64) (bytes_of s) now) is
      (subst (λ (b : Bytes). HasFound asked declared (64 * number + 64) b now) rests.1 (more there reads.told rests.0 (before-it has))))

  pub dir-bad : (n : ℕ) → WhereTold mid (λ t. IsAtRest t → HasFound asked declared (64 * number) (bytes_of t) found → IsUnsoundAt asked declared (bytes_of t) n)
      → HasFound pages declared (64 * number) (bytes_of s) found → IsFirstUnsound pages declared (directory_of (bytes_of s)) n
  dir-bad n more has =
      first-unsound pages declared n (bytes_of s)
      (subst (λ (p : ℕ). IsUnsoundAt p declared (bytes_of s) n) is
      (subst (λ (b : Bytes). IsUnsoundAt asked declared b n) rests.1 (more there reads.told rests.0 (before-it has))))

-- all pages were read
pub found-whole : (pages declared number : ℕ) (bytes : Bytes) (found : List Numbered) → number ≡ 8 → HasFound pages declared (64 * number) bytes found → HasFound pages declared 512 bytes found
found-whole pages declared number bytes found is has = let count : 64 * number ≡ 512 = omega arith in subst (λ (k : ℕ). HasFound pages declared k bytes found) count has

pub lawful-next : (pages asked declared number : ℕ) (found now : List Numbered) → asked ≡ pages → (AreLawful asked declared (64 * number) found → AreLawful asked declared (64 * number + 64) now)
    → AreLawful pages declared (64 * number) found → AreLawful pages declared (64 * (number + 1)) now
lawful-next pages asked declared number found now is more lawful =
    let count : 64 * number + 64 ≡ 64 * (number + 1) = omega arith in
    subst (λ (k : ℕ). AreLawful pages declared k now) count
    (subst (λ (p : ℕ). AreLawful p declared (64 * number + 64) now) is (more (subst (λ (p : ℕ). AreLawful p declared (64 * number) found) (sym is) lawful)))

pub lawful-none : (pages declared : ℕ) (found : List Numbered) → found ≡ [] → AreLawful pages declared 0 found
lawful-none pages declared found is = subst (AreLawful pages declared 0) (sym is) (record { each = λ k d lt. absurd (omega arith); ascend = λ i j d lt len. absurd (omega arith) })
