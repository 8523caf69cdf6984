-- A component that is read whole.
use Rattle.std.proofs.Common.{◌≡◌, ◌≢◌, ℕ, suc, ◌-◌, ◌<◌, ◌≤◌, ◌^◌, Bool, true, false, not, ◌&&◌, ◌||◌, nat_le, List, [], ◌∷◌, ◌++◌, All, length, get_or, cond, arith, refl, sym, ◌∙◌, ap, inl, inr, append_assoc, map, take, take-suc}
use Rattle.std.proofs.lemmas.List.{map-append}
use Rattle.std.specs.Prelude.{AllPairs}
use Rattle.std.proofs.lemmas.Bool.{cases_lt, leb-false, lt-leb}
use Rattle.std.proofs.lemmas.List.Elements.{All-cons, All-nil}
use Rattle.std.proofs.lemmas.List.Kept.{AllPairs-cons}
use Rattle.std.specs.List.{dedup, dedup_from, list_any}
use Rattle.std.specs.Int.{to_be_bytes, from_be_bytes, w64}
use Rattle.std.specs.Ordering.{nat_cmp, is_gt}
use Rattle.std.specs.Cmp.{nat_cmp_is}
use Rattle.std.specs.declared.cmp.Ordering.TheVariants.{Less, Equal, Greater}
use Rattle.std.proofs.lemmas.Cmp.{ranked}
use Rattle.btree_image.specs.Rows.{IsStored}
use Rattle.btree_image.specs.Given.{AreRanges, rows_met, is_inside}
use Rattle.order_merge.specs.Ascending.{Ascends}
use Rattle.primary_ix.specs.declared.rows.PrimRow.{PrimRow}
use Rattle.primary_ix.specs.Rows.{prim_layout}
use Rattle.primary_ix.specs.Reading.{prim_reading}
use Rattle.primary_ix.specs.Scans.{all_keys}

pub all_keys-ranges : AreRanges nat_cmp all_keys
all_keys-ranges = record {
  each = All-cons (λ range. nat_cmp range.0 range.1 ≢ Greater) (0, 2 ^ 64 - 1) [] (λ e. cc) (All-nil (λ range. nat_cmp range.0 range.1 ≢ Greater));
  apart = λ i j d h inside. absurd (omega arith);
}

pub up_to : (a b : ℕ) → a ≤ b → is_gt (nat_cmp a b) ≡ false
up_to a b h = elim (cases_lt a b) [
  | inl lt ↦ ap is_gt (sym (nat_cmp_is a b Less lt))
  | inr ge ↦ ap is_gt (sym (nat_cmp_is a b Equal (let e : a ≡ b = omega arith in e)))
]

pub key_fits : (key : ℕ) → from_be_bytes w64 (to_be_bytes w64 key) ≡ key → key < 2 ^ 64
key_fits key e = omega arith

met : (row : PrimRow) → IsStored prim_layout row → list_any (λ range. is_inside prim_layout range row) all_keys ≡ true
met row is =
    let fits : row.key < 2 ^ 64 = key_fits row.key is.key_back in
    let low : is_gt (nat_cmp 0 row.key) ≡ false = up_to 0 row.key (omega arith) in
    let high : is_gt (nat_cmp row.key (2 ^ 64 - 1)) ≡ false = up_to row.key (2 ^ 64 - 1) (omega arith) in
    ap (λ b. (not b && not (is_gt (nat_cmp row.key (2 ^ 64 - 1)))) || false) low ∙ ap (λ b. (not b) || false) high

-- each row of a stored list lies in the range of all keys
pub all_met : (list : List PrimRow) → All (IsStored prim_layout) list → rows_met prim_layout list all_keys ≡ list
all_met [] stored = refl
all_met (row ∷ rows) stored =
    ap (λ b. cond b (row ∷ rows_met prim_layout rows all_keys) (rows_met prim_layout rows all_keys)) (met row (stored 0 row (omega arith)))
    ∙ ap (λ t. row ∷ t) (all_met rows (λ k d h. stored (suc k) d (omega arith)))

-- not above the last one kept
abbrev pub behind : PrimRow → PrimRow → Bool
behind next last = nat_le next.key last.key

abbrev Below : PrimRow → PrimRow → Type 0
Below a b = nat_cmp a.key b.key ≡ Less

below : (a b : PrimRow) → a.key < b.key → Below a b
below a b h = sym (nat_cmp_is a.key b.key Less h)

above : (a b : PrimRow) → Below a b → a.key < b.key
above a b h = ranked a.key b.key Less (sym h)

record IsKept (k : PrimRow) (rows : List PrimRow) : Type 0 where
  ascends : AllPairs Below rows
  from : All (λ row. k.key ≤ row.key) rows

kept : (k : PrimRow) (xs : List PrimRow) → IsKept k (dedup_from behind k xs)
kept k [] = record {
  ascends = AllPairs-cons Below k [] (All-nil (Below k)) (λ i j d h inside. absurd (omega arith));
  from = All-cons (λ row. k.key ≤ row.key) k [] (omega arith) (All-nil (λ row. k.key ≤ row.key));
}
kept k (x ∷ xs) = go (behind x k) refl (kept k xs) (kept x xs)
  where
    go : (b : Bool) → behind x k ≡ b → IsKept k (dedup_from behind k xs) → IsKept x (dedup_from behind x xs)
        → IsKept k (cond b (dedup_from behind k xs) (k ∷ dedup_from behind x xs))
    go true h passed next = passed
    go false h passed next =
        let lt : k.key < x.key = leb-false x.key k.key h in
        record {
          ascends = AllPairs-cons Below k (dedup_from behind x xs) (λ i d inside. below k (get_or (dedup_from behind x xs) i d) (let le = next.from i d inside in omega arith)) next.ascends;
          from = All-cons (λ row. k.key ≤ row.key) k (dedup_from behind x xs) (omega arith) (λ i d inside. let le = next.from i d inside in omega arith);
        }

pub kept-ascends : (rows : List PrimRow) → Ascends prim_reading (dedup behind rows)
kept-ascends [] = λ i j d h inside. absurd (omega arith)
kept-ascends (row ∷ rows) = (kept row rows).ascends

stays_from : (k : PrimRow) (xs : List PrimRow) → AllPairs Below (k ∷ xs) → dedup_from behind k xs ≡ k ∷ xs
stays_from k [] ascends = refl
stays_from k (x ∷ xs) ascends =
    ap (λ b. cond b (dedup_from behind k xs) (k ∷ dedup_from behind x xs)) (lt-leb x.key k.key (above k x (ascends 0 1 k (omega arith) (omega arith))))
    ∙ ap (λ t. k ∷ t) (stays_from x xs (λ i j d h inside. ascends (suc i) (suc j) d (omega arith) (omega arith)))

-- a list that ascends stays as it is
pub kept-stays : (rows : List PrimRow) → Ascends prim_reading rows → dedup behind rows ≡ rows
kept-stays [] ascends = refl
kept-stays (row ∷ rows) ascends = stays_from row rows ascends

-- one list more
pub lists-more : {X : Type 0} (f : X → List PrimRow) (old : List X) (new : X) (first disk : List (List PrimRow)) (i : ℕ)
    → map f old ≡ first ++ take i disk → f new ≡ get_or disk i [] → i < length disk → map f (old ++ new ∷ []) ≡ first ++ take (suc i) disk
lists-more f old new first disk i so_far is inside =
    map-append f old (new ∷ [])
    ∙ ap (λ t. t ++ f new ∷ []) so_far ∙ append_assoc first (take i disk) (f new ∷ [])
    ∙ ap (λ t. first ++ (take i disk ++ t ∷ [])) is ∙ ap (λ t. first ++ t) (sym (take-suc disk i [] inside))
