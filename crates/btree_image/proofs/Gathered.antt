-- What a leaf tells of the rows of a range.
use Rattle.std.proofs.Common.{◌≡◌, ◌≢◌, ℕ, suc, ◌+◌, ◌-◌, ◌*◌, ◌<◌, ◌≤◌, min, max, true, false, not, List, [], ◌∷◌, ◌++◌, take, drop, map, length, get_or, All, Some, arith, refl, sym, ◌∙◌, ap, subst, inl, inr, if◌then◌else◌, get_or-drop, length-drop, length-take}
use Rattle.std.specs.Prelude.{slice_index_or}
use Rattle.std.proofs.Math.Nat.{mul-le-mul_left}
use Rattle.std.proofs.Math.Seq.{take-add}
use Rattle.std.proofs.lemmas.Bool.{cases_lt, cases_eq}
use Rattle.std.proofs.lemmas.List.{take-take, drop-drop, drop-take, take_more, take-map, drop-map, length-map}
use Rattle.std.proofs.lemmas.List.Elements.{All-take, All-drop}
use Rattle.std.specs.Ordering.{is_gt, is_lt}
use Rattle.std.specs.declared.cmp.Ordering.TheVariants.{Greater}
use Rattle.page_codec.specs.Page.{most_rows, rows_on, row_count, ShowsRows}
use Rattle.btree_image.specs.declared.runs.Run.{Run}
use Rattle.btree_image.specs.Rows.{Layout, IsStored}
use Rattle.btree_image.specs.Kinds.{IsKeyOrder}
use Rattle.btree_image.specs.Image.{level_rows, IsList}
use Rattle.btree_image.specs.Descent.{rank, place_of_key}
use Rattle.btree_image.specs.Steps.{reaches, precedes, IsLastUpTo}
use Rattle.btree_image.specs.Walks.{rank_below, part, rows_of, Leads}
use Rattle.page_codec.specs.Laws.Writing.{length-rows_on, stands}
use Rattle.btree_image.proofs.Rank.{rank-le, at_most-below, greater-from}
use Rattle.btree_image.proofs.Ranks.{below-rank, below-passes, below-stops, rank-next}
use Rattle.btree_image.proofs.Narrowed.{end-some, place-none, last_place}
use Rattle.btree_image.proofs.Children.{not_greater}
use Rattle.btree_image.proofs.Leaf.{leaf-low, leaf-high}
use Rattle.btree_image.proofs.Told.{leaf_place, leaf_count, key_there, no_rows}

pub none-yet : (from : ℕ) (rows : List (List ℕ)) → take (from - from) (drop from rows) ≡ []
none-yet from rows = let e : from - from ≡ 0 = omega arith in rw e refl

pub rows-more : (from i : ℕ) (rows : List (List ℕ)) → from ≤ i → i < length rows → take (i + 1 - from) (drop from rows) ≡ take (i - from) (drop from rows) ++ get_or rows i [] ∷ []
rows-more from i rows h inside =
    let n = i - from in
    let e : i + 1 - from ≡ n + 1 = omega arith in
    let at : from + n ≡ i = omega arith in
    let long : n < length (drop from rows) = let d = length-drop-is from rows in omega arith in
    ap (λ k. take k (drop from rows)) e
    ∙ (take_more (drop from rows) n [] long
    ∙ ap (λ row. take n (drop from rows) ++ row ∷ []) (get_or-drop from rows n [] ∙ ap (λ k. get_or rows k []) at))
  where
    length-drop-is : (k : ℕ) (xs : List (List ℕ)) → length (drop k xs) ≡ length xs - k
    length-drop-is k xs = length-drop k xs

-- rows from one place to another, and on to a third
pub part-then : {T : Type 0} (list : List T) (a m n : ℕ) → a ≤ m → m ≤ n → part list a m ++ part list m n ≡ part list a n
part-then list a m n h k =
    let e : a + (m - a) ≡ m = omega arith in
    let f : (m - a) + (n - m) ≡ n - a = omega arith in
    let rest : part list m n ≡ take (n - m) (drop (m - a) (drop a list)) = ap (take (n - m)) (ap (λ j. drop j list) (sym e) ∙ sym (drop-drop (m - a) a list)) in
    ap (λ xs. part list a m ++ xs) rest
    ∙ (sym (take-add (m - a) (n - m) (drop a list)) ∙ ap (λ j. take j (drop a list)) f)

pub part-none : {T : Type 0} (list : List T) (a b : ℕ) → b ≤ a → part list a b ≡ []
part-none list a b h = let e : b - a ≡ 0 = omega arith in rw e refl

some_same : {X : Type 0} (xs ys : List X) → map (λ x. Some x) xs ≡ map (λ x. Some x) ys → xs ≡ ys
some_same [] [] e = refl
some_same [] (y ∷ ys) e = cc
some_same (x ∷ xs) [] e = cc
some_same (x ∷ xs) (y ∷ ys) e =
    let head : Some x ≡ Some y = cc in
    let same : x ≡ y = cc in
    let rest : map (λ x. Some x) xs ≡ map (λ x. Some x) ys = cc in
    ap (λ z. z ∷ xs) same ∙ ap (λ zs. y ∷ zs) (some_same xs ys rest)

read_back : {T K : Type 0} (l : Layout T K) (rows : List T) → All (IsStored l) rows → map l.of_bytes (map l.to_bytes rows) ≡ map (λ x. Some x) rows
read_back l [] stored = refl
read_back l (x ∷ xs) stored =
    ap (λ y. y ∷ map l.of_bytes (map l.to_bytes xs)) ((stored 0 x (omega arith)).row_back)
    ∙ ap (λ ys. Some x ∷ ys) (read_back l xs (λ i d h. stored (suc i) d (omega arith)))

module _ {T K : Type 0} (l : Layout T K) (o : IsKeyOrder l.order) (a : 1 ≤ most_rows l.leaf) (b : 2 ≤ most_rows l.inner)
    (rows : ℕ) (list : List T) (is : IsList l rows list) where
  abbrev w : ℕ
  w = most_rows l.leaf

  -- the rows that are copied out of a leaf are those of the list
  pub copied : (at : ℕ) (bytes : List ℕ) → rows_on bytes ≡ map l.to_bytes (take w (drop (at * w) list)) → (from to low high : ℕ) → to ≤ w → at * w + from ≡ low → at * w + to ≡ high
      → (added : List T) → map (λ x. Some x) added ≡ map l.of_bytes (take (to - from) (drop from (rows_on bytes))) → added ≡ part list low high
  copied at bytes shown from to low high short e f added read =
      let whole = take w (drop (at * w) list) in
      let mine = take (to - from) (drop from whole) in
      let same : map (λ x. Some x) added ≡ map (λ x. Some x) mine =
      read ∙ (ap (λ xs. map l.of_bytes (take (to - from) (drop from xs))) shown
      ∙ (ap (λ xs. map l.of_bytes (take (to - from) xs)) (drop-map l.to_bytes from whole)
      ∙ (ap (map l.of_bytes) (take-map l.to_bytes (to - from) (drop from whole))
      ∙ read_back l mine (All-take (IsStored l) (to - from) _ (All-drop (IsStored l) from _ (All-take (IsStored l) w _ (All-drop (IsStored l) (at * w) list is.stored))))))) in
      some_same added mine same ∙ mine-is
    where
      mine-is : take (to - from) (drop from (take w (drop (at * w) list))) ≡ part list low high
      mine-is = elim (cases_lt to from) [
        | inl none ↦ (
            let x : to - from ≡ 0 = omega arith in
            let y : high - low ≡ 0 = omega arith in
            rw (x, y) refl)
        | inr some ↦ (
            let n = w - from in
            let x : w ≡ from + n = omega arith in
            let y : high - low ≡ to - from = omega arith in
            ap (λ k. take (to - from) (drop from (take k (drop (at * w) list)))) x
            ∙ (ap (take (to - from)) (drop-take from n (drop (at * w) list))
            ∙ (take-take (to - from) n (drop from (drop (at * w) list)) (omega arith)
            ∙ (ap (take (to - from)) (drop-drop from (at * w) list ∙ ap (λ k. drop k list) e)
            ∙ ap (λ k. take k (drop low list)) (sym y)))))
      ]

  module _ (key : K) (at : ℕ) (e : at ≡ place_of_key l list key 0) (bytes : List ℕ) (shows : ShowsRows l.leaf 0 (level_rows l list 0 at) bytes) where
    abbrev last : ℕ
    last = rank l list key - 1

    -- the rows of the leaf below a key, by their place in the list
    pub before-told : (r : ℕ) → r ≤ row_count bytes → ((place : ℕ) → IsLastUpTo l key (rows_on bytes) place
        → r ≡ (if precedes l key (slice_index_or (rows_on bytes) place []) then place + 1 else place)) → at * w + r ≡ rank_below l list key
    before-told r most counts = elim (cases_lt 0 (length list)) [
      | inr none ↦ (
          let empty = (no_rows l o a b rows list is key at e bytes shows none).0 in
          let le = rank-le l o list is.ascends key in
          let below = below-rank l o list key in
          let first = e ∙ place-none l o a b rows list is key 0 (omega arith) in
          let start : at * w ≡ 0 = ap (λ n. n * w) first ∙ omega arith in
          omega arith)
      | inl some ↦ (
          let low = leaf-low l o list is.ascends is.stored key a at e in
          let high = leaf-high l o list is.ascends is.stored key a at e in
          let le = rank-le l o list is.ascends key in
          let below = below-rank l o list key in
          let count = leaf_count l o a b rows list is key at e bytes shows in
          let spot = last - at * w in
          let here : at * w + spot ≡ last = omega arith in
          let s = stands list (at * w + spot) (omega arith) in
          let k = key_there l o a b rows list is key at e bytes shows spot (omega arith) s in
          let r-is = counts spot (leaf_place l o a b rows list is key at e bytes shows some) in
          let next = rank-next l o list is.ascends key s.row in
          elim (cases_lt (at * w + spot) (rank_below l list key)) [
            | inl before ↦ (
                let passes : precedes l key (slice_index_or (rows_on bytes) spot []) ≡ true =
                ap (λ k. is_lt (l.order k key)) k ∙ subst (λ row. is_lt (l.order (l.key_of row) key) ≡ true) s.read (below-passes l o list is.ascends key (at * w + spot) s.row before) in
                let r-more : r ≡ spot + 1 = r-is ∙ rw passes refl in
                omega arith)
            | inr after ↦ (
                let stops : precedes l key (slice_index_or (rows_on bytes) spot []) ≡ false =
                ap (λ k. is_lt (l.order k key)) k ∙ subst (λ row. is_lt (l.order (l.key_of row) key) ≡ false) s.read (below-stops l o list is.ascends key (at * w + spot) s.row after (omega arith)) in
                let r-same : r ≡ spot = r-is ∙ rw stops refl in
                omega arith)
          ])
    ]

    -- and those up to a key
    pub up_to-told : (r : ℕ) → r ≤ row_count bytes → ((place : ℕ) → IsLastUpTo l key (rows_on bytes) place
        → r ≡ (if reaches l key (slice_index_or (rows_on bytes) place []) then place + 1 else place)) → at * w + r ≡ rank l list key
    up_to-told r most counts = elim (cases_lt 0 (length list)) [
      | inr none ↦ (
          let empty = (no_rows l o a b rows list is key at e bytes shows none).0 in
          let le = rank-le l o list is.ascends key in
          let first = e ∙ place-none l o a b rows list is key 0 (omega arith) in
          let start : at * w ≡ 0 = ap (λ n. n * w) first ∙ omega arith in
          omega arith)
      | inl some ↦ (
          let low = leaf-low l o list is.ascends is.stored key a at e in
          let high = leaf-high l o list is.ascends is.stored key a at e in
          let le = rank-le l o list is.ascends key in
          let count = leaf_count l o a b rows list is key at e bytes shows in
          let spot = last - at * w in
          let here : at * w + spot ≡ last = omega arith in
          let s = stands list (at * w + spot) (omega arith) in
          let k = key_there l o a b rows list is key at e bytes shows spot (omega arith) s in
          let r-is = counts spot (leaf_place l o a b rows list is key at e bytes shows some) in
          elim (cases_lt (at * w + spot) (rank l list key)) [
            | inl before ↦ (
                let passes : reaches l key (slice_index_or (rows_on bytes) spot []) ≡ true =
                ap (λ k. not (is_gt (l.order k key))) k ∙ subst (λ row. not (is_gt (l.order (l.key_of row) key)) ≡ true) s.read (at_most-below l o list is.ascends key (at * w + spot) s.row before) in
                let r-more : r ≡ spot + 1 = r-is ∙ rw passes refl in
                omega arith)
            | inr after ↦ (
                let stops : reaches l key (slice_index_or (rows_on bytes) spot []) ≡ false =
                ap (λ k. not (is_gt (l.order k key))) k
                ∙ (ap (λ r. not (is_gt r)) (subst (λ row. l.order (l.key_of row) key ≡ Greater) s.read (greater-from l o list is.ascends key (at * w + spot) s.row after (omega arith))) ∙ not_greater) in
                let r-same : r ≡ spot = r-is ∙ rw stops refl in
                omega arith)
          ])
    ]

  -- a leaf starts at most at the last row up to its key
  pub leaf-start : (key : K) → place_of_key l list key 0 * w ≤ rank l list key - 1
  leaf-start key = leaf-low l o list is.ascends is.stored key a (place_of_key l list key 0) refl

  pub leaf-stop : (key : K) → rank l list key ≤ suc (place_of_key l list key 0) * w
  leaf-stop key = let high = leaf-high l o list is.ascends is.stored key a (place_of_key l list key 0) refl in omega arith

  rank-most : (key : K) → rank l list key ≤ rank_below l list key + 1
  rank-most key = elim (cases_lt 0 (length list)) [
    | inl some ↦ rank-next l o list is.ascends key (stands list 0 some).row
    | inr none ↦ (let le = rank-le l o list is.ascends key in omega arith)
  ]

  below-start : (range : K × K) (run : Run) → Leads l list 0 range run → run.first * w ≤ rank_below l list range.0
  below-start range run leads =
      let start : run.first * w ≤ rank l list range.0 - 1 = rw leads.first_is (leaf-start range.0) in
      let next = rank-most range.0 in
      omega arith

  reached : (range : K × K) (run : Run) (at : ℕ) → Leads l list 0 range run → 1 ≤ at → at < run.end → at * w + 1 ≤ rank l list range.1
  reached range run at leads later before = elim (cases_lt 0 (rank l list range.1)) [
    | inr none ↦ absurd (let few = leads.none (omega arith) in omega arith)
    | inl some ↦ (
        let end = leads.end_is some in
        let f = end-some l o a b rows list is range.1 0 some in
        let start = leaf-start range.1 in
        let grown : w * at ≤ w * place_of_key l list range.1 0 = mul-le-mul_left w (omega arith) in
        omega arith)
  ]

  under : (range : K × K) (run : Run) (at : ℕ) → Leads l list 0 range run → run.first < at → rank_below l list range.0 ≤ at * w
  under range run at leads later =
      let stop : rank l list range.0 ≤ suc run.first * w = rw leads.first_is (leaf-stop range.0) in
      let grown : w * suc run.first ≤ w * at = mul-le-mul_left w (omega arith) in
      let le = below-rank l o list range.0 in
      omega arith

  -- the rows of a leaf that is shown
  pub shown_rows : (at : ℕ) (bytes : List ℕ) → ShowsRows l.leaf 0 (level_rows l list 0 at) bytes → rows_on bytes ≡ map l.to_bytes (take w (drop (at * w) list))
  unfolding level_rows
  shown_rows at bytes shows = shows.all

  shown_count : (at : ℕ) (bytes : List ℕ) → ShowsRows l.leaf 0 (level_rows l list 0 at) bytes → row_count bytes ≡ min w (length list - at * w)
  shown_count at bytes shows =
      let whole = take w (drop (at * w) list) in
      sym (length-rows_on bytes) ∙ (ap length (shown_rows at bytes shows) ∙ (length-map whole l.to_bytes
      ∙ (length-take w (drop (at * w) list) ∙ ap (min w) (length-drop (at * w) list))))

  -- from which row a leaf has rows of a range, and up to which one
  pub from-told : (range : K × K) (run : Run) (at : ℕ) → Leads l list 0 range run → run.first ≤ at → (bytes : List ℕ) → ShowsRows l.leaf 0 (level_rows l list 0 at) bytes
      → (r : ℕ) → r ≤ row_count bytes
      → (at ≡ run.first → (place : ℕ) → IsLastUpTo l range.0 (rows_on bytes) place → r ≡ (if precedes l range.0 (slice_index_or (rows_on bytes) place []) then place + 1 else place))
      → (at ≢ run.first → r ≡ 0) → at * w + r ≡ max (rank_below l list range.0) (at * w)
  from-told range run at leads from bytes shows r most firsts laters = elim (cases_eq at run.first) [
    | inl same ↦ (let e = before-told range.0 at (same ∙ leads.first_is) bytes shows r most (firsts same) in omega arith)
    | inr apart ↦ (let e = laters apart in let low = under range run at leads (omega (arith, from, apart)) in omega arith)
  ]

  pub to-told : (range : K × K) (run : Run) (at : ℕ) → Leads l list 0 range run → run.first ≤ at → at < run.end → (bytes : List ℕ) → ShowsRows l.leaf 0 (level_rows l list 0 at) bytes
      → (r : ℕ) → r ≤ row_count bytes
      → (run.end - at ≡ 1 → (place : ℕ) → IsLastUpTo l range.1 (rows_on bytes) place → r ≡ (if reaches l range.1 (slice_index_or (rows_on bytes) place []) then place + 1 else place))
      → (run.end - at ≢ 1 → r ≡ row_count bytes) → at * w + r ≡ min (rank l list range.1) (suc at * w)
  to-told range run at leads from before bytes shows r most lasts earliers = elim (cases_eq (run.end - at) 1) [
    | inl same ↦ (
        let last = last_place l o a b rows list is 0 range run leads (omega arith) in
        let here : at ≡ place_of_key l list range.1 0 = omega arith in
        let e = up_to-told range.1 at here bytes shows r most (lasts same) in
        let stop : rank l list range.1 ≤ suc at * w = rw here (leaf-stop range.1) in
        omega arith)
    | inr apart ↦ (
        let e = earliers apart in
        let more = reached range run (suc at) leads (omega arith) (omega (arith, before, apart)) in
        let le = rank-le l o list is.ascends range.1 in
        let count = shown_count at bytes shows in
        let step : suc at * w ≡ at * w + w = omega arith in
        omega arith)
  ]

  pub short : (at : ℕ) (bytes : List ℕ) → ShowsRows l.leaf 0 (level_rows l list 0 at) bytes → row_count bytes ≤ w
  short at bytes shows = let count = shown_count at bytes shows in omega arith

  -- at the start of a range's leaves nothing was found
  pub rows-start : (range : K × K) (run : Run) → Leads l list 0 range run → min (rank l list range.1) (run.first * w) ≤ rank_below l list range.0
  rows-start range run leads =
      let first = leads.first_is in
      let start : run.first * w ≤ rank l list range.0 - 1 = rw first (leaf-start range.0) in
      let next = rank-most range.0 in
      omega arith

  -- one leaf more
  pub rows-next : (range : K × K) (run : Run) (at : ℕ) → Leads l list 0 range run → run.first ≤ at → at < run.end
      → part list (rank_below l list range.0) (min (rank l list range.1) (at * w)) ++ part list (max (rank_below l list range.0) (at * w)) (min (rank l list range.1) (suc at * w))
      ≡ part list (rank_below l list range.0) (min (rank l list range.1) ((at + 1) * w))
  rows-next range run at leads from before =
      let low = rank_below l list range.0 in
      let high = rank l list range.1 in
      let step : (at + 1) * w ≡ suc at * w = ap (λ n. n * w) (omega arith) in
      let more : suc at * w ≡ at * w + w = omega arith in
      elim (cases_lt run.first at) [
        | inr here ↦ (
            let same : at ≡ run.first = omega arith in
            let start : min high (at * w) ≤ low = rw same (rows-start range run leads) in
            let begins : at * w ≤ rank l list range.0 - 1 = rw (same ∙ leads.first_is) (leaf-start range.0) in
            let below = below-start range run leads in
            let lower : max low (at * w) ≡ low = let l2 : at * w ≤ low = rw same below in omega arith in
            ap (λ xs. xs ++ part list (max low (at * w)) (min high (suc at * w))) (part-none list low (min high (at * w)) start)
            ∙ (ap (λ n. part list n (min high (suc at * w))) lower ∙ ap (λ n. part list low (min high n)) (sym step)))
        | inl later ↦ (
            let lower : low ≤ at * w = under range run at leads later in
            let upper = reached range run at leads (omega arith) before in
            let x : min high (at * w) ≡ at * w = omega arith in
            let y : max low (at * w) ≡ at * w = omega arith in
            ap (λ n. part list low n ++ part list (max low (at * w)) (min high (suc at * w))) x
            ∙ (ap (λ n. part list low (at * w) ++ part list n (min high (suc at * w))) y
            ∙ (part-then list low (at * w) (min high (suc at * w)) lower (omega arith)
            ∙ ap (λ n. part list low (min high n)) (sym step))))
      ]

  -- at the end of a range's leaves all its rows were found
  pub rows-all : (range : K × K) (run : Run) (at : ℕ) → Leads l list 0 range run → run.first ≤ at → run.end ≤ at → at ≤ max run.first run.end
      → part list (rank_below l list range.0) (min (rank l list range.1) (at * w)) ≡ rows_of l list range
  rows-all range run at leads from over most = elim (cases_lt 0 (rank l list range.1)) [
    | inr none ↦ part-none list _ _ (omega arith) ∙ sym (part-none list _ _ (omega arith))
    | inl some ↦ (
        let end = leads.end_is some in
        let f = end-some l o a b rows list is range.1 0 some in
        let stop = leaf-stop range.1 in
        let grown : w * suc (place_of_key l list range.1 0) ≤ w * at = mul-le-mul_left w (omega arith) in
        let all : min (rank l list range.1) (at * w) ≡ rank l list range.1 = omega arith in
        ap (part list (rank_below l list range.0)) all)
  ]
