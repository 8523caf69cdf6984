-- What the calls of lanes add up to, and what the history has of each lane.
use Rattle.std.proofs.Common.{◌≡◌, ℕ, suc, ◌+◌, ◌*◌, Bool, true, false, if◌then◌else◌, List, [], ◌∷◌, ◌++◌, length, refl, sym, ap, ◌∙◌, subst, arith, eq-eqb, suc-mul, append_assoc}
use mathlib.Core.Option.{some}
use lib.ListN.{get_elem?}
use Rattle.atomic_table.proofs.Lists.{at_longer}
use Rattle.turn_cell.specs.declared.turned.Turned.{Ghosts}
use Rattle.turn_cell.specs.declared.pass.Pass.{Pass}
use Rattle.turn_cell.specs.declared.view.Row.{Row}
use Rattle.turn_cell.specs.Rows.{total, made, own_of, joined_of, MadeBy}
use Rattle.turn_cell.specs.Owners.{is_of, of_owner}
use Rattle.turn_cell.specs.Passes.{table_of, own, rows, parts, joined, Adds, IsSamePass}
use Rattle.turn_cell.specs.Laws.Totals.{total_append}
use Rattle.turn_cell.specs.Laws.Shares.{sum_of_all}
use Rattle.turn_cell.specs.Laws.Owners.{all_of_owner}
use Rattle.turn_cell_tests.specs.declared.counter.Entry.{Entry}
use Rattle.turn_cell_tests.specs.declared.counter.Entry.TheVariants.{Drew, Counted}
use Rattle.turn_cell_tests.specs.Run.{owner_of, is_draw, IsRun, HasDrawn, draws_of, counts_of, run_draws_once}
use Rattle.turn_cell_tests.specs.Lanes.{CountsOf, LaneMade, Worked, HasLane}
use Rattle.turn_cell_tests.proofs.Runs.{run_counts}

of_owner_append : (o : ℕ) (xs ys : List Entry) → of_owner owner_of o (xs ++ ys) ≡ of_owner owner_of o xs ++ of_owner owner_of o ys
of_owner_append o [] ys = refl
of_owner_append o (x ∷ xs) ys = choose (is_of (owner_of x) o) (of_owner_append o xs ys)
  where
    choose : (b : Bool) → of_owner owner_of o (xs ++ ys) ≡ of_owner owner_of o xs ++ of_owner owner_of o ys
        → (if b then x ∷ of_owner owner_of o (xs ++ ys) else of_owner owner_of o (xs ++ ys)) ≡ (if b then x ∷ of_owner owner_of o xs else of_owner owner_of o xs) ++ of_owner owner_of o ys
    choose true e = ap (λ l. x ∷ l) e
    choose false e = e

one_more : (o n times : ℕ) (es : List Entry) → CountsOf o times es → CountsOf o (times + 1) (es ++ Counted o n ∷ [])
one_more o n times es c =
    let a = c.0 in
    let b = c.1 in
    let a' = total_append draws_of es (Counted o n ∷ []) in
    let b' = total_append counts_of es (Counted o n ∷ []) in
    (omega arith, omega arith, of_owner_append o es (Counted o n ∷ []) ∙ (λ k. c.2 k ++ (if eq-eqb o o refl k then Counted o n ∷ [] else [])))

made_all : (f : Entry → ℕ) (rs : List (Row Entry)) → made f rs ≡ total f (own_of rs) + made f (joined_of rs)
made_all f [] = omega arith
made_all f (r ∷ rs) = omega arith

made_append : (f : Entry → ℕ) (xs ys : List (Row Entry)) → made f (xs ++ ys) ≡ made f xs + made f ys
made_append f xs ys = total_append (λ (r : Row Entry). total f r.own) xs ys

drawn_there : (xs es : List Entry) (o : ℕ) → HasDrawn o (xs ++ Drew o ∷ es)
drawn_there [] es o = (0, refl)
drawn_there (x ∷ xs) es o = let r = drawn_there xs es o in (suc r.0, r.1)

head_row : (l : List (Row Entry)) (x : Entry) (xs : List Entry) → own_of l ≡ x ∷ xs → (r : Row Entry) × (get_elem? l 0 ≡ some r) × (r.own ≡ x ∷ xs)
head_row [] x xs e = absurd (cc)
head_row (r ∷ rs) x xs e = (r, refl, e)

at_second : (xs ys : List (Row Entry)) → get_elem? (xs ++ ys) (length xs) ≡ get_elem? ys 0
at_second [] ys = refl
at_second (x ∷ xs) ys = at_second xs ys

module _ {T : Type 0} {g : Ghosts T Entry} where
  pub after_draw : (p q : Pass T Entry g) (o : ℕ) (e : Entry) → e ≡ Drew o → IsSamePass p q → Adds p e q → LaneMade p 0 o q
  after_draw p q o e is same added = (same.0, same.2, same.3, ([], added.1 ∙ ap (λ x. own p ++ x ∷ []) is, (refl, refl, refl)))

  pub after_count : (p q r : Pass T Entry g) (o n i : ℕ) (e : Entry) → e ≡ Counted o n → LaneMade p i o q → IsSamePass q r → Adds q e r → LaneMade p (i + 1) o r
  after_count p q r o n i e is w same added =
      let es = w.3.0 in (
        same.0 ∙ w.0,
        same.2 ∙ w.1,
        same.3 ∙ w.2,
        (
          es ++ Counted o n ∷ [],
          added.1 ∙ (ap (λ x. own q ++ x ∷ []) is ∙ (ap (λ l. l ++ Counted o n ∷ []) w.3.1 ∙ append_assoc (own p) (Drew o ∷ es) (Counted o n ∷ []))),
          one_more o n i es w.3.2,
        ),
      )

  pub has_drawn : (p q : Pass T Entry g) (o i : ℕ) → LaneMade p i o q → HasDrawn o (own q)
  has_drawn p q o i w = subst (HasDrawn o) (sym w.3.1) (drawn_there (own p) w.3.0 o)

  -- a sum over all that the pass and those joined into it made
  grown : (f : Entry → ℕ) (p q : Pass T Entry g) (es : List Entry) → own q ≡ own p ++ es → joined q ≡ joined p → made f (rows q) ≡ made f (rows p) + total f es
  grown f p q es is same =
      let a = made_all f (rows p) in
      let b = made_all f (rows q) in
      let c : total f (own q) ≡ total f (own p ++ es) = ap (total f) is in
      let d = total_append f (own p) es in
      let e : made f (joined q) ≡ made f (joined p) = ap (made f) same in
      omega arith

  pub lane_worked : (p q : Pass T Entry g) (o times : ℕ) → LaneMade p times o q → Worked p 1 times q
  lane_worked p q o times w =
      let es = w.3.0 in
      let d = grown draws_of p q (Drew o ∷ es) w.3.1 w.2 in
      let c = grown counts_of p q (Drew o ∷ es) w.3.1 w.2 in
      let no_draws = w.3.2.0 in
      let counts = w.3.2.1 in
      (w.0, w.1, omega arith, omega arith)

  -- a pass that was split, whose parts worked and were joined
  pub joined_worked : (p p' a q b j : Pass T Entry g) (others times : ℕ)
      → table_of p' ≡ table_of p → rows p' ≡ rows p → parts p' + 1 ≡ parts p → parts q ≡ 1 → own q ≡ [] → joined q ≡ []
      → Worked p' others (others * times) a → Worked q 1 times b
      → table_of j ≡ table_of a → parts j ≡ parts a + parts b → rows j ≡ rows a ++ rows b
      → Worked p (others + 1) ((others + 1) * times) j
  joined_worked p p' a q b j others times tp rp pp pq oq jq wa wb tj pj rj =
      let part = wa.1 in
      let part' = wb.1 in
      let sum : (f : Entry → ℕ) → made f (rows j) ≡ made f (rows a) + made f (rows b) = λ f. ap (made f) rj ∙ made_append f (rows a) (rows b) in
      let old : (f : Entry → ℕ) → made f (rows p') ≡ made f (rows p) = λ f. ap (made f) rp in
      let none : (f : Entry → ℕ) → made f (rows q) ≡ 0 = λ f. (let s = made_all f (rows q) in let x : total f (own q) ≡ 0 = ap (total f) oq in let y : made f (joined q) ≡ 0 = ap (made f) jq in omega arith) in
      let d = sum draws_of in
      let d' = old draws_of in
      let d'' = none draws_of in
      let da = wa.2 in
      let db = wb.2 in
      let c = sum counts_of in
      let c' = old counts_of in
      let c'' = none counts_of in
      let ca = wa.3 in
      let cb = wb.3 in
      let all : (others + 1) * times ≡ others * times + times = omega (arith, suc-mul others times) in
      (tj ∙ (wa.0 ∙ tp), omega arith, omega arith, omega arith)

  -- the counter has what the passes made
  pub all_counted : (p j : Pass T Entry g) (owners times : ℕ) (history : List Entry) (d c : ℕ) → own p ≡ [] → joined p ≡ [] → Worked p owners times j
      → MadeBy owner_of is_draw (rows j) history → IsRun 0 0 history d c → (d ≡ owners) × (c ≡ times)
  all_counted p j owners times history d c op jp w by run =
      let counts = run_counts 0 0 history d c run in
      let drawn = counts.0 in
      let counted = counts.1 in
      let sd = sum_of_all owner_of is_draw draws_of (rows j) history by in
      let sc = sum_of_all owner_of is_draw counts_of (rows j) history by in
      let none : (f : Entry → ℕ) → made f (rows p) ≡ 0 = λ f. (let s = made_all f (rows p) in let x : total f (own p) ≡ 0 = ap (total f) op in let y : made f (joined p) ≡ 0 = ap (made f) jp in omega arith) in
      let nd = none draws_of in
      let nc = none counts_of in
      let wd = w.2 in
      let wc = w.3 in
      (omega arith, omega arith)

  -- the history has of the lane's owner just the lane's calls
  lane_stands : (p q j : Pass T Entry g) (o times k : ℕ) (history : List Entry) (d c : ℕ) → own p ≡ [] → LaneMade p times o q → get_elem? (rows j) k ≡ get_elem? (rows q) 0
      → MadeBy owner_of is_draw (rows j) history → IsRun 0 0 history d c → HasLane history o times
  lane_stands p q j o times k history d c none w at all run =
      let es = w.3.0 in
      let mine : own q ≡ Drew o ∷ es = w.3.1 ∙ ap (λ l. l ++ Drew o ∷ es) none in
      let r = head_row (rows q) (Drew o) es mine in
      let first : get_elem? r.0.own 0 ≡ some (Drew o) = ap (λ l. get_elem? l 0) r.2 in
      let same = all_of_owner owner_of is_draw (rows j) history (run_draws_once 0 0 history d c run) all.marks all.exact all.drawn k r.0 0 (Drew o) o (at ∙ r.1) first (refl, refl) in
      (es, same ∙ (ap (of_owner owner_of o) r.2 ∙ ((λ i. if eq-eqb o o refl i then Drew o ∷ of_owner owner_of o es else of_owner owner_of o es) ∙ ap (λ l. Drew o ∷ l) w.3.2.2)), w.3.2)

  pub both_stand : (p a q b j : Pass T Entry g) (m n o u : ℕ) (history : List Entry) (d c : ℕ) → own p ≡ [] → own q ≡ [] → LaneMade p m o a → LaneMade q n u b → rows j ≡ rows a ++ rows b
      → MadeBy owner_of is_draw (rows j) history → IsRun 0 0 history d c → HasLane history o m × HasLane history u n
  both_stand p a q b j m n o u history d c np nq ma mb is all run =
      let head = head_row (rows a) (Drew o) ma.3.0 (ma.3.1 ∙ ap (λ l. l ++ Drew o ∷ ma.3.0) np) in (
        lane_stands p a j o m 0 history d c np ma (ap (λ l. get_elem? l 0) is ∙ (at_longer (rows a) (rows b) 0 head.0 head.1 ∙ sym head.1)) all run,
        lane_stands q b j u n (length (rows a)) history d c nq mb (ap (λ l. get_elem? l (length (rows a))) is ∙ at_second (rows a) (rows b)) all run,
      )

  pub both_counted : (p a q b j : Pass T Entry g) (m n o u : ℕ) (history : List Entry) (d c : ℕ) → own p ≡ [] → joined p ≡ [] → own q ≡ [] → joined q ≡ [] → LaneMade p m o a → LaneMade q n u b → rows j ≡ rows a ++ rows b
      → MadeBy owner_of is_draw (rows j) history → IsRun 0 0 history d c → (d ≡ 2) × (c ≡ m + n)
  both_counted p a q b j m n o u history d c op jp oq jq ma mb is by run =
      let wa = lane_worked p a o m ma in
      let wb = lane_worked q b u n mb in
      let sum : (f : Entry → ℕ) → made f (rows j) ≡ made f (rows a) + made f (rows b) = λ f. ap (made f) is ∙ made_append f (rows a) (rows b) in
      let none : (f : Entry → ℕ) (rs : List (Row Entry)) → own_of rs ≡ [] → joined_of rs ≡ [] → made f rs ≡ 0 = λ f rs e e'. (let s = made_all f rs in let x : total f (own_of rs) ≡ 0 = ap (total f) e in let y : made f (joined_of rs) ≡ 0 = ap (made f) e' in omega arith) in
      let counts = run_counts 0 0 history d c run in
      let drawn = counts.0 in
      let counted = counts.1 in
      let sd = sum_of_all owner_of is_draw draws_of (rows j) history by in
      let sc = sum_of_all owner_of is_draw counts_of (rows j) history by in
      let d1 = sum draws_of in
      let c1 = sum counts_of in
      let dp = none draws_of (rows p) op jp in
      let dq = none draws_of (rows q) oq jq in
      let cp = none counts_of (rows p) op jp in
      let cq = none counts_of (rows q) oq jq in
      let wad = wa.2 in
      let wac = wa.3 in
      let wbd = wb.2 in
      let wbc = wb.3 in
      (omega arith, omega arith)
