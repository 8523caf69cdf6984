-- An entry more, a split and a join keep whose each entry is.
use Rattle.std.proofs.Common.{◌≡◌, ◌≢◌, ◌⊎◌, ℕ, zero, suc, ◌+◌, ◌-◌, ◌≤◌, ◌<◌, Bool, true, Option, Some, None, List, [], ◌∷◌, ◌++◌, length, set, get_or, drop, refl, sym, ap, ◌∙◌, subst, inl, inr, ⊎_elim, arith, append_assoc, length-append}
use mathlib.Core.Option.{some, some-injective, some-ne-none}
use lib.ListN.{get_elem?}
use Rattle.atomic_table.proofs.Lists.{at_snoc, at_longer, at_last, set_else}
use Rattle.turn_cell.specs.declared.view.Row.{Row}
use Rattle.turn_cell.specs.declared.view.Tally.{Tally}
use Rattle.turn_cell.specs.History.{Picks, IsDraw, HasDrawer, MayHaveOwner}
use Rattle.turn_cell.specs.Rows.{hit, hits, Every, row, adds, number_of}
use Rattle.turn_cell.specs.Rule.{found, tally, Told}
use Rattle.turn_cell.specs.Laws.Totals.{stay, at_inside, total_set, total_snoc, total_at, total_two}
use Rattle.turn_cell.specs.Laws.Marks.{hit_same, hit_none, hit_cases, picks_hit, picks_none, picks_at, every_miss, every_append, hits_adds, hits_append}

-- the last of a list one longer, and the others
pub snoc_cases : {A : Type 0} (l : List A) (a b : A) (j : ℕ) → get_elem? (l ++ a ∷ []) j ≡ some b → ((get_elem? l j ≡ some b) × (j < length l)) ⊎ ((j ≡ length l) × (a ≡ b))
snoc_cases [] a b zero e = inr (refl, some-injective a b e)
snoc_cases [] a b (suc j) e = absurd (some-ne-none b (sym e))
snoc_cases (x ∷ xs) a b zero e = inl (e, omega arith)
snoc_cases (x ∷ xs) a b (suc j) e = ⊎_elim (λ (t : (get_elem? xs j ≡ some b) × (j < length xs)). let h = t.1 in inl (t.0, omega arith)) (λ (t : (j ≡ length xs) × (a ≡ b)). inr (ap suc t.0, t.1)) (snoc_cases xs a b j e)

pub some_there : {A : Type 0} (l : List A) (i : ℕ) → i < length l → (a : A) × (get_elem? l i ≡ some a)
some_there [] i h = absurd (omega arith)
some_there (x ∷ xs) zero h = (x, refl)
some_there (x ∷ xs) (suc i) h = some_there xs i (omega arith)

-- a number and one digit more: what it begins with
snoc_split : (a b : List ℕ) (k c : ℕ) (m : List ℕ) → a ++ k ∷ m ≡ b ++ c ∷ [] → ((a ≡ b) × (k ≡ c)) ⊎ ((m' : List ℕ) × (b ≡ a ++ k ∷ m'))
snoc_split [] [] k c m e = inl (refl, ap (λ l. get_or l 0 0) e)
snoc_split [] (y ∷ ys) k c m e = inr (ys, λ i. sym (ap (λ l. get_or l 0 0) e) i ∷ ys)
snoc_split (x ∷ xs) [] k c m e = let s = ap length e in absurd (omega (arith, length-append xs (k ∷ m)))
snoc_split (x ∷ xs) (y ∷ ys) k c m e =
    let h : x ≡ y = ap (λ l. get_or l 0 0) e in
    ⊎_elim
    (λ (t : (xs ≡ ys) × (k ≡ c)). inl ((λ i. h i ∷ t.0 i), t.1))
    (λ (t : (m' : List ℕ) × (ys ≡ xs ++ k ∷ m')). inr (t.0, λ i. sym h i ∷ t.1 i))
    (snoc_split xs ys k c m (ap (λ l. drop 1 l) e))

module _ {E : Type 0} (owner : E → Option ℕ) (draws : E → Bool) where
  -- the new entry is of the pass that drew its owner
  drawer_longer : (es : List E) (ms : List (List ℕ)) (own : List E) (e : E) (n : List ℕ) → length ms ≡ length es → Picks n es ms own → MayHaveOwner owner draws own e
      → HasDrawer owner draws es ms → HasDrawer owner draws (es ++ e ∷ []) (ms ++ n ∷ [])
  drawer_longer es ms own e n len picks may old j b o at_j ow =
      ⊎_elim
      (λ (t : (get_elem? es j ≡ some b) × (j < length es)).
      let before = t.1 in
      let d = old j b o t.0 ow in
      let le = d.2 in
      let mi = some_there ms d.0 (omega arith) in
      let mj = some_there ms j (omega arith) in
      (d.0, d.1, d.2, at_longer es (e ∷ []) d.0 d.1 d.3, d.4, at_longer ms (n ∷ []) d.0 mi.0 mi.1 ∙ (sym mi.1 ∙ (d.5 ∙ (mj.1 ∙ sym (at_longer ms (n ∷ []) j mj.0 mj.1))))))
      (λ (t : (j ≡ length es) × (e ≡ b)).
      let is = t.0 in
      let mark_j : get_elem? (ms ++ n ∷ []) j ≡ some n = at_last ms n j (omega arith) in
      let ow' : owner e ≡ Some o = ap owner t.1 ∙ ow in
      ⊎_elim
      (λ (d : draws e ≡ true). (j, b, omega arith, at_j, (ap draws (sym t.1) ∙ d, ow), refl))
      (λ r. ⊎_elim
      (λ (no_owner : owner e ≡ None). absurd (some_none o (sym ow' ∙ no_owner)))
      (λ (u : (p : ℕ) × (owner e ≡ Some p) × ((k : ℕ) × (c : E) × (get_elem? own k ≡ some c) × IsDraw owner draws p c)).
      let place = picks_at n es ms own u.2.0 u.2.1 picks u.2.2 in
      let inside = at_inside es place.0 u.2.1 place.1 in
      let same_owner : u.0 ≡ o = some_same u.0 o (sym u.1 ∙ ow') in
      (place.0, u.2.1, omega arith, at_longer es (e ∷ []) place.0 u.2.1 place.1, subst (λ (q : ℕ). IsDraw owner draws q u.2.1) same_owner u.2.3, at_longer ms (n ∷ []) place.0 n place.2 ∙ sym mark_j))
      r)
      may)
      (snoc_cases es e b j at_j)
    where
      some_none : (p : ℕ) → Some p ≡ None → ⊥
      some_none p e = cc

      some_same : (p q : ℕ) → Some p ≡ Some q → p ≡ q
      some_same p q e = cc

  module _ (es : List E) (ms : List (List ℕ)) (ts : List (Tally E)) where
    -- a tally that changed, with the same number of hits, changes no count
    found_same : (i : ℕ) (t u : Tally E) (m : List ℕ) → get_elem? ts i ≡ some t → hits m u.rows ≡ hits m t.rows → found m (set ts i u) ≡ found m ts
    found_same i t u m at same = let s = total_set (λ (x : Tally E). hits m x.rows) ts i t u at in omega arith

    abbrev Shared : ℕ → Tally E → Type 0
    Shared j x = (r : Row E) (rs : List (Row E)) → x.rows ≡ r ∷ rs → 0 < x.parts

    abbrev Fresh : ℕ → Tally E → Type 0
    Fresh j x = (r : Row E) (rs : List (Row E)) → x.rows ≡ r ∷ rs → (k : ℕ) (more : List ℕ) → x.splits ≤ k → found (r.number ++ k ∷ more) ts ≡ 0

    pub told_adds : (i p c : ℕ) (r : Row E) (rs : List (Row E)) (e : E) → Told owner draws es ms ts → get_elem? ts i ≡ some (tally p c (r ∷ rs)) → MayHaveOwner owner draws r.own e → Told owner draws (es ++ e ∷ []) (ms ++ r.number ∷ []) (set ts i (tally p c (adds e (r ∷ rs))))
    told_adds i p c r rs e told at may =
        let t : Tally E = tally p c (r ∷ rs) in
        let u : Tally E = tally p c (adds e (r ∷ rs)) in
        let n : List ℕ = r.number in
        let mine = told.exact i t at in
        let len = told.marked in
        let same : (m : List ℕ) → found m (set ts i u) ≡ found m ts = λ m. found_same i t u m at (hits_adds m e (r ∷ rs)) in
        let here : hit n n ≡ 1 = hit_same n in
        let limit : found n ts ≤ 1 = told.unique n in
        let me_in : hits n (r ∷ rs) ≤ found n ts = total_at (λ (x : Tally E). hits n x.rows) ts i t at in
        record {
          marked = omega (arith, length-append ms (n ∷ []), length-append es (e ∷ []));
          shares = let s = total_set (λ (x : Tally E). x.parts) ts i t u at in let old = told.shares in omega arith;
          shared = stay Shared ts i u (λ r' rs' _. told.shared i t at r rs refl) (λ j x _ f. told.shared j x f);
          unique = λ m. let s = same m in let old = told.unique m in omega arith;
          known = λ k m f. let s = same m in
              ⊎_elim
              (λ (x : (get_elem? ms k ≡ some m) × (k < length ms)). let old = told.known k m x.0 in omega arith)
              (λ (x : (k ≡ length ms) × (n ≡ m)). subst (λ q. 1 ≤ found q (set ts i u)) x.1 (let s' = same n in omega arith))
              (snoc_cases ms n m k f);
          exact = stay (λ j (x : Tally E). Every (λ (y : Row E). Picks y.number (es ++ e ∷ []) (ms ++ n ∷ []) y.own) x.rows) ts i u
              (picks_hit n es ms r.own e mine.0, every_miss n es ms e rs (omega arith) mine.1)
              (λ j x apart f. let two = total_two (λ (y : Tally E). hits n y.rows) ts i j t x (λ s. apart (sym s)) at f in every_miss n es ms e x.rows (omega arith) (told.exact j x f));
          fresh = λ j x f r' rs' is k more le. same (r'.number ++ k ∷ more) ∙
              stay Fresh ts i u
              (λ r'' rs'' is' k' more' le'. subst (λ q. found (q ++ k' ∷ more') ts ≡ 0) (ap number_of is') (told.fresh i t at r rs refl k' more' le'))
              (λ j x _ f'. told.fresh j x f')
              j x f r' rs' is k more le;
          drawn = drawer_longer es ms r.own e n len mine.0 may told.drawn;
        }

    pub told_joins : (i p c : ℕ) (r : Row E) (rs : List (Row E)) (k q d : ℕ) (other : List (Row E)) → Told owner draws es ms ts → k ≢ i → get_elem? ts i ≡ some (tally p c (r ∷ rs)) → get_elem? ts k ≡ some (tally q d other)
        → Told owner draws es ms (set (set ts i (tally (p + q) c ((r ∷ rs) ++ other))) k (tally 0 0 []))
    told_joins i p c r rs k q d other told apart at at_k =
        let t : Tally E = tally p c (r ∷ rs) in
        let o : Tally E = tally q d other in
        let u : Tally E = tally (p + q) c ((r ∷ rs) ++ other) in
        let none_left : Tally E = tally 0 0 [] in
        let one : List (Tally E) = set ts i u in
        let at_k' : get_elem? one k ≡ some o = set_else ts i k u apart ∙ at_k in
        let both : (K : ℕ → Tally E → Type 0) → K i u → K k none_left → ((j : ℕ) (x : Tally E) → get_elem? ts j ≡ some x → K j x) → (j : ℕ) (x : Tally E) → get_elem? (set one k none_left) j ≡ some x → K j x =
        λ K a b others. stay K one k none_left b (λ j x _ f. stay K ts i u a (λ j x _ f. others j x f) j x f) in
        let same : (m : List ℕ) → found m (set one k none_left) ≡ found m ts = λ m.
        let s = total_set (λ (x : Tally E). hits m x.rows) ts i t u at in
        let s' = total_set (λ (x : Tally E). hits m x.rows) one k o none_left at_k' in
        let s'' = hits_append m (r ∷ rs) other in omega arith in
        record {
          marked = told.marked;
          shares = let s = total_set (λ (x : Tally E). x.parts) ts i t u at in let s' = total_set (λ (x : Tally E). x.parts) one k o none_left at_k' in let old = told.shares in omega arith;
          shared = both Shared (λ r' rs' _. let h = told.shared i t at r rs refl in omega arith) (λ r' rs' is. absurd (no_row r' rs' is)) told.shared;
          unique = λ m. let s = same m in let old = told.unique m in omega arith;
          known = λ a m f. let s = same m in let old = told.known a m f in omega arith;
          exact = let P : Row E → Type 0 = λ (y : Row E). Picks y.number es ms y.own in
              both (λ j (x : Tally E). Every P x.rows) (every_append P (r ∷ rs) other (told.exact i t at) (told.exact k o at_k)) tt told.exact;
          fresh = λ j x f r' rs' is a more le. same (r'.number ++ a ∷ more) ∙
              both Fresh
              (λ r'' rs'' is' k' more' le'. subst (λ z. found (z ++ k' ∷ more') ts ≡ 0) (ap number_of is') (told.fresh i t at r rs refl k' more' le'))
              (λ r'' rs'' is'. absurd (no_row r'' rs'' is'))
              told.fresh
              j x f r' rs' is a more le;
          drawn = told.drawn;
        }
      where
        no_row : (r : Row E) (rs : List (Row E)) → [] ≡ r ∷ rs → ⊥
        no_row r rs e = cc

    -- no number begins with the pass's own and a later split, nor does q
    abbrev Both : List ℕ → ℕ → Tally E → Type 0
    Both q j x = (r' : Row E) (rs' : List (Row E)) → x.rows ≡ r' ∷ rs' → (k : ℕ) (m : List ℕ) → x.splits ≤ k → (found (r'.number ++ k ∷ m) ts ≡ 0) × (hit (r'.number ++ k ∷ m) q ≡ 0)

    pub told_splits : (i p c : ℕ) (r : Row E) (rs : List (Row E)) → Told owner draws es ms ts → get_elem? ts i ≡ some (tally p c (r ∷ rs)) → 1 < p
        → Told owner draws es ms (set ts i (tally (p - 1) (c + 1) (r ∷ rs)) ++ tally 1 0 (row (r.number ++ c ∷ []) [] ∷ []) ∷ [])
    told_splits i p c r rs told at more_parts =
        let t : Tally E = tally p c (r ∷ rs) in
        let u : Tally E = tally (p - 1) (c + 1) (r ∷ rs) in
        let q : List ℕ = r.number ++ c ∷ [] in
        let new : Tally E = tally 1 0 (row q [] ∷ []) in
        let ts' : List (Tally E) = set ts i u ++ new ∷ [] in
        let counts : (m : List ℕ) → found m ts' ≡ found m ts + hit m q = λ m. let s = found_same i t u m at refl in let s' = total_snoc (λ (x : Tally E). hits m x.rows) (set ts i u) new in omega arith in
        let unused : found q ts ≡ 0 = told.fresh i t at r rs refl c [] (omega arith) in
        let one : hit q q ≡ 1 = hit_same q in
        let mine : 1 ≤ found r.number ts = let a = hit_same r.number in let b = total_at (λ (x : Tally E). hits r.number x.rows) ts i t at in omega arith in
        let each : (K : ℕ → Tally E → Type 0) → K i u → ((j : ℕ) → K j new) → ((j : ℕ) (x : Tally E) → j ≢ i → get_elem? ts j ≡ some x → K j x) → (j : ℕ) (x : Tally E) → get_elem? ts' j ≡ some x → K j x =
        λ K a b others j x f. ⊎_elim (stay K ts i u a others j x) (λ (s : new ≡ x). subst (K j) s (b j)) (at_snoc (set ts i u) new x j f) in
        record {
          marked = told.marked;
          shares = let s = total_set (λ (x : Tally E). x.parts) ts i t u at in let s' = total_snoc (λ (x : Tally E). x.parts) (set ts i u) new in let old = told.shares in omega arith;
          shared = each Shared (λ r' rs' _. omega arith) (λ j r' rs' _. omega arith) (λ j x _ f. told.shared j x f);
          unique = λ m. let s = counts m in let old = told.unique m in
              ⊎_elim (λ (z : hit m q ≡ 0). omega arith) (λ (z : m ≡ q). let a : found m ts ≡ 0 = ap (λ y. found y ts) z ∙ unused in let b : hit m q ≡ hit q q = ap (λ y. hit y q) z in omega arith) (hit_cases m q);
          known = λ a m f. let s = counts m in let old = told.known a m f in omega arith;
          exact = each (λ j (x : Tally E). Every (λ (y : Row E). Picks y.number es ms y.own) x.rows) (told.exact i t at)
              (λ j. (picks_none q es ms told.marked (λ k m f s. let a = told.known k m f in let b : found m ts ≡ 0 = ap (λ y. found y ts) s ∙ unused in absurd (omega arith)), tt))
              (λ j x _ f. told.exact j x f);
          fresh = λ j x f r' rs' is k more le. let s = counts (r'.number ++ k ∷ more) in let z = fresh_both j x f r' rs' is k more le in let a = z.0 in let b = z.1 in omega arith;
          drawn = told.drawn;
        }
      where
        too_long : (a : List ℕ) (k : ℕ) (m : List ℕ) → a ≡ a ++ k ∷ m → ⊥
        too_long a k m e = let s = ap length e in omega (arith, length-append a (k ∷ m))

        of_mine : Both (r.number ++ c ∷ []) i (tally (p - 1) (c + 1) (r ∷ rs))
        of_mine r' rs' is k m le = subst (λ n. (found (n ++ k ∷ m) ts ≡ 0) × (hit (n ++ k ∷ m) (r.number ++ c ∷ []) ≡ 0)) (ap number_of is)
            (told.fresh i (tally p c (r ∷ rs)) at r rs refl k m (omega arith), hit_none (r.number ++ k ∷ m) (r.number ++ c ∷ []) (λ e. ⊎_elim (λ (t : (r.number ≡ r.number) × (k ≡ c)). let s = t.1 in omega arith) (λ (t : (m' : List ℕ) × (r.number ≡ r.number ++ k ∷ m')). too_long r.number k t.0 t.1) (snoc_split r.number r.number k c m e)))

        of_new : (j : ℕ) → Both (r.number ++ c ∷ []) j (tally 1 0 (row (r.number ++ c ∷ []) [] ∷ []))
        of_new j r' rs' is k m le = subst (λ n. (found (n ++ k ∷ m) ts ≡ 0) × (hit (n ++ k ∷ m) (r.number ++ c ∷ []) ≡ 0)) (ap number_of is)
            (ap (λ n. found n ts) (append_assoc r.number (c ∷ []) (k ∷ m)) ∙ told.fresh i (tally p c (r ∷ rs)) at r rs refl c (k ∷ m) (omega arith), hit_none ((r.number ++ c ∷ []) ++ k ∷ m) (r.number ++ c ∷ []) (λ e. too_long (r.number ++ c ∷ []) k m (sym e)))

        of_other : (j : ℕ) (x : Tally E) → j ≢ i → get_elem? ts j ≡ some x → Both (r.number ++ c ∷ []) j x
        of_other j x apart f r' rs' is k m le = (
          told.fresh j x f r' rs' is k m le,
          hit_none (r'.number ++ k ∷ m) (r.number ++ c ∷ []) (λ e. ⊎_elim
              (λ (t : (r'.number ≡ r.number) × (k ≡ c)).
              let n : List ℕ = r.number in
              let two = total_two (λ (y : Tally E). hits n y.rows) ts i j (tally p c (r ∷ rs)) x (λ s. apart (sym s)) at f in
              let limit = told.unique n in
              let a = hit_same n in
              let b : hits n x.rows ≡ hit n r'.number + hits n rs' = ap (λ y. hits n y) is in
              let b' : hit n r'.number ≡ hit n n = ap (λ y. hit n y) t.0 in
              omega arith)
              (λ (t : (m' : List ℕ) × (r.number ≡ r'.number ++ k ∷ m')).
              let z : found r.number ts ≡ 0 = ap (λ y. found y ts) t.1 ∙ told.fresh j x f r' rs' is k t.0 le in
              let a = hit_same r.number in
              let b = total_at (λ (y : Tally E). hits r.number y.rows) ts i (tally p c (r ∷ rs)) at in
              omega arith)
              (snoc_split r'.number r.number k c m e)),
        )

        fresh_both : (j : ℕ) (x : Tally E) → get_elem? (set ts i (tally (p - 1) (c + 1) (r ∷ rs)) ++ tally 1 0 (row (r.number ++ c ∷ []) [] ∷ []) ∷ []) j ≡ some x → Both (r.number ++ c ∷ []) j x
        fresh_both j x f = ⊎_elim (stay (Both (r.number ++ c ∷ [])) ts i (tally (p - 1) (c + 1) (r ∷ rs)) of_mine of_other j x) (λ (s : tally 1 0 (row (r.number ++ c ∷ []) [] ∷ []) ≡ x). subst (Both (r.number ++ c ∷ []) j) s (of_new j)) (at_snoc (set ts i (tally (p - 1) (c + 1) (r ∷ rs))) (tally 1 0 (row (r.number ++ c ∷ []) [] ∷ [])) x j f)
