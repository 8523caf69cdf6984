-- Each step of a pass keeps the rule.
use Rattle.std.proofs.Common.{◌≡◌, ◌≢◌, ℕ, zero, suc, ◌+◌, ◌-◌, ◌%◌, ◌^◌, ◌≤◌, ◌<◌, ◌==◌, Bool, true, false, ltb, if◌then◌else◌, Option, Some, List, [], ◌∷◌, ◌++◌, map, length, set, get_or, refl, sym, ap, ◌∙◌, subst, inl, inr, ⊎_elim, arith, length-append, append-nil, ltb-true, ltb-false}
use mathlib.Core.Logic.{dite}
use mathlib.Core.Option.{some, none, some-injective, some-ne-none}
use mathlib.Core.List.{map-append}
use native.Mathlib.Decide.{ℕ_discrete}
use lib.ListN.{get_elem?}
use lib.Seq.{set-get_or, map-set}
use Rattle.atomic_table.specs.Table.{State, Act, Valid, carried_after, step, keeps, takes, gives, stepped, put_back, Allows, Splits, Joins, Final, Seen, opening}
use Rattle.atomic_table.proofs.Lists.{at_longer, at_set, at_snoc, set_else, set_again, at_map, exchanged}
use prog.Atomic.{either}
use Rattle.turn_cell.specs.declared.limits.TheConstants.{ALL_PARTS, MOST_TURNS}
use Rattle.turn_cell.specs.declared.view.Stage.TheVariants.{Resting, Serving}
use Rattle.turn_cell.specs.declared.view.Row.{Row}
use Rattle.turn_cell.specs.declared.view.Tally.{Tally}
use Rattle.turn_cell.specs.declared.view.View.{View}
use Rattle.turn_cell.specs.History.{IsPrefix, longer, Picks, HasDrawer, Fits, MayHaveOwner}
use Rattle.turn_cell.specs.Rows.{total, hit, hits, Every, row, own_of, number_of, adds, HasMade, MadeBy}
use Rattle.turn_cell.specs.Rule.{in_turn, found, tally_of, view, tally, first_view, spent_view, Told, InSeen, OneHistory}
use Rattle.turn_cell.specs.Steps.{Seated, surveyed, drew, noted, advanced, recalled, less_one, with_one, together}
use Rattle.turn_cell.specs.Laws.Totals.{at_shorter, stay, same_at, at_inside, at_set_here, total_set, total_snoc, total_at, total_two, total_only}
use Rattle.turn_cell.specs.Laws.Marks.{prefix_same, prefix_longer, hit_same, hit_cases, hits_append, front, front_at, length-front, every_front}
use Rattle.turn_cell.proofs.Tallies.{snoc_cases, told_adds, told_joins, told_splits}

same_serving : (a b : ℕ) → Serving a ≡ Serving b → a ≡ b
same_serving a b e = cc

not_resting : (a : ℕ) → Resting ≡ Serving a → ⊥
not_resting a e = cc

module _ {T E : Type 0} (stands : T → List E → Type 0) (owner : E → Option ℕ) (draws : E → Bool) where
  abbrev St : Type 0
  St = State (Option T) (View E)

  abbrev Rule : St → Type 0
  Rule = OneHistory stands owner draws

  -- a step that changes nothing
  unmoved : (s : St) (i id : ℕ) (me : Seated T E) → Rule s → get_elem? s.views id ≡ some me.0 → Rule (stepped s i (get_or s.words i 0) id me.1 me.0 keeps)
  unmoved s i id me rule at = subst (λ (z : List ℕ × List (View E)). Rule record { words = z.0; homes = s.homes; views = z.1 }) (λ k. (sym (set-get_or s.words i 0) k, sym (set_again s.views id me.0 at) k)) rule

  same_tallies : (vs : List (View E)) (id : ℕ) (v w : View E) → get_elem? vs id ≡ some v → w.tally ≡ v.tally → map tally_of (set vs id w) ≡ map tally_of vs
  same_tallies vs id v w at e = map-set tally_of vs id w ∙ (ap (set (map tally_of vs) id) e ∙ set_again (map tally_of vs) id v.tally (at_map tally_of vs id v at))

  -- a view that rests changes nothing of whose turn it is
  abbrev Alone : List (View E) → Type 0
  Alone views = (i j : ℕ) (v w : View E) (t u : ℕ) → get_elem? views i ≡ some v → get_elem? views j ≡ some w → v.stage ≡ Serving t → w.stage ≡ Serving u → i ≡ j

  alone_rests : (views : List (View E)) (id : ℕ) (w : View E) → w.stage ≡ Resting → Alone views → Alone (set views id w)
  alone_rests views id w rests alone i j x y t u f g k l =
      ⊎_elim
      (λ (a : (i ≡ id) × (w ≡ x)). absurd (not_resting t (sym rests ∙ (ap (λ (z : View E). z.stage) a.1 ∙ k))))
      (λ (a : (i ≢ id) × (get_elem? views i ≡ some x)). ⊎_elim
      (λ (b : (j ≡ id) × (w ≡ y)). absurd (not_resting u (sym rests ∙ (ap (λ (z : View E). z.stage) b.1 ∙ l))))
      (λ (b : (j ≢ id) × (get_elem? views j ≡ some y)). alone i j x y t u a.1 b.1 k l)
      (at_set views id j w y g))
      (at_set views id i w x f)

  abbrev InTurn : List E → View E → Type 0
  InTurn history v = (t : ℕ) → v.stage ≡ Serving t → (t ≡ length history) × (t < MOST_TURNS) × (v.seen ≡ history) × (0 < v.tally.parts)

  pub surveys : (slots id : ℕ) (me : Seated T E) → me.0.stage ≡ Resting → Allows Rule slots id me 0 (λ n. n) (surveyed (step slots 0 0 0 none) me)
  surveys slots id me rests s rule _ at small =
      let history : List E = rule.0 in
      let q = rule.2 in
      let told = rule.3 in
      let v : View E = me.0 in
      let is : get_or s.words 0 0 ≡ length history = ap (λ ws. get_or ws 0 0) q.words in
      let w : View E = view Resting history v.tally in
      let none_yet : in_turn v.stage ≡ 0 = ap in_turn rests in
      let count = q.count in
      let sum = total_set (λ (x : View E). in_turn x.stage) s.views id v w at in (
        w,
        keeps,
        tt,
        (
          history,
          rule.1,
          record {
            begun = q.begun;
            others = q.others;
            words = set-get_or s.words 0 0 ∙ q.words;
            few = q.few;
            count = omega arith;
            seen = stay (λ j (x : View E). IsPrefix x.seen history) s.views id w (prefix_same history) (λ j x _ f. q.seen j x f);
            serving = stay (λ j (x : View E). InTurn history x) s.views id w (λ t e. absurd (not_resting t e)) (λ j x _ f. q.serving j x f);
            alone = alone_rests s.views id w refl q.alone;
            slot = ⊎_elim
                (λ (a : (j : ℕ) × (x : View E) × (t : ℕ) × (get_elem? s.views j ≡ some x) × (x.stage ≡ Serving t) × (s.homes ≡ none ∷ [])).
                let other : a.0 ≢ id = λ e. not_resting a.2 (sym rests ∙ (ap (λ (z : View E). z.stage) (same_at s.views id a.0 v a.1 at a.3 (sym e)) ∙ a.4)) in
                inl (a.0, a.1, a.2, set_else s.views id a.0 w other ∙ a.3, a.4, a.5))
                inr
                q.slot;
          },
          subst (Told owner draws history rule.1) (sym (same_tallies s.views id v w at refl)) told,
          stay (λ _ (x : View E). InSeen rule.1 x) s.views id w (λ k m f _. let i = at_inside rule.1 k m f in let len = told.marked in omega arith) (λ j x _ f. rule.4 j x f),
        ),
        (history, refl, q.seen id v at, sym is),
      )

  -- the words by which passes wait are no part of what the rule knows
  pub notes : (slots id : ℕ) (me : Seated T E) (i a b : ℕ) (f : ℕ → ℕ) → 2 ≤ i → Allows Rule slots id me i f (noted (step slots i a b none) me)
  notes slots id me zero a b f le s rule _ at _ = absurd (omega arith)
  notes slots id me (suc zero) a b f le s rule _ at _ = absurd (omega arith)
  notes slots id me (suc (suc i)) a b f le s rule _ at _ =
      let q = rule.2 in
      let new : ℕ = f (get_or s.words (suc (suc i)) 0) in (
        me.0,
        keeps,
        tt,
        subst (λ l. Rule record { words = set s.words (suc (suc i)) new; homes = s.homes; views = l }) (sym (set_again s.views id me.0 at)) (
          rule.0,
          rule.1,
          record {
            begun = q.begun;
            others = set q.others i new;
            words = ap (λ ws. set ws (suc (suc i)) new) q.words;
            few = q.few;
            count = q.count;
            seen = q.seen;
            serving = q.serving;
            alone = q.alone;
            slot = q.slot;
          },
          rule.3,
          rule.4,
        ),
        refl,
      )

  -- the entries of the first row are those of the history that stand beside its number
  fits_own : (h : List E) (ms : List (List ℕ)) (rows : List (Row E)) (r : Row E) (rs : List (Row E)) → rows ≡ r ∷ rs → Every (λ y. Picks y.number h ms y.own) rows → HasDrawer owner draws h ms → Fits owner draws (own_of rows) h
  fits_own h ms rows r rs is each stays =
      (r.number, ms, subst (λ l. Picks r.number h ms l) (sym (ap own_of is)) (subst (Every (λ y. Picks y.number h ms y.own)) is each).0, stays)

  whole : (a h : List E) → IsPrefix a h → length h ≤ length a → a ≡ h
  whole a h p le = all p.0 p.1 (let l = ap length p.1 in omega (arith, length-append a p.0))
    where
      all : (rest : List E) → h ≡ a ++ rest → length rest ≡ 0 → a ≡ h
      all [] e z = sym (append-nil a) ∙ sym e
      all (x ∷ xs) e z = absurd (omega arith)

  -- the ticket is there only while nobody has a turn and nothing was added to what the pass has seen
  pub claims : (slots id : ℕ) (me : Seated T E) (t : ℕ) (r : Row E) (rs : List (Row E)) → me.0.stage ≡ Resting → length me.0.seen ≡ t → t < MOST_TURNS → me.0.tally.rows ≡ r ∷ rs
      → Allows Rule slots id me 1 (λ n. either (n == t) (t + 1) n) (drew stands owner draws (step slots 1 t (t + 1) none) me)
  claims slots id me t r rs rests all_seen small_t rows s rule _ at small =
      exchanged (get_or s.words 1 0) t (t + 1) (λ k. (w : View E) × (a : Act (Option T)) × Valid s.homes me.1 a × Rule (stepped s 1 k id me.1 w a) × drew stands owner draws (step slots 1 t (t + 1) none) me (get_or s.words 1 0) (w, carried_after me.1 a))
      hit (λ other. (me.0, keeps, tt, unmoved s 1 id me rule at, inr (other, refl)))
    where
      hit : get_or s.words 1 0 ≡ t → (w : View E) × (a : Act (Option T)) × Valid s.homes me.1 a × Rule (stepped s 1 (t + 1) id me.1 w a) × drew stands owner draws (step slots 1 t (t + 1) none) me (get_or s.words 1 0) (w, carried_after me.1 a)
      hit same =
          let history : List E = rule.0 in
          let q = rule.2 in
          let told = rule.3 in
          let v : View E = me.0 in
          let is : get_or s.words 1 0 ≡ q.begun = ap (λ ws. get_or ws 1 0) q.words in
          let count = q.count in
          let begun = q.seen id v at in
          let long : length history ≡ length (v.seen ++ begun.0) = ap length begun.1 in
          let nobody : (length history ≡ t) × (total (λ (x : View E). in_turn x.stage) s.views ≡ 0) = (omega (arith, length-append v.seen begun.0), omega (arith, length-append v.seen begun.0)) in
          let here = nobody.0 in
          let no_turn = nobody.1 in
          let seen_all : v.seen ≡ history = whole v.seen history begun (omega arith) in
          let not_now : (j : ℕ) (x : View E) (u : ℕ) → get_elem? s.views j ≡ some x → x.stage ≡ Serving u → ⊥ = λ j x u f e. (let one = total_at (λ (y : View E). in_turn y.stage) s.views j x f in let now : in_turn x.stage ≡ 1 = ap in_turn e in omega arith) in
          let w : View E = view (Serving t) v.seen v.tally in
          let none_yet : in_turn v.stage ≡ 0 = ap in_turn rests in
          let sum = total_set (λ (x : View E). in_turn x.stage) s.views id v w at in
          let some_parts = told.shared id v.tally (at_map tally_of s.views id v at) r rs rows in
          ⊎_elim
          (λ (a : (j : ℕ) × (x : View E) × (u : ℕ) × (get_elem? s.views j ≡ some x) × (x.stage ≡ Serving u) × (s.homes ≡ none ∷ [])). absurd (not_now a.0 a.1 a.2 a.3 a.4))
          (λ (b : (x : T) × (s.homes ≡ some (Some x) ∷ []) × stands x history). (
            w,
            takes 0 (Some b.0),
            ap (λ hs. get_elem? hs 0) b.1,
            (
              history,
              rule.1,
              record {
                begun = t + 1;
                others = q.others;
                words = ap (λ ws. set ws 1 (t + 1)) q.words;
                few = q.few;
                count = omega arith;
                seen = stay (λ j (x : View E). IsPrefix x.seen history) s.views id w begun (λ j x _ f. q.seen j x f);
                serving = stay (λ j (x : View E). InTurn history x) s.views id w
                    (λ u e. let k = same_serving t u e in (sym k ∙ sym here, omega arith, seen_all, some_parts))
                    (λ j x _ f. q.serving j x f);
                alone = λ i j x y u u' f g k l.
                    ⊎_elim
                    (λ (a : (i ≡ id) × (w ≡ x)). ⊎_elim
                    (λ (c : (j ≡ id) × (w ≡ y)). a.0 ∙ sym c.0)
                    (λ (c : (j ≢ id) × (get_elem? s.views j ≡ some y)). absurd (not_now j y u' c.1 l))
                    (at_set s.views id j w y g))
                    (λ (a : (i ≢ id) × (get_elem? s.views i ≡ some x)). absurd (not_now i x u a.1 k))
                    (at_set s.views id i w x f);
                slot = inl (id, w, t, at_set_here s.views id v w at, refl, ap (λ hs. set hs 0 none) b.1);
              },
              subst (Told owner draws history rule.1) (sym (same_tallies s.views id v w at refl)) told,
              stay (λ _ (x : View E). InSeen rule.1 x) s.views id w (rule.4 id v at) (λ j x _ f. rule.4 j x f),
            ),
            inl (
              same,
              (
                b.0,
                refl,
                subst (stands b.0) (sym seen_all) b.2,
                subst (Fits owner draws (own_of v.tally.rows)) (sym seen_all) (fits_own history rule.1 v.tally.rows r rs rows (told.exact id v.tally (at_map tally_of s.views id v at)) told.drawn),
              ),
            ),
          ))
          q.slot

  pub advances : (may : E → Type 0) (slots id : ℕ) (me : Seated T E) (t : ℕ) (x : T) (r : Row E) (rs : List (Row E)) (e : E)
      → me.0.stage ≡ Serving t → me.1 ≡ (0, Some x) ∷ [] → me.0.tally.rows ≡ r ∷ rs → may e → stands x (me.0.seen ++ e ∷ []) → MayHaveOwner owner draws (own_of me.0.tally.rows) e
      → Allows Rule slots id me 0 (λ n. (n + 1) % 2 ^ 64) (advanced stands owner draws may (step slots 0 1 0 none) me)
  advances may slots id me t x r rs e serves has rows allowed stood owned s rule _ at small =
      let history : List E = rule.0 in
      let ms : List (List ℕ) = rule.1 in
      let q = rule.2 in
      let told = rule.3 in
      let v : View E = me.0 in
      let n : ℕ = get_or s.words 0 0 in
      let is : n ≡ length history = ap (λ ws. get_or ws 0 0) q.words in
      let served = q.serving id v at t serves in
      let is_t = served.0 in
      let few = served.1 in
      let longer_by : length (history ++ e ∷ []) ≡ length history + 1 = length-append history (e ∷ []) in
      let up : (n + 1) % 18446744073709551616 ≡ length (history ++ e ∷ []) = omega arith in
      let history' : List E = history ++ e ∷ [] in
      let w : View E = view Resting (v.seen ++ e ∷ []) (tally v.tally.parts v.tally.splits (adds e v.tally.rows)) in
      let seen_all : v.seen ++ e ∷ [] ≡ history' = ap (λ l. l ++ e ∷ []) served.2 in
      let in_now : in_turn v.stage ≡ 1 = ap in_turn serves in
      let sum = total_set (λ (y : View E). in_turn y.stage) s.views id v w at in
      let count = q.count in
      let stood' : stands x history' = subst (stands x) seen_all stood in
      let home : put_back s.homes me.1 ≡ some (Some x) ∷ [] = ap (put_back s.homes) has ∙ ⊎_elim
      (λ (a : (j : ℕ) × (y : View E) × (u : ℕ) × (get_elem? s.views j ≡ some y) × (y.stage ≡ Serving u) × (s.homes ≡ none ∷ [])). ap (λ hs. set hs 0 (some (Some x))) a.5)
      (λ (b : (y : T) × (s.homes ≡ some (Some y) ∷ []) × stands y history). ap (λ hs. set hs 0 (some (Some x))) b.1)
      q.slot in
      let tally_is : v.tally ≡ tally v.tally.parts v.tally.splits (r ∷ rs) = λ k. tally v.tally.parts v.tally.splits (rows k) in
      let at_tally : get_elem? (map tally_of s.views) id ≡ some (tally v.tally.parts v.tally.splits (r ∷ rs)) = at_map tally_of s.views id v at ∙ ap some tally_is in
      let owned' : MayHaveOwner owner draws r.own e = subst (λ l. MayHaveOwner owner draws l e) (ap own_of rows) owned in
      let told' : Told owner draws history' (ms ++ r.number ∷ []) (set (map tally_of s.views) id w.tally) =
      subst (λ l. Told owner draws history' (ms ++ r.number ∷ []) (set (map tally_of s.views) id (tally v.tally.parts v.tally.splits (adds e l)))) (sym rows)
      (told_adds owner draws history ms (map tally_of s.views) id v.tally.parts v.tally.splits r rs e told at_tally owned') in
      let told'' : Told owner draws history' (ms ++ r.number ∷ []) (map tally_of (set s.views id w)) = subst (Told owner draws history' (ms ++ r.number ∷ [])) (sym (map-set tally_of s.views id w)) told' in (
        w,
        gives,
        tt,
        (
          history',
          ms ++ r.number ∷ [],
          record {
            begun = q.begun;
            others = q.others;
            words = ap (λ ws. set ws 0 ((n + 1) % 18446744073709551616)) q.words ∙ (λ k. up k ∷ q.begun ∷ q.others);
            few = omega arith;
            count = omega arith;
            seen = stay (λ j (y : View E). IsPrefix y.seen history') s.views id w (subst (λ l. IsPrefix l history') (sym seen_all) (prefix_same history')) (λ j y _ f. prefix_longer y.seen history (e ∷ []) (q.seen j y f));
            serving = stay (λ j (y : View E). InTurn history' y) s.views id w
                (λ u k. absurd (not_resting u k))
                (λ j y apart f u k. absurd (apart (q.alone j id y v u t f at k serves)));
            alone = alone_rests s.views id w refl q.alone;
            slot = inr (x, home, stood');
          },
          told'',
          stay (λ _ (y : View E). InSeen (ms ++ r.number ∷ []) y) s.views id w
              (λ k m f _. let i = at_inside (ms ++ r.number ∷ []) k m f in let len = told''.marked in let l : length w.seen ≡ length history' = ap length seen_all in omega arith)
              (λ j y apart f k m g some_hit. ⊎_elim
              (λ (a : (get_elem? ms k ≡ some m) × (k < length ms)). rule.4 j y f k m a.0 some_hit)
              (λ (a : (k ≡ length ms) × (r.number ≡ m)).
              let n : List ℕ = r.number in
              let two = total_two (λ (z : Tally E). hits n z.rows) (map tally_of s.views) id j (tally v.tally.parts v.tally.splits (r ∷ rs)) y.tally (λ z. apart (sym z)) at_tally (at_map tally_of s.views j y f) in
              let limit = told.unique n in
              let one = hit_same n in
              let is : hits m y.tally.rows ≡ hits n y.tally.rows = ap (λ z. hits z y.tally.rows) (sym a.1) in
              absurd (omega arith))
              (snoc_cases ms r.number m k g)),
        ),
        (
          e,
          allowed,
          refl,
          (x, stood),
          subst (HasMade owner draws (adds e v.tally.rows)) (sym seen_all) record {
            marks = ms ++ r.number ∷ [];
            marked = told''.marked;
            unique = λ n. let a = told''.unique n in let b = total_at (λ (z : Tally E). hits n z.rows) (map tally_of (set s.views id w)) id w.tally (at_map tally_of (set s.views id w) id w (at_set_here s.views id v w at)) in omega arith;
            exact = told''.exact id w.tally (at_map tally_of (set s.views id w) id w (at_set_here s.views id v w at));
            drawn = told''.drawn;
          },
        ),
      )

  pub begins : (others : List ℕ) (x : T) → stands x [] → Rule (opening (0 ∷ 0 ∷ others) (Some x ∷ []) first_view)
  begins others x stood = (
    [],
    [],
    record {
      begun = 0;
      others = others;
      words = refl;
      few = omega arith;
      count = refl;
      seen = λ j v e. subst (λ l. IsPrefix l []) (ap (λ (z : View E). z.seen) (only first_view j v e)) ([], refl);
      serving = λ j v e t k. absurd (not_resting t (ap (λ (z : View E). z.stage) (only first_view j v e) ∙ k));
      alone = λ i j v w t u e f k l. absurd (not_resting t (ap (λ (z : View E). z.stage) (only first_view i v e) ∙ k));
      slot = inr (x, refl, stood);
    },
    record {
      marked = refl;
      shares = refl;
      shared = λ j t e r rs is. subst (λ (z : Tally E). 0 < z.parts) (only (tally_of first_view) j t e) (omega arith);
      unique = λ m. one m;
      known = λ k m e. absurd (some-ne-none m (sym e));
      exact = λ j t e. subst (λ (z : Tally E). Every (λ y. Picks y.number [] [] y.own) z.rows) (only (tally_of first_view) j t e) (refl, tt);
      fresh = λ j t e r rs is k more le. subst (λ n. found {E = E} (n ++ k ∷ more) (tally_of first_view ∷ []) ≡ 0) (ap (λ (z : Tally E). number_of z.rows) (only (tally_of first_view) j t e) ∙ ap number_of is) refl;
      drawn = λ j b o e ow. absurd (some-ne-none b (sym e));
    },
    λ j v e k m f. absurd (some-ne-none m (sym f)),
  )
    where
      only : {A : Type 0} (a : A) (j : ℕ) (b : A) → get_elem? (a ∷ []) j ≡ some b → a ≡ b
      only a zero b e = some-injective a b e
      only a (suc j) b e = absurd (some-ne-none b (sym e))

      one : (m : List ℕ) → found m (tally_of (first_view {E = E}) ∷ []) ≤ 1
      one [] = omega arith
      one (y ∷ ys) = omega arith

  pub splits : (id : ℕ) (v : View E) (r : Row E) (rs : List (Row E)) → v.tally.rows ≡ r ∷ rs → 1 < v.tally.parts → Splits Rule id v (less_one v) (with_one v)
  splits id v r rs rows some_parts s rule at =
      let history : List E = rule.0 in
      let ms : List (List ℕ) = rule.1 in
      let q = rule.2 in
      let told = rule.3 in
      let left : View E = less_one v in
      let right : View E = with_one v in
      let views' : List (View E) = set s.views id left ++ right ∷ [] in
      let each : (K : View E → Type 0) → K left → K right → ((j : ℕ) (x : View E) → get_elem? s.views j ≡ some x → K x) → (j : ℕ) (x : View E) → get_elem? views' j ≡ some x → K x =
      λ K a b others j x f. ⊎_elim (stay (λ _. K) s.views id left a (λ j x _ f. others j x f) j x) (λ (z : right ≡ x). subst K z b) (at_snoc (set s.views id left) right x j f) in
      -- a view that has its turn stands where one stood that has it
      let old : (j : ℕ) (x : View E) (t : ℕ) → get_elem? views' j ≡ some x → x.stage ≡ Serving t → (y : View E) × (get_elem? s.views j ≡ some y) × (y.stage ≡ x.stage) =
      λ j x t f k. ⊎_elim
      (stay (λ j (x : View E). (y : View E) × (get_elem? s.views j ≡ some y) × (y.stage ≡ x.stage)) s.views id left (v, at, refl) (λ j x _ f. (x, f, refl)) j x)
      (λ (z : right ≡ x). absurd (not_resting t (ap (λ (p : View E). p.stage) z ∙ k)))
      (at_snoc (set s.views id left) right x j f) in
      let sum = total_set (λ (x : View E). in_turn x.stage) s.views id v left at in
      let sum' = total_snoc (λ (x : View E). in_turn x.stage) (set s.views id left) right in
      let count = q.count in
      let tally_is : v.tally ≡ tally v.tally.parts v.tally.splits (r ∷ rs) = λ k. tally v.tally.parts v.tally.splits (rows k) in
      let at_tally : get_elem? (map tally_of s.views) id ≡ some (tally v.tally.parts v.tally.splits (r ∷ rs)) = at_map tally_of s.views id v at ∙ ap some tally_is in
      let after : List (Row E) → List (Tally E) = λ l. set (map tally_of s.views) id (tally (v.tally.parts - 1) (v.tally.splits + 1) l) ++ tally 1 0 (row (number_of l ++ v.tally.splits ∷ []) [] ∷ []) ∷ [] in (
        history,
        ms,
        record {
          begun = q.begun;
          others = q.others;
          words = q.words;
          few = q.few;
          count = omega arith;
          seen = each (λ x. IsPrefix x.seen history) (q.seen id v at) (q.seen id v at) q.seen;
          serving = each (InTurn history) (λ t k. let o = q.serving id v at t k in (o.0, o.1, o.2, omega arith)) (λ t k. absurd (not_resting t k)) q.serving;
          alone = λ i j x y t u f g k l. let a = old i x t f k in let b = old j y u g l in q.alone i j a.0 b.0 t u a.1 b.1 (a.2 ∙ k) (b.2 ∙ l);
          slot = ⊎_elim
              (λ (a : (j : ℕ) × (x : View E) × (t : ℕ) × (get_elem? s.views j ≡ some x) × (x.stage ≡ Serving t) × (s.homes ≡ none ∷ [])). inl (dite (ℕ_discrete a.0 id)
              (λ same. (id, left, a.2, at_longer (set s.views id left) (right ∷ []) id left (at_set_here s.views id v left at), ap (λ (p : View E). p.stage) (same_at s.views id a.0 v a.1 at a.3 (sym same)) ∙ a.4, a.5))
              (λ other. (a.0, a.1, a.2, at_longer (set s.views id left) (right ∷ []) a.0 a.1 (set_else s.views id a.0 left other ∙ a.3), a.4, a.5))))
              inr
              q.slot;
        },
        subst (Told owner draws history ms) (sym (map-append tally_of (set s.views id left) (right ∷ []) ∙ ap (λ l. l ++ tally_of right ∷ []) (map-set tally_of s.views id left)))
            (subst (λ l. Told owner draws history ms (after l)) (sym rows) (told_splits owner draws history ms (map tally_of s.views) id v.tally.parts v.tally.splits r rs told at_tally some_parts)),
        each (λ x. InSeen ms x) (rule.4 id v at)
            (λ k m f some_hit.
            let q' : List ℕ = number_of v.tally.rows ++ v.tally.splits ∷ [] in
            let unused : found (r.number ++ v.tally.splits ∷ []) (map tally_of s.views) ≡ 0 = told.fresh id (tally v.tally.parts v.tally.splits (r ∷ rs)) at_tally r rs refl v.tally.splits [] (omega arith) in
            let unused' : found q' (map tally_of s.views) ≡ 0 = ap (λ l. found (number_of l ++ v.tally.splits ∷ []) (map tally_of s.views)) rows ∙ unused in
            let there = told.known k m f in
            ⊎_elim (λ (z : hit m q' ≡ 0). absurd (omega arith)) (λ (z : m ≡ q'). let is : found m (map tally_of s.views) ≡ found q' (map tally_of s.views) = ap (λ y. found y (map tally_of s.views)) z in absurd (omega arith)) (hit_cases m q'))
            rule.4,
      )

  longer_seen : (a b h : List E) → IsPrefix a h → IsPrefix b h → IsPrefix (longer a b) h
  longer_seen a b h p q = choose (ltb (length a) (length b))
    where
      choose : (c : Bool) → IsPrefix (if c then b else a) h
      choose true = q
      choose false = p

  longer_length : (a b : List E) → (length a ≤ length (longer a b)) × (length b ≤ length (longer a b))
  longer_length a b = choose (ltb (length a) (length b)) refl
    where
      choose : (c : Bool) → ltb (length a) (length b) ≡ c → (length a ≤ length (if c then b else a)) × (length b ≤ length (if c then b else a))
      choose true e = let l = ltb-true (length a) (length b) e in (omega arith, omega arith)
      choose false e = let l = ltb-false (length a) (length b) e in (omega arith, omega arith)

  pub joins : (id : ℕ) (v : View E) (other : ℕ) (w : View E) (r : Row E) (rs : List (Row E)) → v.tally.rows ≡ r ∷ rs → w.stage ≡ Resting → Joins Rule id v other w (together v w) spent_view
  joins id v other w r rs rows rests s rule at apart there =
      let history : List E = rule.0 in
      let ms : List (List ℕ) = rule.1 in
      let q = rule.2 in
      let told = rule.3 in
      let both : View E = together v w in
      let one : List (View E) = set s.views id both in
      let views' : List (View E) = set one other spent_view in
      let there' : get_elem? s.views other ≡ some w = sym (set_else s.views id other both apart) ∙ there in
      let each : (K : View E → Type 0) → K both → K spent_view → ((j : ℕ) (x : View E) → get_elem? s.views j ≡ some x → K x) → (j : ℕ) (x : View E) → get_elem? views' j ≡ some x → K x =
      λ K a b others. stay (λ _. K) one other spent_view b (λ j x _ f. stay (λ _. K) s.views id both a (λ j x _ f. others j x f) j x f) in
      let old : (j : ℕ) (x : View E) (t : ℕ) → get_elem? views' j ≡ some x → x.stage ≡ Serving t → (y : View E) × (get_elem? s.views j ≡ some y) × (y.stage ≡ x.stage) =
      λ j x t f k. stay (λ j (x : View E). x.stage ≡ Serving t → (y : View E) × (get_elem? s.views j ≡ some y) × (y.stage ≡ x.stage)) one other spent_view
      (λ k. absurd (not_resting t k))
      (λ j x _ f. stay (λ j (x : View E). x.stage ≡ Serving t → (y : View E) × (get_elem? s.views j ≡ some y) × (y.stage ≡ x.stage)) s.views id both
      (λ _. (v, at, refl))
      (λ j x _ f _. (x, f, refl)) j x f)
      j x f k in
      let sum = total_set (λ (x : View E). in_turn x.stage) s.views id v both at in
      let sum' = total_set (λ (x : View E). in_turn x.stage) one other w spent_view there in
      let w_rests : in_turn w.stage ≡ 0 = ap in_turn rests in
      let count = q.count in
      let tally_is : v.tally ≡ tally v.tally.parts v.tally.splits (r ∷ rs) = λ k. tally v.tally.parts v.tally.splits (rows k) in
      let at_tally : get_elem? (map tally_of s.views) id ≡ some (tally v.tally.parts v.tally.splits (r ∷ rs)) = at_map tally_of s.views id v at ∙ ap some tally_is in
      let at_other : get_elem? (map tally_of s.views) other ≡ some w.tally = at_map tally_of s.views other w there' in (
        history,
        ms,
        record {
          begun = q.begun;
          others = q.others;
          words = q.words;
          few = q.few;
          count = omega arith;
          seen = each (λ x. IsPrefix x.seen history) (longer_seen v.seen w.seen history (q.seen id v at) (q.seen other w there')) (history, refl) q.seen;
          serving = each (InTurn history) (λ t k. let o = q.serving id v at t k in let p = o.3 in (o.0, o.1, stays_whole v.seen w.seen history o.2 (q.seen other w there'), omega arith)) (λ t k. absurd (not_resting t k)) q.serving;
          alone = λ i j x y t u f g k l. let a = old i x t f k in let b = old j y u g l in q.alone i j a.0 b.0 t u a.1 b.1 (a.2 ∙ k) (b.2 ∙ l);
          slot = ⊎_elim
              (λ (a : (j : ℕ) × (x : View E) × (t : ℕ) × (get_elem? s.views j ≡ some x) × (x.stage ≡ Serving t) × (s.homes ≡ none ∷ [])).
              let not_other : a.0 ≢ other = λ same. not_resting a.2 (sym rests ∙ (ap (λ (p : View E). p.stage) (same_at s.views other a.0 w a.1 there' a.3 (sym same)) ∙ a.4)) in
              inl (dite (ℕ_discrete a.0 id)
              (λ same. (a.0, both, a.2, set_else one other a.0 spent_view not_other ∙ (ap (λ k. get_elem? one k) same ∙ at_set_here s.views id v both at), ap (λ (p : View E). p.stage) (same_at s.views id a.0 v a.1 at a.3 (sym same)) ∙ a.4, a.5))
              (λ apart'. (a.0, a.1, a.2, set_else one other a.0 spent_view not_other ∙ (set_else s.views id a.0 both apart' ∙ a.3), a.4, a.5))))
              inr
              q.slot;
        },
        subst (Told owner draws history ms) (sym (map-set tally_of one other spent_view ∙ ap (λ l. set l other (tally_of spent_view)) (map-set tally_of s.views id both)))
            (subst (λ l. Told owner draws history ms (set (set (map tally_of s.views) id (tally (v.tally.parts + w.tally.parts) v.tally.splits (l ++ w.tally.rows))) other (tally 0 0 []))) (sym rows)
            (told_joins owner draws history ms (map tally_of s.views) id v.tally.parts v.tally.splits r rs other w.tally.parts w.tally.splits w.tally.rows told apart at_tally at_other)),
        each (λ x. InSeen ms x)
            (λ k m f some_hit.
            let both_hits = hits_append m v.tally.rows w.tally.rows in
            let long = longer_length v.seen w.seen in
            let a = long.0 in
            let b = long.1 in
            dite (ℕ_discrete (hits m v.tally.rows) 0)
            (λ none_here. let l = rule.4 other w there' k m f (omega arith) in omega arith)
            (λ some_here. let l = rule.4 id v at k m f (omega arith) in omega arith))
            (λ k m f some_hit. absurd (omega arith))
            rule.4,
      )
    where
      stays_whole : (a b h : List E) → a ≡ h → IsPrefix b h → longer a b ≡ h
      stays_whole a b h whole p = choose (ltb (length a) (length b)) refl
        where
          choose : (c : Bool) → ltb (length a) (length b) ≡ c → (if c then b else a) ≡ h
          choose false e = whole
          choose true e = absurd (let less = ltb-true (length a) (length b) e in let l = ap length p.1 in let l' = ap length whole in omega (arith, length-append b p.0))

  -- a pass with all parts finds the value, and knows all that was made
  pub ends : (id : ℕ) (v : View E) (r : Row E) (rs : List (Row E)) (ws : List ℕ) (xs : List (Option T)) → v.stage ≡ Resting → v.tally.parts ≡ ALL_PARTS → v.tally.rows ≡ r ∷ rs → Final (Seen Rule id v) ws xs
      → (x : T) × (history : List E) × (get_elem? xs 0 ≡ some (Some x)) × stands x history × IsPrefix v.seen history × MadeBy owner draws v.tally.rows history
  ends id v r rs ws xs rests whole rows final =
      let s : St = final.0 in
      let rule = final.1.0 in
      let at = final.1.1 in
      let history : List E = rule.0 in
      let ms : List (List ℕ) = rule.1 in
      let q = rule.2 in
      let told = rule.3 in
      let at_tally : get_elem? (map tally_of s.views) id ≡ some v.tally = at_map tally_of s.views id v at in
      let shares = told.shares in
      let idle : (j : ℕ) (t : Tally E) → j ≢ id → get_elem? (map tally_of s.views) j ≡ some t → t.parts ≡ 0 = λ j t apart f. let two = total_two (λ (y : Tally E). y.parts) (map tally_of s.views) id j v.tally t (λ z. apart (sym z)) at_tally f in omega arith in
      let count : (n : List ℕ) → found n (map tally_of s.views) ≡ hits n v.tally.rows = λ n. total_only (λ (y : Tally E). hits n y.rows) (map tally_of s.views) id v.tally at_tally
      (λ j t apart f. no_rows t.rows n (λ r' rs' is. let p = told.shared j t f r' rs' is in let z = idle j t apart f in omega arith)) in
      let made : MadeBy owner draws v.tally.rows history = record {
        marks = ms;
        marked = told.marked;
        known = λ k n f. let a = told.known k n f in let b = told.unique n in let c = count n in omega arith;
        unique = λ n. let b = told.unique n in let c = count n in omega arith;
        exact = told.exact id v.tally at_tally;
        drawn = told.drawn;
      } in
      ⊎_elim
      (λ (a : (j : ℕ) × (x : View E) × (t : ℕ) × (get_elem? s.views j ≡ some x) × (x.stage ≡ Serving t) × (s.homes ≡ none ∷ [])).
      let some_parts = (q.serving a.0 a.1 a.3 a.2 a.4).3 in
      let apart : a.0 ≢ id = λ same. not_resting a.2 (sym rests ∙ (ap (λ (p : View E). p.stage) (same_at s.views id a.0 v a.1 at a.3 (sym same)) ∙ a.4)) in
      let z = idle a.0 a.1.tally apart (at_map tally_of s.views a.0 a.1 a.3) in absurd (omega arith))
      (λ (b : (x : T) × (s.homes ≡ some (Some x) ∷ []) × stands x history).
      (b.0, history, final.4 0 (Some b.0) (ap (λ hs. get_elem? hs 0) b.1), b.2, q.seen id v at, made))
      q.slot
    where
      no_rows : (l : List (Row E)) (n : List ℕ) → ((r : Row E) (rs : List (Row E)) → l ≡ r ∷ rs → ⊥) → hits n l ≡ 0
      no_rows [] n h = refl
      no_rows (r ∷ rs) n h = absurd (h r rs refl)

  -- a beginning of the history, and its marks
  drawer_front : (a rest : List E) (ms : List (List ℕ)) → HasDrawer owner draws (a ++ rest) ms → HasDrawer owner draws a (front a ms)
  drawer_front a rest ms h j y o g ow =
      let in_j = at_inside a j y g in
      let d = h j y o (at_longer a rest j y g) ow in
      let le = d.2 in
      (d.0, d.1, d.2, at_shorter a rest d.0 d.1 (omega arith) d.3, d.4, front_at a ms d.0 (omega arith) ∙ (d.5 ∙ sym (front_at a ms j in_j)))

  pub recalls : (slots id : ℕ) (me : Seated T E) → Allows Rule slots id me 0 (λ n. n) (recalled owner draws (step slots 0 0 0 none) me)
  recalls slots id me s rule _ at _ =
      let history : List E = rule.0 in
      let ms : List (List ℕ) = rule.1 in
      let q = rule.2 in
      let told = rule.3 in
      let v : View E = me.0 in
      let at_tally : get_elem? (map tally_of s.views) id ≡ some v.tally = at_map tally_of s.views id v at in
      let begun = q.seen id v at in
      let long : length history ≡ length (v.seen ++ begun.0) = ap length begun.1 in
      let exact : Every (λ (y : Row E). Picks y.number (v.seen ++ begun.0) ms y.own) v.tally.rows = subst (λ l. Every (λ (y : Row E). Picks y.number l ms y.own) v.tally.rows) begun.1 (told.exact id v.tally at_tally) in (
        v,
        keeps,
        tt,
        unmoved s 0 id me rule at,
        (
          refl,
          record {
            marks = front v.seen ms;
            marked = let m = told.marked in length-front v.seen ms (omega (arith, length-append v.seen begun.0));
            unique = λ n. let a = told.unique n in let b = total_at (λ (z : Tally E). hits n z.rows) (map tally_of s.views) id v.tally at_tally in omega arith;
            exact = every_front v.seen begun.0 ms v.tally.rows exact (rule.4 id v at);
            drawn = drawer_front v.seen begun.0 ms (subst (λ l. HasDrawer owner draws l ms) begun.1 told.drawn);
          },
        ),
      )
