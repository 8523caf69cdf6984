-- What an added entry does to an ascending list.
-- No public contract needs this file.
use Rattle.std.proofs.Common.{◌≡◌, suc, List, [], ◌∷◌, All, arith, refl, ap, ◌∙◌}
use Rattle.std.proofs.lemmas.List.Kept.{AllPairs-cons}
use Rattle.std.proofs.lemmas.List.Elements.{All-nil, All-cons, All-head, All-tail}
use Rattle.std.specs.Ordering.{ordering_reverse}
use Rattle.std.specs.declared.cmp.Ordering.{Ordering}
use Rattle.std.specs.declared.cmp.Ordering.TheVariants.{Less, Equal, Greater}
use Rattle.order_merge.specs.Entries.{Reading}
use Rattle.order_merge.specs.Ascending.{IsKeyOrder, Ascends}
use Rattle.order_merge.specs.Adding.{with_entry, by_ordering}

module _ {E K : Type 0} (r : Reading E K) (o : IsKeyOrder r.order) where
  abbrev pub Below : E → E → Type 0
  Below d e = r.order (r.key_of d) (r.key_of e) ≡ Less

  pub Ascends-first : (d : E) (es : List E) → Ascends r (d ∷ es) → All (Below d) es
  Ascends-first d es a k x h = a 0 (suc k) x (omega arith) (omega arith)

  pub Ascends-others : (d : E) (es : List E) → Ascends r (d ∷ es) → Ascends r es
  Ascends-others d es a i j x h g = a (suc i) (suc j) x (omega arith) (omega arith)

  Below-all : (e d : E) (es : List E) → Below e d → All (Below d) es → All (Below e) es
  Below-all e d es p q k x h = o.total.trans _ _ _ p (q k x h)

  pub All-with_entry : (P : E → Type 0) (e : E) (es : List E) → P e → All P es → All P (with_entry r e es)
  unfolding with_entry
  All-with_entry P e [] p q = All-cons P e [] p q
  All-with_entry P e (d ∷ es) p q = go (r.order (r.key_of e) (r.key_of d)) (All-with_entry P e es p (All-tail P d es q))
    where
      go : (s : Ordering) → All P (with_entry r e es) → All P (by_ordering s (e ∷ d ∷ es) (e ∷ es) (d ∷ with_entry r e es))
      go Less below = All-cons P e (d ∷ es) p q
      go Equal below = All-cons P e es p (All-tail P d es q)
      go Greater below = All-cons P d (with_entry r e es) (All-head P d es q) below

  -- an added entry keeps the list ascending
  pub Ascends-with_entry : (e : E) (es : List E) → Ascends r es → Ascends r (with_entry r e es)
  unfolding with_entry
  Ascends-with_entry e [] a = AllPairs-cons Below e [] (All-nil (Below e)) a
  Ascends-with_entry e (d ∷ es) a = go (r.order (r.key_of e) (r.key_of d)) refl (Ascends-with_entry e es (Ascends-others d es a))
    where
      first : All (Below d) es
      first = Ascends-first d es a

      go : (s : Ordering) → r.order (r.key_of e) (r.key_of d) ≡ s → Ascends r (with_entry r e es)
          → Ascends r (by_ordering s (e ∷ d ∷ es) (e ∷ es) (d ∷ with_entry r e es))
      go Less p below = AllPairs-cons Below e (d ∷ es) (All-cons (Below e) d es p (Below-all e d es p first)) a
      go Equal p below = AllPairs-cons Below e es (λ k x h. o.total.congr (r.key_of e) (r.key_of d) _ p ∙ first k x h) (Ascends-others d es a)
      go Greater p below =
          let less : Below d e = o.total.antisymm (r.key_of d) (r.key_of e) ∙ ap ordering_reverse p in
          AllPairs-cons Below d (with_entry r e es) (All-with_entry (Below d) e es less first) below
