-- Laws of `Says` and `Counts`: texts one after another.
use Rattle.std.specs.Prelude.{◌≡◌, ℕ, List, [], ◌++◌, Option, Some, None, Result, Ok, Err}
use Rattle.std.proofs.Common.{ap, sym, ◌∙◌, subst, append_assoc}
use Rattle.std.proofs.lemmas.List.{append-nil}
use Rattle.dev_model.specs.Counts.{Counts}
use Rattle.dev_model.specs.Streams.{Says}

-- nothing is said by no call
pub says_nothing : (X E : Type 0) (x : X) (before : Option (List ℕ)) → Says {X = X} {E = E} before before [] (Ok x)
says_nothing X E x None = tt
says_nothing X E x (Some before) = ap Some (sym (append-nil before))

-- one text and then another
pub says_then : (X E : Type 0) (x : X) (before mid after : Option (List ℕ)) (a b : List ℕ) (r : Result X E)
    → Says {X = X} {E = E} before mid a (Ok x) → Says mid after b r → Says before after (a ++ b) r
says_then X E x None mid after a b r s t = tt
says_then X E x (Some before) mid after a b (Ok y) s t =
    let t' : Says {X = X} {E = E} (Some (before ++ a)) after b (Ok y) = subst (λ m. Says {X = X} {E = E} m after b (Ok y)) s t in
    t' ∙ ap Some (append_assoc before a b)
says_then X E x (Some before) mid after a b (Err e) s t =
    let t' : Says {X = X} {E = E} (Some (before ++ a)) after b (Err e) = subst (λ m. Says {X = X} {E = E} m after b (Err e)) s t in
    record {
      sent = a ++ t'.sent;
      unsent = t'.unsent;
      whole = ap (λ s. a ++ s) t'.whole ∙ sym (append_assoc a t'.sent t'.unsent);
      taken = t'.taken ∙ ap Some (append_assoc before a t'.sent);
    }

-- a fault cuts off what would have followed
pub says_cut : (X E D : Type 0) (d : D) (e : E) (before after : Option (List ℕ)) (a b : List ℕ)
    → Says {X = X} {E = D} before after a (Err d) → Says {X = X} {E = E} before after (a ++ b) (Err e)
says_cut X E D d e None after a b s = tt
says_cut X E D d e (Some before) after a b s = record {
  sent = s.sent;
  unsent = s.unsent ++ b;
  whole = ap (λ t. t ++ b) s.whole ∙ append_assoc s.sent s.unsent b;
  taken = s.taken;
}

-- the same text
pub says_same : (X E : Type 0) (before after : Option (List ℕ)) (a b : List ℕ) (r : Result X E) → a ≡ b → Says before after a r → Says before after b r
says_same X E before after a b r same s = subst (λ t. Says {X = X} {E = E} before after t r) same s

-- a call that left the count, and then another
pub counts_then : (X E : Type 0) (old mid new : ℕ) (r : Result X E) → mid ≡ old → Counts mid new r → Counts old new r
counts_then X E old mid new r same c = subst (λ m. Counts {X = X} {E = E} m new r) same c
