-- A text on its way to a sink.
use Rattle.std.specs.Prelude.{◌≡◌, ℕ, List, [], ◌++◌, take, drop, Option, Some, None, Ok, Err}
use Rattle.std.proofs.Common.{ap, sym, ◌∙◌, subst, append_assoc, refl}
use Rattle.std.proofs.lemmas.List.{take-append-drop, append-nil}
use Rattle.dev_model.specs.Streams.{Says}
use Rattle.dev_model.specs.StreamCalls.{Takes}

-- a front of the text was taken, and the rest is to be sent
pub record IsUnderWay (before : List ℕ) (after : Option (List ℕ)) (text rest : List ℕ) : Type 0 where
  pub sent : List ℕ
  pub whole : text ≡ sent ++ rest
  pub taken : after ≡ Some (before ++ sent)

-- the same, where the sink tells
abbrev pub Sending : Option (List ℕ) → Option (List ℕ) → List ℕ → List ℕ → Type 0
Sending None after text rest = Unit {0}
Sending (Some before) after text rest = IsUnderWay before after text rest

pub sending_begins : (before : Option (List ℕ)) (text : List ℕ) → Sending before before text text
sending_begins None text = tt
sending_begins (Some before) text = record { sent = []; whole = refl; taken = ap Some (sym (append-nil before)) }

pub sending_step : (E : Type 0) (before mid after : Option (List ℕ)) (text rest : List ℕ) (n : ℕ)
    → Sending before mid text rest → Takes {E = E} mid after rest (Ok n) → Sending before after text (drop n rest)
sending_step E None mid after text rest n s t = tt
sending_step E (Some before) mid after text rest n s t =
    let t' : Takes {E = E} (Some (before ++ s.sent)) after rest (Ok n) = subst (λ m. Takes {E = E} m after rest (Ok n)) s.taken t in
    record {
      sent = s.sent ++ take n rest;
      whole = s.whole ∙ ap (λ r. s.sent ++ r) (sym (take-append-drop n rest)) ∙ sym (append_assoc s.sent (take n rest) (drop n rest));
      taken = t' ∙ ap Some (append_assoc before s.sent (take n rest));
    }

pub sending_ends : (X E : Type 0) (before after : Option (List ℕ)) (text : List ℕ) (x : X)
    → Sending before after text [] → Says {X = X} {E = E} before after text (Ok x)
sending_ends X E None after text x s = tt
sending_ends X E (Some before) after text x s = s.taken ∙ ap (λ t. Some (before ++ t)) (sym (s.whole ∙ append-nil s.sent))

pub sending_fails : (X E D : Type 0) (before mid after : Option (List ℕ)) (text rest : List ℕ) (d : D) (e : E)
    → Sending before mid text rest → Takes {E = D} mid after rest (Err d) → Says {X = X} {E = E} before after text (Err e)
sending_fails X E D None mid after text rest d e s t = tt
sending_fails X E D (Some before) mid after text rest d e s t =
    let t' : Takes {E = D} (Some (before ++ s.sent)) after rest (Err d) = subst (λ m. Takes {E = D} m after rest (Err d)) s.taken t in
    record { sent = s.sent; unsent = rest; whole = s.whole; taken = t' }
