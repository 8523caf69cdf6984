-- A reader over a source: what was read and what is left of the bytes that the source tells.
use Rattle.std.specs.Prelude.{◌≡◌, ℕ, ◌+◌, ◌≤◌, List, [], ◌++◌, take, drop, Option, Some, None, Result, Ok, Err}
use Rattle.std.proofs.Common.{ap, sym, ◌∙◌, subst, refl, append_assoc}
use Rattle.std.proofs.lemmas.List.{take-append-drop, append-nil}
use Rattle.dev_model.specs.declared.streams.Failed.{Failed}
use Rattle.dev_model.specs.StreamCalls.{Gives, Gave}
use Rattle.line_fold.specs.Folding.{folded}
use Rattle.line_fold.specs.Laws.Streaming.{Progress}
use Rattle.script_lang.specs.declared.commands.Script.{Script}
use Rattle.script_lang.specs.declared.commands.ScriptFault.{ScriptFault}
use Rattle.script_lang.specs.declared.commands.ScriptFault.TheVariants.{Source, OutOfMemory, BadLine, TooLong}
use Rattle.script_lang.specs.declared.limits.TheConstants.{MOST_LINE}
use Rattle.script_lang.specs.Faults.{Fails, ReadsFrom, CountsFaults}
use Rattle.script_lang.specs.Scripts.{Wrong, bad_line, too_long, Reading, after_line, first_reading, script_in, script_of}
use Rattle.script_lang.specs.CommandViews.{phases_of}
use Rattle.script_lang.specs.Reader.{Breaks, Behind, TakesPiece, after_input}
use Rattle.script_lang.proofs.Pieces.{begins, input_folded}

pub record IsLeft (bytes : List ℕ) (after : Option (List ℕ)) (read : List ℕ) : Type 0 where
  pub rest : List ℕ
  pub left : after ≡ Some rest
  pub whole : bytes ≡ read ++ rest

-- nothing is known of a source that doesn't tell its bytes
abbrev pub Left : Option (List ℕ) → Option (List ℕ) → List ℕ → Type 0
Left None after read = Unit {0}
Left (Some bytes) after read = IsLeft bytes after read

pub record Underway (kept most : ℕ) (before after : Option (List ℕ)) (p : Progress Reading) : Type 0 where
  pub read : List ℕ
  pub behind : Behind kept most read p
  pub told : Left before after read

-- a fault of a reader is one of the script
Fails-from_breaks : {X Y : Type 0} (e : ScriptFault) (r : Result X Wrong) (s : Result Y Wrong) → ((w : Wrong) → r ≡ Err w → s ≡ Err w) → Breaks e r → Fails e s
Fails-from_breaks Source r s also h = tt
Fails-from_breaks OutOfMemory r s also h = tt
Fails-from_breaks (BadLine n) r s also h = also (bad_line n) h
Fails-from_breaks TooLong r s also h = also too_long h

pub CountsFaults-from_breaks : {X : Type 0} (e : ScriptFault) (r : Result X Wrong) (old new : ℕ) → Breaks e r → new ≡ old → CountsFaults old new (Err e)
CountsFaults-from_breaks Source r old new h calm = absurd h
CountsFaults-from_breaks OutOfMemory r old new h calm = calm
CountsFaults-from_breaks (BadLine n) r old new h calm = calm
CountsFaults-from_breaks TooLong r old new h calm = calm

gave : (after : Option (List ℕ)) (mid : Option (List ℕ)) (rest buffer : List ℕ) (n : ℕ) → mid ≡ Some rest → Gives {E = Failed} mid after buffer (Ok n) → Gave rest after buffer n
gave after mid rest buffer n is g = subst (λ m. Gives {E = Failed} m after buffer (Ok n)) is g

module _ (kept most_bytes most : ℕ) (enough : MOST_LINE + 2 ≤ kept) where
  left_begins : (before : Option (List ℕ)) → Left before before []
  left_begins None = tt
  left_begins (Some bytes) = record { rest = bytes; left = refl; whole = refl }

  pub underway_begins : (before : Option (List ℕ)) → Underway kept most before before (record { state = first_reading; line = []; bytes = 0 })
  underway_begins before = record { read = []; behind = begins kept most_bytes most enough; told = left_begins before }

  -- the piece that was read is the front of what was left
  cut : (bytes read rest piece : List ℕ) (n : ℕ) → bytes ≡ read ++ rest → piece ≡ take n rest → bytes ≡ (read ++ piece) ++ drop n rest
  cut bytes read rest piece n whole is =
      whole ∙ ap (λ r. read ++ r) (sym (take-append-drop n rest)) ∙ sym (append_assoc read (take n rest) (drop n rest)) ∙ ap (λ p. (read ++ p) ++ drop n rest) (sym is)

  left_step : (before mid after : Option (List ℕ)) (read buffer : List ℕ) (n : ℕ) → Left before mid read → Gives {E = Failed} mid after buffer (Ok n) → Left before after (read ++ take n buffer)
  left_step None mid after read buffer n l g = tt
  left_step (Some bytes) mid after read buffer n l g =
      let got : Gave l.rest after buffer n = gave after mid l.rest buffer n l.left g in
      record { rest = drop n l.rest; left = got.rest; whole = cut bytes read l.rest (take n buffer) n l.whole got.front }

  pub underway_step : (X : Type 0) (x : X) (before mid after : Option (List ℕ)) (p q : Progress Reading) (buffer : List ℕ) (n : ℕ)
      → Underway kept most before mid p → Gives {E = Failed} mid after buffer (Ok n)
      → ((read : List ℕ) → Behind kept most read p → TakesPiece {X = X} kept most_bytes most read (take n buffer) q (Ok x)) → Underway kept most before after q
  underway_step X x before mid after p q buffer n u g takes = record {
    read = u.read ++ take n buffer;
    behind = takes u.read u.behind;
    told = left_step before mid after u.read buffer n u.told g;
  }

  script_refused : (bytes : List ℕ) (w : Wrong) → folded most_bytes too_long (after_line most) bytes first_reading ≡ Err w → script_of most_bytes most bytes ≡ Err w
  unfolding script_of
  script_refused bytes w h = ap script_in h

  script_read : (bytes : List ℕ) (r : Reading) → folded most_bytes too_long (after_line most) bytes first_reading ≡ Ok r → script_of most_bytes most bytes ≡ Ok r.script
  unfolding script_of
  script_read bytes r h = ap script_in h

  left_fails : (X : Type 0) (before mid after : Option (List ℕ)) (q : Progress Reading) (read buffer : List ℕ) (n : ℕ) (e : ScriptFault) → Left before mid read
      → Gives {E = Failed} mid after buffer (Ok n) → TakesPiece {X = X} kept most_bytes most read (take n buffer) q (Err e) → ReadsFrom most_bytes most before (Err e)
  left_fails X None mid after q read buffer n e l g broken = tt
  left_fails X (Some bytes) mid after q read buffer n e l g broken =
      let got : Gave l.rest after buffer n = gave after mid l.rest buffer n l.left g in
      Fails-from_breaks e (folded most_bytes too_long (after_line most) ((read ++ take n buffer) ++ drop n l.rest) first_reading) (script_of most_bytes most bytes)
      (λ w is. script_refused bytes w (ap (λ b. folded most_bytes too_long (after_line most) b first_reading) (cut bytes read l.rest (take n buffer) n l.whole got.front) ∙ is))
      (broken (drop n l.rest))

  pub underway_fails : (X : Type 0) (before mid after : Option (List ℕ)) (p q : Progress Reading) (buffer : List ℕ) (n : ℕ) (e : ScriptFault)
      → Underway kept most before mid p → Gives {E = Failed} mid after buffer (Ok n)
      → ((read : List ℕ) → Behind kept most read p → TakesPiece {X = X} kept most_bytes most read (take n buffer) q (Err e)) → ReadsFrom most_bytes most before (Err e)
  underway_fails X before mid after p q buffer n e u g broken = left_fails X before mid after q u.read buffer n e u.told g (broken u.read u.behind)

  -- and it is no fault of the source
  pub underway_counts : (X : Type 0) (before mid : Option (List ℕ)) (p q : Progress Reading) (piece : List ℕ) (e : ScriptFault) (old new : ℕ)
      → Underway kept most before mid p → ((read : List ℕ) → Behind kept most read p → TakesPiece {X = X} kept most_bytes most read piece q (Err e))
      → new ≡ old → CountsFaults old new (Err e)
  underway_counts X before mid p q piece e old new u broken calm =
      CountsFaults-from_breaks e (folded most_bytes too_long (after_line most) ((u.read ++ piece) ++ []) first_reading) old new (broken u.read u.behind []) calm

  -- the source has ended
  all_read : (bytes : List ℕ) (mid after : Option (List ℕ)) (p : Progress Reading) (read buffer : List ℕ) (n : ℕ) → n ≡ 0
      → IsLeft bytes mid read → Behind kept most read p → Gives {E = Failed} mid after buffer (Ok n) → p.bytes ≤ most_bytes
      → folded most_bytes too_long (after_line most) bytes first_reading ≡ after_input most p
  all_read bytes mid after p read buffer n none l b g bound =
      let ended : l.rest ≡ [] = (gave after mid l.rest buffer n l.left g).ended none in
      ap (λ bs. folded most_bytes too_long (after_line most) bs first_reading) (l.whole ∙ ap (λ r. read ++ r) ended ∙ append-nil read)
      ∙ input_folded kept most_bytes most enough read p b bound

  left_ends : (before mid after : Option (List ℕ)) (p q : Progress Reading) (read buffer : List ℕ) (n : ℕ) (s : Script) → n ≡ 0 → p.bytes ≤ most_bytes
      → Left before mid read → Behind kept most read p → Gives {E = Failed} mid after buffer (Ok n)
      → after_input most p ≡ Ok q.state → phases_of s ≡ q.state.script → ReadsFrom most_bytes most before (Ok s)
  left_ends None mid after p q read buffer n s none bound l b g is made = tt
  left_ends (Some bytes) mid after p q read buffer n s none bound l b g is made =
      script_read bytes q.state (all_read bytes mid after p read buffer n none l b g bound ∙ is) ∙ ap Ok (sym made)

  pub underway_ends : (before mid after : Option (List ℕ)) (p q : Progress Reading) (buffer : List ℕ) (n : ℕ) (s : Script) → n ≡ 0 → p.bytes ≤ most_bytes
      → Underway kept most before mid p → Gives {E = Failed} mid after buffer (Ok n)
      → after_input most p ≡ Ok q.state → phases_of s ≡ q.state.script → ReadsFrom most_bytes most before (Ok s)
  underway_ends before mid after p q buffer n s none bound u g is made = left_ends before mid after p q u.read buffer n s none bound u.told u.behind g is made

  left_ends_badly : (before mid after : Option (List ℕ)) (p : Progress Reading) (read buffer : List ℕ) (n : ℕ) (e : ScriptFault) → n ≡ 0 → p.bytes ≤ most_bytes
      → Left before mid read → Behind kept most read p → Gives {E = Failed} mid after buffer (Ok n)
      → Breaks e (after_input most p) → ReadsFrom most_bytes most before (Err e)
  left_ends_badly None mid after p read buffer n e none bound l b g h = tt
  left_ends_badly (Some bytes) mid after p read buffer n e none bound l b g h =
      Fails-from_breaks e (after_input most p) (script_of most_bytes most bytes)
      (λ w is. script_refused bytes w (all_read bytes mid after p read buffer n none l b g bound ∙ is)) h

  pub underway_ends_badly : (before mid after : Option (List ℕ)) (p : Progress Reading) (buffer : List ℕ) (n : ℕ) (e : ScriptFault) → n ≡ 0 → p.bytes ≤ most_bytes
      → Underway kept most before mid p → Gives {E = Failed} mid after buffer (Ok n)
      → Breaks e (after_input most p) → ReadsFrom most_bytes most before (Err e)
  underway_ends_badly before mid after p buffer n e none bound u g h = left_ends_badly before mid after p u.read buffer n e none bound u.told u.behind g h
