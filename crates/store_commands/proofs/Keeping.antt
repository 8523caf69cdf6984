-- The events of commands, put together from those of their calls.
use Rattle.std.proofs.Common.{◌≡◌, inl, inr, ℕ, ◌<◌, ◌≤◌, Bool, true, false, if◌then◌else◌, List, [], ◌∷◌, ◌++◌, Option, Some, None, Ok, Err, Result, refl, sym, ◌∙◌, ap, subst, append_assoc, append-nil, arith}
use Rattle.std.specs.Prelude.{Contains}
use Rattle.std.specs.Option.{option_to_list}
use Rattle.std.proofs.lemmas.List.Elements.{Contains-push}
use Rattle.table_model.specs.Commands.{TableCommand, on_table, flush, write, Outcome, quiet, refused}
use Rattle.table_model.specs.declared.Why.{Why}
use Rattle.wal_log.specs.declared.records.LogOp.{LogOp}
use Rattle.component_image.specs.Replayed.{write_of}
use Rattle.store_machine.specs.Commands.{is_upkeep, own, word_of, refusal_of, words_of, words, write_outcome, get_outcome, region_outcome, IsCall, looks, look_in, IsRefusedFlush, Does}
use Rattle.table_model.specs.Record.{refused_word}
use Rattle.store_machine.specs.Standing.{StoreState}
use Rattle.store_machine.specs.Calls.{Makes}
use Rattle.store_machine.specs.Laws.Histories.{own-append, words-append}
use Rattle.store_machine.specs.declared.events.Action.{Action}
use Rattle.store_machine.specs.declared.events.Action.TheVariants as action
use Rattle.store_machine.specs.declared.events.Event.{Event}
use Rattle.store_machine.specs.declared.events.Found.{Found}
use Rattle.store_machine.specs.declared.events.Got.{Got}
use Rattle.store_machine.specs.declared.events.Look.{Look}
use Rattle.store_machine.specs.declared.events.Refusal.{Refusal}
use Rattle.store_machine.specs.declared.events.Refusal.TheVariants.{Again}
use Rattle.store_machine.specs.declared.events.Wrote.{Wrote}
use Rattle.store_commands.specs.Commands.{Made, HasDone, IsOneEvent, OnlyLooks, IsFinal, EndsWith, EndsAgain, TriesAgain, Tries, KeepsUpBehind, WritesKept}
use Rattle.store_commands.specs.Upkeep.{EndsAs, KeepsUp, HasFlushed, WritesAgain, HasTried, HasKeptBehind}
use Rattle.store_commands.proofs.Serving.{made-none, made-one, made-then, own-write, named-final}

-- the own events with an event of upkeep in front, and those of a command's own event
upkeep-first : (e : Event) (a : Action) (es : List Event) → e.action ≡ a → is_upkeep a ≡ true → own (e ∷ es) ≡ own es
upkeep-first e a es is upkeep = ap (λ (b : Bool). if b then own es else e ∷ own es) (ap is_upkeep is ∙ upkeep)

own-first : (e : Event) (a : Action) (es : List Event) → e.action ≡ a → is_upkeep a ≡ false → own (e ∷ es) ≡ e ∷ own es
own-first e a es is upkeep = ap (λ (b : Bool). if b then own es else e ∷ own es) (ap is_upkeep is ∙ upkeep)

-- the word of one event
one-word : (e : Event) (a : Action) (ws : List Why) → e.action ≡ a → words_of (refusal_of a) ≡ ws → words (e ∷ []) ≡ ws
one-word e a ws is of = append-nil (words_of (refusal_of e.action)) ∙ ap (λ (x : Action). words_of (refusal_of x)) is ∙ of

no-word : (e : Event) (a : Action) → e.action ≡ a → refusal_of a ≡ None → words (e ∷ []) ≡ []
no-word e a is none = one-word e a [] is (ap words_of none)

-- the event of a command has the word of its outcome
call-word : (a : Action) (c : TableCommand) (o : Outcome) → IsCall a c o → words_of (refusal_of a) ≡ refused_word o
call-word (action.Write op (Ok answer)) c o (is, (reply, said, became)) = ap (λ (r : Result Wrote Why). refused_word (write_outcome op r)) (sym said) ∙ ap refused_word (sym became)
call-word (action.Write op (Err refusal)) c o (is, (reply, (word, named, said), became)) =
    ap option_to_list named ∙ ap (λ (r : Result Wrote Why). refused_word (write_outcome op r)) (sym said) ∙ ap refused_word (sym became)
call-word (action.Get key (Ok answer)) c o (is, (reply, said, became)) = ap (λ (r : Result Got Why). refused_word (get_outcome r)) (sym said) ∙ ap refused_word (sym became)
call-word (action.Get key (Err refusal)) c o (is, (reply, (word, named, said), became)) =
    ap option_to_list named ∙ ap (λ (r : Result Got Why). refused_word (get_outcome r)) (sym said) ∙ ap refused_word (sym became)
call-word (action.Count seq n) c o (is, became) = ap refused_word (sym became)
call-word (action.Look look) c o call = absurd call
call-word (action.Region kind rect (Ok answer)) c o (is, (reply, said, became)) = ap (λ (r : Result Found Why). refused_word (region_outcome r)) (sym said) ∙ ap refused_word (sym became)
call-word (action.Region kind rect (Err refusal)) c o (is, (reply, (word, named, said), became)) =
    ap option_to_list named ∙ ap (λ (r : Result Found Why). refused_word (region_outcome r)) (sym said) ∙ ap refused_word (sym became)
call-word (action.Freeze least answer) c o call = absurd call
call-word (action.Begin answer) c o call = absurd call
call-word (action.JobWrite row answer) c o call = absurd call
call-word (action.Install row answer) c o call = absurd call

-- a command that made one event
pub one-event : (old new : StoreState) (owner : ℕ) (a : Action) (c : TableCommand) (o : Outcome) → Makes old new owner a → IsCall a c o → IsOneEvent old new owner c o
one-event old new owner a c o m call = record { event = m.event; made = made-one old new owner a m; call = subst (λ (x : Action). IsCall x c o) (sym m.is.action_is) call }

-- the event of a command is no upkeep
own-call : (a : Action) (c : TableCommand) (o : Outcome) → IsCall a c o → is_upkeep a ≡ false
own-call (action.Write op (Ok answer)) c o call = refl
own-call (action.Write op (Err refusal)) c o (is, (answer, (word, named, said), became)) = own-write op refusal (named-final refusal word named)
own-call (action.Get key answer) c o call = refl
own-call (action.Count seq n) c o call = refl
own-call (action.Look look) c o call = absurd call
own-call (action.Region kind rect answer) c o call = refl
own-call (action.Freeze least answer) c o call = absurd call
own-call (action.Begin answer) c o call = absurd call
own-call (action.JobWrite row answer) c o call = absurd call
own-call (action.Install row answer) c o call = absurd call

-- behind upkeep the own events of a command are this one
own-last : (c : TableCommand) (o : Outcome) (upkeep : List Event) (e : Event) → own upkeep ≡ [] → IsCall e.action c o → own (upkeep ++ e ∷ []) ≡ e ∷ []
own-last c o upkeep e none call = own-append upkeep (e ∷ []) ∙ (λ j. none j ++ own-first e e.action [] refl (own-call e.action c o call) j)

pub done-one : (old new : StoreState) (owner : ℕ) (c : TableCommand) (o : Outcome) → IsOneEvent old new owner c o → HasDone old new owner (on_table c) o None
done-one old new owner c o one = record {
  events = one.event ∷ [];
  made = one.made;
  does = inl (record { event = one.event; only = own-last c o [] one.event refl one.call; call = one.call });
  words_are = one-word one.event one.event.action (refused_word o) refl (call-word one.event.action c o one.call) ∙ sym (append-nil (refused_word o));
}

-- upkeep
pub keeps-none : (s : StoreState) (owner : ℕ) → KeepsUp s s owner (Ok tt)
keeps-none s owner = record { events = []; made = made-none s owner; none = refl; ends = tt; words_are = refl }

pub keeps-one : (old new : StoreState) (owner : ℕ) (a : Action) → Makes old new owner a → is_upkeep a ≡ true → refusal_of a ≡ None → KeepsUp old new owner (Ok tt)
keeps-one old new owner a m is calm = record { events = m.event ∷ []; made = made-one old new owner a m; none = upkeep-first m.event a [] m.is.action_is is; ends = tt; words_are = no-word m.event a m.is.action_is calm }

pub keeps-refused : (old new : StoreState) (owner : ℕ) (a : Action) (refusal : Refusal) → Makes old new owner a → is_upkeep a ≡ true → refusal_of a ≡ Some refusal → IsFinal refusal → KeepsUp old new owner (Err refusal)
keeps-refused old new owner a refusal m is of final = record {
  events = m.event ∷ [];
  made = made-one old new owner a m;
  none = upkeep-first m.event a [] m.is.action_is is;
  ends = record { before = []; last = m.event; are = refl; refused = ap refusal_of m.is.action_is ∙ of; final = final };
  words_are = one-word m.event a (words_of (Some refusal)) m.is.action_is (ap words_of of);
}

ends-behind : (es fs : List Event) (result : Result (Unit {0}) Refusal) → EndsAs result fs → EndsAs result (es ++ fs)
ends-behind es fs (Ok x) ends = tt
ends-behind es fs (Err refusal) ends = record {
  before = es ++ ends.before;
  last = ends.last;
  are = ap (λ (l : List Event). es ++ l) ends.are ∙ sym (append_assoc es ends.before (ends.last ∷ []));
  refused = ends.refused;
  final = ends.final;
}

pub keeps-then : (a b c : StoreState) (owner : ℕ) (result : Result (Unit {0}) Refusal) → KeepsUp a b owner (Ok tt) → KeepsUp b c owner result → KeepsUp a c owner result
keeps-then a b c owner result one other = record {
  events = one.events ++ other.events;
  made = made-then a b c owner one.events other.events one.made other.made;
  none = own-append one.events other.events ∙ (λ j. one.none j ++ other.none j);
  ends = ends-behind one.events other.events result other.ends;
  words_are = words-append one.events other.events ∙ (λ j. one.words_are j ++ other.words_are j);
}

-- the word of a refusal that ended upkeep
flush-refused : (refusal : Refusal) (word : Why) (es : List Event) → word_of refusal ≡ Some word → own es ≡ [] → EndsWith refusal es → IsRefusedFlush word es
flush-refused refusal word es is none ends = record { none = none; before = ends.before; last = ends.last; are = ends.are; refused_is = ap words_of ends.refused ∙ ap option_to_list is }

-- upkeep that was refused before a write was made again
pub again-refused : (a b : StoreState) (owner : ℕ) (op : LogOp) (refusal : Refusal) (word : Why) (result : Result Wrote Why) → KeepsUp a b owner (Err refusal) → word_of refusal ≡ Some word → result ≡ Err word → WritesAgain a b owner op result
again-refused a b owner op refusal word result keeps is result_is = record { events = keeps.events; made = keeps.made; ends = inr (word, result_is, flush-refused refusal word keeps.events is keeps.none keeps.ends); words_are = keeps.words_are ∙ ap option_to_list is ∙ ap (λ (r : Result Wrote Why). refused_word (write_outcome op r)) (sym result_is) }

-- upkeep, and the write that was then made
pub again-made : (a b d : StoreState) (owner : ℕ) (op : LogOp) (w : Action) (result : Result Wrote Why) → KeepsUp a b owner (Ok tt) → Makes b d owner w → IsCall w (write (write_of op)) (write_outcome op result) → WritesAgain a d owner op result
again-made a b d owner op w result keeps m call = record {
  events = keeps.events ++ m.event ∷ [];
  made = made-then a b d owner keeps.events (m.event ∷ []) keeps.made (made-one b d owner w m);
  ends = inl (record {
    upkeep = keeps.events;
    none = keeps.none;
    event = m.event;
    are = refl;
    call = subst (λ (x : Action). IsCall x (write (write_of op)) (write_outcome op result)) (sym m.is.action_is) call;
  });
  words_are = words-append keeps.events (m.event ∷ [])
      ∙ (λ j. keeps.words_are j ++ one-word m.event w (refused_word (write_outcome op result)) m.is.action_is (call-word w (write (write_of op)) (write_outcome op result) call) j);
}

-- a write that was tried once, and one that was to be made again
pub tried-once : (old new : StoreState) (owner : ℕ) (op : LogOp) (a : Action) (result : Result Wrote Why) → Makes old new owner a → IsCall a (write (write_of op)) (write_outcome op result) → HasTried old new owner op result
tried-once old new owner op a result m call =
    let one : IsOneEvent old new owner (write (write_of op)) (write_outcome op result) = one-event old new owner a (write (write_of op)) (write_outcome op result) m call in
    record { events = one.event ∷ []; made = one.made; tries = inl (record { event = one.event; are = refl; call = one.call }); words_are = one-word one.event one.event.action (refused_word (write_outcome op result)) refl (call-word one.event.action (write (write_of op)) (write_outcome op result) one.call) }

pub tried-again : (a b d : StoreState) (owner : ℕ) (op : LogOp) (ops : ℕ) (result : Result Wrote Why) → Makes a b owner (action.Write op (Err (Again ops))) → WritesAgain b d owner op result → HasTried a d owner op result
tried-again a b d owner op ops result m again = record {
  events = m.event ∷ again.events;
  made = made-then a b d owner (m.event ∷ []) again.events (made-one a b owner (action.Write op (Err (Again ops))) m) again.made;
  tries = inr (record { event = m.event; ops = ops; is = m.is.action_is; later = again.events; are = refl; ends = again.ends });
  words_are = words-append (m.event ∷ []) again.events ∙ (λ j. no-word-again j ++ again.words_are j);
}
  where
    no-word-again : words (m.event ∷ []) ≡ []
    no-word-again = one-word m.event (action.Write op (Err (Again ops))) [] m.is.action_is refl

-- events in which a write was tried are the command of this write
does-again : (op : LogOp) (result : Result Wrote Why) (events : List Event) (again : TriesAgain op result events) → EndsAgain op result again.later → Does (on_table (write (write_of op))) (write_outcome op result) events
does-again op result events again (inl last) = inl (record {
  event = last.event;
  only = ap own again.are ∙ upkeep-first again.event (action.Write op (Err (Again again.ops))) again.later again.is refl
      ∙ ap own last.are
      ∙ own-last (write (write_of op)) (write_outcome op result) last.upkeep last.event last.none last.call;
  call = last.call;
})
does-again op result events again (inr (word, result_is, upkeep)) = inr (record {
  op = op;
  command_is = refl;
  word = word;
  outcome_is = ap (write_outcome op) result_is;
  upkeep = record {
    none = ap own again.are ∙ upkeep-first again.event (action.Write op (Err (Again again.ops))) again.later again.is refl ∙ upkeep.none;
    before = again.event ∷ upkeep.before;
    last = upkeep.last;
    are = again.are ∙ ap (λ (l : List Event). again.event ∷ l) upkeep.are;
    refused_is = upkeep.refused_is;
  };
  again = again.event;
  is_before = (0, omega arith, refl);
  ops = again.ops;
  again_is = again.is;
})

tries-do : (op : LogOp) (result : Result Wrote Why) (events : List Event) → Tries op result events → Does (on_table (write (write_of op))) (write_outcome op result) events
tries-do op result events (inl once) = inl (record {
  event = once.event;
  only = ap own once.are ∙ own-last (write (write_of op)) (write_outcome op result) [] once.event refl once.call;
  call = once.call;
})
tries-do op result events (inr again) = does-again op result events again again.ends

-- the upkeep behind a write
pub behind-none : (s : StoreState) (owner flush_at ops : ℕ) → ops < flush_at → HasKeptBehind flush_at s s owner ops None
behind-none s owner flush_at ops few = record { events = []; made = made-none s owner; keeps = inl (few, refl); words_are = refl }

pub behind-kept : (a b : StoreState) (owner flush_at ops : ℕ) → flush_at ≤ ops → KeepsUp a b owner (Ok tt) → HasFlushed a b flush_at (Ok tt) → HasKeptBehind flush_at a b owner ops None
behind-kept a b owner flush_at ops many keeps flushed = record { events = keeps.events; made = keeps.made; keeps = inr (many, keeps.none, inl (flushed.frozen, flushed.few)); words_are = keeps.words_are }

pub behind-refused : (a b : StoreState) (owner flush_at ops : ℕ) (refusal : Refusal) (word : Why) → word_of refusal ≡ Some word → flush_at ≤ ops → KeepsUp a b owner (Err refusal) → HasKeptBehind flush_at a b owner ops (Some word)
behind-refused a b owner flush_at ops refusal word is many keeps = record { events = keeps.events; made = keeps.made; keeps = inr (many, keeps.none, inr (refusal, keeps.ends)); words_are = keeps.words_are ∙ ap option_to_list is }

own-behind : (s : StoreState) (flush_at ops : ℕ) (behind : List Event) → KeepsUpBehind flush_at s ops behind → own behind ≡ []
own-behind s flush_at ops behind (inl (few, none)) = ap own none
own-behind s flush_at ops behind (inr (many, none, ends)) = none

-- a write that was answered, and the upkeep behind it
pub done-behind : (a b d : StoreState) (owner flush_at : ℕ) (op : LogOp) (wrote : Wrote) (word : Option Why) → HasTried a b owner op (Ok wrote) → HasKeptBehind flush_at b d owner wrote.ops word
    → HasDone a d owner (on_table (write (write_of op))) (write_outcome op (Ok wrote)) word
done-behind a b d owner flush_at op wrote word tried kept = record {
  events = tried.events ++ kept.events;
  made = made-then a b d owner tried.events kept.events tried.made kept.made;
  does = by_case (tries-do op (Ok wrote) tried.events tried.tries);
  words_are = words-append tried.events kept.events ∙ (λ j. tried.words_are j ++ kept.words_are j);
}
  where
    by_case : Does (on_table (write (write_of op))) (write_outcome op (Ok wrote)) tried.events → Does (on_table (write (write_of op))) (write_outcome op (Ok wrote)) (tried.events ++ kept.events)
    by_case (inl one) = inl (record {
      event = one.event;
      only = own-append tried.events kept.events ∙ (λ j. one.only j ++ own-behind d flush_at wrote.ops kept.events kept.keeps j);
      call = one.call;
    })
    by_case (inr upkeep) = absurd (let no : ◌≡◌ {A = Outcome} (write_outcome op (Ok wrote)) (refused upkeep.word) = upkeep.outcome_is in cc)

pub kept-behind : (a b d : StoreState) (owner flush_at : ℕ) (op : LogOp) (wrote : Wrote) (word : Option Why) → HasTried a b owner op (Ok wrote) → HasKeptBehind flush_at b d owner wrote.ops word → WritesKept flush_at a d owner op (Ok wrote)
kept-behind a b d owner flush_at op wrote word tried kept = record {
  tried = tried.events;
  behind = kept.events;
  made = made-then a b d owner tried.events kept.events tried.made kept.made;
  tries = tried.tries;
  follows = kept.keeps;
}

-- one that was refused
pub done-refused : (a b : StoreState) (owner : ℕ) (op : LogOp) (why : Why) → HasTried a b owner op (Err why) → HasDone a b owner (on_table (write (write_of op))) (refused why) None
done-refused a b owner op why tried = record { events = tried.events; made = tried.made; does = tries-do op (Err why) tried.events tried.tries; words_are = tried.words_are }

pub kept-refused : (a b : StoreState) (owner flush_at : ℕ) (op : LogOp) (why : Why) → HasTried a b owner op (Err why) → WritesKept flush_at a b owner op (Err why)
kept-refused a b owner flush_at op why tried = record {
  tried = tried.events;
  behind = [];
  made = subst (λ (es : List Event). Made a b owner es) (sym (append-nil tried.events)) tried.made;
  tries = tried.tries;
  follows = refl;
}

-- what is told in events with a look in front
look-first : (e : Event) (look : Look) (es : List Event) → e.action ≡ action.Look look → looks (e ∷ es) ≡ look ∷ looks es
look-first e look es is = ap (λ (a : Action). look_in a ++ looks es) is

looks-append : (es fs : List Event) → looks (es ++ fs) ≡ looks es ++ looks fs
looks-append [] fs = refl
looks-append (e ∷ es) fs = ap (λ (l : List Look). look_in e.action ++ l) (looks-append es fs) ∙ sym (append_assoc (look_in e.action) (looks es) (looks fs))

-- a flush that had nothing to do
pub flush-none : (s : StoreState) (owner : ℕ) (look : Look) → Makes s s owner (action.Look look) → look.lsn ≤ look.placed → HasDone s s owner flush quiet None
flush-none s owner look m placed = record {
  events = m.event ∷ [];
  made = made-one s s owner (action.Look look) m;
  does = record {
    none = upkeep-first m.event (action.Look look) [] m.is.action_is refl;
    first = look;
    later = [];
    looks_are = look-first m.event look [] m.is.action_is;
    told = look;
    is_told = Contains-push [] look;
    placed = placed;
  };
  words_are = no-word m.event (action.Look look) m.is.action_is refl;
}

pub only-looks : (s : StoreState) (owner : ℕ) (look : Look) → Makes s s owner (action.Look look) → OnlyLooks s s owner
only-looks s owner look m = record { event = m.event; made = made-one s s owner (action.Look look) m; look = look; is = m.is.action_is }

-- one that was refused
pub flush-ended : (a b : StoreState) (owner : ℕ) (look : Look) (refusal : Refusal) (word : Why) → Makes a a owner (action.Look look) → KeepsUp a b owner (Err refusal) → word_of refusal ≡ Some word → HasDone a b owner flush (refused word) None
flush-ended a b owner look refusal word m keeps is =
    let all : KeepsUp a b owner (Err refusal) = keeps-then a a b owner (Err refusal) (keeps-one a a owner (action.Look look) m refl refl) keeps in
    record { events = all.events; made = all.made; does = flush-refused refusal word all.events is all.none all.ends; words_are = all.words_are ∙ ap option_to_list is }

-- one that was made
pub flush-made : (a b : StoreState) (owner : ℕ) (first told : Look) → Makes a a owner (action.Look first) → KeepsUp a b owner (Ok tt) → Makes b b owner (action.Look told) → first.lsn ≤ told.placed → HasDone a b owner flush quiet None
flush-made a b owner first told one keeps other placed = record {
  events = one.event ∷ (keeps.events ++ other.event ∷ []);
  made = made-then a a b owner (one.event ∷ []) (keeps.events ++ other.event ∷ []) (made-one a a owner (action.Look first) one)
      (made-then a b b owner keeps.events (other.event ∷ []) keeps.made (made-one b b owner (action.Look told) other));
  does = record {
    none = upkeep-first one.event (action.Look first) (keeps.events ++ other.event ∷ []) one.is.action_is refl
        ∙ own-append keeps.events (other.event ∷ [])
        ∙ (λ j. keeps.none j ++ upkeep-first other.event (action.Look told) [] other.is.action_is refl j);
    first = first;
    later = looks keeps.events ++ told ∷ [];
    looks_are = look-first one.event first (keeps.events ++ other.event ∷ []) one.is.action_is
        ∙ ap (λ (l : List Look). first ∷ l) (looks-append keeps.events (other.event ∷ []) ∙ ap (λ (l : List Look). looks keeps.events ++ l) (look-first other.event told [] other.is.action_is));
    told = told;
    is_told = told-last (looks keeps.events);
    placed = placed;
  };
  words_are = words-append (one.event ∷ []) (keeps.events ++ other.event ∷ [])
      ∙ (λ j. no-word one.event (action.Look first) one.is.action_is refl j ++ words-append keeps.events (other.event ∷ []) j)
      ∙ (λ j. keeps.words_are j ++ no-word other.event (action.Look told) other.is.action_is refl j);
}
  where
    told-last : (ls : List Look) → Contains (first ∷ (ls ++ told ∷ [])) told
    told-last ls = Contains-push (first ∷ ls) told
