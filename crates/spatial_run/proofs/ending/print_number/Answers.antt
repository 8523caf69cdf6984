use Rattle.std.proofs.Common.{◌≡◌, decimal, ◌++◌, ◌∙◌, subst, Ok, Err, List, ℕ}
use Rattle.dev_model.specs.Streams.{Says}
use Rattle.dev_model.specs.declared.streams.Failed.{Failed}
use Rattle.dev_model.specs.Laws.Chained.{says_cut, says_then}
use Rattle.spatial_run.proofs.ending.print_number.Goals as goal

pub returns-in-Err-send_all-clause-told : goal.returns-in-Err-send_all-clause-told
returns-in-Err-send_all-clause-told g c =
    let digits : c.as_bytes.result.now ≡ decimal c.args.number = c.as_bytes.ensures.value ∙ c.format.ensures.text in
    says_then (Unit {0}) Failed tt _ _ _ c.args.front.now (decimal c.args.number ++ c.args.end.now) (Err c.in-Err-send_all.e) c.in_default.ensures.told
    (says_cut (Unit {0}) Failed Failed c.in-Err-send_all.e c.in-Err-send_all.e _ _ (decimal c.args.number) c.args.end.now
    (subst (λ (text : List ℕ). Says {X = Unit {0}} {E = Failed} (g.K.Sink.taken c.send_all.new.out) (g.K.Sink.taken c.send_all-2.new.out) text (Err c.in-Err-send_all.e)) digits c.in-Err-send_all.ensures.told))

pub returns-clause-told : goal.returns-clause-told
returns-clause-told g c =
    let digits : c.as_bytes.result.now ≡ decimal c.args.number = c.as_bytes.ensures.value ∙ c.format.ensures.text in
    says_then (Unit {0}) Failed tt _ _ _ c.args.front.now (decimal c.args.number ++ c.args.end.now) c.send_all-3.result c.in_default.ensures.told
    (says_then (Unit {0}) Failed tt _ _ _ (decimal c.args.number) c.args.end.now c.send_all-3.result
    (subst (λ (text : List ℕ). Says {X = Unit {0}} {E = Failed} (g.K.Sink.taken c.send_all.new.out) (g.K.Sink.taken c.send_all-2.new.out) text (Ok tt)) digits c.in_default-send_all.ensures.told)
    c.send_all-3.ensures.told)
