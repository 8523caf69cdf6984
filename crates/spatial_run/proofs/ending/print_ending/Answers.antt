use Rattle.std.proofs.Common.{◌∙◌, ap, sym, subst, ◌++◌}
use Rattle.dev_model.specs.declared.streams.Failed.{Failed}
use Rattle.dev_model.specs.Laws.Chained.{says_same}
use Rattle.table_model.specs.Record.{refusals_text}
use Rattle.script_lang.specs.CommandViews.{phases_of}
use Rattle.spatial_run.specs.Views.{outcomes_of, record_of}
use Rattle.spatial_run.specs.EndingViews.{ending_of}
use Rattle.spatial_run.specs.Endings.{ending_text}
use Rattle.spatial_run.specs.Endings as spec
use Rattle.spatial_run.specs.Steps.{answers_text, IsPlain}
use Rattle.spatial_run.proofs.Plain.{record_text_alone}
use Rattle.spatial_run.proofs.ending.print_ending.Goals as goal

pub returns-in-Ran-clause-told : goal.returns-in-Ran-clause-told
returns-in-Ran-clause-told g c =
    let s = phases_of c.in-Ran.field-0 in
    let r = record_of c.in-Ran.record in
    let plain : IsPlain (spec.ran s r c.in-Ran.field-2) = subst (λ e. IsPlain (ending_of e)) c.in-Ran.is c.requires in
    says_same (Unit {0}) Failed _ _ _ _ c.print_outcomes.result
    (ap (λ os. answers_text 0 (outcomes_of os) ++ refusals_text 0 (outcomes_of os)) c.as_slice.ensures
    ∙ sym (record_text_alone s r plain.0 plain.1 plain.2 plain.3)
    ∙ sym (ap (λ e. ending_text (ending_of e)) c.in-Ran.is))
    c.print_outcomes.ensures.told
