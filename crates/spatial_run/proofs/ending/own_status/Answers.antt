use Rattle.std.proofs.Common.{◌∙◌, ap, sym}
use Rattle.script_lang.specs.CommandViews.{phases_of}
use Rattle.spatial_run.specs.Endings.{own_status}
use Rattle.spatial_run.specs.EndingViews.{ending_of}
use Rattle.spatial_run.specs.Views.{record_of}
use Rattle.spatial_run.proofs.ending.own_status.Goals as goal

pub returns-in-Ran : goal.returns-in-Ran
returns-in-Ran c = c.status_of_run.ensures (phases_of c.in-Ran.field-0) (record_of c.in-Ran.field-1) ∙ sym (ap (λ e. own_status (ending_of e)) c.in-Ran.is)
