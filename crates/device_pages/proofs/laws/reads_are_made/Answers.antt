use Rattle.std.proofs.Common.{◌∙◌}
use Rattle.dev_model.specs.Story.{clock_of}
use Rattle.dev_model.specs.DeviceCalls.{ok_calls}
use Rattle.device_pages.specs.Asked.{calls_of}
use Rattle.device_pages.specs.Laws.Asked.{story-asked, ok_calls-asked}
use Rattle.device_pages.proofs.laws.reads_are_made.Goals as goal

pub returns : goal.returns
returns c = λ asked old new s went told clock. record {
  calls = calls_of old.clock asked;
  told = story-asked asked old new s went told;
  made = (λ j. ok_calls (clock_of s) (calls_of (clock j) asked)) ∙ ok_calls-asked (clock_of s) asked;
}
