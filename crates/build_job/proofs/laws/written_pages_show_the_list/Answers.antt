use Rattle.std.proofs.Common.{refl}
use Rattle.build_job.specs.Laws.Showing.{AreWritten-next, AreWritten-shows}
use Rattle.build_job.proofs.laws.written_pages_show_the_list.Goals as goal

pub returns-clause-next : goal.returns-clause-next
returns-clause-next c = AreWritten-next

pub returns-clause-shows : goal.returns-clause-shows
returns-clause-shows c = AreWritten-shows

pub returns-clause-is_shown : goal.returns-clause-is_shown
returns-clause-is_shown c job contents is none written ascends stored = record {
  bytes = contents;
  told = refl;
  is = record { count = refl; ascends = ascends; stored = stored };
  shows = AreWritten-shows job contents is none written;
}
