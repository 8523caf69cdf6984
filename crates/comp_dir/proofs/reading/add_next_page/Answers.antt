use Rattle.dev_model.specs.Story.{bytes_of}
use Rattle.comp_dir.proofs.Finding.{on-ok, if-bad}
use Rattle.comp_dir.proofs.reading.add_next_page.Goals as goal

pub returns-in-Ok-clause-added : goal.returns-in-Ok-clause-added
returns-in-Ok-clause-added g c = on-ok c.add_page.result _ _ (λ more s is rest has. more (bytes_of s) (c.in-Ok.ensures.shows s is rest) has) c.add_page.ensures.added

pub returns-in-Ok-clause-bad : goal.returns-in-Ok-clause-bad
returns-in-Ok-clause-bad g c = if-bad c.add_page.result _ _ (λ n more s is rest has. more (bytes_of s) (c.in-Ok.ensures.shows s is rest) has) c.add_page.ensures.bad
