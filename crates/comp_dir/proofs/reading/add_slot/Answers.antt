use Rattle.comp_dir.proofs.Finding.{lawful-add}
use Rattle.comp_dir.proofs.reading.add_slot.Goals as goal

pub returns-in-Ok-clause-lawful : goal.returns-in-Ok-clause-lawful
returns-in-Ok-clause-lawful c lawful =
    lawful-add c.args.asked.now.pages c.args.asked.now.declared _ c.args.found.now.items _ _ c.in-Some.body c.in-Some-parse.ensures.there.0 c.in-Some-parse.ensures.there.1 c.in-Ok.ensures.items lawful
