use Rattle.std.proofs.Common.{get_or}
use Rattle.comp_dir.specs.Slots.{slot_of}
use Rattle.comp_dir.proofs.parsing.slot_of.Goals as goal

pub returns : goal.returns
unfolding slot_of
returns c = λ i. record {
  index = get_or c.args.body.now 0 0;
  first = c.number32.ensures i;
  pages = c.number32-2.ensures i;
  first_lsn = c.number64.ensures i;
  last_lsn = c.number64-2.ensures i;
  main_rows = c.number32-3.ensures i;
  second_rows = c.number32-4.ensures i;
  second_at = c.number32-5.ensures i;
  filter_at = c.number32-6.ensures i;
  filter_bits = c.number32-7.ensures i;
  table_rows = c.number64-3.ensures i;
}
