use Rattle.std.proofs.Common.{ℕ, ◌≤◌, subst, rules}
use Rattle.dev_model.specs.Doing.{Made}
use Rattle.device_format.specs.Planning.{write_calls}
use Rattle.device_format.proofs.Joining.{made_then}
use Rattle.device_format.proofs.Leaving.{formatted, any_moment, over_none, not_read}
use Rattle.device_format.proofs.format.format_dev.Goals as goal

pub returns-in_err-is_open-clause-made : goal.returns-in_err-is_open-clause-made
returns-in_err-is_open-clause-made g c = not_read c.from_residual.result c.from_residual.ensures.0 c.in_err-is_open.ensures.made

pub returns-in_err-is_open-clause-any_moment : goal.returns-in_err-is_open-clause-any_moment
returns-in_err-is_open-clause-any_moment g c = let few : c.args.indexes ≤ 31 = search rules in any_moment few (returns-in_err-is_open-clause-made g c)

pub returns-in_err-is_open-clause-over_none : goal.returns-in_err-is_open-clause-over_none
returns-in_err-is_open-clause-over_none g c = let few : c.args.indexes ≤ 31 = search rules in over_none few (returns-in_err-is_open-clause-made g c)

pub returns-clause-made : goal.returns-clause-made
returns-clause-made g c = record {
  is_open = c.in_ok-is_open.is_open;
  told = c.in_ok-is_open.ensures.is;
  made = made_then c.in_ok-is_open.ensures.made
      (subst (λ (n : ℕ). Made (write_calls c.in_ok-is_open.is_open c.args.indexes n) (g.D.Device.seen c.is_superblock_open.new.device) (g.D.Device.seen c.write_store.new.device) c.write_store.result) c.in_ok-is_open.ensures.made.same_pages c.write_store.ensures);
}

pub returns-clause-formatted : goal.returns-clause-formatted
returns-clause-formatted g c = let few : c.args.indexes ≤ 31 = search rules in formatted c.write_store.result few (returns-clause-made g c)

pub returns-clause-any_moment : goal.returns-clause-any_moment
returns-clause-any_moment g c = let few : c.args.indexes ≤ 31 = search rules in any_moment few (returns-clause-made g c)

pub returns-clause-over_none : goal.returns-clause-over_none
returns-clause-over_none g c = let few : c.args.indexes ≤ 31 = search rules in over_none few (returns-clause-made g c)
