-- The steps of the walks over a list of slots.
use Rattle.std.proofs.lemmas.List.Filters.{length-filter_more}
use Rattle.std.proofs.lemmas.List.Elements.{filter_more}

pub ruleset one_more_lower = length-filter_more

pub ruleset one_more_part = filter_more
