use Rattle.std.proofs.Common.{refl}
use Rattle.page_codec.specs.Written.{page_of, joined}
use Rattle.page_codec.proofs.pages.new_page.Goals as goal

pub returns : goal.returns
unfolding page_of joined
returns c = refl
