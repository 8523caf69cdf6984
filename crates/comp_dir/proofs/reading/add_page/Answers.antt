use Rattle.std.proofs.Common.{ℕ, arith, subst}
use Rattle.comp_dir.specs.Found.{AreLawful}
use Rattle.comp_dir.proofs.Finding.{where-bad, page-more, page-bad}
use Rattle.comp_dir.proofs.reading.add_page.Goals as goal

pub returns-in-Err-clause-bad : goal.returns-in-Err-clause-bad
returns-in-Err-clause-bad c =
    where-bad c.in-Err.fault _ _
    (λ n unsound bytes shows has. page-bad c.args.asked.now.pages c.args.asked.now.declared c.args.first c.loop-place.place n c.args.page.now bytes _ (omega arith) c.requires shows unsound.0 unsound.1 (c.loop-place.invariant.0 bytes shows has))
    c.in-Err.ensures.bad

pub loop-place-preserved : goal.loop-place-preserved
loop-place-preserved c = (
  λ bytes shows has. page-more c.args.asked.now.pages c.args.asked.now.declared c.args.first c.loop-place.place c.args.page.now bytes _ _ (omega arith) shows c.in_default.ensures.fine c.in_default.ensures.added (c.loop-place.invariant.0 bytes shows has),
  λ lawful. subst (λ (n : ℕ). AreLawful c.args.asked.now.pages c.args.asked.now.declared n c.add_slot.new.found.items) (omega arith) (c.in_default.ensures.lawful (c.loop-place.invariant.1 lawful)),
)
