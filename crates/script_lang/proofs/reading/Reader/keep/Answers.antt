use Rattle.std.proofs.Common.{◌≡◌, ◌+◌, ◌-◌, ◌≤◌, ◌++◌, ◌∙◌, ap, arith, length, take, ℕ, List}
use Rattle.std.proofs.lemmas.Slice.{take-put_mid}
use Rattle.std.proofs.lemmas.List.{length-take}
use Rattle.script_lang.specs.declared.reading.TheConstants.{FRONT}
use Rattle.script_lang.specs.contracts.reading.Reader.{the_view}
use Rattle.script_lang.proofs.Fronts.{filled_front}
use Rattle.script_lang.proofs.reading.Reader.keep.Goals as goal

pub returns : goal.returns
returns c =
    let len : ℕ = c.self.inside.len in
    let front : List ℕ = c.self.inside.front in
    let part : List ℕ = c.args.part.now in
    let kept : List ℕ = c.copy_from_slice.new.self in
    let fits : len ≤ length front = omega arith in
    let line : length (take len front) ≡ len = simp length-take (omega arith) in
    let put = take-put_mid len (len + c.min-n.result - len) front kept (len + c.min-n.result) (omega (arith, c.copy_from_slice.ensures.len)) fits in
    let whole : take len front ++ kept ≡ take FRONT (take len front ++ part) =
    ap (λ l. take len front ++ l) c.copy_from_slice.ensures.after ∙ filled_front FRONT (take len front) part c.min-n.result (omega arith) (omega arith) in
    rw (← c.self.view_is) (ap (λ l. record (the_view c.self.inside) { line = l; bytes = c.self.inside.bytes + length part }) (put ∙ whole))
