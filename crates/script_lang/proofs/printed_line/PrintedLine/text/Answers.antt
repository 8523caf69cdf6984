use Rattle.std.proofs.Common.{◌+◌, ◌-◌, ◌≤◌, ◌++◌, ◌∙◌, ap, arith, length, take, ℕ, List}
use Rattle.std.proofs.lemmas.Slice.{take-put_mid}
use Rattle.std.proofs.lemmas.List.{length-append}
use Rattle.script_lang.proofs.printed_line.PrintedLine.text.Goals as goal

pub returns : goal.returns
returns c =
    let len : ℕ = c.self.inside.len in
    let room : List ℕ = c.self.inside.room in
    let bytes : List ℕ = c.args.bytes.now in
    let now : List ℕ = c.copy_from_slice.new.self in
    let fits : len ≤ length room = omega arith in
    let put = take-put_mid len (len + length bytes - len) room now (len + length bytes) (omega (arith, ap length c.copy_from_slice.ensures.after)) fits in
    let text = put ∙ ap (λ l. take len room ++ l) c.copy_from_slice.ensures.after ∙ ap (λ l. l ++ bytes) c.self.view_is in
    record { text = text; len = ap length text ∙ length-append c.args.self.now bytes }
