use Rattle.std.proofs.Common.{◌∙◌, ◌++◌, ap, arith}
use Rattle.script_lang.specs.Grammar.{meaning_of}
use Rattle.script_lang.specs.declared.reading.TheConstants.{FRONT}
use Rattle.script_lang.proofs.Fronts.{meaning_of_front}
use Rattle.script_lang.proofs.reading.Reader.close_line.Goals as goal

pub returns-clause-meaning : goal.returns-clause-meaning
returns-clause-meaning c =
    c.line_meaning-meaning.ensures
    ∙ ap (λ p. meaning_of p.line) (c.self-2.view_is ∙ c.keep.ensures)
    ∙ meaning_of_front FRONT (c.args.self.now.line ++ c.args.part.now) (omega arith)
