use Rattle.std.proofs.Common.{◌≡◌, ◌-◌, ◌<◌, length, take, drop, arith, rules, List, ℕ}
use Rattle.std.proofs.lemmas.List.{take_all, length-drop}
use Rattle.script_lang.proofs.WordLemmas.{words_of_first}
use Rattle.script_lang.proofs.words.first_word.Goals as goal

pub returns : goal.returns
returns c =
    let rest : List ℕ = c.without_blanks-rest.result.now in
    let len : ℕ = c.word_len-len.result in
    let some : 0 < length rest = search rules in
    let behind : take (length rest - len) (drop len rest) ≡ drop len rest = take_all _ _ (simp length-drop (omega arith)) in
    rw (behind, ← c.without_blanks-rest.ensures.words, c.word_len-len.ensures.exact, words_of_first rest some c.without_blanks-rest.ensures.front)
