-- The definitions compute.
use Rattle.std.proofs.Common.{refl}
use Rattle.script_lang.specs.Scripts.{script_of, after_line}
use Rattle.script_lang.specs.Grammar.{meaning_of, meaning_of_words, read_by, put_line, del_line, get_line, count_line, region_line, flush_line, row_at, rect_at, kind_at, kind_of, note_at, note_of, number_at}
use Rattle.script_lang.specs.Numbers.{number_of}
use Rattle.script_lang.proofs.worked.worked_scripts.Goals as goal

pub returns-clause-nothing : goal.returns-clause-nothing
unfolding script_of after_line meaning_of meaning_of_words read_by put_line del_line get_line count_line region_line flush_line row_at rect_at kind_at kind_of note_at note_of number_at number_of
returns-clause-nothing c = refl

pub returns-clause-two_commands : goal.returns-clause-two_commands
unfolding script_of after_line meaning_of meaning_of_words read_by put_line del_line get_line count_line region_line flush_line row_at rect_at kind_at kind_of note_at note_of number_at number_of
returns-clause-two_commands c = refl

pub returns-clause-lines_of_a_key : goal.returns-clause-lines_of_a_key
unfolding script_of after_line meaning_of meaning_of_words read_by put_line del_line get_line count_line region_line flush_line row_at rect_at kind_at kind_of note_at note_of number_at number_of
returns-clause-lines_of_a_key c = refl

pub returns-clause-a_flush : goal.returns-clause-a_flush
unfolding script_of after_line meaning_of meaning_of_words read_by put_line del_line get_line count_line region_line flush_line row_at rect_at kind_at kind_of note_at note_of number_at number_of
returns-clause-a_flush c = refl

pub returns-clause-blanks_round_a_flush : goal.returns-clause-blanks_round_a_flush
unfolding script_of after_line meaning_of meaning_of_words read_by put_line del_line get_line count_line region_line flush_line row_at rect_at kind_at kind_of note_at note_of number_at number_of
returns-clause-blanks_round_a_flush c = refl

pub returns-clause-last_line_is_open : goal.returns-clause-last_line_is_open
unfolding script_of after_line meaning_of meaning_of_words read_by put_line del_line get_line count_line region_line flush_line row_at rect_at kind_at kind_of note_at note_of number_at number_of
returns-clause-last_line_is_open c = refl

pub returns-clause-blanks_and_zeros : goal.returns-clause-blanks_and_zeros
unfolding script_of after_line meaning_of meaning_of_words read_by put_line del_line get_line count_line region_line flush_line row_at rect_at kind_at kind_of note_at note_of number_at number_of
returns-clause-blanks_and_zeros c = refl

pub returns-clause-comments : goal.returns-clause-comments
unfolding script_of after_line meaning_of meaning_of_words read_by put_line del_line get_line count_line region_line flush_line row_at rect_at kind_at kind_of note_at note_of number_at number_of
returns-clause-comments c = refl

pub returns-clause-a_dash_is_the_empty_note : goal.returns-clause-a_dash_is_the_empty_note
unfolding script_of after_line meaning_of meaning_of_words read_by put_line del_line get_line count_line region_line flush_line row_at rect_at kind_at kind_of note_at note_of number_at number_of
returns-clause-a_dash_is_the_empty_note c = refl

pub returns-clause-two_dashes_are_a_note : goal.returns-clause-two_dashes_are_a_note
unfolding script_of after_line meaning_of meaning_of_words read_by put_line del_line get_line count_line region_line flush_line row_at rect_at kind_at kind_of note_at note_of number_at number_of
returns-clause-two_dashes_are_a_note c = refl

pub returns-clause-twenty_digits : goal.returns-clause-twenty_digits
unfolding script_of after_line meaning_of meaning_of_words read_by put_line del_line get_line count_line region_line flush_line row_at rect_at kind_at kind_of note_at note_of number_at number_of
returns-clause-twenty_digits c = refl

pub returns-clause-the_greatest_key : goal.returns-clause-the_greatest_key
unfolding script_of after_line meaning_of meaning_of_words read_by put_line del_line get_line count_line region_line flush_line row_at rect_at kind_at kind_of note_at note_of number_at number_of
returns-clause-the_greatest_key c = refl

pub returns-clause-a_line_of_200 : goal.returns-clause-a_line_of_200
unfolding script_of after_line meaning_of meaning_of_words read_by put_line del_line get_line count_line region_line flush_line row_at rect_at kind_at kind_of note_at note_of number_at number_of
returns-clause-a_line_of_200 c = refl

pub returns-clause-as_many_bytes_as_allowed : goal.returns-clause-as_many_bytes_as_allowed
unfolding script_of after_line meaning_of meaning_of_words read_by put_line del_line get_line count_line region_line flush_line row_at rect_at kind_at kind_of note_at note_of number_at number_of
returns-clause-as_many_bytes_as_allowed c = refl
