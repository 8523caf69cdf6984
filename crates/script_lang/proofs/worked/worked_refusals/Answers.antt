-- The definitions compute.
use Rattle.std.proofs.Common.{refl}
use Rattle.script_lang.specs.Scripts.{script_of, after_line}
use Rattle.script_lang.specs.Grammar.{meaning_of, meaning_of_words, read_by, put_line, del_line, get_line, count_line, region_line, flush_line, row_at, rect_at, kind_at, kind_of, note_at, note_of, number_at}
use Rattle.script_lang.specs.Numbers.{number_of}
use Rattle.script_lang.proofs.worked.worked_refusals.Goals as goal

pub returns-clause-no_such_line : goal.returns-clause-no_such_line
unfolding script_of after_line meaning_of meaning_of_words read_by put_line del_line get_line count_line region_line flush_line row_at rect_at kind_at kind_of note_at note_of number_at number_of
returns-clause-no_such_line c = refl

pub returns-clause-a_field_too_few : goal.returns-clause-a_field_too_few
unfolding script_of after_line meaning_of meaning_of_words read_by put_line del_line get_line count_line region_line flush_line row_at rect_at kind_at kind_of note_at note_of number_at number_of
returns-clause-a_field_too_few c = refl

pub returns-clause-a_field_too_many : goal.returns-clause-a_field_too_many
unfolding script_of after_line meaning_of meaning_of_words read_by put_line del_line get_line count_line region_line flush_line row_at rect_at kind_at kind_of note_at note_of number_at number_of
returns-clause-a_field_too_many c = refl

pub returns-clause-a_key_too_few : goal.returns-clause-a_key_too_few
unfolding script_of after_line meaning_of meaning_of_words read_by put_line del_line get_line count_line region_line flush_line row_at rect_at kind_at kind_of note_at note_of number_at number_of
returns-clause-a_key_too_few c = refl

pub returns-clause-a_key_too_many : goal.returns-clause-a_key_too_many
unfolding script_of after_line meaning_of meaning_of_words read_by put_line del_line get_line count_line region_line flush_line row_at rect_at kind_at kind_of note_at note_of number_at number_of
returns-clause-a_key_too_many c = refl

pub returns-clause-a_great_key_to_get : goal.returns-clause-a_great_key_to_get
unfolding script_of after_line meaning_of meaning_of_words read_by put_line del_line get_line count_line region_line flush_line row_at rect_at kind_at kind_of note_at note_of number_at number_of
returns-clause-a_great_key_to_get c = refl

pub returns-clause-a_count_of_a_key : goal.returns-clause-a_count_of_a_key
unfolding script_of after_line meaning_of meaning_of_words read_by put_line del_line get_line count_line region_line flush_line row_at rect_at kind_at kind_of note_at note_of number_at number_of
returns-clause-a_count_of_a_key c = refl

pub returns-clause-a_flush_of_a_key : goal.returns-clause-a_flush_of_a_key
unfolding script_of after_line meaning_of meaning_of_words read_by put_line del_line get_line count_line region_line flush_line row_at rect_at kind_at kind_of note_at note_of number_at number_of
returns-clause-a_flush_of_a_key c = refl

pub returns-clause-a_great_coordinate : goal.returns-clause-a_great_coordinate
unfolding script_of after_line meaning_of meaning_of_words read_by put_line del_line get_line count_line region_line flush_line row_at rect_at kind_at kind_of note_at note_of number_at number_of
returns-clause-a_great_coordinate c = refl

pub returns-clause-a_great_key : goal.returns-clause-a_great_key
unfolding script_of after_line meaning_of meaning_of_words read_by put_line del_line get_line count_line region_line flush_line row_at rect_at kind_at kind_of note_at note_of number_at number_of
returns-clause-a_great_key c = refl

pub returns-clause-twenty_one_digits : goal.returns-clause-twenty_one_digits
unfolding script_of after_line meaning_of meaning_of_words read_by put_line del_line get_line count_line region_line flush_line row_at rect_at kind_at kind_of note_at note_of number_at number_of
returns-clause-twenty_one_digits c = refl

pub returns-clause-a_sign : goal.returns-clause-a_sign
unfolding script_of after_line meaning_of meaning_of_words read_by put_line del_line get_line count_line region_line flush_line row_at rect_at kind_at kind_of note_at note_of number_at number_of
returns-clause-a_sign c = refl

pub returns-clause-an_empty_rectangle : goal.returns-clause-an_empty_rectangle
unfolding script_of after_line meaning_of meaning_of_words read_by put_line del_line get_line count_line region_line flush_line row_at rect_at kind_at kind_of note_at note_of number_at number_of
returns-clause-an_empty_rectangle c = refl

pub returns-clause-no_such_index : goal.returns-clause-no_such_index
unfolding script_of after_line meaning_of meaning_of_words read_by put_line del_line get_line count_line region_line flush_line row_at rect_at kind_at kind_of note_at note_of number_at number_of
returns-clause-no_such_index c = refl

pub returns-clause-a_note_with_a_nul : goal.returns-clause-a_note_with_a_nul
unfolding script_of after_line meaning_of meaning_of_words read_by put_line del_line get_line count_line region_line flush_line row_at rect_at kind_at kind_of note_at note_of number_at number_of
returns-clause-a_note_with_a_nul c = refl

pub returns-clause-two_returns : goal.returns-clause-two_returns
unfolding script_of after_line meaning_of meaning_of_words read_by put_line del_line get_line count_line region_line flush_line row_at rect_at kind_at kind_of note_at note_of number_at number_of
returns-clause-two_returns c = refl

pub returns-clause-a_line_of_201 : goal.returns-clause-a_line_of_201
unfolding script_of after_line meaning_of meaning_of_words read_by put_line del_line get_line count_line region_line flush_line row_at rect_at kind_at kind_of note_at note_of number_at number_of
returns-clause-a_line_of_201 c = refl

pub returns-clause-the_first_bad_line : goal.returns-clause-the_first_bad_line
unfolding script_of after_line meaning_of meaning_of_words read_by put_line del_line get_line count_line region_line flush_line row_at rect_at kind_at kind_of note_at note_of number_at number_of
returns-clause-the_first_bad_line c = refl

pub returns-clause-a_command_too_many : goal.returns-clause-a_command_too_many
unfolding script_of after_line meaning_of meaning_of_words read_by put_line del_line get_line count_line region_line flush_line row_at rect_at kind_at kind_of note_at note_of number_at number_of
returns-clause-a_command_too_many c = refl

pub returns-clause-a_bad_line_before_it : goal.returns-clause-a_bad_line_before_it
unfolding script_of after_line meaning_of meaning_of_words read_by put_line del_line get_line count_line region_line flush_line row_at rect_at kind_at kind_of note_at note_of number_at number_of
returns-clause-a_bad_line_before_it c = refl

pub returns-clause-a_byte_too_many : goal.returns-clause-a_byte_too_many
unfolding script_of after_line meaning_of meaning_of_words read_by put_line del_line get_line count_line region_line flush_line row_at rect_at kind_at kind_of note_at note_of number_at number_of
returns-clause-a_byte_too_many c = refl

pub returns-clause-a_byte_too_many_in_a_comment : goal.returns-clause-a_byte_too_many_in_a_comment
unfolding script_of after_line meaning_of meaning_of_words read_by put_line del_line get_line count_line region_line flush_line row_at rect_at kind_at kind_of note_at note_of number_at number_of
returns-clause-a_byte_too_many_in_a_comment c = refl

pub returns-clause-a_bad_line_before_the_byte : goal.returns-clause-a_bad_line_before_the_byte
unfolding script_of after_line meaning_of meaning_of_words read_by put_line del_line get_line count_line region_line flush_line row_at rect_at kind_at kind_of note_at note_of number_at number_of
returns-clause-a_bad_line_before_the_byte c = refl

pub returns-clause-a_bad_line_that_ends_behind_it : goal.returns-clause-a_bad_line_that_ends_behind_it
unfolding script_of after_line meaning_of meaning_of_words read_by put_line del_line get_line count_line region_line flush_line row_at rect_at kind_at kind_of note_at note_of number_at number_of
returns-clause-a_bad_line_that_ends_behind_it c = refl
