use Rattle.std.proofs.Common.{◌≡◌, ℕ, zero, suc, length, map, List, [], ◌∷◌, ap, ◌∙◌, arith, Some, None}
use Rattle.std.specs.Ordering.{nat_cmp}
use Rattle.std.specs.FinMap.{get-empty}
use Rattle.table_model.specs.Table.{Place, row_at}
use Rattle.table_model.specs.declared.Why.{Why}
use Rattle.table_model.specs.declared.Why.TheVariants.{Fault, Stopped, Full, NoIndex, Damaged, Memory}
use Rattle.table_model.specs.Refusals.{MayRefuse}
use Rattle.table_model.specs.Commands.{on_table, flush, write, put, get, count, Reply, wrote, got, counted, del_none, del_old}
use Rattle.table_model.specs.Answers.{del_reply}
use Rattle.table_model.specs.Examples.{one}
use Rattle.table_model.proofs.Empty.{no_entries}
use Rattle.table_model.proofs.worked_exclusions.Goals as goal

not_there : (p : Place) → ◌≡◌ {A = List Reply} (got (Some p) ∷ []) (got None ∷ []) → ⊥
not_there p h = cc

not_taken : ◌≡◌ {A = List Reply} (wrote (del_old one.point one.note) ∷ []) (wrote del_none ∷ []) → ⊥
not_taken h = cc

not_one : ◌≡◌ {A = List Reply} (counted 1 ∷ []) (counted 0 ∷ []) → ⊥
not_one h = cc

pub returns-clause-false_get : goal.returns-clause-false_get
returns-clause-false_get c = λ h. not_there _ (h ∙ ap (λ found. got found ∷ []) (get-empty nat_cmp 1))

pub returns-clause-false_del : goal.returns-clause-false_del
returns-clause-false_del c = λ h. not_taken (h ∙ ap (λ found. wrote (del_reply found) ∷ []) (get-empty nat_cmp 1))

pub returns-clause-false_count : goal.returns-clause-false_count
returns-clause-false_count c = λ h. not_one (h ∙ ap (λ es. counted (length (map row_at es)) ∷ []) no_entries)

-- a word that is in none of these lists
memory_of_count : MayRefuse (on_table count) Memory → ⊥
memory_of_count (k, below, is) = omega (arith, below)

memory_of_get : (key : ℕ) → MayRefuse (on_table (get key)) Memory → ⊥
memory_of_get key (zero, below, is) = let no : ◌≡◌ {A = Why} Fault Memory = is in cc
memory_of_get key (suc zero, below, is) = let no : ◌≡◌ {A = Why} Damaged Memory = is in cc
memory_of_get key (suc (suc k), below, is) = omega (arith, below)

index_of_put : MayRefuse (on_table (write (put one))) NoIndex → ⊥
index_of_put (zero, below, is) = let no : ◌≡◌ {A = Why} Fault NoIndex = is in cc
index_of_put (suc zero, below, is) = let no : ◌≡◌ {A = Why} Stopped NoIndex = is in cc
index_of_put (suc (suc zero), below, is) = let no : ◌≡◌ {A = Why} Full NoIndex = is in cc
index_of_put (suc (suc (suc zero)), below, is) = let no : ◌≡◌ {A = Why} Damaged NoIndex = is in cc
index_of_put (suc (suc (suc (suc zero))), below, is) = let no : ◌≡◌ {A = Why} Memory NoIndex = is in cc
index_of_put (suc (suc (suc (suc (suc k)))), below, is) = omega (arith, below)

damage_of_flush : MayRefuse flush Damaged → ⊥
damage_of_flush (zero, below, is) = let no : ◌≡◌ {A = Why} Fault Damaged = is in cc
damage_of_flush (suc zero, below, is) = let no : ◌≡◌ {A = Why} Stopped Damaged = is in cc
damage_of_flush (suc (suc zero), below, is) = let no : ◌≡◌ {A = Why} Full Damaged = is in cc
damage_of_flush (suc (suc (suc zero)), below, is) = let no : ◌≡◌ {A = Why} Memory Damaged = is in cc
damage_of_flush (suc (suc (suc (suc k))), below, is) = omega (arith, below)

pub returns-clause-refused_count : goal.returns-clause-refused_count
returns-clause-refused_count c = λ fits. memory_of_count fits.setup.0

pub returns-clause-get_without_memory : goal.returns-clause-get_without_memory
returns-clause-get_without_memory c = λ fits. memory_of_get 1 fits.setup.0

pub returns-clause-put_without_an_index : goal.returns-clause-put_without_an_index
returns-clause-put_without_an_index c = λ fits. index_of_put fits.setup.0

pub returns-clause-no_outcome : goal.returns-clause-no_outcome
returns-clause-no_outcome c = λ fits. fits.setup

pub returns-clause-wrong_order : goal.returns-clause-wrong_order
returns-clause-wrong_order c = λ fits. absurd (omega (arith, fits.through.0))

pub returns-clause-one_seq_twice : goal.returns-clause-one_seq_twice
returns-clause-one_seq_twice c = λ fits. absurd (omega (arith, fits.differ.0))

pub returns-clause-answered_flush : goal.returns-clause-answered_flush
returns-clause-answered_flush c = λ fits. fits.setup.0

pub returns-clause-damaged_flush : goal.returns-clause-damaged_flush
returns-clause-damaged_flush c = λ fits. damage_of_flush fits.setup.0

pub returns-clause-quiet_get : goal.returns-clause-quiet_get
returns-clause-quiet_get c = λ fits. fits.setup.0
