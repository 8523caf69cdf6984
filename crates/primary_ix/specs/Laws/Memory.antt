-- What the lists in memory have at a key, and what is left to look for behind them.
use Rattle.std.proofs.Common.{◌≡◌, ℕ, List, [], ◌++◌, Option, Some, None, is_some, if◌then◌else◌, refl, sym, ◌∙◌, ap}
use Rattle.std.specs.Option.{option_or, option_to_list}
use Rattle.order_merge.specs.Entries.{entry_at, newest_at}
use Rattle.order_merge.specs.Views.{lists_of}
use Rattle.primary_ix.specs.declared.component.PrimComp.{PrimComp}
use Rattle.primary_ix.specs.declared.rows.PrimRow.{PrimRow}
use Rattle.primary_ix.specs.Reading.{prim_reading}
use Rattle.primary_ix.specs.Lookups.{in_memory, lookup_pages, view_pages}

alone : (found : Option PrimRow) → option_or found None ≡ found
alone None = refl
alone (Some row) = refl

module _ (active : List PrimRow) (frozen : Option (List PrimRow)) (key : ℕ) where
  pub memory-active : (row : PrimRow) → Some row ≡ entry_at prim_reading active key → Some row ≡ in_memory active frozen key
  unfolding newest_at
  memory-active row is = ap (λ o. option_or o (newest_at prim_reading (option_to_list frozen ++ []) key)) is

  pub memory-frozen : (list : List PrimRow) (found : Option PrimRow) → None ≡ entry_at prim_reading active key → frozen ≡ Some list
      → found ≡ entry_at prim_reading list key → found ≡ in_memory active frozen key
  unfolding newest_at
  memory-frozen list found none is e =
      e ∙ sym (alone (entry_at prim_reading list key)) ∙ ap (λ o. newest_at prim_reading (option_to_list o ++ []) key) (sym is)
      ∙ ap (λ o. option_or o (newest_at prim_reading (option_to_list frozen ++ []) key)) none

  pub memory-none : None ≡ entry_at prim_reading active key → frozen ≡ None → None ≡ in_memory active frozen key
  unfolding newest_at
  memory-none none is =
      ap (λ o. newest_at prim_reading (option_to_list o ++ []) key) (sym is)
      ∙ ap (λ o. option_or o (newest_at prim_reading (option_to_list frozen ++ []) key)) none

  -- and where they have nothing, what the components have
  pub newest-view : (disk : List (List PrimRow)) → newest_at prim_reading (lists_of active frozen disk) key ≡ option_or (in_memory active frozen key) (newest_at prim_reading disk key)
  unfolding newest_at
  newest-view disk = go frozen
    where
      under : (a b : Option PrimRow) → option_or a b ≡ option_or (option_or a None) b
      under None b = refl
      under (Some row) b = refl

      under_two : (a b c : Option PrimRow) → option_or a (option_or b c) ≡ option_or (option_or a (option_or b None)) c
      under_two None b c = under b c
      under_two (Some row) b c = refl

      go : (frozen : Option (List PrimRow)) → newest_at prim_reading (lists_of active frozen disk) key ≡ option_or (in_memory active frozen key) (newest_at prim_reading disk key)
      go None = under (entry_at prim_reading active key) (newest_at prim_reading disk key)
      go (Some list) = under_two (entry_at prim_reading active key) (entry_at prim_reading list key) (newest_at prim_reading disk key)

-- the pages of a lookup in a view that has the key in no list in memory
pub view-disk : (key : ℕ) (active : List PrimRow) (frozen : Option (List PrimRow)) (comps : List PrimComp) (disk : List (List PrimRow)) (roots : List ℕ)
    → None ≡ in_memory active frozen key → lookup_pages key comps disk roots ≡ view_pages key active frozen comps disk roots
view-disk key active frozen comps disk roots none =
    ap (λ o. if is_some o then [] else lookup_pages key comps disk roots) none
