use Rattle.std.proofs.Common.{◌≡◌, ◌++◌, rules, sym, ◌∙◌, ap, subst}
use Rattle.std.proofs.lemmas.Fn.{dedup_same}
use Rattle.order_merge.specs.Ascending.{Ascends}
use Rattle.primary_ix.specs.Rows.{prim_layout}
use Rattle.primary_ix.specs.Reading.{prim_reading}
use Rattle.primary_ix.specs.Scans.{all_keys}
use Rattle.btree_image.specs.Given.{rows_met}
use Rattle.primary_ix.proofs.Whole.{all_keys-ranges, all_met, behind, kept-ascends, kept-stays}
use Rattle.primary_ix.proofs.living.scan_whole.Goals as goal

pub returns-in_err-scan-clause-rows : goal.returns-in_err-scan-clause-rows
returns-in_err-scan-clause-rows g c list shown = let told = c.in_err-scan.ensures.rows list shown all_keys-ranges in search rules

pub returns-clause-ascends : goal.returns-clause-ascends
returns-clause-ascends g c =
    subst (Ascends prim_reading) (sym (dedup_same _ behind _ (λ x y b f' x' y' k. search rules) _ _ c.dedup_by.ensures.filtered)) (kept-ascends c.scan.new.out.items)

pub returns-clause-rows : goal.returns-clause-rows
returns-clause-rows g c list shown =
    let scanned : c.scan.new.out.items ≡ list =
    c.in_ok-scan.ensures.rows list shown all_keys-ranges ∙ ap (λ t. t ++ rows_met prim_layout list all_keys) c.new-rows.ensures.items ∙ all_met list shown.is.stored in
    dedup_same _ behind _ (λ x y b f' x' y' k. search rules) _ _ c.dedup_by.ensures.filtered ∙ kept-stays c.scan.new.out.items (subst (Ascends prim_reading) (sym scanned) shown.is.ascends) ∙ scanned
