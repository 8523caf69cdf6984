use Rattle.std.proofs.Common.{◌≡◌, ◌-◌, ◌++◌, [], ◌∷◌, Some, map, take, drop, get_or, arith, refl, sym, ◌∙◌, ap, inr, append_assoc}
use Rattle.std.proofs.lemmas.List.{map-append, append-nil}
use Rattle.page_codec.specs.Page.{rows_on}
use Rattle.page_codec.specs.Laws.Writing.{length-rows_on}
use Rattle.btree_image.proofs.Gathered.{rows-more, none-yet}
use Rattle.btree_image.proofs.gather.push_rows.Goals as goal

pub loop-i-init : goal.loop-i-init
loop-i-init g c = record {
  from = omega arith;
  most = omega arith;
  added = [];
  out = sym (append-nil c.args.out.now.items);
  rows = sym (ap (map g.T.TreeRow.layout.of_bytes) (none-yet c.args.from (rows_on c.args.hand.now.buf)));
}

pub returns-in-None-clause-fault : goal.returns-in-None-clause-fault
returns-in-None-clause-fault g c =
    let all = length-rows_on c.args.hand.now.buf in
    let test = c.loop-i-test.true in
    let inside = c.requires.inside in
    inr (refl, λ readable. readable c.loop-i.i (omega arith) (ap g.T.TreeRow.layout.of_bytes (sym c.row.ensures.row) ∙ (sym c.read.ensures ∙ c.in-None.is)))

pub loop-i-preserved : goal.loop-i-preserved
loop-i-preserved g c =
    let l = g.T.TreeRow.layout in
    let inv = c.loop-i.invariant in
    let test = c.loop-i-test.true in
    let inside = c.requires.inside in
    let from = inv.from in
    let all = length-rows_on c.args.hand.now.buf in
    let rows = rows_on c.args.hand.now.buf in
    let row = get_or rows c.loop-i.i [] in
    let read : Some c.in-Some.found ≡ l.of_bytes row = sym c.in-Some.is ∙ (c.read.ensures ∙ ap l.of_bytes c.row.ensures.row) in
    record {
      from = omega arith;
      most = omega arith;
      added = inv.added ++ c.in-Some.found ∷ [];
      out = c.in_ok-push-in-Some.ensures.items ∙ (ap (λ xs. xs ++ c.in-Some.found ∷ []) inv.out ∙ append_assoc c.args.out.now.items inv.added (c.in-Some.found ∷ []));
      rows = map-append (λ x. Some x) inv.added (c.in-Some.found ∷ [])
          ∙ (ap (λ xs. xs ++ Some c.in-Some.found ∷ []) inv.rows
          ∙ (ap (λ x. map l.of_bytes (take (c.loop-i.i - c.args.from) (drop c.args.from rows)) ++ x ∷ []) read
          ∙ (sym (map-append l.of_bytes (take (c.loop-i.i - c.args.from) (drop c.args.from rows)) (row ∷ []))
          ∙ ap (map l.of_bytes) (sym (rows-more c.args.from c.loop-i.i rows (omega arith) (omega arith))))));
    }
