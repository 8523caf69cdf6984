use Rattle.std.proofs.Common.{◌≡◌, ℕ, List, subst, take, drop, arith, slice_index}
use Rattle.std.specs.Bool.{OnTrue}
use Rattle.std.proofs.lemmas.List.{take_all, length-drop}
use Rattle.superblock.proofs.Sixteen.{both-yes}
use Rattle.superblock.proofs.reading.is_spelled.Goals as goal

pub returns-then-bytes-eq-OPEN-clause-yes : goal.returns-then-bytes-eq-OPEN-clause-yes
returns-then-bytes-eq-OPEN-clause-yes c =
    subst (λ (zs : List ℕ). OnTrue c.eq.result ((slice_index c.args.bytes.now 0 ≡ 165) × (drop 1 c.args.bytes.now ≡ zs))) c.superblock_bytes.ensures
    (both-yes c.eq.result (slice_index c.args.bytes.now 0 ≡ 165) c.if-bytes-eq-OPEN.true (take 15 (drop 1 c.args.bytes.now)) c.superblock_bytes.result (drop 1 c.args.bytes.now) c.eq.ensures (take_all 15 (drop 1 c.args.bytes.now) (omega (arith, length-drop 1 c.args.bytes.now, c.type_inv.bytes))))
