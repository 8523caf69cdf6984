use Rattle.std.proofs.Common.{◌≡◌, ℕ, sym, ◌∙◌, arith}
use Rattle.std.proofs.Math.Bool.{or-false}
use Rattle.bloom_bits.specs.Filter.{is_set, is_probe, bit_count}
use Rattle.bloom_bits.specs.Hash.{probe}
use Rattle.bloom_bits.proofs.Bits.{probe_from_hashes, is_probe_more}
use Rattle.bloom_bits.proofs.filter.add_key.Goals as goal

pub loop-number-init : goal.loop-number-init
unfolding is_probe
loop-number-init c = λ b. sym (or-false (is_set c.args.bytes.now b))

pub loop-number-preserved : goal.loop-number-preserved
loop-number-preserved c =
    let probes = c.of_key-probes in
    let bits : ℕ = bit_count c.args.bytes.now in
    let place : c.at.result ≡ probe c.args.key bits c.loop-number.number =
    probe_from_hashes c.args.key bits c.loop-number.number probes.result.first probes.result.step _ c.at.result probes.ensures.first probes.ensures.step (omega arith) c.at.ensures in
    λ b. c.set_bit.ensures b ∙ is_probe_more (is_set c.loop-number.bytes b) (is_set c.args.bytes.now b) c.args.key bits c.loop-number.number b c.at.result (c.loop-number.invariant b) place
