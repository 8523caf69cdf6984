use Rattle.std.proofs.Common.{◌≡◌, ℕ, Bool, IsTrue, sym, ◌∙◌, ap, arith, below_more}
use Rattle.std.proofs.lemmas.Bool.{false≢true}
use Rattle.bloom_bits.specs.Filter.{is_set, bit_count}
use Rattle.bloom_bits.specs.Hash.{probe}
use Rattle.bloom_bits.proofs.Bits.{probe_from_hashes}
use Rattle.bloom_bits.proofs.filter.may_have.Goals as goal

pub returns-then-not-is_set : goal.returns-then-not-is_set
returns-then-not-is_set c =
    let probes = c.of_key-probes in
    let bits : ℕ = bit_count c.args.bytes.now in
    let test : ℕ → Bool = is_set c.args.bytes.now in
    let place : c.at.result ≡ probe c.args.key bits c.loop-j.j =
    probe_from_hashes c.args.key bits c.loop-j.j probes.result.first probes.result.step _ c.at.result probes.ensures.first probes.ensures.step (omega arith) c.at.ensures in
    (λ h. absurd (false≢true h), λ all. sym c.if-not-is_set.true ∙ c.is_set.ensures ∙ ap test place ∙ all c.loop-j.j c.loop-j-test.true)

pub loop-j-preserved : goal.loop-j-preserved
loop-j-preserved c =
    let probes = c.of_key-probes in
    let bits : ℕ = bit_count c.args.bytes.now in
    let test : ℕ → Bool = is_set c.args.bytes.now in
    let place : c.at.result ≡ probe c.args.key bits c.loop-j.j =
    probe_from_hashes c.args.key bits c.loop-j.j probes.result.first probes.result.step _ c.at.result probes.ensures.first probes.ensures.step (omega arith) c.at.ensures in
    let P : ℕ → Type 0 = λ k. IsTrue (test (probe c.args.key bits k)) in
    below_more P c.loop-j.j c.loop-j.invariant (sym (ap test place) ∙ sym c.is_set.ensures ∙ c.if-not-is_set.false)
