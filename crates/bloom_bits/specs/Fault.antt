-- What a fault prints.
use Rattle.std.specs.Prelude.{ℕ, List, codes}
use Rattle.bloom_bits.specs.declared.filter.BloomFault.{BloomFault}
use Rattle.bloom_bits.specs.declared.filter.BloomFault.TheVariants.{BadBloom, OutOfMemory}

abbrev pub fault_text : BloomFault → List ℕ
fault_text BadBloom = codes "not the bits of a filter"
fault_text OutOfMemory = codes "out of memory"
