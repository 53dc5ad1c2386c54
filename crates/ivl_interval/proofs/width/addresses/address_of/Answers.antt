use Rattle.std.proofs.Common.{rules, ◌≡◌, ◌∙◌, ap}
use Rattle.std.proofs.lemmas.Nat.{from_be_bytes-to_be_bytes_4}
use Rattle.std.specs.Int.{w32, from_be_bytes}
use Rattle.std.specs.Net.Addr.{ipv4_bits, IsIpv4OfBits}
use Rattle.ivl_interval.proofs.width.addresses.address_of.Goals as goal

pub returns-in-Ok-clause-same_number : goal.returns-in-Ok-clause-same_number
unfolding ipv4_bits IsIpv4OfBits
returns-in-Ok-clause-same_number c =
    let bits : from_be_bytes w32 c.from_bits.result.octets ≡ c.in-Ok.bits = ap (from_be_bytes w32) c.from_bits.ensures ∙ from_be_bytes-to_be_bytes_4 c.in-Ok.bits (search rules) in
    rw bits (search rules)
