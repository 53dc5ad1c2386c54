use Rattle.std.proofs.Common.{rules, ◌≡◌, ap}
use Rattle.std.specs.Int.{w32, from_be_bytes}
use Rattle.std.specs.Net.Addr.{ipv4_bits}
use Rattle.ivl_interval_pins.proofs.addresses.numbers_of_addresses.Goals as goal

pub returns-clause-least : goal.returns-clause-least
unfolding ipv4_bits
returns-clause-least c = let bits : from_be_bytes w32 c.new.result.octets ≡ 0 = ap (from_be_bytes w32) c.new.ensures in rw (c.number_of_address.ensures.value, bits) (search rules)

pub returns-clause-local : goal.returns-clause-local
unfolding ipv4_bits
returns-clause-local c =
    let bits : from_be_bytes w32 c.new-2.result.octets ≡ 2130706433 = ap (from_be_bytes w32) c.new-2.ensures in rw (c.number_of_address-2.ensures.value, bits) (search rules)

pub returns-clause-greatest : goal.returns-clause-greatest
unfolding ipv4_bits
returns-clause-greatest c =
    let bits : from_be_bytes w32 c.new-3.result.octets ≡ 4294967295 = ap (from_be_bytes w32) c.new-3.ensures in rw (c.number_of_address-3.ensures.value, bits) (search rules)
