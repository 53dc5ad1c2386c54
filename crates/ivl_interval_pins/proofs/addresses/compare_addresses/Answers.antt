use Rattle.std.proofs.Common.{rules, ◌∙◌}
use Rattle.std.specs.Net.Addr.{ipv4_bits}
use Rattle.ivl_interval_pins.proofs.Bytes.{order_of_bytes}
use Rattle.ivl_interval_pins.proofs.addresses.compare_addresses.Goals as goal

pub returns : goal.returns
unfolding ipv4_bits
returns c = c.cmp.ensures ∙ order_of_bytes c.args.a.octets c.args.b.octets (search rules) (search rules) (search rules) (search rules)
