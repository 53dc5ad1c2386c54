use Rattle.std.proofs.Common.{rules, ◌∙◌, ap, sym, refl}
use Rattle.std.proofs.lemmas.Nat.{be_bytes_4}
use Rattle.std.specs.Int.{w32, from_be_bytes}
use Rattle.std.specs.Net.Addr.{ipv4_bits}
use lib.Pointwise.{bytes_decides}
use Rattle.ivl_interval_pins.proofs.addresses.address_is_same.Goals as goal

pub returns : goal.returns
unfolding ipv4_bits
returns c =
    let same = bytes_decides c.args.a.octets c.args.b.octets in (
      λ t. ap (from_be_bytes w32) (same.0 (sym c.eq.ensures ∙ t)),
      λ e. c.eq.ensures ∙ same.1 (
          sym (be_bytes_4 c.args.a.octets (from_be_bytes w32 c.args.a.octets) (search rules) (search rules) refl)
          ∙ be_bytes_4 c.args.b.octets (from_be_bytes w32 c.args.a.octets) (search rules) (search rules) e
          ),
    )
