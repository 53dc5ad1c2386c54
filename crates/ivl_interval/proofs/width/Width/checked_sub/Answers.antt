use Rattle.std.proofs.Common.{◌≡◌, ◌↔◌, ◌-ℤ◌, IsSome, IfSome, subst}
use Rattle.ivl_laws.specs.Sets.{IsBetween}
use Rattle.ivl_interval.proofs.Numbers.{none_of_numbers, to_z-of_numbers}
use Rattle.ivl_interval.proofs.width.Width.checked_sub.Goals as goal

pub returns-in_err-checked_sub-clause-known : goal.returns-in_err-checked_sub-clause-known
returns-in_err-checked_sub-clause-known g c =
    rw c.from_residual.ensures (none_of_numbers (◌-ℤ◌) _ _ _ _ c.number.ensures c.number-2.ensures (record { sfits = c.number.type_inv }) (record { sfits = c.number-2.type_inv })
    _ g.met.Self.Width.range c.in_err-checked_sub.ensures)

pub returns : goal.returns
returns g c =
    let e = to_z-of_numbers (◌-ℤ◌) _ _ _ _ c.number.ensures c.number-2.ensures (record { sfits = c.number.type_inv }) (record { sfits = c.number-2.type_inv })
    c.in_ok-checked_sub.field-0 c.in_ok-checked_sub.ensures.0 c.in_ok-checked_sub.ensures.1 in
    record {
      known = subst (λ z. IsSome c.from_number.result ↔ IsBetween g.Self.Width.whole z) e c.from_number.ensures.known;
      same_number = subst (λ z. IfSome c.from_number.result (λ x. g.Self.Width.value x ≡ z)) e c.from_number.ensures.same_number;
    }
