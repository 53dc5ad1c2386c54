use Rattle.std.proofs.Common.{◌∙◌, arith, refl}
use Rattle.ivl_network.proofs.network.Network.new.Goals as goal

pub invariant_of-result : goal.invariant_of-result
invariant_of-result g c =
    rw (c.new-2.ensures ∙ c.new.ensures.items, c.new-3.ensures.items, c.new-6.ensures.items, c.new-9.ensures.items, c.new-10.ensures.items) (
      rw c.new-5.ensures.empty (record {
        different = (λ k d lt. absurd (omega (arith, lt)));
        present = (λ k d lt. absurd (omega (arith, lt)));
        settled = record { one_each = refl; fixed = (λ k d lt m. absurd (omega (arith, lt))) };
      }),
      record {
        in_trail = (λ k lt. absurd (omega (arith, lt)));
        in_order = (λ j k le lt. absurd (omega (arith, lt)));
        present = (λ k m lt from to. absurd (omega (arith, lt)));
      },
      c.new-4.ensures,
      c.new-5.ensures.queue,
      record { one_each = refl; fixed = (λ k d lt m. absurd (omega (arith, lt))) },
    )
