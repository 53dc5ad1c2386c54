-- The text of what a check finds.
use Rattle.std.proofs.Common.{◌≡◌, ◌≢◌, ◌++◌, ℤ, List, [], ◌∷◌, Ok, refl}
use Rattle.std.specs.Prelude.{codes}
use Rattle.ivl_lines.specs.Lines.{with_newline}
use Rattle.ivl_lines.specs.Sets.{pairs_text}
use Rattle.ivl_ranges.specs.declared.reply.Reply.TheVariants.{SafeFor}
use Rattle.ivl_ranges.specs.Printed.{reply_line}

-- some index is safe
pub told_safe_for : (L : List (ℤ × ℤ)) → L ≢ [] → codes "safe for i in " ++ (pairs_text L ++ with_newline (codes " alone")) ≡ reply_line (Ok (SafeFor L))
told_safe_for [] some = absurd (some refl)
told_safe_for (p ∷ L) some = refl
