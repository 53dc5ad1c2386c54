use Rattle.std.proofs.Common.{◌≡◌, ◌∙◌, ℕ, List, [], false, inl, inr, refl, sym}
use Rattle.std.specs.Prelude.{bytes_eq, codes}
use Rattle.std.proofs.KnownBytes.{Appends-nil}
use Rattle.std.proofs.lemmas.Bool.{cases_Bool}
use Rattle.std.proofs.lemmas.Slice.Eq.{bytes_eq-Decides}
use Rattle.ivl_ports.proofs.ports.PortsAnswersCommands.answer_command.Goals as goal

other : (name word : List ℕ) → (name ≡ word → ⊥) → bytes_eq name word ≡ false
other name word differs = elim (cases_Bool (bytes_eq name word)) [
  | inl same ↦ absurd (differs ((bytes_eq-Decides name word).0 same))
  | inr fails ↦ fails
]

pub returns-in_default : goal.returns-in_default
returns-in_default g c =
    let take = other c.args.name.now (codes "take") c.in_default.not-take in
    let give = other c.args.name.now (codes "give") c.in_default.not-give in
    let free = other c.args.name.now (codes "free") c.in_default.not-free in
    let help = other c.args.name.now (codes "help") c.in_default.not-help in
    let comment = sym c.is_comment.ensures ∙ c.if-is_comment.true in
    ([], (rw (take, give, free, help, comment) (refl, refl), λ h. h), Appends-nil _)
