use Rattle.std.proofs.Common.{◌≡◌, ℕ, ℤ, List, Option, refl, ap, sym, ◌∙◌, false}
use Rattle.std.specs.Prelude.{Some, None, codes, option_map, MatchOption, IsSomeAnd}
use Rattle.std.specs.Str.{bytes_eq}
use Rattle.std.proofs.lemmas.Bool.{false_from_ne_true}
use Rattle.std.proofs.lemmas.Slice.Eq.{bytes_eq-Decides}
use Rattle.ivl_calculator.specs.declared.command.Command.{Command}
use Rattle.ivl_calculator.specs.declared.command.Command.TheVariants as variants
use Rattle.ivl_calculator_lines.specs.Commands.{looked_up, commands, register_alone_of, two_registers_of, three_registers_of, register_and_number_of, two_registers_and_number_of}
use Rattle.ivl_calculator_lines.specs.View.{action_over_i64}
use Rattle.ivl_lines.specs.Words.{words_between}
use Rattle.ivl_calculator_lines.proofs.commands.command_by_name.Goals as goal

-- what a command does that is made of the parts of its words
made : {T : Type 0} (parts : Option T) (result : Option (Command ℤ)) (variant : T → Command ℤ) → MatchOption parts (result ≡ None) (λ x. IsSomeAnd result (λ k. k ≡ variant x)) →
    option_map action_over_i64 result ≡ option_map (λ x. action_over_i64 (variant x)) parts
made None result variant h = ap (λ (r : Option (Command ℤ)). option_map action_over_i64 r) h
made (Some x) None variant h = absurd h
made (Some x) (Some k) variant h = ap (λ (c : Command ℤ). Some (action_over_i64 c)) h

-- and is looked up under its name
named : {T : Type 0} (name key : List ℕ) (words : List (List ℕ)) (parts : List (List ℕ) → Option T) (result : Option (Command ℤ)) (variant : T → Command ℤ) → name ≡ key
    → MatchOption (parts words) (result ≡ None) (λ x. IsSomeAnd result (λ k. k ≡ variant x)) → option_map (λ x. action_over_i64 (variant x)) (parts words) ≡ looked_up commands key words
    → option_map action_over_i64 result ≡ looked_up commands name words
named name key words parts result variant is h looked = made (parts words) result variant h ∙ looked ∙ ap (λ (n : List ℕ). looked_up commands n words) (sym is)

-- a name that differs from a key is not found under it
unmatched : (name key : List ℕ) → (name ≡ key → ⊥) → bytes_eq name key ≡ false
unmatched name key differs = false_from_ne_true (bytes_eq name key) (λ e. differs ((bytes_eq-Decides name key).0 e))

pub returns-in-union : goal.returns-in-union
returns-in-union c = named _ (codes "union") (words_between c.args.words.now) three_registers_of _ (λ (x : ℕ × ℕ × ℕ). variants.Union x.0 x.1 x.2) c.in-union.is c.of_three_registers.ensures refl

pub returns-in-inter : goal.returns-in-inter
returns-in-inter c = named _ (codes "inter") (words_between c.args.words.now) three_registers_of _ (λ (x : ℕ × ℕ × ℕ). variants.Inter x.0 x.1 x.2) c.in-inter.is c.of_three_registers-in-inter.ensures refl

pub returns-in-diff : goal.returns-in-diff
returns-in-diff c = named _ (codes "diff") (words_between c.args.words.now) three_registers_of _ (λ (x : ℕ × ℕ × ℕ). variants.Diff x.0 x.1 x.2) c.in-diff.is c.of_three_registers-in-diff.ensures refl

pub returns-in-sym : goal.returns-in-sym
returns-in-sym c = named _ (codes "sym") (words_between c.args.words.now) three_registers_of _ (λ (x : ℕ × ℕ × ℕ). variants.Sym x.0 x.1 x.2) c.in-sym.is c.of_three_registers-in-sym.ensures refl

pub returns-in-comp : goal.returns-in-comp
returns-in-comp c = named _ (codes "comp") (words_between c.args.words.now) two_registers_of _ (λ (x : ℕ × ℕ). variants.Comp x.0 x.1) c.in-comp.is c.of_two_registers.ensures refl

pub returns-in-left : goal.returns-in-left
returns-in-left c = named _ (codes "left") (words_between c.args.words.now) two_registers_and_number_of _ (λ (x : ℕ × ℕ × ℤ). variants.Left x.0 x.1 x.2) c.in-left.is c.of_two_registers_and_number.ensures refl

pub returns-in-right : goal.returns-in-right
returns-in-right c = named _ (codes "right") (words_between c.args.words.now) two_registers_and_number_of _ (λ (x : ℕ × ℕ × ℤ). variants.Right x.0 x.1 x.2) c.in-right.is c.of_two_registers_and_number-in-right.ensures refl

pub returns-in-sleft : goal.returns-in-sleft
returns-in-sleft c = named _ (codes "sleft") (words_between c.args.words.now) two_registers_and_number_of _ (λ (x : ℕ × ℕ × ℤ). variants.StrictLeft x.0 x.1 x.2) c.in-sleft.is c.of_two_registers_and_number-in-sleft.ensures refl

pub returns-in-sright : goal.returns-in-sright
returns-in-sright c = named _ (codes "sright") (words_between c.args.words.now) two_registers_and_number_of _ (λ (x : ℕ × ℕ × ℤ). variants.StrictRight x.0 x.1 x.2) c.in-sright.is c.of_two_registers_and_number-in-sright.ensures refl

pub returns-in-plus : goal.returns-in-plus
returns-in-plus c = named _ (codes "plus") (words_between c.args.words.now) three_registers_of _ (λ (x : ℕ × ℕ × ℕ). variants.Plus x.0 x.1 x.2) c.in-plus.is c.of_three_registers-in-plus.ensures refl

pub returns-in-minus : goal.returns-in-minus
returns-in-minus c = named _ (codes "minus") (words_between c.args.words.now) three_registers_of _ (λ (x : ℕ × ℕ × ℕ). variants.Minus x.0 x.1 x.2) c.in-minus.is c.of_three_registers-in-minus.ensures refl

pub returns-in-times : goal.returns-in-times
returns-in-times c = named _ (codes "times") (words_between c.args.words.now) three_registers_of _ (λ (x : ℕ × ℕ × ℕ). variants.Times x.0 x.1 x.2) c.in-times.is c.of_three_registers-in-times.ensures refl

pub returns-in-plusv : goal.returns-in-plusv
returns-in-plusv c = named _ (codes "plusv") (words_between c.args.words.now) two_registers_and_number_of _ (λ (x : ℕ × ℕ × ℤ). variants.PlusValue x.0 x.1 x.2) c.in-plusv.is c.of_two_registers_and_number-in-plusv.ensures refl

pub returns-in-minusv : goal.returns-in-minusv
returns-in-minusv c = named _ (codes "minusv") (words_between c.args.words.now) two_registers_and_number_of _ (λ (x : ℕ × ℕ × ℤ). variants.MinusValue x.0 x.1 x.2) c.in-minusv.is c.of_two_registers_and_number-in-minusv.ensures refl

pub returns-in-timesv : goal.returns-in-timesv
returns-in-timesv c = named _ (codes "timesv") (words_between c.args.words.now) two_registers_and_number_of _ (λ (x : ℕ × ℕ × ℤ). variants.TimesValue x.0 x.1 x.2) c.in-timesv.is c.of_two_registers_and_number-in-timesv.ensures refl

pub returns-in-has : goal.returns-in-has
returns-in-has c = named _ (codes "has") (words_between c.args.words.now) register_and_number_of _ (λ (x : ℕ × ℤ). variants.Has x.0 x.1) c.in-has.is c.of_register_and_number.ensures refl

pub returns-in-size : goal.returns-in-size
returns-in-size c = named _ (codes "size") (words_between c.args.words.now) register_alone_of _ (λ (x : ℕ). variants.Size x) c.in-size.is c.of_register.ensures refl

pub returns-in-count : goal.returns-in-count
returns-in-count c = named _ (codes "count") (words_between c.args.words.now) register_alone_of _ (λ (x : ℕ). variants.Count x) c.in-count.is c.of_register-in-count.ensures refl

pub returns-in-low : goal.returns-in-low
returns-in-low c = named _ (codes "low") (words_between c.args.words.now) register_alone_of _ (λ (x : ℕ). variants.Low x) c.in-low.is c.of_register-in-low.ensures refl

pub returns-in-high : goal.returns-in-high
returns-in-high c = named _ (codes "high") (words_between c.args.words.now) register_alone_of _ (λ (x : ℕ). variants.High x) c.in-high.is c.of_register-in-high.ensures refl

pub returns-in-same : goal.returns-in-same
returns-in-same c = named _ (codes "same") (words_between c.args.words.now) two_registers_of _ (λ (x : ℕ × ℕ). variants.Same x.0 x.1) c.in-same.is c.of_two_registers-in-same.ensures refl

pub returns-in-sub : goal.returns-in-sub
returns-in-sub c = named _ (codes "sub") (words_between c.args.words.now) two_registers_of _ (λ (x : ℕ × ℕ). variants.Sub x.0 x.1) c.in-sub.is c.of_two_registers-in-sub.ensures refl

pub returns-in-meets : goal.returns-in-meets
returns-in-meets c = named _ (codes "meets") (words_between c.args.words.now) two_registers_of _ (λ (x : ℕ × ℕ). variants.Meets x.0 x.1) c.in-meets.is c.of_two_registers-in-meets.ensures refl

pub returns-in-show : goal.returns-in-show
returns-in-show c = named _ (codes "show") (words_between c.args.words.now) register_alone_of _ (λ (x : ℕ). variants.Show x) c.in-show.is c.of_register-in-show.ensures refl

pub returns-in_default : goal.returns-in_default
returns-in_default c =
    rw (
      unmatched _ (codes "union") c.in_default.not-union,
      unmatched _ (codes "inter") c.in_default.not-inter,
      unmatched _ (codes "diff") c.in_default.not-diff,
      unmatched _ (codes "sym") c.in_default.not-sym,
      unmatched _ (codes "comp") c.in_default.not-comp,
      unmatched _ (codes "left") c.in_default.not-left,
      unmatched _ (codes "right") c.in_default.not-right,
      unmatched _ (codes "sleft") c.in_default.not-sleft,
      unmatched _ (codes "sright") c.in_default.not-sright,
      unmatched _ (codes "plus") c.in_default.not-plus,
      unmatched _ (codes "minus") c.in_default.not-minus,
      unmatched _ (codes "times") c.in_default.not-times,
      unmatched _ (codes "plusv") c.in_default.not-plusv,
      unmatched _ (codes "minusv") c.in_default.not-minusv,
      unmatched _ (codes "timesv") c.in_default.not-timesv,
      unmatched _ (codes "has") c.in_default.not-has,
      unmatched _ (codes "size") c.in_default.not-size,
      unmatched _ (codes "count") c.in_default.not-count,
      unmatched _ (codes "low") c.in_default.not-low,
      unmatched _ (codes "high") c.in_default.not-high,
      unmatched _ (codes "same") c.in_default.not-same,
      unmatched _ (codes "sub") c.in_default.not-sub,
      unmatched _ (codes "meets") c.in_default.not-meets,
      unmatched _ (codes "show") c.in_default.not-show,
    ) refl
