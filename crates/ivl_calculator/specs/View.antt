-- What the code's commands and replies stand for, by the numbers of bounds and of sizes.
--     number_pairs number list      the numbers of the bounds of some pairs
--     action_of number command      the action of a command, by the numbers of its bounds
--     answer_of number size reply      the answer of a reply, by the numbers of bounds and of sizes
use Rattle.std.specs.Prelude.{ℕ, ℤ, List, map, option_map}
use Rattle.ivl_calculator.specs.Actions.{pairs, union, intersection, difference, symmetric, complement, at_least, at_most, above, below, plus, minus, times, plus_value, minus_value, times_value, has, size, count, low, high, same, subset, meets, show, Action, make, ask, Answer, done, cut, flag, sized, counted, value, runs, refused}
use Rattle.ivl_calculator.specs.declared.command.Command.{Command}
use Rattle.ivl_calculator.specs.declared.command.Command.TheVariants as commands
use Rattle.ivl_calculator.specs.declared.reply.Reply.{Reply}
use Rattle.ivl_calculator.specs.declared.reply.Reply.TheVariants as replies

abbrev pub number_pairs : {B : Type 0} → (B → ℤ) → List (B × B) → List (ℤ × ℤ)
number_pairs number list = map (λ p. (number p.0, number p.1)) list

abbrev pub action_of : {B : Type 0} → (B → ℤ) → Command B → Action
action_of number (commands.Set r list) = make r (pairs (number_pairs number list.items))
action_of number (commands.Union r a b) = make r (union a b)
action_of number (commands.Inter r a b) = make r (intersection a b)
action_of number (commands.Diff r a b) = make r (difference a b)
action_of number (commands.Sym r a b) = make r (symmetric a b)
action_of number (commands.Comp r a) = make r (complement a)
action_of number (commands.Left r a v) = make r (at_least a (number v))
action_of number (commands.Right r a v) = make r (at_most a (number v))
action_of number (commands.StrictLeft r a v) = make r (above a (number v))
action_of number (commands.StrictRight r a v) = make r (below a (number v))
action_of number (commands.Plus r a b) = make r (plus a b)
action_of number (commands.Minus r a b) = make r (minus a b)
action_of number (commands.Times r a b) = make r (times a b)
action_of number (commands.PlusValue r a v) = make r (plus_value a (number v))
action_of number (commands.MinusValue r a v) = make r (minus_value a (number v))
action_of number (commands.TimesValue r a v) = make r (times_value a (number v))
action_of number (commands.Has a v) = ask (has a (number v))
action_of number (commands.Size a) = ask (size a)
action_of number (commands.Count a) = ask (count a)
action_of number (commands.Low a) = ask (low a)
action_of number (commands.High a) = ask (high a)
action_of number (commands.Same a b) = ask (same a b)
action_of number (commands.Sub a b) = ask (subset a b)
action_of number (commands.Meets a b) = ask (meets a b)
action_of number (commands.Show a) = ask (show a)

abbrev pub answer_of : {B Output : Type 0} → (B → ℤ) → (Output → ℕ) → Reply B Output → Answer
answer_of number size_of replies.Done = done
answer_of number size_of (replies.Cut b) = cut b
answer_of number size_of (replies.Flag b) = flag b
answer_of number size_of (replies.Size n) = sized (size_of n)
answer_of number size_of (replies.Count n) = counted n
answer_of number size_of (replies.Value end) = value (option_map number end)
answer_of number size_of (replies.Runs list) = runs list.items
answer_of number size_of (replies.Refused why) = refused why
