-- A run of commands, one command longer.
use Rattle.std.proofs.Common.{◌≡◌, ◌∙◌, ℕ, ◌+◌, ◌<◌, ℤ, List, [], ◌∷◌, ◌++◌, length, map, take, get_or, refl, sym, ap, subst}
use Rattle.std.proofs.lemmas.List.{map_more, map-append}
use Rattle.ivl_calculator.specs.Actions.{Action, Answer}
use Rattle.ivl_calculator.specs.Step.{MayStep, Run}

Run-more : (whole : ℤ × ℤ) (old mid new : List (List (ℤ × ℤ))) (actions : List Action) (answers : List Answer) (action : Action) (answer : Answer)
    → Run whole old actions answers mid → MayStep whole mid action answer new → Run whole old (actions ++ action ∷ []) (answers ++ answer ∷ []) new
Run-more whole old mid new [] [] action answer run step = (new, subst (λ (s : List (List (ℤ × ℤ))). MayStep whole s action answer new) run step, refl)
Run-more whole old mid new [] (b ∷ answers) action answer run step = absurd run
Run-more whole old mid new (a ∷ actions) [] action answer run step = absurd run
Run-more whole old mid new (a ∷ actions) (b ∷ answers) action answer run step =
    (run.0, run.1, Run-more whole run.0 mid new actions answers action answer run.2 step)

pub one_more : {C R : Type 0} (whole : ℤ × ℤ) (action_of : C → Action) (answer_of : R → Answer) (old mid new : List (List (ℤ × ℤ))) (commands : List C) (k : ℕ) (command : C) (replies more : List R) (reply : R)
    → k < length commands → command ≡ get_or commands k command → more ≡ replies ++ reply ∷ []
    → Run whole old (map action_of (take k commands)) (map answer_of replies) mid
    → MayStep whole mid (action_of command) (answer_of reply) new
    → Run whole old (map action_of (take (k + 1) commands)) (map answer_of more) new
one_more whole action_of answer_of old mid new commands k command replies more reply within is pushed run step =
    let actions = map_more action_of commands k command within ∙ ap (λ x. map action_of (take k commands) ++ action_of x ∷ []) (sym is) in
    let answers = ap (map answer_of) pushed ∙ map-append answer_of replies (reply ∷ []) in
    rw (actions, answers) (Run-more whole old mid new (map action_of (take k commands)) (map answer_of replies) (action_of command) (answer_of reply) run step)

-- a step of what a command stands for, where the command is another's copy
pub MayStep-of : {C : Type 0} (action_of : C → Action) (whole : ℤ × ℤ) (old new : List (List (ℤ × ℤ))) (answer : Answer) (x y : C) → x ≡ y
    → MayStep whole old (action_of y) answer new → MayStep whole old (action_of x) answer new
MayStep-of action_of whole old new answer x y e h = subst (λ z. MayStep whole old (action_of z) answer new) (sym e) h
