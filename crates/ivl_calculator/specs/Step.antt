-- What the calculator does, as a relation over plain sets of numbers. The state is the list of the registers, each
-- the list of the runs of its set; `whole` is the range.
--     Made whole s making      the members of what a register is given, by the members of the registers that are read
--     MustFit s making      the numbers that have to lie in the range: products, and results with a value
--     IsReportOf whole s making answer      `done`; for `plus` and `minus` a `cut`, true if some sum or difference
--         lies outside the range
--     IsAnswerTo s question answer      the answer to a question, by members
--     IsRefusedFor whole s action why      why an action is refused: a register, the range of a pair, a result that
--         does not fit, in this order
--     IsAllowed whole s action      none of these reasons is there
--     MayStep whole old action answer new      this answer may be given, and the state go on from old to new
--     Run whole old actions answers new      the same for a list of actions, one after another
--     IsLeastOf S z, IsGreatestOf S z      z is the least member, the greatest
--     IsEndOf P S m      the end that P names, and none if S is empty
use Rattle.std.specs.Prelude.{◌≡◌, ℕ, ℤ, ◌≤ℤ◌, ◌<◌, ◌⊎◌, ◌↔◌, Bool, true, false, IsTrue, List, [], ◌∷◌, length, All, Option, None, Some, slice_set}
use Rattle.ivl_laws.specs.Sets.{IsBetween, IsInRange, Only, HasNone, HasSome, IsSubset, SameMembers, Union, Intersection, Without, SymmetricDifference, Complement, AtLeast, AtMost, Above, Below, Sums, Differences, ExactProducts, Products}
use Rattle.ivl_laws.specs.Runs.{Covers, IsRunsOf}
use Rattle.ivl_laws.specs.Counts.{IsCountOf}
use Rattle.ivl_laws.specs.Families.{set_at}
use Rattle.ivl_within.specs.Within.{Clipped}
use Rattle.ivl_calculator.specs.declared.reply.Refusal.{Refusal}
use Rattle.ivl_calculator.specs.declared.reply.Refusal.TheVariants.{Register, Range, Fit, Memory}
use Rattle.ivl_calculator.specs.Actions.{Making, pairs, union, intersection, difference, symmetric, complement, at_least, at_most, above, below, plus, minus, times, plus_value, minus_value, times_value, Question, has, size, count, low, high, same, subset, meets, show, Action, make, ask, Answer, done, cut, flag, sized, counted, value, runs, refused}

-- ---- what is made

abbrev pub Made : ℤ × ℤ → List (List (ℤ × ℤ)) → Making → ℤ → Type 0
Made whole s (pairs list) = Covers list
Made whole s (union a b) = Union (set_at s a) (set_at s b)
Made whole s (intersection a b) = Intersection (set_at s a) (set_at s b)
Made whole s (difference a b) = Without (set_at s a) (set_at s b)
Made whole s (symmetric a b) = SymmetricDifference (set_at s a) (set_at s b)
Made whole s (complement a) = Complement whole (set_at s a)
Made whole s (at_least a v) = AtLeast v (set_at s a)
Made whole s (at_most a v) = AtMost v (set_at s a)
Made whole s (above a v) = Above v (set_at s a)
Made whole s (below a v) = Below v (set_at s a)
Made whole s (plus a b) = Clipped whole (Sums (set_at s a) (set_at s b))
Made whole s (minus a b) = Clipped whole (Differences (set_at s a) (set_at s b))
Made whole s (times a b) = Products (set_at s a) (set_at s b)
Made whole s (plus_value a v) = Sums (set_at s a) (Only v)
Made whole s (minus_value a v) = Differences (set_at s a) (Only v)
Made whole s (times_value a v) = Products (set_at s a) (Only v)

abbrev pub MustFit : List (List (ℤ × ℤ)) → Making → ℤ → Type 0
MustFit s (times a b) = ExactProducts (set_at s a) (set_at s b)
MustFit s (plus_value a v) = Sums (set_at s a) (Only v)
MustFit s (minus_value a v) = Differences (set_at s a) (Only v)
MustFit s (times_value a v) = ExactProducts (set_at s a) (Only v)
MustFit s _ = λ z. ⊥

-- whether some member of S was outside the range
abbrev pub TellsCut : ℤ × ℤ → (ℤ → Type 0) → Answer → Type 0
TellsCut whole S answer = (b : Bool) × (answer ≡ cut b) × (IsTrue b ↔ HasSome (Without S (IsBetween whole)))

abbrev pub IsReportOf : ℤ × ℤ → List (List (ℤ × ℤ)) → Making → Answer → Type 0
IsReportOf whole s (plus a b) answer = TellsCut whole (Sums (set_at s a) (set_at s b)) answer
IsReportOf whole s (minus a b) answer = TellsCut whole (Differences (set_at s a) (set_at s b)) answer
IsReportOf whole s _ answer = answer ≡ done

-- register r of the new state has the runs of what is made from the old one
abbrev pub IsPut : ℤ × ℤ → List (List (ℤ × ℤ)) → ℕ → Making → List (List (ℤ × ℤ)) → Type 0
IsPut whole old r making new = (list : List (ℤ × ℤ)) × IsRunsOf list (Made whole old making) × (new ≡ slice_set old r list)

-- ---- what is asked

abbrev pub IsLeastOf : (ℤ → Type 0) → ℤ → Type 0
IsLeastOf S z = S z × ((x : ℤ) → S x → z ≤ℤ x)

abbrev pub IsGreatestOf : (ℤ → Type 0) → ℤ → Type 0
IsGreatestOf S z = S z × ((x : ℤ) → S x → x ≤ℤ z)

abbrev pub IsEndOf : ((ℤ → Type 0) → ℤ → Type 0) → (ℤ → Type 0) → Option ℤ → Type 0
IsEndOf P S None = HasNone S
IsEndOf P S (Some z) = P S z

-- the answer is a flag that says whether P holds
abbrev pub Tells : Answer → Type 0 → Type 0
Tells answer P = (b : Bool) × (answer ≡ flag b) × (IsTrue b ↔ P)

abbrev pub IsAnswerTo : List (List (ℤ × ℤ)) → Question → Answer → Type 0
IsAnswerTo s (has a v) answer = Tells answer (set_at s a v)
IsAnswerTo s (size a) answer = (n : ℕ) × (answer ≡ sized n) × IsCountOf n (set_at s a)
IsAnswerTo s (count a) answer = (list : List (ℤ × ℤ)) × (answer ≡ counted (length list)) × IsRunsOf list (set_at s a)
IsAnswerTo s (low a) answer = (end : Option ℤ) × (answer ≡ value end) × IsEndOf IsLeastOf (set_at s a) end
IsAnswerTo s (high a) answer = (end : Option ℤ) × (answer ≡ value end) × IsEndOf IsGreatestOf (set_at s a) end
IsAnswerTo s (same a b) answer = Tells answer (SameMembers (set_at s a) (set_at s b))
IsAnswerTo s (subset a b) answer = Tells answer (IsSubset (set_at s a) (set_at s b))
IsAnswerTo s (meets a b) answer = Tells answer (HasSome (Intersection (set_at s a) (set_at s b)))
IsAnswerTo s (show a) answer = (list : List (ℤ × ℤ)) × (answer ≡ runs list) × IsRunsOf list (set_at s a)

-- ---- what is refused

-- the registers that what is made is read from
abbrev pub sources_of : Making → List ℕ
sources_of (pairs list) = []
sources_of (union a b) = a ∷ b ∷ []
sources_of (intersection a b) = a ∷ b ∷ []
sources_of (difference a b) = a ∷ b ∷ []
sources_of (symmetric a b) = a ∷ b ∷ []
sources_of (complement a) = a ∷ []
sources_of (at_least a v) = a ∷ []
sources_of (at_most a v) = a ∷ []
sources_of (above a v) = a ∷ []
sources_of (below a v) = a ∷ []
sources_of (plus a b) = a ∷ b ∷ []
sources_of (minus a b) = a ∷ b ∷ []
sources_of (times a b) = a ∷ b ∷ []
sources_of (plus_value a v) = a ∷ []
sources_of (minus_value a v) = a ∷ []
sources_of (times_value a v) = a ∷ []

-- the registers that a question names
abbrev pub subjects_of : Question → List ℕ
subjects_of (has a v) = a ∷ []
subjects_of (size a) = a ∷ []
subjects_of (count a) = a ∷ []
subjects_of (low a) = a ∷ []
subjects_of (high a) = a ∷ []
subjects_of (same a b) = a ∷ b ∷ []
subjects_of (subset a b) = a ∷ b ∷ []
subjects_of (meets a b) = a ∷ b ∷ []
subjects_of (show a) = a ∷ []

abbrev pub registers_of : Action → List ℕ
registers_of (make r making) = r ∷ sources_of making
registers_of (ask question) = subjects_of question

-- there is a register for each index
abbrev pub NamesRegisters : List (List (ℤ × ℤ)) → Action → Type 0
NamesRegisters s action = All (λ r. r < length s) (registers_of action)

-- each pair that is given is in range; a crossed one may be
abbrev pub GivesPairsIn : ℤ × ℤ → Action → Type 0
GivesPairsIn whole (make r (pairs list)) = All (IsInRange whole) list
GivesPairsIn whole _ = Unit {0}

abbrev pub Fits : ℤ × ℤ → List (List (ℤ × ℤ)) → Action → Type 0
Fits whole s (make r making) = IsSubset (MustFit s making) (IsBetween whole)
Fits whole s (ask question) = Unit {0}

abbrev pub IsRefusedFor : ℤ × ℤ → List (List (ℤ × ℤ)) → Action → Refusal → Type 0
IsRefusedFor whole s action Register = ¬ (NamesRegisters s action)
IsRefusedFor whole s action Range = NamesRegisters s action × (¬ (GivesPairsIn whole action))
IsRefusedFor whole s action Fit = NamesRegisters s action × GivesPairsIn whole action × (¬ (Fits whole s action))
IsRefusedFor whole s action Memory = ⊥

abbrev pub IsAllowed : ℤ × ℤ → List (List (ℤ × ℤ)) → Action → Type 0
IsAllowed whole s action = NamesRegisters s action × GivesPairsIn whole action × Fits whole s action

-- may ask for memory
abbrev pub takes_memory : Action → Bool
takes_memory (make r making) = true
takes_memory (ask (show a)) = true
takes_memory (ask _) = false

-- ---- steps

abbrev pub IsEffectOf : ℤ × ℤ → List (List (ℤ × ℤ)) → Action → Answer → List (List (ℤ × ℤ)) → Type 0
IsEffectOf whole old (make r making) answer new = IsReportOf whole old making answer × IsPut whole old r making new
IsEffectOf whole old (ask question) answer new = IsAnswerTo old question answer × (new ≡ old)

-- the action is refused, and the state stays
abbrev pub IsRefusal : ℤ × ℤ → List (List (ℤ × ℤ)) → Action → Answer → List (List (ℤ × ℤ)) → Type 0
IsRefusal whole old action answer new = (why : Refusal) × (answer ≡ refused why) × IsRefusedFor whole old action why × (new ≡ old)

-- an allowed action that takes memory found none, and the state stays
pub record LacksMemory (whole : ℤ × ℤ) (old : List (List (ℤ × ℤ))) (action : Action) (answer : Answer) (new : List (List (ℤ × ℤ))) : Type 0 where
  pub lacking : answer ≡ refused Memory
  pub unchanged : new ≡ old
  pub asks : takes_memory action ≡ true
  pub allowed : IsAllowed whole old action

abbrev pub MayStep : ℤ × ℤ → List (List (ℤ × ℤ)) → Action → Answer → List (List (ℤ × ℤ)) → Type 0
MayStep whole old action answer new =
    IsRefusal whole old action answer new
    ⊎ ((IsAllowed whole old action × IsEffectOf whole old action answer new)
    ⊎ LacksMemory whole old action answer new)

abbrev pub Run : ℤ × ℤ → List (List (ℤ × ℤ)) → List Action → List Answer → List (List (ℤ × ℤ)) → Type 0
Run whole old [] [] new = new ≡ old
Run whole old [] (answer ∷ answers) new = ⊥
Run whole old (action ∷ actions) [] new = ⊥
Run whole old (action ∷ actions) (answer ∷ answers) new =
    (next : List (List (ℤ × ℤ))) × MayStep whole old action answer next × Run whole next actions answers new
