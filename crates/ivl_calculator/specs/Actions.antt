-- Commands and replies as plain data over whole numbers. Nothing here knows bounds or memory.
--     Making      what a register is given: `pairs`, or by the members of registers, as `union`, `complement`, `times`
--     Question      what is asked of registers
--     Action      register r is given what is made, or a question
--     Answer      the reply to an action
--     make r making, ask question      the two kinds of action
--     low, high      among the questions: the least member, the greatest
use Rattle.std.specs.Prelude.{ℕ, ℤ, Bool, List, Option}
use Rattle.ivl_calculator.specs.declared.reply.Refusal.{Refusal}

pub data Making : Type 0 where
  pairs : List (ℤ × ℤ) → Making
  union : ℕ → ℕ → Making
  intersection : ℕ → ℕ → Making
  difference : ℕ → ℕ → Making
  symmetric : ℕ → ℕ → Making
  complement : ℕ → Making
  at_least : ℕ → ℤ → Making
  at_most : ℕ → ℤ → Making
  above : ℕ → ℤ → Making
  below : ℕ → ℤ → Making
  plus : ℕ → ℕ → Making
  minus : ℕ → ℕ → Making
  times : ℕ → ℕ → Making
  plus_value : ℕ → ℤ → Making
  minus_value : ℕ → ℤ → Making
  times_value : ℕ → ℤ → Making

pub data Question : Type 0 where
  has : ℕ → ℤ → Question
  size : ℕ → Question
  count : ℕ → Question
  low : ℕ → Question
  high : ℕ → Question
  same : ℕ → ℕ → Question
  subset : ℕ → ℕ → Question
  meets : ℕ → ℕ → Question
  show : ℕ → Question

pub data Action : Type 0 where
  make : ℕ → Making → Action
  ask : Question → Action

pub data Answer : Type 0 where
  done : Answer
  cut : Bool → Answer
  flag : Bool → Answer
  sized : ℕ → Answer
  counted : ℕ → Answer
  value : Option ℤ → Answer
  runs : List (ℤ × ℤ) → Answer
  refused : Refusal → Answer
