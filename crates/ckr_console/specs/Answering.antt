-- What an operator answers.
use Rattle.std.specs.Prelude.{List, [], ◌∷◌, drop, Option, None, Some}
use Rattle.std.specs.Option.{option_map}
use Rattle.ckr_console.specs.declared.question.Answer.{Answer}
use Rattle.ckr_console.specs.declared.question.Answer.TheVariants.{Silent}
use Rattle.ckr_console.specs.declared.question.Question.{Question}
use Rattle.ckr_console.specs.declared.question.Question.TheVariants.{Restart, Mount}

-- the answers left, and the two for after their end
pub record Answering : Type 0 where
  pub answers : List Answer
  pub for_mount : Answer
  pub for_restart : Answer

-- the answer for after the end of the answers left
abbrev pub last_answer : Question → Answering → Answer
last_answer (Restart job step id) operator = operator.for_restart
last_answer (Mount volume unit) operator = operator.for_mount

abbrev pub first_or : Answer → List Answer → Answer
first_or standing [] = standing
first_or standing (answer ∷ answers) = answer

-- the first of the answers left, or where there is none the one for the question
abbrev pub answer_to : Question → Answering → Answer
answer_to question operator = first_or (last_answer question operator) operator.answers

-- behind an answer the first of the answers left is gone
abbrev pub behind : Answering → Answering
behind operator = record operator { answers = drop 1 operator.answers }

-- the answer at a console: that of the operator in office; where nobody is, the question stays unanswered
abbrev pub answer_in_office : Question → Option Answering → Answer
answer_in_office question None = Silent
answer_in_office question (Some operator) = answer_to question operator

-- the answer to a question on a restart
abbrev pub restart_answer : Option Answering → Answer
restart_answer None = Silent
restart_answer (Some operator) = first_or operator.for_restart operator.answers

-- the console behind a question
abbrev pub asked : Option Answering → Option Answering
asked operator = option_map behind operator
