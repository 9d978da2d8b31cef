use Rattle.std.proofs.Common.{arith}
use Rattle.std.proofs.lemmas.Grind.{common_steps}
use Rattle.script_lines.specs.Heads.{edit_head}
use Rattle.script_lines.proofs.heads.read_head.Goals as goal

pub returns-in_default : goal.returns-in_default
unfolding edit_head
returns-in_default c = record { value = grind (arith, common_steps); shaped = grind (arith, common_steps) }

pub returns-then-is_word : goal.returns-then-is_word
unfolding edit_head
returns-then-is_word c = record { value = grind (arith, common_steps); shaped = grind (arith, common_steps) }

pub returns-then-is_word-2 : goal.returns-then-is_word-2
unfolding edit_head
returns-then-is_word-2 c = record { value = grind (arith, common_steps); shaped = grind (arith, common_steps) }

pub returns-then-is_word-3 : goal.returns-then-is_word-3
unfolding edit_head
returns-then-is_word-3 c = record { value = grind (arith, common_steps); shaped = grind (arith, common_steps) }

pub returns-then-is_word-4 : goal.returns-then-is_word-4
unfolding edit_head
returns-then-is_word-4 c = record { value = grind (arith, common_steps); shaped = grind (arith, common_steps) }

pub returns-then-is_word-5 : goal.returns-then-is_word-5
unfolding edit_head
returns-then-is_word-5 c = record { value = grind (arith, common_steps); shaped = grind (arith, common_steps) }

pub returns-else-is_word-5 : goal.returns-else-is_word-5
unfolding edit_head
returns-else-is_word-5 c = record { value = grind (arith, common_steps); shaped = grind (arith, common_steps) }
