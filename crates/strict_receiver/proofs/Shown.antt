-- What holds of each completion of a packet list holds of each that one of its packets shows.
use Rattle.std.proofs.Common.{ℕ, List, ◌∷◌, ◌++◌, [], subst}
use Rattle.std.specs.List.{AllByRecursion}
use Rattle.si_lists.proofs.Lists.{all_front}
use Rattle.section_codec.specs.declared.table.Key.{Key}
use Rattle.sub_collect.specs.Marks.{Taken, completions_over, dones_over}
use Rattle.sub_collect.specs.declared.completed.Completed.{Completed}
use Rattle.sub_collect.proofs.MarksShown.{all_from, dones_over-append}
use Rattle.strict_receiver.specs.Strict.{taken_by, taken_from, taken_of}
use Rattle.strict_receiver.proofs.Losing.{taken-append}

pub each_shown : (P : Completed → Type 0) (past rest : List (List ℕ)) (packet : List ℕ) → ((k : Key) → AllByRecursion P (completions_over k (taken_of (past ++ packet ∷ rest))))
    → AllByRecursion P (dones_over (taken_of past) (taken_by past packet))
each_shown P past rest packet each =
    let now : List Taken = taken_by past packet in
    let later : List Taken = taken_from (past ++ packet ∷ []) rest in
    all_front P (dones_over (taken_of past) now) (dones_over (taken_of past ++ now) later)
    (subst (AllByRecursion P) (dones_over-append (taken_of past) now later)
    (all_from P (taken_of past) (now ++ later)
    (λ k. subst (λ (l : List Taken). AllByRecursion P (completions_over k l)) (taken-append [] past (packet ∷ rest)) (each k))))
