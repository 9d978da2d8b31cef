-- A checkpoint reads back from its text.
use Rattle.std.proofs.Common.{◌≡◌, ◌==◌, ◌∙◌, ◌≤◌, ◌+◌, ◌-◌, ◌++◌, ◌∷◌, [], ℕ, List, true, None, refl, ap, arith, map, append_assoc, inl, inr}
use Rattle.std.specs.Prelude.{codes, flat_map, if◌then◌else◌}
use Rattle.std.proofs.lemmas.Bool.{cases_Bool}
use Rattle.std.proofs.lemmas.Bool.Decides.{nat_tests}
use Rattle.version_book.specs.Book.{GivenVersions}
use Rattle.ts_packets.specs.declared.pid_counter.PidCounter.{PidCounter}
use Rattle.cycle_player.specs.Clock.{reads}
use Rattle.mux_model.specs.declared.mux.Mux.{Mux}
use Rattle.journal_model.specs.declared.step.Entry.{Entry}
use Rattle.desk_core.specs.Journal.{publishes}
use Rattle.desk_core.specs.Desks.{DeskState}
use Rattle.journal_text.specs.Lines.{line_text}
use Rattle.journal_text.specs.CommandBack.{ahead_of}
use Rattle.desk_checkpoint.specs.Steps.{checkpoint_steps, folded}
use Rattle.desk_checkpoint.proofs.FoldFacts.{goes_on, steps_taken}
use Rattle.desk_checkpoint.specs.Fields.{count_fields}
use Rattle.desk_checkpoint.specs.Reads.{behind_head, checkpoint_in}
use Rattle.desk_checkpoint.specs.Text.{clock_text, counter_text, key_text, steps_text}
use Rattle.desk_checkpoint.specs.Laws.{CanBeFolded, CheckpointsReadBack}
use Rattle.desk_checkpoint.proofs.PartBack.{head_first, head_of}
use Rattle.desk_checkpoint.proofs.PartsBack.{Ends, HasPublished, IsBehind, IsFromPid, counters_read, end_with, ends_behind, ends_here, given_back, kept_of, keys_read, so_far, stepped, steps_read}
use Rattle.desk_checkpoint.proofs.StepsWritten.{steps_readable}

-- the steps publish once, where there were publications
published_once : (n p : ℕ) → n ≡ n - 1 + p → (p == (if n == 0 then 0 else 1)) ≡ true
published_once n p e = elim (cases_Bool (n == 0)) [
  | inl none ↦ rw none (let z : n ≡ 0 = grind (arith, nat_tests) in let q : p ≡ 0 = omega (arith, e, z) in rw q refl)
  | inr some ↦ rw some (let z : 1 ≤ n = grind (arith, nat_tests) in let q : p ≡ 1 = omega (arith, e, z) in rw q refl)
]

has_published : (mux : Mux) (journal : List Entry) → CanBeFolded mux journal → (let desk : DeskState = record { mux = mux; entries = folded mux journal } in HasPublished (publishes journal) desk)
has_published mux journal can = published_once (publishes journal) (publishes (folded mux journal)) (goes_on mux journal can.sound can.legal).count

first_behind : (keys : GivenVersions) → IsBehind None keys
first_behind [] = tt
first_behind (entry ∷ keys) = refl

first_pid : (counters : List PidCounter) → IsFromPid 0 counters
first_pid [] = tt
first_pid (c ∷ cs) = omega arith

-- the head's lines, and what stands behind them
regroup : (l h s k c e rest : List ℕ)
    → l ++ h ++ s ++ k ++ c ++ e ++ rest ≡ l ++ (h ++ (s ++ (k ++ (c ++ e)) ++ rest))
regroup l h s k c e rest =
    ap (λ (t : List ℕ). t ++ rest)
    (append_assoc (l ++ h ++ s ++ k) c e ∙ append_assoc (l ++ h ++ s) k (c ++ e) ∙ append_assoc (l ++ h) s (k ++ (c ++ e)))
    ∙ append_assoc (l ++ h) (s ++ (k ++ (c ++ e))) rest
    ∙ append_assoc l h (s ++ (k ++ (c ++ e)) ++ rest)

pub checkpoints_back : CheckpointsReadBack
checkpoints_back mux journal keys counters clock can written counted told behind tail =
    let count = publishes journal in
    let head = head_of mux.rate count clock in
    let steps = checkpoint_steps mux journal in
    let entries = folded mux journal in
    let desk : DeskState = record { mux = mux; entries = entries } in
    let has = has_published mux journal can in
    let asked = steps_read mux head [] steps (steps_readable mux journal can) (steps_taken mux journal can.sound can.legal) in
    let given = keys_read head desk [] [] None 0 keys has written.each written.ordered (first_behind keys) refl in
    let kept = map kept_of keys in
    let rest = counters_read head desk given.front kept given.current given.number [] 0 counters has counted.each counted.ascend (first_pid counters) given.is in
    let cp = so_far head desk kept None rest.number counters rest.pid in
    let last = so_far head desk rest.front rest.current rest.number counters rest.pid in
    let middle = so_far head desk given.front given.current given.number [] 0 in
    let three : Ends last (codes "end\n") cp = ends_here last cp (end_with head desk rest.front kept rest.current rest.number counters rest.pid has rest.is) in
    let two = ends_behind middle last cp (flat_map counter_text counters) (codes "end\n") rest.reads three in
    let one = ends_behind (stepped mux head entries) middle cp (flat_map key_text keys) (flat_map counter_text counters ++ codes "end\n") given.reads two in
    let parts = flat_map key_text keys ++ (flat_map counter_text counters ++ codes "end\n") in
    let all = ends_behind (stepped mux head []) (stepped mux head entries) cp (steps_text steps) parts asked one in
    let text = steps_text steps ++ parts in
    let first = head_first mux.rate 1 count clock (text ++ behind) tail can.few told in (
      cp,
      ap (λ (l : List ℕ). checkpoint_in mux (ahead_of 1 l tail)) (regroup (line_text (count_fields count)) (clock_text mux.rate (reads clock)) (steps_text steps) (flat_map key_text keys) (flat_map counter_text counters) (codes "end\n") behind)
          ∙ ap (behind_head mux) first.1
          ∙ all first.0 behind tail,
      record { count = refl; desk = refl; keys_are = given_back keys; counters_are = refl; clock_is = refl },
    )
