use Rattle.std.proofs.Common.{◌+◌, ◌++◌, List, ℕ, append_assoc, ap, sym, ◌∙◌}
use Rattle.std.specs.Prelude.{codes, flat_map}
use Rattle.version_book.specs.Book.{given_entries}
use Rattle.journal_text.specs.Lines.{line_text}
use Rattle.desk_core.specs.Journal.{publishes}
use Rattle.desk_core.specs.Lean.{stood_for}
use Rattle.cycle_player.specs.Clock.{reads}
use Rattle.desk_checkpoint.specs.Fields.{count_fields}
use Rattle.desk_checkpoint.specs.Text.{clock_text, counter_text, desk_steps, key_text, steps_text}
use Rattle.desk_checkpoint.proofs.HandedFacts.{handed}
use Rattle.desk_checkpoint.proofs.text.text_of.Goals as goal

pub returns-clause-text : goal.returns-clause-text
returns-clause-text c = λ journal stands.
    let desk = c.args.desk.now in
    let state = c.in_ok-state.state in
    let kept = c.in_ok-state.ensures in
    let count = line_text (count_fields (c.args.shift + publishes journal)) in
    let steps = steps_text (desk_steps c.args.shift (stood_for journal desk)) in
    let front = count ++ clock_text desk.mux.rate (reads state.clock) ++ steps in
    let keys = flat_map key_text (given_entries state.versions) in
    let counters = flat_map counter_text state.counters in
    let end = codes "end\n" in
    c.in_ok-extend_from_slice.ensures.items
    ∙ ap (λ (l : List ℕ). l ++ end)
    (c.in_ok-put_state.ensures.text
    ∙ ap (λ (l : List ℕ). l ++ (keys ++ counters)) (c.in_ok-put_steps.ensures journal stands ∙ ap (λ (l : List ℕ). l ++ front) c.new-text.ensures.items)
    ∙ sym (append_assoc front keys counters))
    ∙ (λ i. count ++ clock_text desk.mux.rate (kept.clock i) ++ steps ++ flat_map key_text (kept.versions.entries i) ++ flat_map counter_text (kept.counters.all i) ++ end)

pub returns-clause-handed : goal.returns-clause-handed
returns-clause-handed c =
    let kept = c.in_ok-state.ensures in
    let state = c.in_ok-state.state in
    handed c.args.player.now state.versions state.counters state.clock kept.versions kept.counters kept.clock kept.are c.in_ok-put_state.ensures.bytes
